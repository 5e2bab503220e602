use Rattle.std.proofs.Common.{sym, subst, arith}
use Rattle.std.proofs.lemmas.Option.{get_or_from_slice_get}
use Rattle.std.proofs.lemmas.List.Elements.{All-more}
use Rattle.book_chain.specs.Prefixes.{IsBelow}
use Rattle.book_chain.proofs.prefix.are_below.Goals as goal

pub loop-at-preserved : goal.loop-at-preserved
loop-at-preserved c =
    let all = c.args.book.now.list in
    let entry = c.get.result.now in
    let here = get_or_from_slice_get all c.loop-at.at entry entry c.get.ensures.entry in
    All-more (IsBelow c.args.number) all c.loop-at.at entry
    (omega (arith, c.loop-at-test.true, c.len-at-end.ensures.value)) c.loop-at.invariant
    (subst (IsBelow c.args.number) (sym here) (c.is_below.ensures.0 c.if-not-is_below.false))
