use Rattle.std.proofs.Common.{◌≡◌, true, false, sym, ap, ◌∙◌, Some}
use Rattle.chain_file.proofs.SpellLemmas.{stuck, at_end, some_bytes, all_spelled}
use Rattle.chain_file.proofs.path.spelled.Goals as goal

pub unreachable-requires : goal.unreachable-requires
unreachable-requires c = stuck c.args.word.now c.loop-rest.bytes.items c.loop-rest.rest.now
    c.in-None.ensures.byte c.loop-rest.invariant c.requires

pub unreachable-requires-in-None-new : goal.unreachable-requires-in-None-new
unreachable-requires-in-None-new c =
    let e : false ≡ true = c.in-None-new.ensures.some.1 (some_bytes c.args.word.now
    c.loop-rest.bytes.items c.requires (at_end c.args.word.now c.loop-rest.bytes.items
    c.loop-rest.rest.now (sym c.is_empty.ensures ∙ c.loop-rest-test.false)
    c.loop-rest.invariant)) in cc

pub returns : goal.returns
returns c = all_spelled c.args.word.now c.loop-rest.bytes.items c.requires
    (at_end c.args.word.now c.loop-rest.bytes.items c.loop-rest.rest.now
    (sym c.is_empty.ensures ∙ c.loop-rest-test.false) c.loop-rest.invariant)
    ∙ ap Some (sym c.in-Some-new.ensures.path)
