use Rattle.std.proofs.Common.{get_or, sym, ◌∙◌, ℕ}
use Rattle.std.proofs.lemmas.List.{get_or_default}
use Rattle.mpi_group.proofs.Marks.{distinct_no_more, distinct_more}
use Rattle.mpi_group.proofs.ranks.are_distinct.Goals as goal

pub returns-then-contains : goal.returns-then-contains
returns-then-contains c =
    let rank : ℕ = get_or c.args.ranks.now c.loop-k.k 0 in
    let read = get_or_default c.args.ranks.now c.loop-k.k 0 rank c.loop-k-test.true in
    sym (distinct_no_more c.args.ranks.now c.loop-k.k rank c.loop-k-test.true read
    (sym c.contains.ensures ∙ c.if-contains.true))

pub loop-k-preserved : goal.loop-k-preserved
loop-k-preserved c =
    let rank : ℕ = get_or c.args.ranks.now c.loop-k.k 0 in
    let read = get_or_default c.args.ranks.now c.loop-k.k 0 rank c.loop-k-test.true in
    distinct_more c.args.ranks.now c.loop-k.k rank c.loop-k-test.true read c.loop-k.invariant
    (sym c.contains.ensures ∙ c.if-contains.false)
