use Rattle.std.proofs.Common.{◌≡◌, arith, get_or, refl, length-set, sym, ap, ◌∙◌, ◌+◌, rules, subst}
use Rattle.std.proofs.Common.{take}
use Rattle.std.proofs.lemmas.List.{length-take-le}
use Rattle.mpi_group.specs.Ranks.{IsTable}
use Rattle.mpi_group.proofs.RankTables.{empty_group, empty_index, repeated, group_more, index_more}
use Rattle.mpi_group.proofs.RankTables.{rank_below, reach_none, reach_more, whole_group}
use Rattle.mpi_group.proofs.RankTables.{whole_prefix, whole_table, some_entry}
use Rattle.std.specs.Ordering.{ord_max, nat_cmp}
use Rattle.mpi_group.proofs.group.rank_table.Goals as goal

pub loop-rank-init : goal.loop-rank-init
loop-rank-init c =
    record { group = empty_group; long = refl; index = empty_index; reach = sym reach_none }

pub returns-then-is_some-clause-fault : goal.returns-then-is_some-clause-fault
returns-then-is_some-clause-fault c =
    let member : c.number-number.result ≡ get_or c.args.members.now c.loop-rank.rank
    c.number-number.result = rw (← c.number-number.ensures.value) at c.index-members-rank.is in
    rw (repeated c.args.members.now c.loop-rank.rank c.number-number.result c.loop-rank.ranks
    c.loop-rank-test.true member c.number-number.ensures.below c.loop-rank.invariant.index
    (sym c.is_some.ensures ∙ c.if-is_some.true)) refl

pub overflow_cast-ranks : goal.overflow_cast-ranks
overflow_cast-ranks c =
    let fits = rank_below c.args.members.now c.loop-rank.rank (omega arith)
    c.loop-rank.invariant.group in
    omega arith

pub loop-rank-preserved : goal.loop-rank-preserved
loop-rank-preserved c =
    let member : c.number-number.result ≡ get_or c.args.members.now c.loop-rank.rank
    c.number-number.result = rw (← c.number-number.ensures.value) at c.index-members-rank.is in
    let unseen = sym c.is_some.ensures ∙ c.if-is_some.false in
    record {
      group = group_more c.args.members.now c.loop-rank.rank c.number-number.result
          c.loop-rank.ranks c.loop-rank-test.true member c.number-number.ensures.below
          c.loop-rank.invariant.group c.loop-rank.invariant.index unseen;
      long = simp length-set c.loop-rank.invariant.long;
      index = index_more c.args.members.now c.loop-rank.rank c.number-number.result
          c.loop-rank.ranks c.loop-rank-test.true member c.number-number.ensures.below
          c.loop-rank.invariant.long c.loop-rank.invariant.index unseen;
      reach =
          c.max-reach.ensures
          ∙ ap (λ r. ord_max nat_cmp r (c.number-number.result + 1)) c.loop-rank.invariant.reach
          ∙ reach_more c.args.members.now c.loop-rank.rank c.number-number.result
          c.loop-rank-test.true member;
    }

pub slice_bounds-ranks-end : goal.slice_bounds-ranks-end
slice_bounds-ranks-end c =
    whole_prefix c.args.members.now c.loop-rank.ranks c.loop-rank.rank c.loop-rank.reach
    c.loop-rank-test.false c.loop-rank.invariant.group c.loop-rank.invariant.long
    c.loop-rank.invariant.index c.loop-rank.invariant.reach

pub slice_bounds-copied-end : goal.slice_bounds-copied-end
slice_bounds-copied-end c =
    let fits = whole_prefix c.args.members.now c.loop-rank.ranks c.loop-rank.rank c.loop-rank.reach
    c.loop-rank-test.false c.loop-rank.invariant.group c.loop-rank.invariant.long
    c.loop-rank.invariant.index c.loop-rank.invariant.reach in
    sym (length-take-le c.loop-rank.reach c.loop-rank.ranks fits)

pub returns-in_err-copied-clause-memory : goal.returns-in_err-copied-clause-memory
returns-in_err-copied-clause-memory c = λ _.
    some_entry c.args.members.now (take c.loop-rank.reach c.loop-rank.ranks)
    (whole_table c.args.members.now c.loop-rank.ranks c.loop-rank.rank c.loop-rank.reach
    c.loop-rank-test.false c.loop-rank.invariant.group c.loop-rank.invariant.long
    c.loop-rank.invariant.index c.loop-rank.invariant.reach)
    (c.in_err-copied.ensures.memory (search rules))

pub returns-clause-made : goal.returns-clause-made
returns-clause-made c =
    let table = whole_table c.args.members.now c.loop-rank.ranks c.loop-rank.rank c.loop-rank.reach
    c.loop-rank-test.false c.loop-rank.invariant.group c.loop-rank.invariant.long
    c.loop-rank.invariant.index c.loop-rank.invariant.reach in (
      whole_group c.args.members.now c.loop-rank.ranks c.loop-rank.rank c.loop-rank.reach
          c.loop-rank-test.false c.loop-rank.invariant.group c.loop-rank.invariant.long
          c.loop-rank.invariant.index c.loop-rank.invariant.reach,
      subst (IsTable c.args.members.now) (sym c.in_ok-copied.ensures.made) table,
    )
