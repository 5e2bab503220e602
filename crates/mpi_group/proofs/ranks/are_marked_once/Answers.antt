use Rattle.std.proofs.Common.{ℕ, ◌<◌, get_or, take, refl, sym, ap, ◌∙◌}
use Rattle.std.proofs.Common.{length-set, arith}
use Rattle.std.proofs.lemmas.List.{get_or_default}
use Rattle.wall_labels.specs.declared.ids.TheConstants.{PROCESS_LIMIT}
use Rattle.mpi_group.specs.Groups.{is_member}
use Rattle.mpi_group.proofs.Marks.{no_marks, mark_more, prefix_more, distinct_no_more}
use Rattle.mpi_group.proofs.Marks.{distinct_more}
use Rattle.mpi_group.proofs.ranks.are_marked_once.Goals as goal

pub loop-rank-init : goal.loop-rank-init
loop-rank-init c = record { long = refl; distinct = refl; marks = λ q. no_marks PROCESS_LIMIT q }

pub returns-in-true : goal.returns-in-true
returns-in-true c =
    let ranks = c.args.ranks.now in
    let i = c.loop-rank.rank-index in
    let rank : ℕ = get_or ranks i 0 in
    let read = get_or_default ranks i 0 rank c.loop-rank-test.true in
    sym (distinct_no_more ranks i rank c.loop-rank-test.true read
    (sym (c.loop-rank.invariant.marks rank) ∙ c.in-true.is))

pub loop-rank-preserved : goal.loop-rank-preserved
loop-rank-preserved c =
    let ranks = c.args.ranks.now in
    let i = c.loop-rank.rank-index in
    let low = c.loop-rank-test.true in
    let rank : ℕ = get_or ranks i 0 in
    let read = get_or_default ranks i 0 rank low in
    let within : rank < c.args._size = c.requires.ranks i 0 low in
    record {
      long = simp length-set c.loop-rank.invariant.long;
      distinct = distinct_more ranks i rank low read c.loop-rank.invariant.distinct
          (sym (c.loop-rank.invariant.marks rank) ∙ c.in-false.is);
      marks = λ q. mark_more (take i ranks) c.loop-rank.marks rank q
          (omega (arith, c.loop-rank.invariant.long)) (c.loop-rank.invariant.marks q)
          ∙ ap (λ prefix. is_member prefix q) (sym (prefix_more ranks i rank low read));
    }
