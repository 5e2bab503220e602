use Rattle.std.proofs.Common.{◌≡◌, ℕ, ◌<◌, ◌+◌, get_or, take, length, refl, sym, ap, ◌∙◌}
use Rattle.std.proofs.Common.{length-set, arith, ◌++◌, ◌∷◌, []}
use Rattle.std.proofs.lemmas.List.{get_or_default, take_all}
use Rattle.wall_labels.specs.declared.ids.TheConstants.{PROCESS_LIMIT}
use Rattle.mpi_group.specs.Groups.{is_member, members_at}
use Rattle.mpi_group.proofs.Marks.{no_marks, none_at, at_more, mark_more}
use Rattle.mpi_group.proofs.group.marked.Goals as goal

pub loop-rank-init : goal.loop-rank-init
loop-rank-init c = record {
  long = refl;
  marks = λ q lt. no_marks PROCESS_LIMIT q
      ∙ sym (ap (λ members. is_member members q) (none_at c.args.members.now));
}

pub loop-rank-preserved : goal.loop-rank-preserved
loop-rank-preserved c =
    let members = c.args.members.now in
    let ranks = c.args.ranks.now in
    let i = c.loop-rank.rank-index in
    let rank : ℕ = get_or ranks i 0 in
    let within : rank < length members = c.requires i 0 c.loop-rank-test.true in
    let more : members_at members (take (i + 1) ranks) ≡ members_at members (take i ranks) ++
    c.number-number.result ∷ [] =
    at_more members ranks i rank c.number-number.result c.loop-rank-test.true
    (get_or_default ranks i 0 rank c.loop-rank-test.true) within
    (rw (← c.number-number.ensures.value) at c.index-members-rank.is) in
    record {
      long = simp length-set c.loop-rank.invariant.long;
      marks = λ q lt. rw more (mark_more (members_at members (take i ranks)) c.loop-rank.marks
          c.number-number.result q (omega (arith, c.loop-rank.invariant.long))
          (c.loop-rank.invariant.marks q lt));
    }

pub returns : goal.returns
returns c = λ p lt. c.loop-rank.invariant.marks p lt
    ∙ ap (λ ranks. is_member (members_at c.args.members.now ranks) p)
    (take_all c.loop-rank.rank-index c.args.ranks.now c.loop-rank-test.false)
