use Rattle.std.proofs.Common.{◌≡◌, false, sym, ap, ◌∙◌, refl}
use Rattle.std.proofs.lemmas.Bool.{both_ways}
use Rattle.std.specs.List.{list_all}
use Rattle.mpi_group.specs.Groups.{is_member}
use Rattle.mpi_group.proofs.GroupLemmas.{compare-same, compare-similar, compare-unequal}
use Rattle.mpi_group.proofs.group.Group.compare.Goals as goal
use Rattle.mpi_group.proofs.group.Group.compare.Goals.{else-is_within-via-then-is_within+else-is_within-2}
use Rattle.mpi_group.proofs.group.Group.compare.Goals.{else-is_within-via-else-is_within}

pub returns-then-is_same : goal.returns-then-is_same
returns-then-is_same c =
    compare-same c.args.self.now c.args.other.now (c.is_same.ensures.0 c.if-is_same.true)

pub returns-then-is_within-2 : goal.returns-then-is_within-2
returns-then-is_within-2 c =
    compare-similar c.args.self.now c.args.other.now
    (λ same. both_ways c.is_same.result c.if-is_same.false (c.is_same.ensures.1 same))
    (ap (list_all (is_member c.args.other.now)) (sym c.members.ensures.value)
    ∙ sym c.is_within.ensures ∙ c.if-is_within.true)
    (ap (list_all (is_member c.args.self.now)) (sym c.members-then-is_within.ensures.value)
    ∙ sym c.is_within-then-is_within.ensures ∙ c.if-is_within-2.true)

pub returns-else-is_within : goal.returns-else-is_within
returns-else-is_within c =
    let one : list_all (is_member c.args.other.now) c.args.self.now ≡ c.is_within.result = ap
    (list_all (is_member c.args.other.now)) (sym c.members.ensures.value) ∙ sym
    c.is_within.ensures in
    compare-unequal c.args.self.now c.args.other.now
    (λ same. both_ways c.is_same.result c.if-is_same.false (c.is_same.ensures.1 same))
    (elim c.else-is_within.branch [
      | else-is_within-via-then-is_within+else-is_within-2 w ↦
          let two : list_all (is_member c.args.self.now) c.args.other.now ≡ false = ap
          (list_all (is_member c.args.self.now)) (sym w.members-then-is_within.ensures.value) ∙
          sym w.is_within-then-is_within.ensures ∙ w.if-is_within-2.false in
          rw (two, one, w.if-is_within.true) (refl)
      | else-is_within-via-else-is_within w ↦ rw (one, w.if-is_within.false) refl
    ])
