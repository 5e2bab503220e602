use Rattle.std.proofs.Common.{◌≡◌, ◌<◌, length, ap, ◌∙◌, subst, rules, not}
use Rattle.std.specs.Prelude.{IfOk}
use Rattle.std.specs.List.{filter}
use Rattle.mpi_group.specs.Groups.{is_member, difference_of}
use Rattle.mpi_group.proofs.GroupLemmas.{IsGroup-difference_of}
use Rattle.mpi_group.proofs.group.Group.difference.Goals as goal

pub of_distinct-requires : goal.of_distinct-requires
unfolding difference_of
of_distinct-requires c =
    rw (c.in_ok-left_out.ensures.made, c.members.ensures.value)
    (IsGroup-difference_of c.args.self.now c.args.other.now c.members.ensures.group)

pub returns-in_err-left_out-clause-memory : goal.returns-in_err-left_out-clause-memory
unfolding difference_of
returns-in_err-left_out-clause-memory c = λ _.
    subst (λ members. 0 < length (filter (λ p. not (is_member c.args.other.now p)) members))
    c.members.ensures.value (c.in_err-left_out.ensures.memory (search rules))

pub returns-clause-made : goal.returns-clause-made
unfolding difference_of
returns-clause-made c =
    subst (λ members. IfOk c.of_distinct.result (λ group. group ≡ members))
    (c.in_ok-left_out.ensures.made
    ∙ ap (filter (λ p. not (is_member c.args.other.now p))) c.members.ensures.value)
    c.of_distinct.ensures.made

pub returns-clause-memory : goal.returns-clause-memory
unfolding difference_of
returns-clause-memory c = λ failed.
    subst (λ members. 0 < length members)
    (c.in_ok-left_out.ensures.made
    ∙ ap (filter (λ p. not (is_member c.args.other.now p))) c.members.ensures.value)
    (c.of_distinct.ensures.memory failed)
