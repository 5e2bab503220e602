use Rattle.std.proofs.Common.{ℕ, List, Bool, ◌<◌, ◌≡◌, None, false, get_or, length, sym, ap, subst}
use Rattle.std.proofs.Common.{◌∙◌, rules}
use Rattle.std.specs.Prelude.{not, IfOk}
use Rattle.std.specs.List.{filter}
use Rattle.wall_labels.specs.declared.ids.TheConstants.{PROCESS_LIMIT}
use Rattle.mpi_group.specs.Groups.{is_member, ranks_fault, members_at, members_apart_from, IsGroup}
use Rattle.mpi_group.proofs.GroupLemmas.{IsGroup-filter, ranks_within, no_fault}
use Rattle.mpi_group.proofs.Marks.{apart_from_marked}
use Rattle.mpi_group.proofs.group.Group.excl.Goals as goal

left_by_marks : (group members named ranks : List ℕ) (marks : List Bool) → IsGroup group
    → members ≡ group → named ≡ group
    → ((p : ℕ) → p < PROCESS_LIMIT → get_or marks p false ≡ is_member (members_at named ranks) p)
    → filter (λ p. not (get_or marks p false)) members ≡ members_apart_from group ranks
left_by_marks group members named ranks marks is same alike marked =
    ap (filter (λ p. not (get_or marks p false))) (same ∙ sym alike)
    ∙ apart_from_marked named ranks marks PROCESS_LIMIT (subst IsGroup (sym alike) is).below marked
    ∙ ap (λ members. members_apart_from members ranks) alike

pub marked-named-requires : goal.marked-named-requires
marked-named-requires c =
    let size = length c.args.self.now in
    let good : ranks_fault size c.args.ranks.now ≡ None =
    ap (λ size. ranks_fault size c.args.ranks.now) (sym c.size.ensures.value)
    ∙ sym c.ranks_fault.ensures ∙ c.in_default.is in
    rw c.members.ensures.value
    (ranks_within size c.args.ranks.now (no_fault size c.args.ranks.now good).0)

pub of_distinct-requires : goal.of_distinct-requires
of_distinct-requires c =
    rw (c.in_ok-unmarked.ensures.made, c.members-2.ensures.value)
    (IsGroup-filter (λ p. not (get_or c.marked-named.result p false)) c.args.self.now
    c.members.ensures.group)

pub returns-in_err-unmarked-clause-memory : goal.returns-in_err-unmarked-clause-memory
returns-in_err-unmarked-clause-memory c = λ _.
    subst (λ members. 0 < length members)
    (left_by_marks c.args.self.now _ _ c.args.ranks.now _ c.members.ensures.group
    c.members-2.ensures.value c.members.ensures.value c.marked-named.ensures)
    (c.in_err-unmarked.ensures.memory (search rules))

pub returns-clause-made : goal.returns-clause-made
returns-clause-made c =
    subst (λ members. IfOk c.of_distinct.result (λ group. group ≡ members))
    (c.in_ok-unmarked.ensures.made
    ∙ left_by_marks c.args.self.now _ _ c.args.ranks.now _ c.members.ensures.group
    c.members-2.ensures.value c.members.ensures.value c.marked-named.ensures)
    c.of_distinct.ensures.made

pub returns-clause-memory : goal.returns-clause-memory
returns-clause-memory c = λ failed.
    subst (λ members. 0 < length members)
    (c.in_ok-unmarked.ensures.made
    ∙ left_by_marks c.args.self.now _ _ c.args.ranks.now _ c.members.ensures.group
    c.members-2.ensures.value c.members.ensures.value c.marked-named.ensures)
    (c.of_distinct.ensures.memory (search rules))
