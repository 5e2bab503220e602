use Rattle.std.proofs.Common.{◌≡◌, ℕ, List, Option, None, true, All, ◌<◌, length, sym, ap, ◌∙◌}
use Rattle.std.proofs.Common.{rules}
use Rattle.mpi_group.specs.Groups.{is_distinct, ranks_fault}
use Rattle.mpi_group.specs.declared.fault.GroupFault.{GroupFault}
use Rattle.mpi_group.proofs.GroupLemmas.{IsGroup-members_at, ranks_within, no_fault}
use Rattle.mpi_group.proofs.MemberLemmas.{some_picked}
use Rattle.mpi_group.proofs.group.Group.incl.Goals as goal

good : (members ranks : List ℕ) (size : ℕ) (fault : Option GroupFault) → size ≡ length members
    → fault ≡ ranks_fault size ranks → fault ≡ None
    → All (λ rank. rank < length members) ranks × (is_distinct ranks ≡ true)
good members ranks size fault many told fine =
    let none : ranks_fault (length members) ranks ≡ None =
    ap (λ size. ranks_fault size ranks) (sym many) ∙ sym told ∙ fine in
    let parts = no_fault (length members) ranks none in
    (ranks_within (length members) ranks parts.0, parts.1)

pub picked-requires : goal.picked-requires
picked-requires c =
    rw c.members.ensures.value
    (good c.args.self.now _ _ _ c.size.ensures.value c.ranks_fault.ensures c.in_default.is).0

pub of_distinct-requires : goal.of_distinct-requires
of_distinct-requires c =
    rw (c.in_ok-picked.ensures.made, c.members.ensures.value)
    (IsGroup-members_at c.args.self.now c.args.ranks.now c.members.ensures.group
    (good c.args.self.now _ _ _ c.size.ensures.value c.ranks_fault.ensures c.in_default.is).1)

pub returns-in_err-picked-clause-memory : goal.returns-in_err-picked-clause-memory
returns-in_err-picked-clause-memory c = λ _.
    some_picked c.args.self.now c.args.ranks.now
    (good c.args.self.now _ _ _ c.size.ensures.value c.ranks_fault.ensures c.in_default.is).0
    (c.in_err-picked.ensures.memory (search rules))
