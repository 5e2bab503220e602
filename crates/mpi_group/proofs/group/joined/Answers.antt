use Rattle.std.proofs.Common.{◌≡◌, ◌++◌, List, ℕ, not, ap, ◌∙◌}
use Rattle.std.specs.List.{filter}
use Rattle.std.proofs.lemmas.List.{take_all}
use Rattle.mpi_group.specs.Groups.{is_member, union_of}
use Rattle.mpi_group.proofs.GroupLemmas.{IsGroup-union_of}
use Rattle.mpi_group.proofs.group.joined.Goals as goal

pub returns-clause-made : goal.returns-clause-made
unfolding union_of
returns-clause-made c =
    let new : List ℕ → List ℕ = λ others. c.args.group.now ++ filter
    (λ p. not (is_member c.args.group.now p)) others in
    c.loop-process.invariant
    ∙ ap new (take_all c.loop-process.process-index c.members-process-items.result.now
    c.loop-process-test.false ∙ c.members-process-items.ensures.value)

pub returns-clause-group : goal.returns-clause-group
unfolding union_of
returns-clause-group c =
    let new : List ℕ → List ℕ = λ others. c.args.group.now ++ filter
    (λ p. not (is_member c.args.group.now p)) others in
    let all : c.loop-process.members.items ≡ new c.args.other.now = c.loop-process.invariant ∙ ap
    new (take_all c.loop-process.process-index c.members-process-items.result.now
    c.loop-process-test.false ∙ c.members-process-items.ensures.value) in
    rw all (IsGroup-union_of c.args.group.now c.args.other.now c.members.ensures.group
    c.members-process-items.ensures.group)
