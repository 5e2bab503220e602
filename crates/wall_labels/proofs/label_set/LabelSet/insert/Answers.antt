use Rattle.std.proofs.Common.{arith, ◌∙◌, ◌/◌, ◌<◌, length}
use Rattle.std.specs.FinSet.{insert}
use Rattle.wall_labels.proofs.RowLemmas.{set_of_marked, marked_clear}
use Rattle.wall_labels.proofs.label_set.LabelSet.insert.Goals as goal

pub returns : goal.returns
returns c =
    set_of_marked c.self.inside.words c.number-number.result (omega arith)
    ∙ (λ i. insert (c.self.view_is i) (c.number-number.ensures.value i))

pub invariant_of-self : goal.invariant_of-self
invariant_of-self c =
    let n = c.number-number.result in
    let within : n / 64 < length c.self.inside.words = omega arith in
    rw c.max-self-inside.ensures
    (marked_clear c.self.inside.words n c.self.inside.used within c.self.invariant)
