use Rattle.std.proofs.Common.{ℕ, refl, sym, ap, ◌∙◌, arith}
use Rattle.coll_routes.specs.Rolls.{label_of}
use Rattle.wall_verdict.specs.Charges.{dataset_in}
use Rattle.wall_verdict.proofs.InflowLemmas.{inflow_more, inflow_same, few_bring, few_differ}
use Rattle.wall_verdict.proofs.inflow.Inflow.take_label.Goals as goal

pub add-requires-clause-number : goal.add-requires-clause-number
add-requires-clause-number c =
    omega (
      arith,
      c.requires.few,
      few_bring c.args.case.now.histories.now.classes
          (λ (t : ℕ). dataset_in (label_of c.args.case.now.roll.now t)) c.args.rank c.args.self.now
          c.requires.inflow,
    )

pub add-requires-clause-different : goal.add-requires-clause-different
add-requires-clause-different c =
    omega (
      arith,
      c.requires.few,
      few_differ c.args.case.now.histories.now.classes
          (λ (t : ℕ). dataset_in (label_of c.args.case.now.roll.now t)) c.args.rank c.args.self.now
          c.requires.inflow,
    )

pub returns-in-Some : goal.returns-in-Some
returns-in-Some c =
    let classes = c.args.case.now.histories.now.classes in
    let roll = c.args.case.now.roll.now in
    inflow_more classes (λ (t : ℕ). dataset_in (label_of roll t))
    c.args.rank c.args.self.now c.add.new.self c.requires.inflow
    c.in-Some.dataset (ap dataset_in (sym c.label_of.ensures) ∙ sym c.in-Some.ensures)
    c.add.ensures.number c.add.ensures.different c.add.ensures.datasets c.add.ensures.rivals

pub returns-in-None : goal.returns-in-None
returns-in-None c =
    let classes = c.args.case.now.histories.now.classes in
    let roll = c.args.case.now.roll.now in
    inflow_same classes (λ (t : ℕ). dataset_in (label_of roll t))
    c.args.rank c.args.self.now c.args.self.now c.requires.inflow
    (ap dataset_in (sym c.label_of.ensures) ∙ sym c.in-None.ensures) refl refl refl refl
