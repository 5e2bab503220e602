use Rattle.std.proofs.Common.{sym, ap, ◌∙◌}
use Rattle.std.proofs.lemmas.Bool.{false≢true}
use Rattle.wall_verdict.specs.Charges.{dataset_in}
use Rattle.book_report.proofs.ReasonLemmas.{given_none, given_other}
use Rattle.book_report.proofs.place.Instance.rival_given.Goals as goal

pub returns-in_default-clause-none : goal.returns-in_default-clause-none
returns-in_default-clause-none c = λ g.
    given_none c.args.self.now.place.policy.now c.args.self.now.roll.now c.args.from c.args.to
    c.args.dataset (sym (ap dataset_in c.label_of-label.ensures) ∙ sym c.in_default.ensures) g

pub returns-then-not-rival-clause-none : goal.returns-then-not-rival-clause-none
returns-then-not-rival-clause-none c = λ g.
    let one = given_other c.args.self.now.place.policy.now c.args.self.now.roll.now c.args.from
    c.args.to c.args.dataset c.in-Some.other
    (sym (ap dataset_in c.label_of-label.ensures) ∙ sym c.in-Some.ensures) g in
    false≢true (sym c.if-not-rival.true ∙ c.rival.ensures.rivals.1 one.1)

pub returns-then-not-gives-clause-none : goal.returns-then-not-gives-clause-none
returns-then-not-gives-clause-none c = λ g.
    let one = given_other c.args.self.now.place.policy.now c.args.self.now.roll.now c.args.from
    c.args.to c.args.dataset c.in-Some.other
    (sym (ap dataset_in c.label_of-label.ensures) ∙ sym c.in-Some.ensures) g in
    false≢true (sym c.if-not-gives.true ∙ c.gives.ensures.1 one.0)

pub returns-clause-gives : goal.returns-clause-gives
returns-clause-gives c = c.gives.ensures.0 c.if-not-gives.false

pub returns-clause-rivals : goal.returns-clause-rivals
returns-clause-rivals c = c.rival.ensures.rivals.0 c.if-not-rival.false
