use Rattle.std.proofs.Common.{◌≡◌, ℕ, ◌+◌, ◌-◌, ◌<◌, ◌≤◌, true, false, refl, sym, ◌∙◌, arith}
use Rattle.std.proofs.lemmas.Bool.{false≢true}
use Rattle.book_places.specs.Places.{EndsBefore}
use Rattle.book_places.proofs.DueLemmas.{lacks_header, entries_before, some_line, states_other}
use Rattle.book_places.proofs.DueLemmas.{lacks_entry}
use Rattle.book_places.proofs.due.due_at.Goals as goal

pub returns-then-number-le1 : goal.returns-then-number-le1
returns-then-number-le1 c =
    lacks_header c.args.policy.now c.args.text.now c.args.number c.requires
    (let few = c.if-number-le1.true in omega arith)

pub returns-then-ends_before : goal.returns-then-ends_before
returns-then-ends_before c = (
  c.ends_before.ensures.0 c.if-ends_before.true,
  entries_before c.args.policy.now c.args.text.now c.args.number c.requires
      (let many = c.if-number-le1.false in omega arith),
)

pub unreachable-requires : goal.unreachable-requires
unreachable-requires c =
    some_line c.args.policy.now c.args.text.now c.args.number c.requires
    (let many = c.if-number-le1.false in omega arith)
    (λ ends. false≢true (sym c.if-ends_before.false ∙ c.ends_before.ensures.1 ends))
    (c.in_default.ensures)

pub returns-in-Some-end_stated : goal.returns-in-Some-end_stated
returns-in-Some-end_stated c =
    states_other c.args.policy.now c.args.text.now c.args.number c.requires
    (let many = c.if-number-le1.false in omega arith)
    (λ ends. false≢true (sym c.if-ends_before.false ∙ c.ends_before.ensures.1 ends))
    c.in-Some.line.now c.in-Some-end_stated.stated c.in-Some.ensures
    c.in-Some-end_stated.ensures.some

pub returns-in-None : goal.returns-in-None
returns-in-None c =
    lacks_entry c.args.policy.now c.args.text.now c.args.number c.requires
    (let many = c.if-number-le1.false in omega arith)
    (λ ends. false≢true (sym c.if-ends_before.false ∙ c.ends_before.ensures.1 ends))
    c.in-Some.line.now c.in-Some.ensures (c.in-None.ensures.none refl)
