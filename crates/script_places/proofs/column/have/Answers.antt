use Rattle.std.proofs.Common.{◌≡◌, ℕ, List, [], ◌∷◌, ◌++◌, sym, ap, ◌∙◌}
use Rattle.std.proofs.lemmas.Bool.{false≢true}
use Rattle.hall_script.specs.Lines.{answer_to}
use Rattle.script_places.proofs.AnswerLemmas.{have_it, answer_of_line, answer_of_more}
use Rattle.script_places.proofs.column.have.Goals as goal

pub returns-then-not-has-clause-no : goal.returns-then-not-has-clause-no
returns-then-not-has-clause-no c = λ no have.
    false≢true (sym c.if-not-has.true ∙ c.has.ensures.no
    (answer_of_line c.args.policy.now.dataset_names c.args.line.now c.args.fault
    c.requires.printable have))

pub returns-clause-yes : goal.returns-clause-yes
returns-clause-yes c = λ yes.
    let text : c.deref.result.now ≡ c.args.line.now ++ 32 ∷ 120 ∷ [] =
    c.deref.ensures.value ∙ c.in_ok-extend_from_slice.ensures.items
    ∙ ap (λ (t : List ℕ). t ++ 32 ∷ 120 ∷ []) c.in_ok-longer.ensures.items in
    have_it c.args.policy.now.dataset_names c.args.line.now c.args.fault c.requires.printable
    (c.has.ensures.yes c.if-not-has.false)
    (ap (answer_to c.args.policy.now.dataset_names) (sym text) ∙ c.has-2.ensures.yes yes)

pub returns-clause-no : goal.returns-clause-no
returns-clause-no c = λ no have.
    let text : c.deref.result.now ≡ c.args.line.now ++ 32 ∷ 120 ∷ [] =
    c.deref.ensures.value ∙ c.in_ok-extend_from_slice.ensures.items
    ∙ ap (λ (t : List ℕ). t ++ 32 ∷ 120 ∷ []) c.in_ok-longer.ensures.items in
    false≢true (sym no ∙ c.has-2.ensures.no
    (ap (answer_to c.args.policy.now.dataset_names) text
    ∙ answer_of_more c.args.policy.now.dataset_names c.args.line.now c.args.fault
    c.requires.printable have))
