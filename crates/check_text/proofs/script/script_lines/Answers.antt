use Rattle.std.proofs.Common.{◌≡◌, sym, ap, ◌∙◌}
use Rattle.check_text.specs.Lines.{first_of}
use Rattle.check_text.proofs.FirstLemmas.{first_is, none_is, counted}
use Rattle.check_text.proofs.script.script_lines.Goals as goal

pub put_lines-requires-clause-counted : goal.put_lines-requires-clause-counted
put_lines-requires-clause-counted c = rw c.deref.ensures.value
    (counted c.args.policy.now _ c.in_ok-found.found.items c.in_ok-found.ensures)

pub returns-clause-run : goal.returns-clause-run
returns-clause-run c = c.first_of.ensures ∙ ap first_of c.deref-2.ensures.value
    ∙ first_is c.args.policy.now c.args.script.now c.in_ok-found.found.items
    c.in_ok-found.ensures

pub returns-clause-none : goal.returns-clause-none
returns-clause-none c =
    let same : c.first_of.result ≡ first_of c.in_ok-found.found.items =
    c.first_of.ensures ∙ ap first_of c.deref-2.ensures.value in
    let both = none_is c.args.policy.now _ c.in_ok-found.found.items
    c.in_ok-found.ensures in
    (λ none. both.0 (sym same ∙ none), λ faultless. same ∙ both.1 faultless)
