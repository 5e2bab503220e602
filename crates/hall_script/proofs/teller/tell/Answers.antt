use Rattle.std.proofs.Common.{ℕ, List, ◌++◌, ap, ◌∙◌}
use Rattle.hall_script.proofs.TellingLemmas.{told_by_line}
use Rattle.hall_script.proofs.teller.tell.Goals as goal

pub returns-in_ok-put_told-in-Some-clause-told : goal.returns-in_ok-put_told-in-Some-clause-told
returns-in_ok-put_told-in-Some-clause-told c = λ wall past right at.
    let it = c.args.it in
    c.in_ok-put_told-in-Some.ensures.ok
    ∙ ap (λ (l : List ℕ). c.args.text.now.items ++ l)
    (told_by_line c.args.policy.now wall past it.comm it.k c.args.full.now c.args.rank
    c.in-Some.line.now (c.others_in-others.ensures c.if-others-eq0.false) at
    (c.in-Some.ensures wall past right))
