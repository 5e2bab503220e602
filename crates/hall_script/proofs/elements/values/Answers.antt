use Rattle.std.proofs.lemmas.Result.{err_from_is_err_and}
use Rattle.hall_script.proofs.CheckLemmas.{are_values, values_fail}
use Rattle.hall_script.proofs.elements.values.Goals as goal

pub returns-in_err-check_values-in-Err-clause-sound : goal.returns-in_err-check_values-in-Err-clause-sound
returns-in_err-check_values-in-Err-clause-sound c =
    let p = err_from_is_err_and c.from_residual.result c.from_residual.ensures.1 in
    rw (p.1, p.2) (values_fail c.args.elem_type c.args.words.now c.in_err-check_values-in-Err.field-0.0
    c.in_err-check_values-in-Err.ensures.values)

pub returns-in-Err-clause-sound : goal.returns-in-Err-clause-sound
returns-in-Err-clause-sound c =
    are_values c.args.elem_type c.args.words.now c.in_ok-check_values-in-Err.ensures.values
