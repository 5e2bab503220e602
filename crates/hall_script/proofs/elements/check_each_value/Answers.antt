use Rattle.std.proofs.lemmas.Result.{err_from_is_err_and}
use Rattle.coll_text.specs.Reading.{each_of}
use Rattle.coll_text.specs.Checks.{checked}
use Rattle.coll_text.proofs.CollTextLemmas.{check_goes_on, check_ends, check_done}
use Rattle.hall_script.specs.Lines.{value_of}
use Rattle.hall_script.proofs.elements.check_each_value.Goals as goal

pub returns-in_err-value_in-clause-values : goal.returns-in_err-value_in-clause-values
returns-in_err-value_in-clause-values c =
    let p = err_from_is_err_and c.from_residual.result c.from_residual.ensures.1 in
    rw (p.1, p.2) (check_ends c.in_err-value_in.field-0.0 (value_of c.args.elem_type)
    c.in-Some.word.now c.loop-word.words c.next.new.self
    (checked (each_of (value_of c.args.elem_type) c.args.words.now)) c.in-Some.ensures
    c.in_err-value_in.ensures.value c.loop-word.invariant)

pub loop-word-preserved : goal.loop-word-preserved
loop-word-preserved c =
    check_goes_on (value_of c.args.elem_type) c.in-Some.word.now c.loop-word.words c.next.new.self
    c.in_ok-value_in.field-0 (checked (each_of (value_of c.args.elem_type) c.args.words.now))
    c.in-Some.ensures c.in_ok-value_in.ensures.value c.loop-word.invariant

pub returns-clause-values : goal.returns-clause-values
returns-clause-values c = check_done (value_of c.args.elem_type) c.loop-word.words
    (checked (each_of (value_of c.args.elem_type) c.args.words.now)) c.in_default.ensures.0
    c.loop-word.invariant
