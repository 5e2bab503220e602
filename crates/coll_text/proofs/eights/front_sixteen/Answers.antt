use Rattle.coll_text.proofs.StepLemmas.{digits_before, digits_behind}
use Rattle.coll_text.proofs.eights.front_sixteen.Goals as goal

pub with_more-eight-requires-clause-digits : goal.with_more-eight-requires-clause-digits
with_more-eight-requires-clause-digits c = digits_before 8 c.digits_in-count.result
    c.args.text.now c.if-count-lt-STEP.false c.digits_in-count.ensures.digits

pub with_more-requires-2-clause-digits : goal.with_more-requires-2-clause-digits
with_more-requires-2-clause-digits c = digits_behind 8 c.digits_in-count.result
    c.args.text.now c.if-count-lt-STEP.false c.digits_in-count.ensures.digits
