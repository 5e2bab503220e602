use Rattle.std.proofs.Common.{FitsSigned, rules}
use Rattle.std.specs.Int.{w128}
use Rattle.std.proofs.lemmas.Int.{to_z-of_z}
use Rattle.coll_text.proofs.BatchLemmas.{number_small}
use Rattle.coll_text.proofs.digits.put_number_at.Goals as goal

pub put_number-start-requires-clause-small : goal.put_number-start-requires-clause-small
put_number-start-requires-clause-small c =
    let fits : FitsSigned w128 c.number_at.result = search rules in
    rw (to_z-of_z w128 c.number_at.result fits)
    (number_small c.args.numbers.now.elem_type c.number_at.result c.number_at.ensures.within)
