use Rattle.std.proofs.Common.{arith}
use Rattle.coll_text.proofs.StepLemmas.{none_stops, one_stops}
use Rattle.coll_text.proofs.eights.digits_in.Goals as goal

pub returns-then-marks-eq0-clause-digits : goal.returns-then-marks-eq0-clause-digits
returns-then-marks-eq0-clause-digits c =
    let none = rw c.sixteen_of.ensures at c.if-marks-eq0.true in
    none_stops 16 c.args.text.now c.requires (omega arith) c.type_inv.text none

pub returns-clause-few : goal.returns-clause-few
returns-clause-few c =
    let some = rw c.sixteen_of.ensures at c.if-marks-eq0.false in
    let stop = one_stops 16 c.args.text.now c.requires (omega arith) c.type_inv.text some in
    rw c.sixteen_of.ensures stop.0

pub returns-clause-digits : goal.returns-clause-digits
returns-clause-digits c =
    let some = rw c.sixteen_of.ensures at c.if-marks-eq0.false in
    let stop = one_stops 16 c.args.text.now c.requires (omega arith) c.type_inv.text some in
    rw c.sixteen_of.ensures stop.1
