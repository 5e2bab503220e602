use Rattle.hall_core.proofs.OpenLemmas.{stands_first, counts_first}
use Rattle.hall_core.proofs.records.Records.open.Goals as goal

pub returns-clause-stands : goal.returns-clause-stands
returns-clause-stands c =
    stands_first _ c.in-Ok-open.ensures c.in-Ok.ensures.none c.new-2.ensures.list

pub invariant_of-result-clause-counted : goal.invariant_of-result-clause-counted
invariant_of-result-clause-counted c = counts_first _ _ _ c.in-Ok.ensures.none c.new.ensures
