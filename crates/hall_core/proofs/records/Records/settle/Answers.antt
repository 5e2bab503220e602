use Rattle.std.proofs.Common.{length}
use Rattle.hall_core.specs.Asking.{requests_of}
use Rattle.hall_core.proofs.CountLemmas.{counted_settled, settled_now}
use Rattle.hall_core.proofs.records.Records.settle.Goals as goal

pub invariant_of-self-clause-counted : goal.invariant_of-self-clause-counted
invariant_of-self-clause-counted c =
    counted_settled (requests_of c.args.self.now.requests.items)
    (length c.args.self.now.requests.items) c.args.self.now.settled c.put.new.self c.args.comm
    c.args.k c.args.settlement c.requires.waits c.args.self.now.counted c.put.ensures

pub returns-clause-settled : goal.returns-clause-settled
returns-clause-settled c =
    settled_now (requests_of c.args.self.now.requests.items)
    (length c.args.self.now.requests.items) c.args.self.now.settled c.put.new.self c.args.comm
    c.args.k c.args.settlement c.requires.waits c.args.self.now.counted c.put.ensures
