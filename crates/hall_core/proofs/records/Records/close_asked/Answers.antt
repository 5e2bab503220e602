use Rattle.std.proofs.Common.{length, refl}
use Rattle.hall_core.specs.Asking.{requests_of}
use Rattle.hall_core.proofs.CountLemmas.{some_open, counted_left, counted_as, kept_open}
use Rattle.hall_core.proofs.CountLemmas.{nobody_asks}
use Rattle.hall_core.proofs.DueLemmas.{is_process}
use Rattle.hall_core.proofs.records.Records.close_asked.Goals as goal

pub leave-requires : goal.leave-requires
leave-requires c =
    let waits = c.requires in
    some_open (requests_of c.args.self.now.requests.items)
    (length c.args.self.now.requests.items) c.args.self.now.settled c.args.self.now.settled
    c.args.process c.args.request c.args.asked
    (is_process c.args.self.now.requests.items c.args.process c.args.request c.args.asked waits) waits
    c.args.self.now.counted

pub invariant_of-self-clause-counted : goal.invariant_of-self-clause-counted
invariant_of-self-clause-counted c =
    let waits = c.requires in
    counted_as _ _ _ _ _ c.take.ensures.requests c.take.ensures.number
    (counted_left (requests_of c.args.self.now.requests.items)
    (length c.args.self.now.requests.items) c.args.self.now.settled c.leave.new.self
    c.args.process c.args.request c.args.asked
    (is_process c.args.self.now.requests.items c.args.process c.args.request c.args.asked waits) waits
    c.args.self.now.counted c.leave.ensures.placed)

pub returns-clause-closes : goal.returns-clause-closes
returns-clause-closes c =
    let waits = c.requires in
    record {
      policy = refl;
      post_state = refl;
      asked = c.take.ensures.requests;
      kept = kept_open (requests_of c.args.self.now.requests.items)
          (length c.args.self.now.requests.items) c.args.self.now.settled c.leave.new.self
          c.args.process c.args.request c.args.asked
          (is_process c.args.self.now.requests.items c.args.process c.args.request c.args.asked waits)
          waits c.args.self.now.counted c.leave.ensures.placed
          (requests_of c.take.new.requests.items) c.take.ensures.requests
          (λ q past. nobody_asks c.take.new.requests.items (length c.args.self.now.requests.items)
          q c.take.ensures.number past);
      book = refl;
    }
