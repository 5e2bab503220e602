use Rattle.std.proofs.Common.{refl}
use Rattle.hall_core.specs.Claims.{claim_entry}
use Rattle.live_book.specs.Writing.{sink_value}
use Rattle.live_book.proofs.WritingLemmas.{stands_on}
use Rattle.live_book.proofs.booked.BookedHall.claim.Goals as goal

pub returns-clause-carries : goal.returns-clause-carries
returns-clause-carries g c = rw (← c.self.view_is) (λ wall run legal stands.
    let after = c.claim.ensures.carries wall run legal (stands.policy, stands.hall) in (
      after.0,
      stands_on wall c.self.inside.hall.hall c.claim.new.self.hall
          g.K.Begun.begun
          (sink_value g.B.Sink.contents g.B.BookSink.lasting g.B.Sink.failures
          c.self.inside.writer.sink)
          (record { entries = c.self.inside.writer.entries; hasher = c.self.inside.writer.hasher })
          c.self.inside.writer.fault run (claim_entry c.args.process c.args.request c.claim.result)
          after.1 refl stands,
      after.2,
    ))

pub returns-clause-apart : goal.returns-clause-apart
returns-clause-apart g c = rw (← c.self.view_is) (λ wall run legal stands.
    c.claim.ensures.apart wall run legal (stands.policy, stands.hall))

pub returns-clause-claims : goal.returns-clause-claims
returns-clause-claims g c = rw (← c.self.view_is) (λ wall run legal stands.
    c.claim.ensures.claims wall run legal (stands.policy, stands.hall))
