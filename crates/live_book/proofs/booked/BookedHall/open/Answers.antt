use Rattle.std.proofs.Common.{refl}
use Rattle.live_book.proofs.WritingLemmas.{no_prefix}
use Rattle.live_book.proofs.booked.BookedHall.open.Goals as goal

pub returns-in-Err-clause-cut : goal.returns-in-Err-clause-cut
returns-in-Err-clause-cut g c = rw c.requires (record {
  prefix = no_prefix (g.B.Sink.contents c.args.sink) _;
  is_fault = rw c.from.ensures refl;
})
