use Rattle.live_book.specs.Writing.{sink_value}
use Rattle.program_commands.proofs.serve.serve_on.Given as goal

-- the book begins where its writer is as it is given
abbrev pub ghosts-serve_booked : goal.ghosts-serve_booked
ghosts-serve_booked g a = record {
  begun = sink_value g.B.Sink.contents g.B.BookSink.lasting g.B.Sink.failures a.book;
}
