use Rattle.std.proofs.Common.{◌≡◌, ◌+◌, ◌≤◌, ◌-◌, length}
use Rattle.std.specs.Io.KnownBytes.{Consumes}
use Rattle.program_commands.specs.Auditing.{book_limit}
use Rattle.program_commands.proofs.chain_again.read_whole.Given as goal

abbrev pub invariant-loop-n : goal.invariant-loop-n
invariant-loop-n g l = record {
  count : g.B.Source.failures l.book ≡ g.B.Source.failures l.fn.book;
  got : Consumes (g.B.Source.remaining l.fn.book) (g.B.Source.remaining l.book) l.bytes.items;
  within : length l.bytes.items ≤ book_limit;
}

abbrev pub decreases-loop-n : goal.decreases-loop-n
decreases-loop-n g l = book_limit + 1 - length l.bytes.items
