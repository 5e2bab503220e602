use Rattle.std.proofs.Common.{◌≡◌, ◌++◌, List}
use Rattle.std.specs.Vec.Iter.{into_iter_items}
use Rattle.run_model.specs.Chains.{Link}
use Rattle.program_commands.specs.Earlier.{earlier_books, IsAfter}
use Rattle.program_commands.proofs.earlier.read_links.Given as goal

abbrev pub invariant-loop-one : goal.invariant-loop-one
invariant-loop-one g l = record {
  whole : l.yielded ++ into_iter_items l.one-iterator ≡ l.fn.earlier.items;
  after : (links : List Link) × IsAfter l.fn.first
      (earlier_books g.D.Source.failures g.D.Source.remaining l.yielded) links l.chain;
}
