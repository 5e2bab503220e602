use Rattle.std.proofs.Common.{◌≡◌, ◌≤◌, length}
use Rattle.run_model.specs.Posts.{posts_on}
use Rattle.book_report.specs.Held.{posts_to}
use Rattle.book_report.proofs.place.Instance.part_of.Given as goal

abbrev pub invariant-loop-at : goal.invariant-loop-at
invariant-loop-at l = record {
  seen : l.seen
      ≡ length (posts_on l.self.comm l.process (posts_to l.self.place.book.now.list l.at));
  low : l.seen ≤ l.self.k;
}
