use Rattle.std.proofs.Common.{◌≡◌, ◌<◌, ℕ, true, List}
use Rattle.wall_policy.specs.Policy.{ChineseWall}
use Rattle.wall_rules.specs.Histories.{has, opening}
use Rattle.run_model.specs.declared.entry.Entry.{Entry}
use Rattle.book_report.specs.Walk.{AreKnown, HasRoom, Grows, knows}
use Rattle.book_report.proofs.known.Known.add_firsts_of.Given as goal

abbrev pub invariant-loop-number : goal.invariant-loop-number
invariant-loop-number l = record {
  room : HasRoom l.self;
  known : (wall : ChineseWall) (entries : List Entry) → has l.histories ≡ opening wall →
      AreKnown wall entries 0 l.fn.self → AreKnown wall entries 0 l.self;
  grows : Grows l.fn.self l.self;
  there : (d : ℕ) → d < l.number → has l.histories l.process d ≡ true →
      knows l.self l.process d ≡ true;
}
