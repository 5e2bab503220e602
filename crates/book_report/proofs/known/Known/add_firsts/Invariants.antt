use Rattle.std.proofs.Common.{◌≡◌, ◌<◌, ℕ, true, List, length}
use Rattle.wall_rules.specs.Histories.{has, opening}
use Rattle.run_model.specs.declared.entry.Entry.{Entry}
use Rattle.book_report.specs.Walk.{AreKnown, HasRoom, knows}
use Rattle.book_report.proofs.known.Known.add_firsts.Given as goal

abbrev pub invariant-loop-number : goal.invariant-loop-number
invariant-loop-number l = record {
  room : HasRoom l.self;
  known : (entries : List Entry) → has l.histories ≡ opening l.policy →
      AreKnown l.policy entries 0 l.fn.self → AreKnown l.policy entries 0 l.self;
  there : (p d : ℕ) → p < l.number → d < length l.policy.dataset_names →
      has l.histories p d ≡ true → knows l.self p d ≡ true;
}
