use Rattle.std.proofs.Common.{◌≡◌, ℕ, ◌<◌, length}
use Rattle.wall_rules.specs.Histories.{has_in, at_home}
use Rattle.wall_rules.proofs.histories.home_rows.Given as goal

abbrev pub invariant-loop-number : goal.invariant-loop-number
invariant-loop-number l = record {
  rows : length l.rows.items ≡ l.number;
  pairs : (p d : ℕ) → p < l.number → has_in l.rows.items p d ≡ at_home l.policy p d;
}
