use Rattle.std.proofs.Common.{◌≡◌, ℕ, ◌<◌, length, get_or}
use Rattle.std.specs.FinSet.{contains, empty}
use Rattle.wall_policy.specs.Rivals.{are_rivals}
use Rattle.wall_rules.proofs.histories.rival_rows.Given as goal

abbrev pub invariant-loop-number : goal.invariant-loop-number
invariant-loop-number l = record {
  rows : length l.rows.items ≡ l.number;
  rivals : (d e : ℕ) → d < l.number →
      contains (get_or l.rows.items d empty) e ≡ are_rivals l.classes d e;
}
