use Rattle.std.proofs.Common.{◌≡◌, ℕ, ◌<◌, length, max, ◌-◌, ◌+◌}
use Rattle.hall_core.specs.Settling.{AreSame, places_of}
use Rattle.hall_core.specs.Windows.{KeepAlike}
use Rattle.hall_core.proofs.settled.add_rows.Given as goal

abbrev pub invariant-loop-alloc : goal.invariant-loop-alloc
invariant-loop-alloc l = record {
  same : AreSame l.initial.rows.items l.rows.items;
  number : max (length l.rows.items) (l.comm + 1)
      ≡ max (length l.initial.rows.items) (l.comm + 1);
  kept : (c : ℕ) → KeepAlike (places_of l.initial.rows.items c) (places_of l.rows.items c);
  there : l.comm < length l.initial.rows.items → l.rows.items ≡ l.initial.rows.items;
}

abbrev pub decreases-loop-alloc : goal.decreases-loop-alloc
decreases-loop-alloc l = l.comm + 1 - length l.rows.items
