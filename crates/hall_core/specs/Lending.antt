-- What a window ends as, where a thing of it is lent to be changed.
use Rattle.std.specs.Prelude.{ℕ, Option}
use Rattle.std.specs.Borrow.{LendsIf, Fml, RattleType, MutBor}
use Rattle.hall_core.specs.declared.window.Forgettable.{Ghosts}
use Rattle.hall_core.specs.Windows.{Windowed, with_thing}
use Rattle.hall_core.specs.contracts.window.Window.{the_row}

-- the number has the last thing written through r, and at `None` the window stays as it is
abbrev pub lends_kept : (T : RattleType) → Ghosts T.Denot → MutBor (Windowed T.Denot) → ℕ →
    Option (MutBor T.Denot) → Fml
lends_kept T ghosts w number r =
    LendsIf (the_row T ghosts) T w r (with_thing w.now number) w.now
