use Rattle.run_model.specs.Runs.{entry}
use Rattle.hall_turn.proofs.turns.Turns.turn.Given as goal

abbrev pub ghosts-declare : goal.ghosts-declare
ghosts-declare g a =
    record { entry = entry (g.D.Deed.call a.deed.now.value) (g.D.Deed.reply a.told.now) }
