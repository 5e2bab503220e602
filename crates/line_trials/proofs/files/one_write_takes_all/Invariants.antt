use Rattle.line_trials.proofs.files.one_write_takes_all.Given as goal

abbrev pub ghosts-kept_at_once : goal.ghosts-kept_at_once
ghosts-kept_at_once g a = record { name = a.blank.name; parts = a.blank.parts }

abbrev pub ghosts-said_at_once : goal.ghosts-said_at_once
ghosts-said_at_once g a = record { name = a.blank.name; parts = a.blank.parts }
