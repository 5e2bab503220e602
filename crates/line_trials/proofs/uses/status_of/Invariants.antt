use Rattle.line_trials.proofs.uses.status_of.Given as goal

abbrev pub ghosts-serve-P-Ledger : goal.ghosts-serve-P-Ledger
ghosts-serve-P-Ledger g a = record { name = a.blanks.policy.name; parts = a.blanks.policy.parts }

abbrev pub ghosts-serve-S-Ledger : goal.ghosts-serve-S-Ledger
ghosts-serve-S-Ledger g a = record { name = a.blanks.second.name; parts = a.blanks.second.parts }

abbrev pub ghosts-serve-B-Ledger : goal.ghosts-serve-B-Ledger
ghosts-serve-B-Ledger g a = record { name = a.blanks.kept.name; parts = a.blanks.kept.parts }

abbrev pub ghosts-serve-O-Ledger : goal.ghosts-serve-O-Ledger
ghosts-serve-O-Ledger g a = record { name = a.blanks.out.name; parts = a.blanks.out.parts }

abbrev pub ghosts-serve-E-Ledger : goal.ghosts-serve-E-Ledger
ghosts-serve-E-Ledger g a = record { name = a.blanks.err.name; parts = a.blanks.err.parts }
