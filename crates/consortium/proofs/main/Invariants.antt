use Rattle.consortium.proofs.main.Given as goal

abbrev pub ghosts-hold_books : goal.ghosts-hold_books
ghosts-hold_books g a = record { name = a.told.name; parts = a.told.parts }

abbrev pub ghosts-serve-P-Ledger : goal.ghosts-serve-P-Ledger
ghosts-serve-P-Ledger g a = record { name = a.blanks.policy.name; parts = a.blanks.policy.parts }

abbrev pub ghosts-serve-S-Ledger : goal.ghosts-serve-S-Ledger
ghosts-serve-S-Ledger g a = record { name = a.blanks.second.name; parts = a.blanks.second.parts }

abbrev pub ghosts-serve-B-Ledger : goal.ghosts-serve-B-Ledger
ghosts-serve-B-Ledger g a = record { name = a.blanks.kept.name; parts = a.blanks.kept.parts }

abbrev pub ghosts-serve-O-Ledger : goal.ghosts-serve-O-Ledger
ghosts-serve-O-Ledger g a = record { name = a.blanks.out.name; parts = a.blanks.out.parts }

abbrev pub ghosts-serve-E-Ledger : goal.ghosts-serve-E-Ledger
ghosts-serve-E-Ledger g a = record { name = a.blanks.err.name; parts = a.blanks.err.parts }

abbrev pub ghosts-serve_live-P-Ledger : goal.ghosts-serve_live-P-Ledger
ghosts-serve_live-P-Ledger g a =
    record { name = a.blanks.policy.name; parts = a.blanks.policy.parts }

abbrev pub ghosts-serve_live-E-Ledger : goal.ghosts-serve_live-E-Ledger
ghosts-serve_live-E-Ledger g a = record { name = a.blanks.err.name; parts = a.blanks.err.parts }

abbrev pub ghosts-seal_chain-O-Ledger : goal.ghosts-seal_chain-O-Ledger
ghosts-seal_chain-O-Ledger g a = record { name = a.blanks.out.name; parts = a.blanks.out.parts }

abbrev pub ghosts-seal_chain-E-Ledger : goal.ghosts-seal_chain-E-Ledger
ghosts-seal_chain-E-Ledger g a = record { name = a.blanks.err.name; parts = a.blanks.err.parts }

abbrev pub ghosts-seal_chain-B-Ledger : goal.ghosts-seal_chain-B-Ledger
ghosts-seal_chain-B-Ledger g a =
    record { name = a.blanks.sealed.name; parts = a.blanks.sealed.parts }
