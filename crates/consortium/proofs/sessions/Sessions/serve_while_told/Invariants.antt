use Rattle.consortium.proofs.sessions.Sessions.serve_while_told.Given as goal

abbrev pub ghosts-serve_keeping : goal.ghosts-serve_keeping
ghosts-serve_keeping g a = record { name = a.book.blank.name; parts = a.book.blank.parts }
