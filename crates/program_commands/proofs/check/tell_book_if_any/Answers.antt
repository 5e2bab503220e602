use Rattle.program_commands.proofs.check.tell_book_if_any.Goals as goal

pub returns-in-None : goal.returns-in-None
returns-in-None g c = rw c.in-None.is (c.untold.ensures.text, c.untold.ensures.ending)
