use Rattle.hall_script.proofs.kept.KeptLines.keep.Goals as goal

pub returns : goal.returns
returns c = λ wall past right line. c.put_in.ensures wall past (c.make_places.ensures wall past right) line
