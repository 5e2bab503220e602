use Rattle.std.proofs.Common.{◌≡◌, take, true}
use Rattle.std.specs.List.{list_all}
use Rattle.coll_text.specs.Reading.{is_printable}
use Rattle.script_places.proofs.cuts.unprintable.Given as goal

abbrev pub invariant-loop-place : goal.invariant-loop-place
invariant-loop-place l = list_all is_printable (take l.place l.line) ≡ true
