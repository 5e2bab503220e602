use Rattle.std.proofs.Common.{◌≡◌, false, length}
use Rattle.coll_text.specs.Reading.{each_of, parts}
use Rattle.coll_text.specs.Fields.{number_of}
use Rattle.coll_text.proofs.EachLemmas.{HasRead}
use Rattle.coll_text.proofs.lists.each_number.Given as goal

abbrev pub invariant-loop-part : goal.invariant-loop-part
invariant-loop-part l = record {
  read : HasRead number_of l.memory l.numbers.items l.parts (each_of number_of (parts 44 l.word));
  stays : l.memory ≡ false → l.fn.memory ≡ false;
}

abbrev pub decreases-loop-part : goal.decreases-loop-part
decreases-loop-part l = length l.parts
