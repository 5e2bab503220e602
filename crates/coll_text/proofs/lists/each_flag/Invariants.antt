use Rattle.std.proofs.Common.{◌≡◌, false, length}
use Rattle.coll_text.specs.Reading.{each_of, flag_of, parts}
use Rattle.coll_text.proofs.EachLemmas.{HasRead}
use Rattle.coll_text.proofs.lists.each_flag.Given as goal

abbrev pub invariant-loop-part : goal.invariant-loop-part
invariant-loop-part l = record {
  read : HasRead flag_of l.memory l.flags.items l.parts (each_of flag_of (parts 44 l.word));
  stays : l.memory ≡ false → l.fn.memory ≡ false;
}

abbrev pub decreases-loop-part : goal.decreases-loop-part
decreases-loop-part l = length l.parts
