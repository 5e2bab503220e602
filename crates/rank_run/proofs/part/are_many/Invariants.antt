use Rattle.std.proofs.Common.{◌≡◌, ◌<◌, take}
use Rattle.rank_run.specs.Large.{all_given}
use Rattle.rank_run.proofs.part.are_many.Given as goal

abbrev pub invariant-loop-part : goal.invariant-loop-part
invariant-loop-part l = record {
  sum : l.given ≡ all_given (take l.part-index l.parts);
  few : l.given < 4096;
}
