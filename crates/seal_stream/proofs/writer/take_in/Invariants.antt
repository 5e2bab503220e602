use Rattle.std.proofs.Common.{◌≡◌, ℕ, ◌∷◌, ◌++◌, List, Option, length}
use Rattle.coll_text.specs.Numbers.{Word}
use Rattle.coll_text.specs.Reading.{parts}
use Rattle.book_stream.specs.Cuts.{behind}
use Rattle.seal_stream.specs.Steps.{StandsBehind}
use Rattle.seal_stream.proofs.writer.take_in.Given as goal

-- it stands behind the finished lines so far, in the line at hand
abbrev pub invariant-loop-part : goal.invariant-loop-part
invariant-loop-part g l = record {
  went : g.W.Sink.failures l.sealed ≡ g.W.Sink.failures l.fn.sealed;
  stands : (before : Option (List ℕ)) (lines kept : List Word) (line : Word) →
      StandsBehind l.policy l.fn.writer before (g.W.Sink.contents l.fn.sealed) lines kept line →
      (done now_kept : List Word) × (now : Word)
      × (behind line (parts 10 l.bytes) ≡ done ++ now ∷ l.parts)
      × StandsBehind l.policy l.writer before (g.W.Sink.contents l.sealed) (lines ++ done) now_kept
      now;
}

abbrev pub decreases-loop-part : goal.decreases-loop-part
decreases-loop-part g l = length l.parts
