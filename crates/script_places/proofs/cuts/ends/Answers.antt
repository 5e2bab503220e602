use Rattle.std.proofs.Common.{ℕ, ap, ◌∙◌, get_or, Some}
use Rattle.std.proofs.lemmas.Option.{slice_get-get_or}
use Rattle.script_places.proofs.EndLemmas.{space_to, other_to, end_to}
use Rattle.script_places.proofs.cuts.ends.Goals as goal
use Rattle.script_places.proofs.cuts.ends.Goals.{then-byte-eq32+in_ok-push, else-byte-eq32}

pub loop-place-preserved : goal.loop-place-preserved
loop-place-preserved c =
    let at = slice_get-get_or c.args.line.now c.loop-place.place 0 c.loop-place-test.true in
    elim c.if-byte-eq32.branch [
      | then-byte-eq32+in_ok-push w ↦ rw (w.list-is, w.in_ok-push.ensures.items)
          (space_to c.args.line.now c.loop-place.place c.loop-place.list.items
          c.loop-place.invariant c.loop-place-test.true
          (at ∙ ap (λ (b : ℕ). Some b) w.if-byte-eq32.true))
      | else-byte-eq32 w ↦ rw w.list-is
          (other_to c.args.line.now c.loop-place.place (get_or c.args.line.now c.loop-place.place 0)
          c.loop-place.list.items c.loop-place.invariant c.loop-place-test.true at
          w.if-byte-eq32.false)
    ]

pub returns : goal.returns
returns c = rw c.in_ok-push-2.ensures.items
    (end_to c.args.line.now c.loop-place.place c.loop-place.list.items c.loop-place.invariant
    c.loop-place-test.false)
