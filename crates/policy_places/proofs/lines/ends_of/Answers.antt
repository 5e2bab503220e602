use Rattle.policy_places.proofs.PrefixLemmas.{none_to, line_to, other_to, end_to}
use Rattle.policy_places.proofs.lines.ends_of.Goals as goal
use Rattle.policy_places.proofs.lines.ends_of.Goals.{then-byte-eq10+in_ok-push, else-byte-eq10}

pub loop-place-init : goal.loop-place-init
loop-place-init c = rw c.new-ends.ensures.items (none_to c.args.text.now)

pub loop-place-preserved : goal.loop-place-preserved
loop-place-preserved c =
    elim c.if-byte-eq10.branch [
      | then-byte-eq10+in_ok-push w ↦ rw (w.ends-is, w.in_ok-push.ensures.items)
          (line_to c.args.text.now c.loop-place.place c.loop-place.ends.items
          c.loop-place.invariant c.loop-place-test.true w.if-byte-eq10.true)
      | else-byte-eq10 w ↦ rw w.ends-is
          (other_to c.args.text.now c.loop-place.place c.loop-place.ends.items
          c.loop-place.invariant c.loop-place-test.true w.if-byte-eq10.false)
    ]

pub returns : goal.returns
returns c = rw c.in_ok-push-2.ensures.items
    (end_to c.args.text.now c.loop-place.place c.loop-place.ends.items c.loop-place.invariant
    c.loop-place-test.false)
