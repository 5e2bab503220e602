use Rattle.std.proofs.Common.{◌≡◌, ◌<◌, ℕ, eqb, get_or, false}
use Rattle.coll_text.proofs.parts.place_of.Given as goal

abbrev pub invariant-loop-i : goal.invariant-loop-i
invariant-loop-i l = (k : ℕ) → k < l.i → eqb (get_or l.text k 0) l.separator ≡ false
