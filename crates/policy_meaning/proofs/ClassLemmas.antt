-- Who can be a rival.
use Rattle.std.proofs.Common.{◌≡◌, ℕ, ◌<◌, ◌≤◌, Bool, true, false, nat_eq, not, ◌&&◌, List, length}
use Rattle.std.proofs.Common.{Option, Some, None, refl, sym, ◌∙◌, inl, inr}
use Rattle.std.proofs.lemmas.Bool.{cases_lt, false≢true}
use Rattle.std.proofs.lemmas.Option.{slice_get_past}
use Rattle.std.proofs.Common.{slice_get}
use Rattle.wall_policy.specs.Rivals.{AreRivals, is_one_class, are_rivals}
use Rattle.wall_policy.proofs.WallPolicyLemmas.{are_rivals-Decides}

no_class : (o : Option ℕ) → is_one_class o None ≡ false
no_class None = refl
no_class (Some c) = refl

and_false : (b : Bool) → (b && false) ≡ false
and_false true = refl
and_false false = refl

-- a number that is no dataset is nobody's rival
pub no_rival_past : (classes : List ℕ) (d e : ℕ) → length classes ≤ e →
    are_rivals classes d e ≡ false
unfolding are_rivals
no_rival_past classes d e past =
    rw (slice_get_past classes e past, no_class (slice_get classes d))
    (and_false (not (nat_eq d e)))

-- rivals are datasets
pub rival_known : (classes : List ℕ) (d e : ℕ) → AreRivals classes d e → e < length classes
rival_known classes d e rivals = elim (cases_lt e (length classes)) [
  | inl low ↦ low
  | inr high ↦ absurd (false≢true (sym (no_rival_past classes d e high)
      ∙ (are_rivals-Decides classes d e).1 rivals))
]

-- who is whose rival does not depend on the order
pub rivals_turned : (classes : List ℕ) (d e : ℕ) → AreRivals classes d e → AreRivals classes e d
rivals_turned classes d e rivals =
    (λ same. rivals.0 (sym same), (rivals.1.0, rivals.1.2, rivals.1.1))
