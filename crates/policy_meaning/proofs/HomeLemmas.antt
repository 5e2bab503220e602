-- Whether a dataset is somebody's home.
use Rattle.std.proofs.Common.{◌≡◌, ℕ, ◌+◌, ◌<◌, ◌≤◌, Bool, true, false, not, length, Option, Some}
use Rattle.std.proofs.Common.{None}
use Rattle.std.specs.Prelude.{is_some, is_none}
use Rattle.std.proofs.Common.{refl, sym, ap, ◌∙◌, arith, eq-eqb, ne_eqb}
use Rattle.std.specs.List.{list_any}
use Rattle.std.proofs.lemmas.Bool.{false≢true}
use Rattle.wall_policy.specs.Policy.{ChineseWall, IsPolicy, home_of}
use Rattle.mpi_cart.specs.Grids.{below}
use Rattle.wall_verdict.specs.Charges.{is_that}
use Rattle.wall_verdict.proofs.WallVerdictLemmas.{one_that}
use Rattle.policy_meaning.specs.Warnings.{is_a_home}
use Rattle.policy_meaning.proofs.BelowLemmas.{none_more, some_later}
use Rattle.policy_meaning.proofs.FactLemmas.{home_known}

pub is_no_other : (o : Option ℕ) (d : ℕ) → (o ≡ Some d → ⊥) → is_that o d ≡ false
is_no_other None d h = refl
is_no_other (Some home) d h = ne_eqb home d (λ e. h (ap (λ (n : ℕ). Some n) e))

-- where p is at home is a home
pub a_home : (wall : ChineseWall) (d p : ℕ) → IsPolicy wall → home_of wall p ≡ Some d →
    is_a_home wall d ≡ true
a_home wall d p policy home = some_later (λ q. is_that (home_of wall q) d) p
    (length wall.process_names) (home_known wall p d policy home)
    (one_that (home_of wall p) d home)

-- one process more is not at home there
pub no_home : (wall : ChineseWall) (d n : ℕ) →
    list_any (λ p. is_that (home_of wall p) d) (below n) ≡ false
    → (home_of wall n ≡ Some d → ⊥) →
    list_any (λ p. is_that (home_of wall p) d) (below (n + 1)) ≡ false
no_home wall d n before h = none_more (λ p. is_that (home_of wall p) d) n before
    (is_no_other (home_of wall n) d h)

-- where no process is at home nobody is
pub nobodys : (wall : ChineseWall) (d n p : ℕ) → IsPolicy wall →
    list_any (λ q. is_that (home_of wall q) d) (below n) ≡ false → length wall.process_names ≤ n →
    home_of wall p ≡ Some d → ⊥
nobodys wall d n p policy none all home =
    let known = home_known wall p d policy home in
    false≢true (sym none ∙ some_later (λ q. is_that (home_of wall q) d) p n (omega arith)
    (one_that (home_of wall p) d home))

pub none_is : (o : Option ℕ) (r : Bool) → is_some o ≡ not r → r ≡ is_none o
none_is None true e = refl
none_is None false e = absurd cc
none_is (Some n) true e = absurd cc
none_is (Some n) false e = refl
