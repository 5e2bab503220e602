-- What the facts of a policy mean for every run under it.
use Rattle.std.proofs.Common.{◌≡◌, ℕ, ◌≤◌, Bool, true, false, ◌&&◌, List, [], Option, Some, None}
use Rattle.std.proofs.Common.{refl, sym, subst, nat_le, le-leb, inl}
use Rattle.std.specs.Prelude.{◌↔◌, IsTrue}
use Rattle.std.proofs.lemmas.Bool.{leb-true, and_parts}
use Rattle.wall_labels.specs.declared.op.Op.{Op}
use Rattle.wall_policy.specs.Policy.{ChineseWall, IsPolicy, home_of, least_of, distinct_of}
use Rattle.coll_routes.specs.declared.roll.Roll.{Roll}
use Rattle.coll_routes.specs.Signatures.{reduction}
use Rattle.wall_verdict.specs.Charges.{contributors, different_datasets, is_at_most, sanitised}
use Rattle.run_model.specs.Holding.{Holds, had_at_first}
use Rattle.run_model.specs.Runs.{posts}
use Rattle.run_model.proofs.RunModelLemmas.{nobody_holds_two_rivals_in_runs}
use Rattle.policy_meaning.specs.Laws.{KeptApartNeverMeet, NumbersAreOfTheVerdict}
use Rattle.policy_meaning.specs.Laws.{OthersAreNeverSanitised}

pub kept_apart_never_meet : KeptApartNeverMeet
kept_apart_never_meet wall run p q d policy legal apart home held =
    let same : d ≡ apart.right = cc in
    nobody_holds_two_rivals_in_runs wall [] run policy legal p apart.left apart.right apart.rivals
    (had_at_first (inl apart.left_home))
    (subst (λ e. Holds wall (posts run) p e) same held)

both_at_most : (l d m n : ℕ) → IsTrue (nat_le l m && nat_le d n) ↔ ((l ≤ m) × (d ≤ n))
both_at_most l d m n = (
  λ h. (let parts = and_parts (nat_le l m) (nat_le d n) h in
      (leb-true l m parts.0, leb-true d n parts.1)),
  λ both i. le-leb l m both.0 i && le-leb d n both.1 i,
)

pub numbers_are_of_the_verdict : NumbersAreOfTheVerdict
unfolding sanitised
numbers_are_of_the_verdict wall op least distinct h roll j e =
    rw (e, h.0, h.1)
    (both_at_most least distinct (contributors roll j) (different_datasets roll j))

no_number : (least : Bool) → (least && false) ≡ false
no_number true = refl
no_number false = refl

one_lacks : (left right : Option ℕ) (m n : ℕ)
    → ((l d : ℕ) → left ≡ Some l → right ≡ Some d → ⊥) →
    (is_at_most left m && is_at_most right n) ≡ false
one_lacks None right m n h = refl
one_lacks (Some l) None m n h = no_number (is_at_most (Some l) m)
one_lacks (Some l) (Some d) m n h = absurd (h l d refl refl)

pub others_are_never_sanitised : OthersAreNeverSanitised
unfolding sanitised
others_are_never_sanitised wall op roll j none e =
    rw e
    (one_lacks (least_of wall op) (distinct_of wall op) (contributors roll j)
    (different_datasets roll j) (λ l d left right. none l d (left, right)))
