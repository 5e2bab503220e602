-- Numbers that cannot be reached.
use Rattle.std.proofs.Common.{◌≡◌, ◌≢◌, ℕ, zero, suc, ◌+◌, ◌<◌, ◌≤◌, Bool, true, false, not, ◌&&◌}
use Rattle.std.proofs.Common.{◌||◌}
use Rattle.std.proofs.Common.{nat_eq, nat_le, List, length, Option, Some, None, refl, sym, ap, ◌∙◌}
use Rattle.std.proofs.Common.{subst}
use Rattle.std.proofs.Common.{arith, cond, slice_get, inl, inr, add-one, eq-eqb, ne_eqb, ◌⊎◌}
use Rattle.std.proofs.Common.{get_or}
use Rattle.std.specs.Prelude.{count_by, is_none, min}
use Rattle.std.specs.List.{list_any, range_with_len, All, Any}
use Rattle.std.proofs.lemmas.Bool.{cases_Bool, cases_lt, false≢true, and_parts, leb-true, or_cases}
use Rattle.std.proofs.lemmas.Bool.Decides.{eqb_tells}
use Rattle.std.proofs.lemmas.List.FromFn.{length-range_with_len, get_or-range_with_len}
use Rattle.std.proofs.lemmas.List.Folds.{Any-from_list_any}
use Rattle.std.proofs.Common.{eqb-true}
use Rattle.std.proofs.lemmas.List.Sums.{count_by-le-length}
use Rattle.std.proofs.lemmas.Option.{slice_get-get_or}
use Rattle.wall_labels.specs.declared.op.Op.{Op}
use Rattle.wall_policy.specs.Policy.{ChineseWall, home_of, least_of, distinct_of}
use Rattle.mpi_group.specs.Groups.{IsGroup}
use Rattle.mpi_group.proofs.MpiGroupLemmas.{length_distinct, one_place}
use Rattle.mpi_cart.specs.Grids.{below}
use Rattle.coll_routes.specs.declared.roll.Roll.{Roll}
use Rattle.coll_routes.specs.Signatures.{reduction}
use Rattle.coll_routes.specs.Rolls.{ranks}
use Rattle.wall_verdict.specs.Charges.{contribution, contributes, contributed, contributors}
use Rattle.wall_verdict.specs.Charges.{different_datasets, is_at_most, sanitised}
use Rattle.wall_verdict.specs.Charges.{is_that}
use Rattle.wall_verdict.proofs.WallVerdictLemmas.{one_that}
use Rattle.wall_verdict.specs.Laws.{DifferentAreCountedOnce}
use Rattle.policy_meaning.specs.declared.warning.Doubt.TheVariants.{TooFewProcesses}
use Rattle.policy_meaning.specs.declared.warning.Doubt.TheVariants.{TooFewDatasets}
use Rattle.policy_meaning.specs.declared.warning.Warning.TheVariants.{OfOperation}
use Rattle.policy_meaning.specs.Warnings.{Warns, is_a_home, homes, homeless, most_labels}
use Rattle.policy_meaning.specs.Laws.{IsOfPolicy, OutOfReachIsNeverSanitised}
use Rattle.mpi_cart.proofs.MpiCartLemmas.{count_more}
use Rattle.policy_meaning.proofs.BelowLemmas.{some_later}

and_true : (a : Bool) → (a && true) ≡ a
and_true true = refl
and_true false = refl

and_false : (a : Bool) → (a && false) ≡ false
and_false true = refl
and_false false = refl

---- counts of numbers below a bound

-- one that passes, and all others
minus_one : (Q : ℕ → Bool) (p n : ℕ) → p < n → Q p ≡ true →
    count_by Q (below n) ≡ count_by (λ q. Q q && not (nat_eq q p)) (below n) + 1
minus_one Q p zero low here = absurd (omega arith)
minus_one Q p (suc n) low here =
    subst (λ m. count_by Q (below m) ≡ count_by (λ q. Q q && not (nat_eq q p)) (below m) + 1)
    (add-one n) (step (λ earlier. minus_one Q p n earlier here) (cases_lt p n))
  where
    -- a number above all that are counted
    same_below : (m : ℕ) → m ≤ p → count_by (λ q. Q q && not (nat_eq q p)) (below m)
        ≡ count_by Q (below m)
    same_below zero le = refl
    same_below (suc m) le =
        let later = same_below m (omega arith) in
        let more = count_more (λ q. Q q && not (nat_eq q p)) m in
        let most = count_more Q m in
        let other : nat_eq m p ≡ false = ne_eqb m p (λ same. omega (arith, same)) in
        let alike : (Q m && not (nat_eq m p)) ≡ Q m =
        ap (λ b. Q m && not b) other ∙ and_true (Q m) in
        let one = ap {B = ℕ} (λ b. cond b 1 0) alike in
        subst (λ k. count_by (λ q. Q q && not (nat_eq q p)) (below k) ≡ count_by Q (below k))
        (add-one m) (omega (arith, later, more, most, one))

    step : (p < n → count_by Q (below n)
        ≡ count_by (λ q. Q q && not (nat_eq q p)) (below n) + 1) → (p < n) ⊎ (n ≤ p) →
        count_by Q (below (n + 1))
        ≡ count_by (λ q. Q q && not (nat_eq q p)) (below (n + 1)) + 1
    step before (inl earlier) =
        let later = before earlier in
        let more = count_more (λ q. Q q && not (nat_eq q p)) n in
        let most = count_more Q n in
        let other : nat_eq n p ≡ false = ne_eqb n p (λ same. omega (arith, same)) in
        let alike : (Q n && not (nat_eq n p)) ≡ Q n =
        ap (λ b. Q n && not b) other ∙ and_true (Q n) in
        let one = ap {B = ℕ} (λ b. cond b 1 0) alike in
        omega (arith, later, more, most, one)
    step before (inr last) =
        let same : n ≡ p = omega arith in
        let later = same_below n (omega arith) in
        let more = count_more (λ q. Q q && not (nat_eq q p)) n in
        let most = count_more Q n in
        let it : nat_eq n p ≡ true = eq-eqb n p same in
        let none : cond (Q n && not (nat_eq n p)) 1 0 ≡ 0 =
        ap {B = ℕ} (λ b. cond (Q n && not b) 1 0) it ∙ ap {B = ℕ} (λ b. cond b 1 0) (and_false (Q n)) in
        let one : cond (Q n) 1 0 ≡ 1 = ap {B = ℕ} (λ b. cond b 1 0) (ap Q same ∙ here) in
        omega (arith, later, more, most, none, one)

-- each number below d that passes P has one below n that passes Q
abbrev pub EachHasOne : (R : ℕ → ℕ → Type 0) (P : ℕ → Bool) (d n : ℕ) (Q : ℕ → Bool) → Type 0
EachHasOne R P d n Q =
    (e : ℕ) → e < d → P e ≡ true → (p : ℕ) × (p < n) × (Q p ≡ true) × R e p

-- all but one
abbrev but : (ℕ → Bool) → ℕ → ℕ → Bool
but Q p q = Q q && not (nat_eq q p)

still : (Q : ℕ → Bool) (p q : ℕ) → Q q ≡ true → q ≢ p → but Q p q ≡ true
still Q p q h other = λ i. h i && not (ne_eqb q p other i)

module _ (R : ℕ → ℕ → Type 0) (alone : (e f p : ℕ) → R e p → R f p → e ≡ f) (P : ℕ → Bool)
    (d n : ℕ) (Q : ℕ → Bool) (each : EachHasOne R P (suc d) n Q) where
  -- the others have one of the rest
  rest : (here : P d ≡ true) (p : ℕ) → R d p → EachHasOne R P d n (but Q p)
  rest here p mine e low t =
      let its = each e (omega arith) t in
      let other : its.0 ≢ p = λ same.
      (let both : e ≡ d = alone e d p (subst (λ q. R e q) same its.3) mine in omega arith) in
      (its.0, its.1, still Q p its.0 its.2 other, its.3)

  one_more : ((Q' : ℕ → Bool) → EachHasOne R P d n Q' →
      count_by P (below d) ≤ count_by Q' (below n)) → (P d ≡ true) ⊎ (P d ≡ false) →
      count_by P (below (d + 1)) ≤ count_by Q (below n)
  one_more before (inr f) =
      let more = count_more P d in
      let none = ap {B = ℕ} (λ b. cond b 1 0) f in
      let later = before Q (λ e low t. each e (omega arith) t) in
      omega (arith, more, none, later)
  one_more before (inl t) =
      let more = count_more P d in
      let one = ap {B = ℕ} (λ b. cond b 1 0) t in
      let mine = each d (omega arith) t in
      let left = minus_one Q mine.0 n mine.1 mine.2 in
      let later = before (but Q mine.0) (rest t mine.0 mine.3) in
      omega (arith, more, one, left, later)

-- No more numbers below d pass P than numbers below n pass Q, where each of the former has one of
-- the latter for itself alone.
pub pigeons : (R : ℕ → ℕ → Type 0) (P : ℕ → Bool) (d n : ℕ) (Q : ℕ → Bool) →
    EachHasOne R P d n Q → ((e f p : ℕ) → R e p → R f p → e ≡ f) →
    count_by P (below d) ≤ count_by Q (below n)
pigeons R P zero n Q each alone = omega arith
pigeons R P (suc d) n Q each alone =
    subst (λ m. count_by P (below m) ≤ count_by Q (below n)) (add-one d)
    (one_more R alone P d n Q each (λ Q' each'. pigeons R P d n Q' each' alone)
    (cases_Bool (P d)))

-- those that pass one of two tests
count_split : (P A : ℕ → Bool) (n : ℕ) →
    count_by P (below n) ≤ count_by A (below n) + count_by (λ e. P e && not (A e)) (below n)
count_split P A zero = omega arith
count_split P A (suc n) =
    subst (λ m. count_by P (below m)
    ≤ count_by A (below m) + count_by (λ e. P e && not (A e)) (below m)) (add-one n)
    (let later = count_split P A n in
    let one = count_more P n in
    let two = count_more A n in
    let three = count_more (λ e. P e && not (A e)) n in
    let here = either (P n) (A n) in
    omega (arith, later, one, two, three, here))
  where
    either : (a b : Bool) → cond a 1 0 ≤ cond b 1 0 + cond (a && not b) 1 0
    either true true = omega arith
    either true false = omega arith
    either false b = omega arith

---- contributors of one rank

module _ (wall : ChineseWall) (roll : Roll) (j : ℕ) (of : IsOfPolicy wall roll j) where
  few_ranks : roll.shape.size ≤ length wall.process_names
  few_ranks =
      let few = length_distinct roll.members (length wall.process_names) of.group.distinct
      (λ i d low. of.processes i (get_or roll.members i d) (slice_get-get_or roll.members i d low))
      in
      omega (arith, few, of.sized)

  few_contributors : contributors roll j ≤ length wall.process_names
  few_contributors =
      let most = count_by-le-length (λ i. contributes roll i j) (ranks roll) in
      let all = length-range_with_len 0 roll.shape.size in
      let few = few_ranks in omega arith

  its_is : (o : Option ℕ) (d : ℕ) → is_that o d ≡ true → o ≡ Some d
  its_is None d h = absurd cc
  its_is (Some e) d h = ap (λ (n : ℕ). Some n) (eqb-true e d h)

  -- a member gives the dataset
  abbrev GivesIt : ℕ → ℕ → Type 0
  GivesIt d p = (i : ℕ) × (slice_get roll.members i ≡ Some p) × (contribution roll i j ≡ Some d)

  alone : (d e p : ℕ) → GivesIt d p → GivesIt e p → d ≡ e
  alone d e p one two =
      let same = one_place roll.members one.0 two.0 p of.group.distinct one.1 two.1 in
      let both : Some d ≡ Some e =
      sym one.2 ∙ ap (λ i. contribution roll i j) same ∙ two.2 in cc

  giver : (d : ℕ) → contributed roll j d ≡ true → (p : ℕ) × GivesIt d p
  giver d h =
      let some = Any-from_list_any (λ i. is_that (contribution roll i j) d) (below roll.shape.size) h
      in
      let all = length-range_with_len 0 roll.shape.size in
      let low : some.0 < roll.shape.size = (let within = some.2 in omega arith) in
      let read = get_or-range_with_len 0 roll.shape.size some.0 some.1 low in
      let within : some.1 < length roll.members =
      (let same = some.3 in let sized = of.sized in omega arith) in (
        get_or roll.members some.1 0,
        (
          some.1,
          slice_get-get_or roll.members some.1 0 within,
          its_is (contribution roll some.1 j) d some.4,
        ),
      )

  -- a dataset that nobody is at home at comes from a process without a home
  homeless_gives : (d : ℕ) → (contributed roll j d && not (is_a_home wall d)) ≡ true →
      (p : ℕ) × (p < length wall.process_names) × (is_none (home_of wall p) ≡ true) × GivesIt d p
  homeless_gives d h =
      let parts = and_parts (contributed roll j d) (not (is_a_home wall d)) h in
      let one = giver d parts.0 in
      elim (of.labels one.1.0 one.0 d one.1.1 one.1.2) [
        | inl home ↦
            let there : is_a_home wall d ≡ true =
            some_later (λ q. is_that (home_of wall q) d) one.0 (length wall.process_names)
            (of.processes one.1.0 one.0 one.1.1) (one_that (home_of wall one.0) d home) in
            absurd (false≢true (ap not (sym there) ∙ parts.1))
        | inr none ↦
            (one.0, of.processes one.1.0 one.0 one.1.1, ap is_none none, one.1)
      ]

  few_datasets : DifferentAreCountedOnce → different_datasets roll j ≤ most_labels wall
  few_datasets once =
      let counted = once roll j (length wall.dataset_names) of.datasets in
      let all = length-range_with_len 0 (length wall.dataset_names) in
      let within = count_by-le-length (contributed roll j) (below (length wall.dataset_names)) in
      let split = count_split (contributed roll j) (is_a_home wall) (length wall.dataset_names) in
      let free = pigeons GivesIt (λ d. contributed roll j d && not (is_a_home wall d))
      (length wall.dataset_names) (length wall.process_names) (λ p. is_none (home_of wall p))
      (λ d low t. homeless_gives d t) alone in
      omega arith

---- what is asked and cannot be reached

low_and : (l n : ℕ) (rest : Bool) → n < l → (nat_le l n && rest) ≡ false
low_and l n rest low = elim (cases_Bool (nat_le l n)) [
  | inl t ↦ let le = leb-true l n t in absurd (omega arith)
  | inr f ↦ ap (λ b. b && rest) f
]

and_low : (l n : ℕ) (rest : Bool) → n < l → (rest && nat_le l n) ≡ false
and_low l n rest low = elim (cases_Bool (nat_le l n)) [
  | inl t ↦ let le = leb-true l n t in absurd (omega arith)
  | inr f ↦ ap (λ b. rest && b) f ∙ and_false rest
]

pub out_of_reach : DifferentAreCountedOnce → OutOfReachIsNeverSanitised
unfolding sanitised
out_of_reach once wall op roll j (inl few) of e =
    let most = few_contributors wall roll j of in
    let least = few.4 in
    rw (e, few.2) (low_and few.0 (contributors roll j) _ (omega arith))
out_of_reach once wall op roll j (inr few) of e =
    let most = few_datasets wall roll j of once in
    let least = few.4 in
    rw (e, few.3) (and_low few.1 (different_datasets roll j) _ (omega arith))
