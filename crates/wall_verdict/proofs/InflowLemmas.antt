-- What ranks bring, rank by rank and from one receiver to the next.
use Rattle.std.proofs.Common.{◌≡◌, ℕ, zero, suc, ◌+◌, ◌-◌, ◌<◌, ◌≤◌, Bool, true, false, ◌||◌, ◌&&◌}
use Rattle.std.proofs.Common.{List, Option, Some, None, find, slice_get, cond, refl, sym, ap, ◌∙◌}
use Rattle.std.proofs.Common.{subst, arith, add-one, inl, inr, ◌⊎◌, ⊎_elim, eqb-true, eq-eqb}
use Rattle.std.proofs.Common.{nat_lt, ltb-true}
use Rattle.std.specs.Prelude.{is_some, unwrap_or, count_by}
use Rattle.std.specs.List.{list_any}
use Rattle.std.specs.Option.{option_and_then}
use Rattle.std.specs.Ordering.{nat_cmp}
use Rattle.std.specs.FinSet.{FinSet, empty, insert, contains, contains-empty}
use Rattle.std.proofs.Math.Bool.{or-false}
use Rattle.std.proofs.lemmas.Bool.{false≢true, cases_Bool, or_cases, or_left, or_right}
use Rattle.std.proofs.lemmas.Bool.{ltb-false}
use Rattle.wall_labels.specs.Rows.{Meet}
use Rattle.wall_policy.specs.Policy.{ChineseWall, least_of}
use Rattle.wall_policy.specs.Rivals.{are_rivals}
use Rattle.wall_policy.proofs.WallPolicyLemmas.{are_rivals-Decides}
use Rattle.wall_rules.specs.Histories.{History, HoldsOneOf, AddsRivals}
use Rattle.wall_rules.specs.Rules.{IsHeldRival}
use Rattle.wall_rules.proofs.WallRulesLemmas.{none-first_rival}
use Rattle.mpi_cart.specs.Grids.{below}
use Rattle.coll_routes.specs.declared.roll.Roll.{Roll}
use Rattle.coll_routes.specs.Rolls.{ranks, places, label_of, routed}
use Rattle.coll_routes.specs.Signatures.{is_neighbourly}
use Rattle.coll_routes.specs.Fit.{IsFit}
use Rattle.coll_routes.proofs.CollRoutesLemmas.{any_at, any_found}
use Rattle.wall_verdict.specs.declared.inflow.Inflow.{Inflow}
use Rattle.wall_verdict.specs.Charges.{contribution, contributed_below, contributors}
use Rattle.wall_verdict.specs.Charges.{different_datasets, least_for, distinct_for, is_at_most}
use Rattle.wall_verdict.specs.Charges.{is_another, is_that, sanitised, contributed, dataset_in}
use Rattle.wall_verdict.specs.Verdicts.{member, meets, meets_rival, offends}
use Rattle.wall_verdict.specs.Inflows.{start_of, end_of, is_alike, is_brought, IsInflow, IsInflowOf}
use Rattle.wall_verdict.specs.Inflows.{IsTakenFromSlots, IsLabelled, IsWhole, Serves}
use Rattle.mpi_cart.proofs.MpiCartLemmas.{any_more, count_more}
use Rattle.wall_verdict.proofs.BelowLemmas.{count_within}
use Rattle.wall_verdict.proofs.ChargeLemmas.{brought_more, brought_same, contains_inserted}
use Rattle.wall_verdict.proofs.ChargeLemmas.{different_more, different_same, different_within}
use Rattle.wall_verdict.proofs.MeetLemmas.{meets_none, sanitised_spares, unsanitised_meets}
use Rattle.wall_verdict.proofs.PairLemmas.{none_below}
use Rattle.wall_verdict.proofs.SlotLemmas.{slots_bring_all, near_reduces_not}
use Rattle.wall_verdict.proofs.SpanLemmas.{nothing_outside, alike_is_plain, comes_alike, end_within}

---- One rank more.

module _ (classes : List ℕ) (f : ℕ → Option ℕ) (n : ℕ) (v w : Inflow)
    (before : IsInflow classes f n v) where
  pub inflow_same : f n ≡ None → w.number ≡ v.number → w.different ≡ v.different →
      w.datasets ≡ v.datasets → w.rivals ≡ v.rivals → IsInflow classes f (n + 1) w
  inflow_same none number different datasets rivals = record {
    number =
        number ∙ before.number
        ∙ (let e : count_by (λ i. is_some (f i)) (below n) ≡ count_by (λ i. is_some (f i)) (below n)
        + 0 = omega arith in e)
        ∙ ap (λ o. count_by (λ i. is_some (f i)) (below n) + cond (is_some o) 1 0) (sym none)
        ∙ sym (count_more (λ i. is_some (f i)) n);
    different = different ∙ different_same f n v.different none before.different;
    datasets =
        λ d. ap (λ s. contains s d) datasets ∙ brought_same f n v.datasets none before.datasets d;
    rivals = λ d e here are. ap (λ s. contains s e) rivals
        ∙ before.rivals d e (sym (ap (λ s. contains s d) datasets) ∙ here) are;
  }

  pub inflow_more : (own : ℕ) → f n ≡ Some own → w.number ≡ v.number + 1 →
      w.different ≡ v.different + cond (contains v.datasets own) 0 1 →
      w.datasets ≡ insert v.datasets own
      → ((e : ℕ) → contains w.rivals e ≡ (contains v.rivals e || are_rivals classes own e)) →
      IsInflow classes f (n + 1) w
  inflow_more own is number different datasets rivals = record {
    number =
        number ∙ ap (λ (k : ℕ). k + 1) before.number
        ∙ ap (λ o. count_by (λ i. is_some (f i)) (below n) + cond (is_some o) 1 0) (sym is)
        ∙ sym (count_more (λ i. is_some (f i)) n);
    different = different
        ∙ different_more f n own v.different v.datasets is before.datasets before.different;
    datasets =
        λ d. ap (λ s. contains s d) datasets ∙ brought_more f n own v.datasets is before.datasets d;
    rivals = λ d e here are.
        rivals e ∙ ⊎_elim
        (λ old. or_left (contains v.rivals e) _ (before.rivals d e old are))
        (λ new. or_right (contains v.rivals e) _
        (ap (λ k. are_rivals classes k e) (eqb-true own d new) ∙ are))
        (or_cases (contains v.datasets d) _ (sym (contains_inserted v.datasets own d)
        ∙ sym (ap (λ s. contains s d) datasets) ∙ here));
  }

pub inflow_none : (classes : List ℕ) (f : ℕ → Option ℕ) (v : Inflow) → v.number ≡ 0 →
    v.different ≡ 0 → v.datasets ≡ empty → IsInflow classes f 0 v
inflow_none classes f v number different datasets = record {
  number = number;
  different = different;
  datasets = λ d. ap (λ s. contains s d) datasets ∙ contains-empty nat_cmp d;
  rivals = λ d e here are. absurd
      (false≢true (sym (contains-empty nat_cmp d) ∙ sym (ap (λ s. contains s d) datasets) ∙ here));
}

-- ranks that bring nothing
inflow_past : (classes : List ℕ) (f : ℕ → Option ℕ) (n m : ℕ) (v : Inflow) →
    ((i : ℕ) → n ≤ i → i < n + m → f i ≡ None)
    → IsInflow classes f n v → IsInflow classes f (n + m) v
inflow_past classes f n zero v none is =
    let e : n ≡ n + zero = omega arith in subst (λ k. IsInflow classes f k v) e is
inflow_past classes f n (suc m) v none is =
    let e : (n + m) + 1 ≡ n + suc m = omega arith in
    subst (λ k. IsInflow classes f k v) e (
    inflow_same classes f (n + m) v v
    (inflow_past classes f n m v (λ i le lt. none i le (omega arith)) is)
    (none (n + m) (omega arith) (omega arith)) refl refl refl refl
    )

inflow_to : (classes : List ℕ) (f : ℕ → Option ℕ) (n end : ℕ) (v : Inflow) → n ≤ end →
    ((i : ℕ) → n ≤ i → i < end → f i ≡ None)
    → IsInflow classes f n v → IsInflow classes f end v
inflow_to classes f n end v le none is =
    let e : n + (end - n) ≡ end = omega arith in
    subst (λ k. IsInflow classes f k v) e
    (inflow_past classes f n (end - n) v (λ i low lt. none i low (omega arith)) is)

any_alike : (p q : ℕ → Bool) (n : ℕ) → ((i : ℕ) → i < n → p i ≡ q i) →
    list_any p (below n) ≡ list_any q (below n)
any_alike p q zero same = refl
any_alike p q (suc n) same = subst (λ m. list_any p (below m) ≡ list_any q (below m)) (add-one n) (
    any_more p n ∙ (λ k. any_alike p q n (λ i lt. same i (omega arith)) k || same n (omega arith) k)
    ∙ sym (any_more q n)
    )

pub count_alike : (p q : ℕ → Bool) (n : ℕ) → ((i : ℕ) → i < n → p i ≡ q i) →
    count_by p (below n) ≡ count_by q (below n)
count_alike p q zero same = refl
count_alike p q (suc n) same =
    subst (λ m. count_by p (below m) ≡ count_by q (below m)) (add-one n) (
    count_more p n
    ∙ (λ k. count_alike p q n (λ i lt. same i (omega arith)) k
    + cond (same n (omega arith) k) 1 0) ∙ sym (count_more q n)
    )

-- ranks that bring the same to another receiver
inflow_alike : (classes : List ℕ) (f g : ℕ → Option ℕ) (n : ℕ) (v : Inflow) →
    ((i : ℕ) → i < n → f i ≡ g i)
    → IsInflow classes f n v → IsInflow classes g n v
inflow_alike classes f g n v same is = record {
  number = is.number
      ∙ count_alike (λ i. is_some (f i)) (λ i. is_some (g i)) n (λ i lt. ap is_some (same i lt));
  different = is.different
      ∙ count_alike (λ i. is_another (λ d. is_brought f i d) (f i))
      (λ i. is_another (λ d. is_brought g i d) (g i)) n (
      λ i lt k. is_another (λ d. any_alike (λ m. is_that (f m) d) (λ m. is_that (g m) d) i
      (λ m below. ap (λ o. is_that o d) (same m (omega arith))) k) (same i lt k)
      );
  datasets = λ d. is.datasets d
      ∙ any_alike (λ i. is_that (f i) d) (λ i. is_that (g i) d) n
      (λ i lt. ap (λ o. is_that o d) (same i lt));
  rivals = is.rivals;
}

---- From one receiver to the next.

-- before the first rank that reaches a receiver
pub inflow_starts : (classes : List ℕ) (roll : Roll) (j : ℕ) (v : Inflow) →
    start_of roll.sig roll.shape.size ≤ roll.shape.size
    → v.ranks ≡ start_of roll.sig roll.shape.size → v.number ≡ 0 → v.different ≡ 0 →
    v.datasets ≡ empty → IsInflowOf classes roll j v
inflow_starts classes roll j v within at number different datasets =
    inflow_to classes (λ i. contribution roll i j) 0 v.ranks v (omega arith) (
    λ i low lt. nothing_outside roll i j (omega arith) (inl (omega arith))
    ) (inflow_none classes (λ i. contribution roll i j) v number different datasets)

-- after the last rank that reaches it
pub inflow_whole : (classes : List ℕ) (roll : Roll) (j : ℕ) (v : Inflow) → j < roll.shape.size
    → v.ranks ≡ end_of roll.sig roll.shape.size j → IsInflowOf classes roll j v →
    IsWhole classes roll j v
inflow_whole classes roll j v h at is =
    let le : v.ranks ≤ roll.shape.size = omega (arith, end_within roll.sig roll.shape.size j h) in
    let all = inflow_to classes (λ i. contribution roll i j) v.ranks roll.shape.size v le (
    λ i low lt. nothing_outside roll i j lt (inr (omega arith))
    ) is in
    record {
      number = λ plain. all.number;
      different = λ plain. all.different;
      datasets = all.datasets;
      rivals = all.rivals;
    }

pub inflow_serves : (classes : List ℕ) (roll : Roll) (j : ℕ) (v : Inflow) → IsFit roll →
    j < roll.shape.size
    → v.ranks ≡ end_of roll.sig roll.shape.size j → IsInflowOf classes roll j v →
    Serves classes roll v
inflow_serves classes roll j v fit h at is alike k hk reach =
    let le : v.ranks ≤ roll.shape.size = omega (arith, end_within roll.sig roll.shape.size j h) in
    inflow_alike classes (λ i. contribution roll i j) (λ i. contribution roll i k) v.ranks v (
    λ i lt. comes_alike roll i j k fit alike (omega arith) h hk (omega arith) (omega arith)
    ) is

-- after the last slot of the receiver, where the kind goes between neighbours
pub slots_whole : (classes : List ℕ) (roll : Roll) (j : ℕ) (v : Inflow) → IsFit roll →
    is_neighbourly roll.sig ≡ true
    → IsTakenFromSlots classes roll j (places roll j) v → IsWhole classes roll j v
slots_whole classes roll j v fit near is = record {
  number = λ plain. absurd (false≢true (sym plain ∙ near));
  different = λ plain. absurd (false≢true (sym plain ∙ near));
  datasets = λ d. is.datasets d ∙ slots_bring_all roll j d fit near;
  rivals = is.rivals;
}

pub slots_serve : (classes : List ℕ) (roll : Roll) (v : Inflow) →
    is_neighbourly roll.sig ≡ true → Serves classes roll v
slots_serve classes roll v near alike =
    absurd (false≢true (sym (alike_is_plain roll.sig alike) ∙ near))

pub nothing_serves : (classes : List ℕ) (roll : Roll) (v : Inflow) → v.ranks ≡ 0 → v.number ≡ 0 →
    v.different ≡ 0 → v.datasets ≡ empty → Serves classes roll v
nothing_serves classes roll v at number different datasets alike k lt reach =
    subst (λ n. IsInflow classes (λ i. contribution roll i k) n v) (sym at)
    (inflow_none classes (λ i. contribution roll i k) v number different datasets)

pub inflow_kept : (classes : List ℕ) (roll : Roll) (j : ℕ) (v : Inflow) → Serves classes roll v →
    is_alike roll.sig ≡ true → j < roll.shape.size
    → v.ranks ≤ end_of roll.sig roll.shape.size j → IsInflowOf classes roll j v
inflow_kept classes roll j v serves alike h reach = serves alike j h reach

-- so many of the ranks below n bring something
pub few_bring : (classes : List ℕ) (f : ℕ → Option ℕ) (n : ℕ) (v : Inflow) →
    IsInflow classes f n v → v.number ≤ n
few_bring classes f n v is = omega (arith, is.number, count_within (λ i. is_some (f i)) n)

pub few_differ : (classes : List ℕ) (f : ℕ → Option ℕ) (n : ℕ) (v : Inflow) →
    IsInflow classes f n v → v.different ≤ n
few_differ classes f n v is = omega (arith, is.different, different_within f n)

---- A receiver that nothing of it meets.

-- where the set has all that comes to receiver j, and the other one all rivals of it
module _ (classes : List ℕ) (has : History) (roll : Roll) (j p : ℕ) (v : Inflow)
    (at : slice_get roll.members j ≡ Some p)
    (datasets : (d : ℕ) → contributed roll j d ≡ true → contains v.datasets d ≡ true)
    (rivals : (d e : ℕ) → contains v.datasets d ≡ true → are_rivals classes d e ≡ true
    → contains v.rivals e ≡ true)
    (unheld : ¬ (HoldsOneOf (has p) v.rivals)) (apart : ¬ (Meet v.datasets v.rivals)) where
  abbrev before : ℕ → ℕ → Bool
  before i e = has (member roll j) e || contributed_below roll j i e

  brought : (i d : ℕ) → i < roll.shape.size → contribution roll i j ≡ Some d →
      contains v.datasets d ≡ true
  brought i d lt is = datasets d (
      any_at (λ k. is_that (contribution roll k j) d) 0 roll.shape.size i (omega arith)
      (omega arith) (ap (λ o. is_that o d) is ∙ eq-eqb d d refl))

  earlier : (i e : ℕ) → i < roll.shape.size → contributed_below roll j i e ≡ true →
      contains v.datasets e ≡ true
  earlier i e lt h =
      let found = any_found (λ k. is_that (contribution roll k j) e) 0 i h in
      datasets e (any_at (λ k. is_that (contribution roll k j) e) 0 roll.shape.size found.0
      (omega arith) (omega (arith, found.1)) found.2)

  held : (i d e : ℕ) → i < roll.shape.size → contribution roll i j ≡ Some d →
      ¬ (IsHeldRival classes (before i) d e)
  held i d e lt is h =
      let rival = rivals d e (brought i d lt is) ((are_rivals-Decides classes d e).1 h.1) in
      ⊎_elim
      (λ old. unheld (e, ap (λ q. has q e) (sym (ap (λ o. unwrap_or o 0) at)) ∙ old, rival))
      (λ new. apart (e, earlier i e lt new, rival))
      (or_cases (has (member roll j) e) _ h.0)

  spared : (i : ℕ) → i < roll.shape.size → (o : Option ℕ) → contribution roll i j ≡ o →
      meets classes has roll j i ≡ false
  spared i lt None is = meets_none classes has roll j i is
  spared i lt (Some d) is =
      ap (λ o. meets_rival classes (before i) o) is
      ∙ ap is_some (none-first_rival classes (before i) d (λ e h. held i d e lt is h))

  spared_all : find (meets classes has roll j) (ranks roll) ≡ None
  spared_all = none_below (meets classes has roll j)
      roll.shape.size (λ i lt. spared i lt (contribution roll i j) refl)

pub clear_spares : (classes : List ℕ) (has : History) (roll : Roll) (j p : ℕ) (v : Inflow) →
    slice_get roll.members j ≡ Some p
    → IsWhole classes roll j v → ¬ (HoldsOneOf (has p) v.rivals) → ¬ (Meet v.datasets v.rivals)
    → find (meets classes has roll j) (ranks roll) ≡ None
clear_spares classes has roll j p v at whole unheld apart =
    spared_all classes has roll j p v at (λ d h. whole.datasets d ∙ h) whole.rivals unheld apart

---- The labels of all ranks, wherever their elements go.

if_that : (b : Bool) (o : Option ℕ) (d : ℕ) → is_that (cond b o None) d ≡ true →
    is_that o d ≡ true
if_that true o d h = h
if_that false o d h = absurd (false≢true h)

-- what comes to a receiver is the label of a rank
pub labels_have : (classes : List ℕ) (roll : Roll) (j : ℕ) (v : Inflow) →
    IsLabelled classes roll roll.shape.size v → (d : ℕ) → contributed roll j d ≡ true →
    contains v.datasets d ≡ true
labels_have classes roll j v is d h =
    let found = any_found (λ i. is_that (contribution roll i j) d) 0 roll.shape.size h in
    is.datasets d
    ∙ any_at (λ i. is_that (dataset_in (label_of roll i)) d) 0 roll.shape.size found.0
    (omega arith) (omega (arith, found.1))
    (if_that (routed roll found.0 j) (dataset_in (label_of roll found.0)) d found.2)

pub labels_spare : (classes : List ℕ) (has : History) (roll : Roll) (j p : ℕ) (v : Inflow) →
    slice_get roll.members j ≡ Some p → IsLabelled classes roll roll.shape.size v →
    ¬ (HoldsOneOf (has p) v.rivals) → ¬ (Meet v.datasets v.rivals)
    → find (meets classes has roll j) (ranks roll) ≡ None
labels_spare classes has roll j p v at is unheld apart =
    spared_all classes has roll j p v at (labels_have classes roll j v is) is.rivals unheld apart

---- A receiver that no rank reaches.

lt_or_le : (i n : ℕ) → (i < n) ⊎ (n ≤ i)
lt_or_le i n = ⊎_elim (λ t. inl (ltb-true i n t)) (λ f. inr (ltb-false i n f))
    (cases_Bool (nat_lt i n))

module _ (roll : Roll) (j : ℕ)
    (end : end_of roll.sig roll.shape.size j ≤ start_of roll.sig roll.shape.size) where
  nothing_comes : (i : ℕ) → i < roll.shape.size → contribution roll i j ≡ None
  nothing_comes i lt = nothing_outside roll i j lt (⊎_elim (λ low. inl low)
      (λ high. inr (omega (arith, end, high))) (lt_or_le i (start_of roll.sig roll.shape.size)))

  pub unreached_meets : (classes : List ℕ) (has : History) →
      find (meets classes has roll j) (ranks roll) ≡ None
  unreached_meets classes has = none_below (meets classes has roll j) roll.shape.size
      (λ i lt. meets_none classes has roll j i (nothing_comes i lt))

  pub unreached_gets : (d : ℕ) → contributed roll j d ≡ true → ⊥
  unreached_gets d h =
      let found = any_found (λ i. is_that (contribution roll i j) d) 0 roll.shape.size h in
      false≢true (sym (ap (λ o. is_that o d) (nothing_comes found.0 (omega (arith, found.1))))
      ∙ found.2)

---- A receiver that nothing offends.

-- where nothing meets a rival, nothing offends
pub clear_offends : (wall : ChineseWall) (has : History) (roll : Roll) (j : ℕ) →
    find (meets wall.classes has roll j) (ranks roll) ≡ None
    → None ≡ find (offends wall has roll j) (ranks roll)
clear_offends wall has roll j none = ⊎_elim
    (λ t. sanitised_spares wall has roll j t)
    (λ f. sym none ∙ unsanitised_meets wall has roll j f)
    (cases_Bool (sanitised wall roll j))

-- The test of both numbers. Between neighbours it fails whatever they are.
pub enough_is : (wall : ChineseWall) (roll : Roll) (j n m : ℕ)
    → (is_neighbourly roll.sig ≡ false → n ≡ contributors roll j) →
    (is_neighbourly roll.sig ≡ false → m ≡ different_datasets roll j)
    → (is_at_most (least_for wall roll) n && is_at_most (distinct_for wall roll) m)
    ≡ sanitised wall roll j
unfolding sanitised
enough_is wall roll j n m number different = ⊎_elim
    (λ near.
    let none : least_for wall roll ≡ None = ap (λ o. option_and_then (least_of wall) o)
    (near_reduces_not roll.sig near) in
    ap (λ o. is_at_most o n && is_at_most (distinct_for wall roll) m) none
    ∙ sym (ap (λ o. is_at_most o (contributors roll j)
    && is_at_most (distinct_for wall roll) (different_datasets roll j)) none))
    (λ plain k. is_at_most (least_for wall roll) (number plain k)
    && is_at_most (distinct_for wall roll) (different plain k))
    (cases_Bool (is_neighbourly roll.sig))

---- A dataset that is there already.

or_true : (b : Bool) → (b || true) ≡ true
or_true true = refl
or_true false = refl

pub rivals_again : (classes : List ℕ) (s r : FinSet nat_cmp) (d : ℕ) → contains s d ≡ true →
    ((d e : ℕ) → contains s d ≡ true → are_rivals classes d e ≡ true → contains r e ≡ true) →
    AddsRivals classes d r r
rivals_again classes s r d is rivals e = ⊎_elim
    (λ t. rivals d e is t ∙ sym (ap (λ b. contains r e || b) t ∙ or_true (contains r e)))
    (λ f. sym (ap (λ b. contains r e || b) f ∙ or-false (contains r e)))
    (cases_Bool (are_rivals classes d e))
