-- Members, ranks and distinctness, of lists of numbers.
use Rattle.std.proofs.Common.{◌≡◌, ◌≢◌, ℕ, zero, suc, ◌+◌, ◌<◌, ◌≤◌, ◌||◌, Bool, true, false, not}
use Rattle.std.proofs.Common.{◌&&◌, cond, List, [], ◌∷◌, ◌++◌, length, Some, None, refl, sym, ap}
use Rattle.std.proofs.Common.{subst, ◌∙◌, arith, eqb, ltb, inl, inr, length-append}
use Rattle.std.proofs.lemmas.Bool.Decides.{nat_tests}
use Rattle.std.proofs.lemmas.Bool.{ne_eqb, eq-eqb, eqb-false, ltb-true, lt-ltb, le-ltb, cases_eq}
use Rattle.std.proofs.lemmas.Bool.{cases_Bool, and_parts, not-true, or_parts, both_ways}
use Rattle.std.proofs.lemmas.Bool.{false_from_ne_true}
use Rattle.std.proofs.lemmas.Map.Steps.{length-le_from_distinct_below}
use Rattle.std.proofs.lemmas.List.Elements.{All-head, All-tail, All-nil, All-cons, All-filter}
use Rattle.std.proofs.lemmas.List.Elements.{All-append}
use Rattle.std.specs.List.{list_any, list_all, position_or_len, IsDistinct, AllByRecursion, All}
use Rattle.std.specs.List.{filter, filter_map, cons_option, slice_get}
use Rattle.std.specs.Prelude.{is_some}
use Rattle.wall_labels.specs.declared.ids.TheConstants.{PROCESS_LIMIT}
use Rattle.mpi_group.specs.Groups.{is_member, is_distinct, rank_in, are_ranks, ranks_fault, IsGroup}
use Rattle.mpi_group.specs.Groups.{union_of, intersection_of, difference_of, members_at}
use Rattle.mpi_group.specs.Groups.{members_apart_from, group_compare}
use Rattle.std.specs.Str.{bytes_eq}
use Rattle.std.specs.Cmp.Lexicographic.{bytes_decides}
use Rattle.mpi_group.specs.declared.compare.GroupCompare.TheVariants.{Identical, Similar, Unequal}
use Rattle.mpi_group.specs.declared.fault.GroupFault.TheVariants.{BadRank, RepeatedRank}

abbrev place : List ℕ → ℕ → ℕ
place xs q = position_or_len (λ m. eqb m q) xs

-- a process that isn't there has no place, and one that is has one
place_absent : (xs : List ℕ) (q : ℕ) → is_member xs q ≡ false → place xs q ≡ length xs
place_absent [] q h = refl
place_absent (x ∷ xs) q h =
    let parts : (eqb x q ≡ false) × (is_member xs q ≡ false) = or_parts (eqb x q) (is_member xs q) h
    in
    let rest : place xs q ≡ length xs = place_absent xs q parts.1 in
    rw parts.0 (omega (arith, rest))

place_member : (xs : List ℕ) (q : ℕ) → is_member xs q ≡ true → place xs q < length xs
place_member [] q h = absurd (both_ways false refl h)
place_member (x ∷ xs) q h =
    elim (cases_Bool (eqb x q)) as (λ _. place (x ∷ xs) q < length (x ∷ xs)) [
      | inl e ↦ rw e (omega arith)
      | inr e
          ↦
          let there : is_member xs q ≡ true = rw e at h in
          let rest = place_member xs q there in rw e (omega arith)
    ]

pub rank_absent : (xs : List ℕ) (q : ℕ) → is_member xs q ≡ false → rank_in xs q ≡ None
rank_absent xs q h =
    let at_end : place xs q ≡ length xs = place_absent xs q h in
    rw (le-ltb (place xs q) (length xs) (omega arith)) refl

pub rank_present : (xs : List ℕ) (q : ℕ) → is_member xs q ≡ true → rank_in xs q ≡ Some (place xs q)
rank_present xs q h = rw (lt-ltb (place xs q) (length xs) (place_member xs q h)) refl

pub absent_rank : (xs : List ℕ) (q : ℕ) → rank_in xs q ≡ None → is_member xs q ≡ false
absent_rank xs q h =
    elim (cases_Bool (is_member xs q)) as (λ _. is_member xs q ≡ false) [
      | inl e ↦ let there = rank_present xs q e in cc
      | inr e ↦ e
    ]

pub is_member-append : (xs ys : List ℕ) (q : ℕ) →
    is_member (xs ++ ys) q ≡ (is_member xs q || is_member ys q)
is_member-append [] ys q = refl
is_member-append (x ∷ xs) ys q = rw (is_member-append xs ys q) (elim (eqb x q) as
    (λ b. (b || (is_member xs q || is_member ys q)) ≡ ((b || is_member xs q) || is_member ys q))
    [ true ↦ refl | false ↦ refl ])

place_push : (xs : List ℕ) (x q : ℕ) →
    place (xs ++ x ∷ []) q
    ≡ cond (is_member xs q) (place xs q) (cond (eqb x q) (length xs) (length xs + 1))
place_push [] x q = elim (eqb x q) as (λ b. ◌≡◌ {A = ℕ} (cond (not b) 1 0) (cond b 0 1))
    [ true ↦ refl | false ↦ refl ]
place_push (y ∷ xs) x q =
    let rest = place_push xs x q in
    elim (cases_Bool (eqb y q)) as (λ _. place (y ∷ xs ++ x ∷ []) q
    ≡ cond (is_member (y ∷ xs) q) (place (y ∷ xs) q)
    (cond (eqb x q) (length (y ∷ xs)) (length (y ∷ xs) + 1))) [
      | inl e ↦ rw e refl
      | inr e ↦ rw (e, rest) (grind (arith, nat_tests))
    ]

-- one more member, who wasn't there
pub rank_pushed : (xs : List ℕ) (x : ℕ) → is_member xs x ≡ false →
    rank_in (xs ++ x ∷ []) x ≡ Some (length xs)
rank_pushed xs x h =
    let at_end : place (xs ++ x ∷ []) x ≡ length xs = place_push xs x x ∙ rw (h, eq-eqb x x refl)
    refl in
    rw at_end (rw
    (lt-ltb (length xs) (length (xs ++ x ∷ [])) (omega (arith, length-append xs (x ∷ []))))
    refl)

pub rank_others : (xs : List ℕ) (x q : ℕ) → x ≢ q → rank_in (xs ++ x ∷ []) q ≡ rank_in xs q
rank_others xs x q other =
    elim (cases_Bool (is_member xs q)) as (λ _. rank_in (xs ++ x ∷ []) q ≡ rank_in xs q) [
      | inl e ↦
          let here : place (xs ++ x ∷ []) q ≡ place xs q = place_push xs x q ∙ rw e refl in
          let within = place_member xs q e in
          let long = length-append xs (x ∷ []) in
          rank_present (xs ++ x ∷ []) q (is_member-append xs (x ∷ []) q ∙ rw e refl)
          ∙ ap (λ (n : ℕ). Some n) here ∙ sym (rank_present xs q e)
      | inr e
          ↦ rank_absent (xs ++ x ∷ []) q
          (is_member-append xs (x ∷ []) q ∙ rw (e, ne_eqb x q other) refl)
          ∙ sym (rank_absent xs q e)
    ]

-- distinctness
pub is_distinct-push : (xs : List ℕ) (x : ℕ) → is_distinct xs ≡ true → is_member xs x ≡ false →
    is_distinct (xs ++ x ∷ []) ≡ true
is_distinct-push [] x d h = refl
is_distinct-push (y ∷ xs) x d h =
    let parts = and_parts (not (is_member xs y)) (is_distinct xs) d in
    let apart : (eqb y x ≡ false) × (is_member xs x ≡ false) = or_parts (eqb y x) (is_member xs x) h
    in
    let rest : is_distinct (xs ++ x ∷ []) ≡ true = is_distinct-push xs x parts.1 apart.1 in
    let other : eqb x y ≡ false = grind (arith, nat_tests) in
    let none : is_member (xs ++ x ∷ []) y ≡ false = is_member-append xs (x ∷ []) y ∙ rw
    (not-true _ parts.0, other) refl in
    rw (none, rest) refl

-- where a prefix of a list has a member twice, the list isn't distinct
pub twice : (xs : List ℕ) (x : ℕ) (ys : List ℕ) → is_member xs x ≡ true →
    is_distinct (xs ++ x ∷ ys) ≡ false
twice [] x ys h = absurd (both_ways false refl h)
twice (y ∷ xs) x ys h =
    elim (cases_eq y x) as (λ _. is_distinct (y ∷ xs ++ x ∷ ys) ≡ false) [
      | inl e
          ↦ rw (e, is_member-append xs (x ∷ ys) x, eq-eqb x x refl) (elim (is_member xs x) as
          (λ b. (not (b || true) && is_distinct (xs ++ x ∷ ys)) ≡ false)
          [ true ↦ refl | false ↦ refl ])
      | inr ne ↦
          let there : is_member xs x ≡ true = rw (ne_eqb y x ne) at h in
          rw (twice xs x ys there) (elim (is_member (xs ++ x ∷ ys) y) as
          (λ b. (not b && false) ≡ false) [ true ↦ refl | false ↦ refl ])
    ]

-- std's word
any_flipped : (xs : List ℕ) (q : ℕ) → list_any (eqb q) xs ≡ is_member xs q
any_flipped [] q = refl
any_flipped (x ∷ xs) q =
    rw (any_flipped xs q) (ap (λ b. b || is_member xs q) (grind (arith, nat_tests)))

all_apart : (xs : List ℕ) (x : ℕ) → is_member xs x ≡ false →
    AllByRecursion (λ y. eqb x y ≡ false) xs
all_apart [] x h = tt
all_apart (y ∷ xs) x h =
    let apart : (eqb y x ≡ false) × (is_member xs x ≡ false) = or_parts (eqb y x) (is_member xs x) h
    in
    (grind (arith, nat_tests), all_apart xs x apart.1)

pub std_distinct : (xs : List ℕ) → is_distinct xs ≡ true → IsDistinct eqb xs
unfolding IsDistinct
std_distinct [] d = tt
std_distinct (x ∷ xs) d =
    let parts = and_parts (not (is_member xs x)) (is_distinct xs) d in
    (all_apart xs x (not-true _ parts.0), std_distinct xs parts.1)

pub member_below : (xs : List ℕ) (n q : ℕ) → All (λ p. p < n) xs → is_member xs q ≡ true → q < n
member_below [] n q all h = absurd (both_ways false refl h)
member_below (x ∷ xs) n q all h =
    elim (cases_eq x q) as (λ _. q < n) [
      | inl e ↦ rw (← e) (All-head (λ p. p < n) x xs all)
      | inr ne
          ↦
          let there : is_member xs q ≡ true = rw (ne_eqb x q ne) at h in
          member_below xs n q (All-tail (λ p. p < n) x xs all) there
    ]

-- distinct numbers below n are at most n
pub length_distinct : (xs : List ℕ) (n : ℕ) → is_distinct xs ≡ true → All (λ p. p < n) xs →
    length xs ≤ n
length_distinct xs n d below = length-le_from_distinct_below xs n (std_distinct xs d)
    (λ q h. member_below xs n q below (sym (any_flipped xs q) ∙ h))

-- a rank is there exactly for a member
pub is_some-rank_in : (xs : List ℕ) (q : ℕ) → is_some (rank_in xs q) ≡ is_member xs q
is_some-rank_in xs q =
    elim (cases_Bool (is_member xs q)) as (λ _. is_some (rank_in xs q) ≡ is_member xs q) [
      | inl e ↦ rw (rank_present xs q e, e) refl
      | inr e ↦ rw (rank_absent xs q e, e) refl
    ]

-- a filter keeps no more than was there
pub absent-filter : (keep : ℕ → Bool) (xs : List ℕ) (q : ℕ) → is_member xs q ≡ false →
    is_member (filter keep xs) q ≡ false
absent-filter keep [] q h = refl
absent-filter keep (x ∷ xs) q h =
    let apart : (eqb x q ≡ false) × (is_member xs q ≡ false) = or_parts (eqb x q) (is_member xs q) h
    in
    let rest : is_member (filter keep xs) q ≡ false = absent-filter keep xs q apart.1 in
    elim (keep x) as (λ b. is_member (cond b (x ∷ filter keep xs) (filter keep xs)) q ≡ false)
    [ true ↦ rw (apart.0, rest) refl | false ↦ rest ]

pub is_distinct-filter : (keep : ℕ → Bool) (xs : List ℕ) → is_distinct xs ≡ true →
    is_distinct (filter keep xs) ≡ true
is_distinct-filter keep [] d = refl
is_distinct-filter keep (x ∷ xs) d =
    let parts = and_parts (not (is_member xs x)) (is_distinct xs) d in
    let rest : is_distinct (filter keep xs) ≡ true = is_distinct-filter keep xs parts.1 in
    let none : is_member (filter keep xs) x ≡ false = absent-filter keep xs x (not-true _ parts.0)
    in
    elim (keep x) as (λ b. is_distinct (cond b (x ∷ filter keep xs) (filter keep xs)) ≡ true)
    [ true ↦ rw (none, rest) refl | false ↦ rest ]

-- two distinct lists of which the second has no member of the first
pub is_distinct-append : (xs ys : List ℕ) → is_distinct xs ≡ true → is_distinct ys ≡ true →
    ((q : ℕ) → is_member xs q ≡ true → is_member ys q ≡ false) → is_distinct (xs ++ ys) ≡ true
is_distinct-append [] ys d e apart = e
is_distinct-append (x ∷ xs) ys d e apart =
    let parts = and_parts (not (is_member xs x)) (is_distinct xs) d in
    let rest : is_distinct (xs ++ ys) ≡ true = is_distinct-append xs ys parts.1 e
    (λ q h. apart q
    (rw h (elim (eqb x q) as (λ b. (b || true) ≡ true) [ true ↦ refl | false ↦ refl ]))) in
    let other : is_member ys x ≡ false = apart x (rw (eq-eqb x x refl) refl) in
    rw (is_member-append xs ys x, not-true _ parts.0, other, rest) refl

pub filter-drops : (keep : ℕ → Bool) (xs : List ℕ) (q : ℕ) → keep q ≡ false →
    is_member (filter keep xs) q ≡ false
filter-drops keep [] q h = refl
filter-drops keep (x ∷ xs) q h =
    let rest : is_member (filter keep xs) q ≡ false = filter-drops keep xs q h in
    elim (cases_Bool (keep x)) as (λ _. is_member (filter keep (x ∷ xs)) q ≡ false) [
      | inl e
          ↦
          let other : eqb x q ≡ false = ne_eqb x q
          (λ same. let bad : keep x ≡ false = rw same h in cc) in
          rw (e, other, rest) refl
      | inr e ↦ rw e rest
    ]

-- members at ranks
pub slice_get-member : (xs : List ℕ) (i p : ℕ) → slice_get xs i ≡ Some p → is_member xs p ≡ true
slice_get-member [] i p h = cc
slice_get-member (x ∷ xs) zero p h = let same : x ≡ p = cc in rw (eq-eqb x p same) refl
slice_get-member (x ∷ xs) (suc i) p h = rw (slice_get-member xs i p h)
    (elim (eqb x p) as (λ b. (b || true) ≡ true) [ true ↦ refl | false ↦ refl ])

pub one_place : (xs : List ℕ) (i j p : ℕ) → is_distinct xs ≡ true → slice_get xs i ≡ Some p →
    slice_get xs j ≡ Some p → i ≡ j
one_place [] i j p d h k = cc
one_place (x ∷ xs) zero zero p d h k = refl
one_place (x ∷ xs) zero (suc j) p d h k =
    let parts = and_parts (not (is_member xs x)) (is_distinct xs) d in
    let same : x ≡ p = cc in
    let there : is_member xs x ≡ true = rw same (slice_get-member xs j p k) in
    absurd (both_ways (is_member xs x) (not-true _ parts.0) there)
one_place (x ∷ xs) (suc i) zero p d h k =
    let parts = and_parts (not (is_member xs x)) (is_distinct xs) d in
    let same : x ≡ p = cc in
    let there : is_member xs x ≡ true = rw same (slice_get-member xs i p h) in
    absurd (both_ways (is_member xs x) (not-true _ parts.0) there)
one_place (x ∷ xs) (suc i) (suc j) p d h k =
    let parts = and_parts (not (is_member xs x)) (is_distinct xs) d in
    ap suc (one_place xs i j p parts.1 h k)

absent-at : (xs : List ℕ) (rs : List ℕ) (r p : ℕ) → is_distinct xs ≡ true →
    slice_get xs r ≡ Some p → is_member rs r ≡ false →
    is_member (filter_map (slice_get xs) rs) p ≡ false
absent-at xs [] r p d h none = refl
absent-at xs (s ∷ rs) r p d h none =
    let apart : (eqb s r ≡ false) × (is_member rs r ≡ false) = or_parts (eqb s r) (is_member rs r)
    none in
    let rest : is_member (filter_map (slice_get xs) rs) p ≡ false = absent-at xs rs r p d h apart.1
    in
    elim (slice_get xs s) as (λ o.
    slice_get xs s ≡ o → is_member (cons_option o (filter_map (slice_get xs) rs)) p ≡ false) [
      | None ↦ λ _. rest
      | Some q ↦ λ e.
          let other : eqb q p ≡ false = ne_eqb q p (λ same. let k : slice_get xs s ≡ Some p = e ∙ ap
          (λ (n : ℕ). Some n) same in
          let i = one_place xs s r p d k h in absurd (eqb-false s r apart.0 i)) in
          rw (other, rest) refl
    ] refl

pub is_distinct-at : (xs : List ℕ) (rs : List ℕ) → is_distinct xs ≡ true → is_distinct rs ≡ true →
    is_distinct (filter_map (slice_get xs) rs) ≡ true
is_distinct-at xs [] d e = refl
is_distinct-at xs (r ∷ rs) d e =
    let parts = and_parts (not (is_member rs r)) (is_distinct rs) e in
    let rest : is_distinct (filter_map (slice_get xs) rs) ≡ true = is_distinct-at xs rs d parts.1 in
    elim (slice_get xs r) as (λ o.
    slice_get xs r ≡ o → is_distinct (cons_option o (filter_map (slice_get xs) rs)) ≡ true) [
      | None ↦ λ _. rest
      | Some p ↦ λ h. rw (absent-at xs rs r p d h (not-true _ parts.0), rest) refl
    ] refl

pub All-slice_get : (P : ℕ → Type 0) (xs : List ℕ) (i p : ℕ) → All P xs → slice_get xs i ≡ Some p →
    P p
All-slice_get P [] i p all h = cc
All-slice_get P (x ∷ xs) zero p all h = let same : x ≡ p = cc in subst P same (All-head P x xs all)
All-slice_get P (x ∷ xs) (suc i) p all h = All-slice_get P xs i p (All-tail P x xs all) h

pub All-at : (P : ℕ → Type 0) (xs : List ℕ) (rs : List ℕ) → All P xs →
    All P (filter_map (slice_get xs) rs)
All-at P xs [] all = All-nil P
All-at P xs (r ∷ rs) all =
    let rest = All-at P xs rs all in
    elim (slice_get xs r) as
    (λ o. slice_get xs r ≡ o → All P (cons_option o (filter_map (slice_get xs) rs))) [
      | None ↦ λ _. rest
      | Some p
          ↦ λ h. All-cons P p (filter_map (slice_get xs) rs) (All-slice_get P xs r p all h) rest
    ] refl

-- groups of groups
pub IsGroup-filter : (keep : ℕ → Bool) (xs : List ℕ) → IsGroup xs → IsGroup (filter keep xs)
IsGroup-filter keep xs group = record {
  distinct = is_distinct-filter keep xs group.distinct;
  below = All-filter keep (λ p. p < PROCESS_LIMIT) xs group.below;
}

pub IsGroup-union_of : (xs ys : List ℕ) → IsGroup xs → IsGroup ys → IsGroup (union_of xs ys)
unfolding union_of
IsGroup-union_of xs ys one two =
    let new = IsGroup-filter (λ p. not (is_member xs p)) ys two in
    record {
      distinct = is_distinct-append xs (filter (λ p. not (is_member xs p)) ys) one.distinct
          new.distinct (λ q h. filter-drops (λ p. not (is_member xs p)) ys q (ap not h));
      below = All-append (λ p. p < PROCESS_LIMIT) xs (filter (λ p. not (is_member xs p)) ys)
          one.below new.below;
    }

pub IsGroup-intersection_of : (xs ys : List ℕ) → IsGroup xs → IsGroup (intersection_of xs ys)
unfolding intersection_of
IsGroup-intersection_of xs ys group = IsGroup-filter (λ p. is_member ys p) xs group

pub IsGroup-difference_of : (xs ys : List ℕ) → IsGroup xs → IsGroup (difference_of xs ys)
unfolding difference_of
IsGroup-difference_of xs ys group = IsGroup-filter (λ p. not (is_member ys p)) xs group

pub IsGroup-members_at : (xs rs : List ℕ) → IsGroup xs → is_distinct rs ≡ true →
    IsGroup (members_at xs rs)
unfolding members_at
IsGroup-members_at xs rs group d = record {
  distinct = is_distinct-at xs rs group.distinct d;
  below = All-at (λ p. p < PROCESS_LIMIT) xs rs group.below;
}

pub IsGroup-members_apart_from : (xs rs : List ℕ) → IsGroup xs → IsGroup (members_apart_from xs rs)
unfolding members_apart_from
IsGroup-members_apart_from xs rs group = IsGroup-difference_of xs (members_at xs rs) group

-- comparisons, from the tests that the code makes
pub compare-same : (xs ys : List ℕ) → xs ≡ ys → Identical ≡ group_compare xs ys
unfolding group_compare
compare-same xs ys same =
    let alike : bytes_eq xs ys ≡ true = (bytes_decides xs ys).1 same in rw alike refl

pub compare-similar : (xs ys : List ℕ) → (xs ≡ ys → ⊥) → list_all (is_member ys) xs ≡ true →
    list_all (is_member xs) ys ≡ true → Similar ≡ group_compare xs ys
unfolding group_compare
compare-similar xs ys other one two = let apart : bytes_eq xs ys ≡ false = false_from_ne_true _
    (λ yes. other ((bytes_decides xs ys).0 yes)) in rw (apart, one, two) refl

pub compare-unequal : (xs ys : List ℕ) → (xs ≡ ys → ⊥) →
    (list_all (is_member ys) xs && list_all (is_member xs) ys) ≡ false →
    Unequal ≡ group_compare xs ys
unfolding group_compare
compare-unequal xs ys other some = let apart : bytes_eq xs ys ≡ false = false_from_ne_true _
    (λ yes. other ((bytes_decides xs ys).0 yes)) in rw (apart, some) refl

-- ranks with nothing wrong
pub ranks_within : (size : ℕ) (ranks : List ℕ) → are_ranks size ranks ≡ true →
    All (λ rank. rank < size) ranks
ranks_within size [] h = All-nil (λ rank. rank < size)
ranks_within size (r ∷ rs) h =
    let parts = and_parts (ltb r size) (are_ranks size rs) h in
    All-cons (λ rank. rank < size) r rs (ltb-true r size parts.0) (ranks_within size rs parts.1)

pub no_fault : (size : ℕ) (ranks : List ℕ) → ranks_fault size ranks ≡ None →
    (are_ranks size ranks ≡ true) × (is_distinct ranks ≡ true)
no_fault size ranks h =
    elim (cases_Bool (are_ranks size ranks)) as
    (λ _. (are_ranks size ranks ≡ true) × (is_distinct ranks ≡ true)) [
      | inl e
          ↦ elim (cases_Bool (is_distinct ranks)) as
          (λ _. (are_ranks size ranks ≡ true) × (is_distinct ranks ≡ true)) [
            | inl f ↦ (e, f)
            | inr f ↦ let bad : Some RepeatedRank ≡ None = rw (e, f) at h in cc
          ]
      | inr e ↦ let bad : Some BadRank ≡ None = rw e at h in cc
    ]
