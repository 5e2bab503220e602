-- What a split makes.
use Rattle.std.proofs.Common.{◌≡◌, ℕ, zero, suc, ◌+◌, ◌<◌, ◌≤◌, ◌||◌, Bool, true, false, not, cond}
use Rattle.std.proofs.Common.{eqb, ltb, List, [], ◌∷◌, ◌++◌, length, get_or, take, map, Some, None}
use Rattle.std.proofs.Common.{ℤ, refl, sym, ap, ◌∙◌, arith, inl, inr}
use Rattle.std.specs.List.{AllByRecursion, filter, filter_map, cons_option, list_any}
use Rattle.std.specs.List.{enumerate_from, dedup, dedup_from, range_with_len}
use Rattle.std.specs.Set.{distinct_count, unique_keys}
use Rattle.std.specs.Option.{option_map_or}
use Rattle.std.specs.Ordering.{int_cmp, int_eq, is_lt}
use Rattle.std.specs.Cmp.{IsStrictWeakOrder, int_cmp_total, nat_cmp_total, int_eq_equiv}
use Rattle.std.specs.Cmp.{signed_Decides}
use Rattle.std.proofs.lemmas.Cmp.{then_total, on_total}
use Rattle.std.proofs.lemmas.Bool.{cases_Bool, and_from, and_parts, lt-ltb, ne_eqb}
use Rattle.std.proofs.lemmas.List.{append-nil, get_or_default, length-map, map-append, take_more}
use Rattle.std.proofs.lemmas.List.{length-take-le}
use Rattle.std.proofs.lemmas.List.Elements.{filter-append}
use Rattle.std.proofs.lemmas.List.Folds.{list_all-map}
use Rattle.std.proofs.lemmas.List.Sorted.{ranks_by}
use Rattle.std.proofs.lemmas.List.Kept.{IsStrictlySortedBy-dedup}
use Rattle.std.proofs.lemmas.Map.Keys.{IsDistinct-from_sorted}
use Rattle.std.proofs.lemmas.Map.Made.{length-from_keys}
use Rattle.mpi_group.specs.Groups.{is_member, is_distinct, are_ranks, members_at, IsGroup}
use Rattle.mpi_group.proofs.MpiGroupLemmas.{IsGroup-members_at}
use Rattle.mpi_comm.specs.Asks.{is_last}
use Rattle.mpi_comm.specs.Comms.{is_subgroup, subset_groups}
use Rattle.mpi_comm.specs.Sorting.{sorted_by}
use Rattle.mpi_comm.specs.Splits.{asks_for, colours_of, goes_before, asked, ranks_for, split_groups}
use Rattle.mpi_comm.specs.declared.values.Ask.{Ask}
use Rattle.std.proofs.Common.{Vec, Global}
use Rattle.mpi_comm.proofs.SortLemmas.{IsSortedBy-sorted_by, any-sorted_by, all-sorted_by}
use Rattle.mpi_comm.proofs.SortLemmas.{distinct-sorted_by}

pub ascending_colours : IsStrictWeakOrder (λ c d. is_lt (int_cmp c d))
ascending_colours = ranks_by int_cmp_total (λ (c : ℤ). c)

pub ascending_places : IsStrictWeakOrder goes_before
ascending_places = ranks_by (then_total (on_total (λ (p : ℤ × ℕ). p.0) int_cmp_total)
    (on_total (λ (p : ℤ × ℕ). p.1) nat_cmp_total)) (λ (p : ℤ × ℕ). p)

-- ---- how many colours there are
abbrev pub stated : List Ask → List ℤ
stated asks = filter_map (λ ask. ask.colour) asks

any_stated : (colour : ℤ) (asks : List Ask) →
    list_any (asks_for colour) asks ≡ list_any (int_eq colour) (stated asks)
any_stated colour [] = refl
any_stated colour (ask ∷ asks) =
    elim (ask.colour) as (λ o. (option_map_or (int_eq colour) o false
    || list_any (asks_for colour) asks)
    ≡ list_any (int_eq colour) (cons_option o (stated asks))) [
      | None ↦ any_stated colour asks
      | Some c ↦ ap (λ b. int_eq colour c || b) (any_stated colour asks)
    ]

pub count_more : (ask : Ask) (others : List Ask) →
    distinct_count int_eq (stated (ask ∷ others))
    ≡ cond (is_last ask others) 1 0 + distinct_count int_eq (stated others)
count_more ask others =
    elim (ask.colour) as (λ o. distinct_count int_eq (cons_option o (stated others))
    ≡ cond (option_map_or (λ colour. not (list_any (asks_for colour) others)) o false) 1 0
    + distinct_count int_eq (stated others)) [
      | None ↦ omega arith
      | Some c
          ↦ rw any_stated (elim (list_any (int_eq c) (stated others)) as
          (λ b. length (cond b (unique_keys int_eq (stated others))
          (c ∷ unique_keys int_eq (stated others)))
          ≡ cond (not b) 1 0 + distinct_count int_eq (stated others))
          [ true ↦ omega arith | false ↦ omega arith ])
    ]

pub count_le : (asks : List Ask) → distinct_count int_eq (stated asks) ≤ length asks
count_le [] = omega arith
count_le (ask ∷ asks) =
    let rest = count_le asks in
    elim (cases_Bool (is_last ask asks)) as
    (λ _. distinct_count int_eq (stated (ask ∷ asks)) ≤ length (ask ∷ asks)) [
      | inl e
          ↦
          let more : distinct_count int_eq (stated (ask ∷ asks)) ≡ 1 + distinct_count int_eq
          (stated asks) = count_more ask asks ∙ rw e refl in omega arith
      | inr e
          ↦
          let more : distinct_count int_eq (stated (ask ∷ asks)) ≡ 0 + distinct_count int_eq
          (stated asks) = count_more ask asks ∙ rw e refl in omega arith
    ]

twice_or : (a b : Bool) → (a || b) ≡ (a || (a || b))
twice_or true b = refl
twice_or false b = refl

any-dedup_from : (k : ℤ) (cs : List ℤ) (q : ℤ) →
    list_any (int_eq q) (dedup_from int_eq k cs) ≡ (int_eq q k || list_any (int_eq q) cs)
any-dedup_from k [] q = refl
any-dedup_from k (c ∷ cs) q =
    elim (cases_Bool (int_eq c k)) as (λ _. list_any (int_eq q) (dedup_from int_eq k (c ∷ cs))
    ≡ (int_eq q k || (int_eq q c || list_any (int_eq q) cs))) [
      | inl e ↦
          let same : c ≡ k = (signed_Decides c k).0 e in
          rw e (any-dedup_from k cs q ∙ twice_or (int_eq q k) (list_any (int_eq q) cs)
          ∙ ap (λ (x : ℤ). int_eq q k || (int_eq q x || list_any (int_eq q) cs)) (sym same))
      | inr e ↦ rw e (ap (λ b. int_eq q k || b) (any-dedup_from c cs q))
    ]

any-dedup : (cs : List ℤ) (q : ℤ) → list_any (int_eq q) (dedup int_eq cs) ≡ list_any (int_eq q) cs
any-dedup [] q = refl
any-dedup (c ∷ cs) q = any-dedup_from c cs q

pub length-colours_of : (asks : List Ask) →
    length (colours_of asks) ≡ distinct_count int_eq (stated asks)
unfolding colours_of
length-colours_of asks =
    let sorted : List ℤ = sorted_by (λ c d. is_lt (int_cmp c d)) (stated asks) in
    let rising = IsStrictlySortedBy-dedup int_cmp_total {E = int_eq} (λ x y. refl) sorted
    (IsSortedBy-sorted_by (λ c d. is_lt (int_cmp c d)) ascending_colours (stated asks)) in
    length-from_keys int_eq_equiv (dedup int_eq sorted) (stated asks)
    (IsDistinct-from_sorted int_cmp (dedup int_eq sorted) rising)
    (λ q. any-dedup sorted q
    ∙ any-sorted_by (λ c d. is_lt (int_cmp c d)) (int_eq q) (stated asks))

pub length_split_groups : (asks : List Ask) (members : List ℕ) →
    length (split_groups asks members) ≡ length (colours_of asks)
unfolding split_groups
length_split_groups asks members =
    length-map (colours_of asks) (λ colour. members_at members (ranks_for colour asks))

-- ---- who asks for a colour
enumerate_push : (n : ℕ) (asks : List Ask) (ask : Ask) →
    enumerate_from n (asks ++ ask ∷ []) ≡ enumerate_from n asks ++ (n + length asks, ask) ∷ []
enumerate_push n [] ask = let same : n ≡ n + 0 = omega arith in ap (λ (k : ℕ). (k, ask) ∷ []) same
enumerate_push n (x ∷ asks) ask =
    let same : n + 1 + length asks ≡ n + suc (length asks) = omega arith in
    ap (λ t. (n, x) ∷ t) (enumerate_push (n + 1) asks ask
    ∙ ap (λ (k : ℕ). enumerate_from (n + 1) asks ++ (k, ask) ∷ []) same)

asked_push : (colour : ℤ) (asks : List Ask) (ask : Ask) →
    asked colour (asks ++ ask ∷ [])
    ≡ asked colour asks ++ cond (asks_for colour ask) ((ask.key, length asks) ∷ []) []
asked_push colour asks ask =
    let zero_plus : 0 + length asks ≡ length asks = omega arith in
    let passes : ℕ × Ask → Bool = λ e. asks_for colour e.1 in
    let place : ℕ × Ask → ℤ × ℕ = λ e. (e.1.key, e.0) in
    ap (λ t. map place (filter passes t)) (enumerate_push 0 asks ask
    ∙ ap (λ (k : ℕ). enumerate_from 0 asks ++ (k, ask) ∷ []) zero_plus)
    ∙ ap (map place) (filter-append passes (enumerate_from 0 asks) ((length asks, ask) ∷ []))
    ∙ map-append place (filter passes (enumerate_from 0 asks))
    (filter passes ((length asks, ask) ∷ []))
    ∙ ap (λ t. asked colour asks ++ t) (elim (asks_for colour ask) as
    (λ b. map place (cond b ((length asks, ask) ∷ []) [])
    ≡ cond b ((ask.key, length asks) ∷ []) []) [ true ↦ refl | false ↦ refl ])

-- the prefix of the asks, up to one more
pub asked_more : (colour : ℤ) (asks : List Ask) (i : ℕ) (ask : Ask) → i < length asks →
    ask ≡ get_or asks i ask →
    asked colour (take (i + 1) asks)
    ≡ asked colour (take i asks) ++ cond (asks_for colour ask) ((ask.key, i) ∷ []) []
asked_more colour asks i ask lt is =
    let many : length (take i asks) ≡ i = length-take-le i asks (omega arith) in
    let longer : take (i + 1) asks ≡ take i asks ++ ask ∷ [] = take_more asks i ask lt ∙ ap
    (λ (y : Ask). take i asks ++ y ∷ []) (sym is) in
    ap (asked colour) longer ∙ asked_push colour (take i asks) ask
    ∙ ap (λ (k : ℕ).
    asked colour (take i asks) ++ cond (asks_for colour ask) ((ask.key, k) ∷ []) []) many

pub asked_yes : (colour : ℤ) (asks : List Ask) (i : ℕ) (d : Ask) → i < length asks →
    asks_for colour (get_or asks i d) ≡ true →
    asked colour (take (i + 1) asks) ≡ asked colour (take i asks) ++ ((get_or asks i d).key, i) ∷ []
asked_yes colour asks i d lt told = asked_more colour asks i (get_or asks i d) lt
    (get_or_default asks i d (get_or asks i d) lt) ∙ rw told refl

pub asked_no : (colour : ℤ) (asks : List Ask) (i : ℕ) (d : Ask) → i < length asks →
    asks_for colour (get_or asks i d) ≡ false →
    asked colour (take (i + 1) asks) ≡ asked colour (take i asks)
asked_no colour asks i d lt told = asked_more colour asks i (get_or asks i d) lt
    (get_or_default asks i d (get_or asks i d) lt)
    ∙ rw told (append-nil (asked colour (take i asks)))

-- the ranks, from the first one on
abbrev ranks_from : ℤ → ℕ → List Ask → List ℕ
ranks_from colour n asks = map (λ (p : ℤ × ℕ). p.1) (map (λ (e : ℕ × Ask). (e.1.key, e.0))
    (filter (λ e. asks_for colour e.1) (enumerate_from n asks)))

none_lower : (colour : ℤ) (n : ℕ) (asks : List Ask) (q : ℕ) → q < n →
    is_member (ranks_from colour n asks) q ≡ false
none_lower colour n [] q lt = refl
none_lower colour n (ask ∷ asks) q lt =
    let rest : is_member (ranks_from colour (n + 1) asks) q ≡ false = none_lower colour (n + 1) asks
    q (omega arith) in
    let ne : eqb n q ≡ false = ne_eqb n q (λ same. absurd (omega arith)) in
    elim (asks_for colour ask) as (λ b. is_member (map (λ (p : ℤ × ℕ). p.1)
    (map (λ (e : ℕ × Ask). (e.1.key, e.0)) (cond b ((n, ask)
    ∷ filter (λ e. asks_for colour e.1) (enumerate_from (n + 1) asks))
    (filter (λ e. asks_for colour e.1) (enumerate_from (n + 1) asks))))) q
    ≡ false) [
      | true ↦ rw ne rest
      | false ↦ rest
    ]

distinct_from : (colour : ℤ) (n : ℕ) (asks : List Ask) →
    is_distinct (ranks_from colour n asks) ≡ true
distinct_from colour n [] = refl
distinct_from colour n (ask ∷ asks) =
    let rest : is_distinct (ranks_from colour (n + 1) asks) ≡ true = distinct_from colour (n + 1)
    asks in
    let none : is_member (ranks_from colour (n + 1) asks) n ≡ false = none_lower colour (n + 1) asks
    n (omega arith) in
    elim (asks_for colour ask) as (λ b. is_distinct (map (λ (p : ℤ × ℕ). p.1)
    (map (λ (e : ℕ × Ask). (e.1.key, e.0)) (cond b ((n, ask)
    ∷ filter (λ e. asks_for colour e.1) (enumerate_from (n + 1) asks))
    (filter (λ e. asks_for colour e.1) (enumerate_from (n + 1) asks)))))
    ≡ true) [
      | true ↦ rw none rest
      | false ↦ rest
    ]

within_from : (colour : ℤ) (n : ℕ) (asks : List Ask) (size : ℕ) → n + length asks ≤ size →
    are_ranks size (ranks_from colour n asks) ≡ true
within_from colour n [] size le = refl
within_from colour n (ask ∷ asks) size le =
    let rest : are_ranks size (ranks_from colour (n + 1) asks) ≡ true = within_from colour (n + 1)
    asks size (omega arith) in
    let lt : ltb n size ≡ true = lt-ltb n size (omega arith) in
    elim (asks_for colour ask) as (λ b. are_ranks size (map (λ (p : ℤ × ℕ). p.1)
    (map (λ (e : ℕ × Ask). (e.1.key, e.0)) (cond b ((n, ask)
    ∷ filter (λ e. asks_for colour e.1) (enumerate_from (n + 1) asks))
    (filter (λ e. asks_for colour e.1) (enumerate_from (n + 1) asks)))))
    ≡ true) [
      | true ↦ rw lt rest
      | false ↦ rest
    ]

-- the ranks of a colour are those of a subgroup
pub is_subgroup-ranks_for : (colour : ℤ) (asks : List Ask) →
    is_subgroup (length asks) (ranks_for colour asks) ≡ true
unfolding ranks_for
is_subgroup-ranks_for colour asks =
    let size : ℕ = length asks in
    let within : are_ranks size
    (map (λ (p : ℤ × ℕ). p.1) (sorted_by goes_before (asked colour asks))) ≡ true =
    list_all-map (λ rank. ltb rank size) (λ (p : ℤ × ℕ). p.1)
    (sorted_by goes_before (asked colour asks))
    ∙ all-sorted_by goes_before (λ p. ltb p.1 size) (asked colour asks)
    ∙ sym (list_all-map (λ rank. ltb rank size) (λ (p : ℤ × ℕ). p.1) (asked colour asks))
    ∙ within_from colour 0 asks size (omega arith) in
    let distinct : is_distinct
    (map (λ (p : ℤ × ℕ). p.1) (sorted_by goes_before (asked colour asks))) ≡ true =
    distinct-sorted_by goes_before (λ p. p.1) (asked colour asks) ∙ distinct_from colour 0 asks in
    and_from _ _ within distinct

-- ---- ranks that follow each other are distinct
none_in_range : (a n q : ℕ) → q < a → is_member (range_with_len a n) q ≡ false
none_in_range a zero q lt = refl
none_in_range a (suc n) q lt =
    let ne : eqb a q ≡ false = ne_eqb a q (λ same. absurd (omega arith)) in
    rw ne (none_in_range (a + 1) n q (omega arith))

pub is_distinct-range_with_len : (a n : ℕ) → is_distinct (range_with_len a n) ≡ true
is_distinct-range_with_len a zero = refl
is_distinct-range_with_len a (suc n) =
    let none : is_member (range_with_len (a + 1) n) a ≡ false = none_in_range (a + 1) n a
    (omega arith) in
    rw none (is_distinct-range_with_len (a + 1) n)

-- two maps in a row
pub map_of_map : {A B C : Type 0} (f : B → C) (g : A → B) (xs : List A) →
    map f (map g xs) ≡ map (λ x. f (g x)) xs
map_of_map f g [] = refl
map_of_map f g (x ∷ xs) = ap (λ t. f (g x) ∷ t) (map_of_map f g xs)

pub length_subset_groups : (lists : List (Vec ℕ Global)) (members : List ℕ) →
    length (subset_groups (map (λ list. list.items) lists) members) ≡ length lists
length_subset_groups lists members = length-map (map (λ (list : Vec ℕ Global). list.items) lists)
    (λ ranks. members_at members ranks) ∙ length-map lists (λ list. list.items)

-- each new group is a group
groups_by_colour : (colours : List ℤ) (asks : List Ask) (members : List ℕ) → IsGroup members →
    AllByRecursion IsGroup (map (λ colour. members_at members (ranks_for colour asks)) colours)
groups_by_colour [] asks members group = tt
groups_by_colour (c ∷ cs) asks members group =
    let parts = and_parts (are_ranks (length asks) (ranks_for c asks))
    (is_distinct (ranks_for c asks)) (is_subgroup-ranks_for c asks) in (
      IsGroup-members_at members (ranks_for c asks) group parts.1,
      groups_by_colour cs asks members group,
    )

pub IsGroup-split_groups : (asks : List Ask) (members : List ℕ) → IsGroup members →
    AllByRecursion IsGroup (split_groups asks members)
unfolding split_groups
IsGroup-split_groups asks members group = groups_by_colour (colours_of asks) asks members group
