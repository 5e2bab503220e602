-- The table of ranks, as the members come in one by one.
use Rattle.std.proofs.Common.{Ordering, Less, Equal, Greater, ◌≡◌, ℕ, ◌+◌, ◌<◌, ◌≤◌, true, false}
use Rattle.std.proofs.Common.{List, [], ◌∷◌, ◌++◌, length, get_or, set, replicate, take, drop, Some}
use Rattle.std.proofs.Common.{None, Option, refl, sym, ap, ◌∙◌, subst, arith, eqb, zero, suc, max}
use Rattle.std.proofs.Common.{⊎_elim, inl, inr, get_or-set_same, get_or-set_other}
use Rattle.std.specs.Prelude.{is_some}
use Rattle.std.specs.List.{All, slice_get}
use Rattle.std.specs.Option.{option_flatten}
use Rattle.std.specs.Ordering.{ord_max, nat_cmp, is_lt, is_gt}
use Rattle.std.proofs.Math.Nat.{max-eq_left, max-eq_right, max-le, le-max_left, le-max_right}
use Rattle.std.proofs.lemmas.Map.Keys.{ge_from_not_lt, le_from_not_gt}
use Rattle.std.proofs.lemmas.Bool.{cases_eq, cases_Bool, cases_lt, ne_eqb}
use Rattle.std.proofs.lemmas.List.{take_all, take_more, drop_more, take-append-drop, length-take-le}
use Rattle.std.proofs.lemmas.List.{get_or-replicate, get_or-take, get_or_past}
use Rattle.std.proofs.lemmas.List.Elements.{All-push, All-nil, All-head, All-tail}
use Rattle.wall_labels.specs.declared.ids.TheConstants.{PROCESS_LIMIT}
use Rattle.mpi_group.specs.Groups.{is_member, is_distinct, rank_in, IsGroup}
use Rattle.mpi_group.specs.Ranks.{IsIndex, IsTable, reach}
use Rattle.mpi_group.proofs.GroupLemmas.{rank_absent, rank_present, rank_pushed, rank_others}
use Rattle.mpi_group.proofs.GroupLemmas.{is_distinct-push, twice, length_distinct}

pub empty_group : IsGroup []
empty_group = record { distinct = refl; below = All-nil (λ p. p < PROCESS_LIMIT) }

pub empty_index : IsIndex [] (replicate PROCESS_LIMIT None)
empty_index p lt = get_or-replicate PROCESS_LIMIT p None None lt

some_rank : (members : List ℕ) (x : ℕ) → is_some (rank_in members x) ≡ true →
    is_member members x ≡ true
some_rank members x h =
    elim (cases_Bool (is_member members x)) as (λ _. is_member members x ≡ true) [
      | inl e ↦ e
      | inr e ↦ let none = rank_absent members x e in let bad : false ≡ true = rw none at h in cc
    ]

no_rank : (members : List ℕ) (x : ℕ) → is_some (rank_in members x) ≡ false →
    is_member members x ≡ false
no_rank members x h =
    elim (cases_Bool (is_member members x)) as (λ _. is_member members x ≡ false) [
      | inl e ↦ let there = rank_present members x e in let bad : true ≡ false = rw there at h in cc
      | inr e ↦ e
    ]

-- a process that the table has already stands in the list twice
pub repeated : (members : List ℕ) (i x : ℕ) (ranks : List (Option ℕ)) → i < length members →
    x ≡ get_or members i x → x < PROCESS_LIMIT → IsIndex (take i members) ranks →
    is_some (get_or ranks x None) ≡ true → is_distinct members ≡ false
repeated members i x ranks lt is small index seen =
    let there : is_member (take i members) x ≡ true = some_rank (take i members) x
    (ap is_some (sym (index x small)) ∙ seen) in
    let whole : take i members ++ x ∷ drop (i + 1) members ≡ members = ap (λ t. take i members ++ t)
    (ap (λ (y : ℕ). y ∷ drop (i + 1) members) is ∙ sym (drop_more members i x lt)) ∙
    take-append-drop i members in
    ap is_distinct (sym whole) ∙ twice (take i members) x (drop (i + 1) members) there

-- one that it lacks goes in
pub group_more : (members : List ℕ) (i x : ℕ) (ranks : List (Option ℕ)) → i < length members →
    x ≡ get_or members i x → x < PROCESS_LIMIT → IsGroup (take i members) →
    IsIndex (take i members) ranks → is_some (get_or ranks x None) ≡ false →
    IsGroup (take (i + 1) members)
group_more members i x ranks lt is small group index unseen =
    let none : is_member (take i members) x ≡ false = no_rank (take i members) x
    (ap is_some (sym (index x small)) ∙ unseen) in
    let longer : take (i + 1) members ≡ take i members ++ x ∷ [] = take_more members i x lt ∙ ap
    (λ (y : ℕ). take i members ++ y ∷ []) (sym is) in
    subst IsGroup (sym longer) (record {
      distinct =
          is_distinct-push (take i members) x group.distinct none;
      below = All-push (λ p. p < PROCESS_LIMIT) (take i members) x group.below small;
    })

pub index_more : (members : List ℕ) (i x : ℕ) (ranks : List (Option ℕ)) → i < length members →
    x ≡ get_or members i x → x < PROCESS_LIMIT → length ranks ≡ PROCESS_LIMIT →
    IsIndex (take i members) ranks → is_some (get_or ranks x None) ≡ false →
    IsIndex (take (i + 1) members) (set ranks x (Some i))
index_more members i x ranks lt is small long index unseen p below =
    let none : is_member (take i members) x ≡ false = no_rank (take i members) x
    (ap is_some (sym (index x small)) ∙ unseen) in
    let longer : take (i + 1) members ≡ take i members ++ x ∷ [] = take_more members i x lt ∙ ap
    (λ (y : ℕ). take i members ++ y ∷ []) (sym is) in
    let many : length (take i members) ≡ i = length-take-le i members (omega arith) in
    rw longer (elim (cases_eq x p) as
    (λ _. get_or (set ranks x (Some i)) p None ≡ rank_in (take i members ++ x ∷ []) p) [
      | inl e
          ↦ rw (← e) (get_or-set_same ranks x (Some i) None (omega arith)
          ∙ ap (λ (n : ℕ). Some n) (sym many) ∙ sym (rank_pushed (take i members) x none))
      | inr ne
          ↦ get_or-set_other ranks x p (Some i) None (λ same. ne (sym same)) ∙ index p below
          ∙ sym (rank_others (take i members) x p ne)
    ])

-- a rank fits the table
pub rank_below : (members : List ℕ) (i : ℕ) → i ≤ length members → IsGroup (take i members) →
    i ≤ PROCESS_LIMIT
rank_below members i le group =
    let many : length (take i members) ≡ i = length-take-le i members le in
    let few = length_distinct (take i members) PROCESS_LIMIT group.distinct group.below in
    omega arith

-- how far a table reaches, as a member comes in
max_assoc : (a b c : ℕ) → max (max a b) c ≡ max a (max b c)
max_assoc a b c = omega arith

reach_push : (xs : List ℕ) (x : ℕ) → reach (xs ++ x ∷ []) ≡ max (reach xs) (x + 1)
unfolding reach
reach_push [] x = omega arith
reach_push (y ∷ ys) x =
    ap (max (y + 1)) (reach_push ys x) ∙ sym (max_assoc (y + 1) (reach ys) (x + 1))

apart : (o : Ordering) → is_lt o ≡ true → is_gt o ≡ false
apart Less e = refl
apart Equal e = absurd (cc)
apart Greater e = absurd (cc)

ord_max_is : (a b : ℕ) → ord_max nat_cmp a b ≡ max a b
ord_max_is a b =
    elim (cases_Bool (is_lt (nat_cmp b a))) as (λ _. ord_max nat_cmp a b ≡ max a b) [
      | inl e ↦ let le = le_from_not_gt b a (apart (nat_cmp b a) e) in rw e (sym (max-eq_left le))
      | inr e ↦ rw e (sym (max-eq_right (ge_from_not_lt b a e)))
    ]

pub reach_none : reach [] ≡ 0
unfolding reach
reach_none = refl

pub reach_more : (members : List ℕ) (i x : ℕ) → i < length members → x ≡ get_or members i x
    → ord_max nat_cmp (reach (take i members)) (x + 1) ≡ reach (take (i + 1) members)
reach_more members i x lt is =
    let longer : take (i + 1) members ≡ take i members ++ x ∷ [] =
    take_more members i x lt ∙ ap (λ (y : ℕ). take i members ++ y ∷ []) (sym is) in
    ord_max_is (reach (take i members)) (x + 1) ∙ sym (reach_push (take i members) x)
    ∙ ap reach (sym longer)

pub reach_below : (xs : List ℕ) (n : ℕ) → All (λ p. p < n) xs → reach xs ≤ n
unfolding reach
reach_below [] n all = omega arith
reach_below (x ∷ xs) n all =
    let first : x < n = All-head (λ p. p < n) x xs all in
    max-le (let low : x + 1 ≤ n = omega arith in low)
    (reach_below xs n (All-tail (λ p. p < n) x xs all))

-- nobody past it is a member
reach_absent : (xs : List ℕ) (p : ℕ) → reach xs ≤ p → is_member xs p ≡ false
unfolding reach
reach_absent [] p past = refl
reach_absent (x ∷ xs) p past =
    let first = le-max_left (x + 1) (reach xs) in
    let rest = le-max_right (x + 1) (reach xs) in
    let other : eqb x p ≡ false = ne_eqb x p
    (λ same. let bad : x + 1 ≤ x = omega arith in absurd (omega arith)) in
    rw (other, reach_absent xs p (omega arith)) refl

-- the prefix of a whole table
pub table_prefix : (members : List ℕ) (ranks : List (Option ℕ)) → IsGroup members
    → length ranks ≡ PROCESS_LIMIT → IsIndex members ranks
    → IsTable members (take (reach members) ranks)
table_prefix members ranks group long index =
    let few = reach_below members PROCESS_LIMIT group.below in
    let cut : length (take (reach members) ranks) ≡ reach members =
    length-take-le (reach members) ranks (omega arith) in
    record {
      index = λ p below.
          ⊎_elim
          (λ low. get_or-take (reach members) ranks p None low ∙ index p below)
          (λ high. get_or_past (take (reach members) ranks) p None (omega arith)
          ∙ sym (rank_absent members p (reach_absent members p high)))
          (cases_lt p (reach members));
      long = cut;
    }

-- the same where all members are in
module _ (members : List ℕ) (ranks : List (Option ℕ)) (i reached : ℕ) (all : length members ≤ i)
    (group : IsGroup (take i members)) (long : length ranks ≡ PROCESS_LIMIT)
    (index : IsIndex (take i members) ranks) (at : reached ≡ reach (take i members)) where
  pub whole_group : IsGroup members
  whole_group = subst IsGroup (take_all i members all) group

  pub whole_prefix : reached ≤ length ranks
  whole_prefix = let few = reach_below (take i members) PROCESS_LIMIT group.below in omega arith

  pub whole_table : IsTable members (take reached ranks)
  whole_table =
      rw at
      (subst (λ l. IsTable l (take (reach (take i members)) ranks)) (take_all i members all)
      (table_prefix (take i members) ranks group long index))

-- a table that has entries has a member
pub some_entry : (members : List ℕ) (ranks : List (Option ℕ)) → IsTable members ranks
    → 0 < length ranks → 0 < length members
unfolding reach
some_entry [] ranks table some = absurd (let none = table.long in omega arith)
some_entry (x ∷ xs) ranks table some = omega arith

-- an entry, or none past the end
pub flattened : (ranks : List (Option ℕ)) (p : ℕ)
    → option_flatten (slice_get ranks p) ≡ get_or ranks p None
flattened [] p = refl
flattened (r ∷ rs) zero = refl
flattened (r ∷ rs) (suc p) = flattened rs p
