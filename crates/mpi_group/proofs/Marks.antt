-- Marks at numbers, as a list goes by.
use Rattle.std.proofs.Common.{◌≡◌, ℕ, zero, suc, ◌+◌, ◌<◌, ◌||◌, Bool, true, false, List, [], ◌∷◌}
use Rattle.std.proofs.Common.{◌++◌, length, get_or, set, replicate, take, drop, Some, refl, sym, ap}
use Rattle.std.proofs.Common.{◌∙◌, eqb, inl, inr, get_or-set_same, get_or-set_other}
use Rattle.std.specs.List.{filter_map, slice_get, All, filter}
use Rattle.std.proofs.lemmas.Bool.{cases_eq, ne_eqb, eq-eqb}
use Rattle.std.proofs.lemmas.List.{take_more, drop_more, take-append-drop}
use Rattle.std.proofs.lemmas.List.Elements.{filter_map-append, All-head, All-tail}
use Rattle.std.proofs.lemmas.Option.{slice_get_read}
use Rattle.std.specs.Prelude.{not}
use Rattle.mpi_group.specs.Groups.{is_member, is_distinct, members_at, members_apart_from}
use Rattle.mpi_group.specs.Groups.{difference_of}
use Rattle.mpi_group.proofs.GroupLemmas.{is_member-append, is_distinct-push, twice}

pub no_marks : (n q : ℕ) → get_or (replicate n false) q false ≡ false
no_marks zero q = refl
no_marks (suc n) zero = refl
no_marks (suc n) (suc q) = no_marks n q

-- one more number, marked
pub mark_more : (prefix : List ℕ) (marks : List Bool) (x q : ℕ) → x < length marks →
    get_or marks q false ≡ is_member prefix q →
    get_or (set marks x true) q false ≡ is_member (prefix ++ x ∷ []) q
mark_more prefix marks x q lt here =
    sym (is_member-append prefix (x ∷ []) q
    ∙ (elim (cases_eq x q) as
    (λ _. (is_member prefix q || (eqb x q || false)) ≡ get_or (set marks x true) q false) [
      | inl e
          ↦ rw (eq-eqb x q e, ← e, get_or-set_same marks x true false lt)
          (elim (is_member prefix x) as (λ b. (b || true) ≡ true) [ true ↦ refl | false ↦ refl ])
      | inr ne
          ↦ rw (ne_eqb x q ne, get_or-set_other marks x q true false (λ same. ne (sym same)), here)
          (elim (is_member prefix q) as (λ b. (b || false) ≡ b) [ true ↦ refl | false ↦ refl ])
    ]))

-- a number that stands further in front
pub distinct_no_more : (xs : List ℕ) (i x : ℕ) → i < length xs → x ≡ get_or xs i x →
    is_member (take i xs) x ≡ true → is_distinct xs ≡ false
distinct_no_more xs i x lt is there =
    let whole : take i xs ++ x ∷ drop (i + 1) xs ≡ xs = ap (λ t. take i xs ++ t)
    (ap (λ (y : ℕ). y ∷ drop (i + 1) xs) is ∙ sym (drop_more xs i x lt)) ∙ take-append-drop i xs
    in
    ap is_distinct (sym whole) ∙ twice (take i xs) x (drop (i + 1) xs) there

pub prefix_more : (xs : List ℕ) (i x : ℕ) → i < length xs → x ≡ get_or xs i x →
    take (i + 1) xs ≡ take i xs ++ x ∷ []
prefix_more xs i x lt is = take_more xs i x lt ∙ ap (λ (y : ℕ). take i xs ++ y ∷ []) (sym is)

pub distinct_more : (xs : List ℕ) (i x : ℕ) → i < length xs → x ≡ get_or xs i x →
    is_distinct (take i xs) ≡ true → is_member (take i xs) x ≡ false →
    is_distinct (take (i + 1) xs) ≡ true
distinct_more xs i x lt is one none =
    ap is_distinct (prefix_more xs i x lt is) ∙ is_distinct-push (take i xs) x one none

-- the member at one more rank
pub at_more : (members ranks : List ℕ) (i r m : ℕ) → i < length ranks → r ≡ get_or ranks i r →
    r < length members → m ≡ get_or members r m →
    members_at members (take (i + 1) ranks) ≡ members_at members (take i ranks) ++ m ∷ []
unfolding members_at
at_more members ranks i r m lt is within read =
    let member : slice_get members r ≡ Some m = slice_get_read members (length members) r m refl
    within read in
    ap (filter_map (slice_get members)) (prefix_more ranks i r lt is)
    ∙ filter_map-append (slice_get members) (take i ranks) (r ∷ []) ∙ rw member refl

pub none_at : (members : List ℕ) → members_at members [] ≡ []
unfolding members_at
none_at members = refl

-- what the marks leave out
pub filter_below : (keep other : ℕ → Bool) (n : ℕ) (xs : List ℕ) → All (λ p. p < n) xs →
    ((p : ℕ) → p < n → keep p ≡ other p) → filter keep xs ≡ filter other xs
filter_below keep other n [] all same = refl
filter_below keep other n (x ∷ xs) all same =
    let rest = filter_below keep other n xs (All-tail (λ p. p < n) x xs all) same in
    rw (same x (All-head (λ p. p < n) x xs all), rest) refl

pub apart_from_marked : (members ranks : List ℕ) (marks : List Bool) (n : ℕ) →
    All (λ p. p < n) members →
    ((p : ℕ) → p < n → get_or marks p false ≡ is_member (members_at members ranks) p) →
    filter (λ p. not (get_or marks p false)) members ≡ members_apart_from members ranks
unfolding members_apart_from difference_of
apart_from_marked members ranks marks n all same = filter_below (λ p. not (get_or marks p false))
    (λ p. not (is_member (members_at members ranks) p)) n members all (λ p lt. ap not (same p lt))
