-- The names of a table, over the keys of the set that keeps them.
use Rattle.std.proofs.Common.{◌≡◌, ℕ, ◌+◌, false, cond, ◌||◌, List, [], ◌∷◌, map, Some, None}
use Rattle.std.proofs.Common.{String, string_bytes, refl, sym, ap, ◌∙◌, subst, inl, inr}
use Rattle.std.proofs.lemmas.Bool.{cases_Bool}
use Rattle.std.proofs.lemmas.Slice.Eq.{bytes_eq-Decides}
use Rattle.std.proofs.lemmas.Str.{IsUtf8-string_bytes}
use Rattle.std.specs.List.{list_any, position_from, AllZip, AllByRecursion, IsDistinct}
use Rattle.std.specs.Str.{bytes_eq, IsUtf8}
use Rattle.std.specs.String.{string_eq}
use Rattle.wall_policy.specs.Names.{Name, place_of, is_in, comes_twice}

module _ {Z : Type 0} where
  place_from : (name : Name) (i : ℕ) (ks : List (String Z)) →
      position_from (λ k. bytes_eq name (string_bytes k)) i ks
      ≡ position_from (bytes_eq name) i (map string_bytes ks)
  place_from name i [] = refl
  place_from name i (k ∷ ks) =
      ap (cond (bytes_eq name (string_bytes k)) (Some i)) (place_from name (i + 1) ks)

  pub place_of-view : (name : Name) (ks : List (String Z)) →
      position_from (λ k. bytes_eq name (string_bytes k)) 0 ks ≡ place_of name (map string_bytes ks)
  place_of-view name ks = place_from name 0 ks

  pub is_in-view : (name : Name) (ks : List (String Z)) →
      list_any (λ k. bytes_eq name (string_bytes k)) ks ≡ is_in (map string_bytes ks) name
  is_in-view name [] = refl
  is_in-view name (k ∷ ks) = ap (λ b. bytes_eq name (string_bytes k) || b) (is_in-view name ks)

  pub has-view : (key : String Z) (name : Name) (ks : List (String Z)) (names : List Name) →
      string_bytes key ≡ name → map string_bytes ks ≡ names →
      list_any (string_eq key) ks ≡ is_in names name
  has-view key name ks names e f = is_in-view (string_bytes key) ks ∙ (λ i. is_in (f i) (e i))

  -- texts of which no two are equal are names of which none comes twice
  none_later : (name : Name) (ks : List (String Z)) →
      AllByRecursion (λ k. bytes_eq name (string_bytes k) ≡ false) ks →
      is_in (map string_bytes ks) name ≡ false
  none_later name [] other = refl
  none_later name (k ∷ ks) other = rw other.0 (none_later name ks other.1)

  pub distinct-view : (ks : List (String Z)) → IsDistinct string_eq ks →
      comes_twice (map string_bytes ks) ≡ false
  unfolding IsDistinct
  distinct-view [] distinct = refl
  distinct-view (k ∷ ks) distinct =
      rw (none_later (string_bytes k) ks distinct.0) (distinct-view ks distinct.1)

  -- bytes that are no text are no name
  none_from : (name : Name) (i : ℕ) (ks : List (String Z)) → ¬ IsUtf8 name →
      position_from (bytes_eq name) i (map string_bytes ks) ≡ None
  none_from name i [] not_text = refl
  none_from name i (k ∷ ks) not_text = elim (cases_Bool (bytes_eq name (string_bytes k))) [
    | inl same
        ↦ absurd (not_text (subst IsUtf8 (sym ((bytes_eq-Decides name (string_bytes k)).0 same))
        (IsUtf8-string_bytes k)))
    | inr other ↦ rw other (none_from name (i + 1) ks not_text)
  ]

  pub place_of-not_text : (name : Name) (ks : List (String Z)) → ¬ IsUtf8 name →
      place_of name (map string_bytes ks) ≡ None
  place_of-not_text name ks not_text = none_from name 0 ks not_text

  -- clones of texts have their bytes
  pub clones-same : (xs ys : List (String Z)) →
      AllZip (λ s t. string_bytes t ≡ string_bytes s) xs ys →
      map string_bytes ys ≡ map string_bytes xs
  clones-same [] [] h = refl
  clones-same [] (y ∷ ys) h = absurd h
  clones-same (x ∷ xs) [] h = absurd h
  clones-same (x ∷ xs) (y ∷ ys) h = λ i. h.0 i ∷ clones-same xs ys h.1 i
