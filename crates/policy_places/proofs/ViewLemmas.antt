-- What a document has, over the lists that the code walks.
use Rattle.std.proofs.Common.{◌≡◌, ℕ, ◌+◌, ◌<◌, ◌&&◌, ◌||◌, Bool, not, cond, List, []}
use Rattle.std.proofs.Common.{◌∷◌, ◌++◌, length, get_or, drop, map, Option, Some, None, String}
use Rattle.std.proofs.Common.{Global, string_bytes, refl, sym, ap, ◌∙◌, append_assoc, inl, inr}
use Rattle.std.proofs.Common.{option_map, find}
use Rattle.std.proofs.lemmas.Bool.{cases_Bool}
use Rattle.std.specs.List.{list_all, list_any, cons_option, filter_map, flat_map}
use Rattle.std.specs.List.{position_from}
use Rattle.std.specs.Map.{keys_of}
use Rattle.std.proofs.lemmas.List.{drop_more}
use Rattle.toml.specs.Data.{Data}
use Rattle.toml.specs.View.{view, items_view, members_view}
use Rattle.toml.specs.declared.value.Value.{Value}
use Rattle.wall_policy.specs.Names.{Name}
use Rattle.policy_places.specs.Parts.{listed_items}
use Rattle.policy_places.specs.Signs.{all_keys}
use Rattle.policy_places.specs.Named.{or_else, first_read, first_key}

pub listed_items-view : (vs : List Value) → map view vs ≡ listed_items (items_view vs)
listed_items-view [] = refl
listed_items-view (v ∷ vs) = ap (λ (ds : List Data). view v ∷ ds) (listed_items-view vs)

pub all_keys-view : (test : List ℕ → Bool) (es : List (String Global × Value)) →
    list_all (λ k. test (string_bytes k)) (keys_of es) ≡ all_keys test (members_view es)
all_keys-view test [] = refl
all_keys-view test (e ∷ es) = ap (λ b. test (string_bytes e.0) && b) (all_keys-view test es)

-- the first key that does not pass
pub first_key-view : (test : List ℕ → Bool) (es : List (String Global × Value)) →
    option_map (λ k. string_bytes k) (find (λ k. not (test (string_bytes k))) (keys_of es))
    ≡ first_key test (members_view es)
first_key-view test [] = refl
first_key-view test (e ∷ es) = elim (cases_Bool (test (string_bytes e.0))) [
  | inl known ↦
      ap (λ b. option_map (λ k. string_bytes k)
      (cond (not b) (Some e.0) (find (λ k. not (test (string_bytes k))) (keys_of es)))) known
      ∙ first_key-view test es
      ∙ sym (ap (λ b. cond b (first_key test (members_view es)) (Some (string_bytes e.0))) known)
  | inr other ↦
      ap (λ b. option_map (λ k. string_bytes k)
      (cond (not b) (Some e.0) (find (λ k. not (test (string_bytes k))) (keys_of es)))) other
      ∙ sym (ap (λ b. cond b (first_key test (members_view es)) (Some (string_bytes e.0))) other)
]

-- what is read of the values from here on
module _ (read : Data → Option Name) (vs : List Value) (i : ℕ) (d : Value) where
  read_on : i < length vs → first_read read (map view (drop i vs))
      ≡ or_else (read (view (get_or vs i d))) (first_read read (map view (drop (i + 1) vs)))
  read_on low = ap (λ (us : List Value). first_read read (map view us)) (drop_more vs i d low)

  -- nothing of the value at hand
  pub rest_from : i < length vs → d ≡ get_or vs i d → None ≡ read (view d) →
      first_read read (map view (drop (i + 1) vs)) ≡ first_read read (map view (drop i vs))
  rest_from low is none =
      sym (read_on low
      ∙ ap (λ o. or_else o (first_read read (map view (drop (i + 1) vs))))
      (sym (none ∙ ap (λ (v : Value). read (view v)) is)))

  -- the word of the value at hand
  pub here_from : (w : Name) → i < length vs → d ≡ get_or vs i d → Some w ≡ read (view d) →
      Some w ≡ first_read read (map view (drop i vs))
  here_from w low is some =
      sym (read_on low
      ∙ ap (λ o. or_else o (first_read read (map view (drop (i + 1) vs))))
      (sym (some ∙ ap (λ (v : Value). read (view v)) is)))

pub all_view : (test : Data → Bool) (vs : List Value) →
    list_all (λ v. test (view v)) vs ≡ list_all test (map view vs)
all_view test [] = refl
all_view test (v ∷ vs) = ap (λ b. test (view v) && b) (all_view test vs)

pub any_view : (test : Data → Bool) (vs : List Value) →
    list_any (λ v. test (view v)) vs ≡ list_any test (map view vs)
any_view test [] = refl
any_view test (v ∷ vs) = ap (λ b. test (view v) || b) (any_view test vs)

-- the first that passes, one value further
pub position_on : (test : Data → Bool) (vs : List Value) (i : ℕ) (d : Value) → i < length vs →
    position_from test i (map view (drop i vs))
    ≡ cond (test (view (get_or vs i d))) (Some i)
    (position_from test (i + 1) (map view (drop (i + 1) vs)))
position_on test vs i d low =
    ap (λ (us : List Value). position_from test i (map view us)) (drop_more vs i d low)

-- texts that were found, and those that are still to be found
module _ (read : Data → Option Name) where
  pub found_on : (prefix : List Name) (name : Name) (vs : List Value) (i : ℕ) (d : Value)
      (all : List Name) → i < length vs → read (view (get_or vs i d)) ≡ Some name →
      prefix ++ filter_map read (map view (drop i vs)) ≡ all →
      (prefix ++ name ∷ []) ++ filter_map read (map view (drop (i + 1) vs)) ≡ all
  found_on prefix name vs i d all low is so_far =
      append_assoc prefix (name ∷ []) (filter_map read (map view (drop (i + 1) vs)))
      ∙ sym
      (ap (λ (us : List Value). prefix ++ filter_map read (map view us)) (drop_more vs i d low)
      ∙ ap (λ (o : Option Name).
      prefix ++ cons_option o (filter_map read (map view (drop (i + 1) vs)))) is)
      ∙ so_far

  pub none_on : (prefix : List Name) (vs : List Value) (i : ℕ) (d : Value) (all : List Name) →
      i < length vs → read (view (get_or vs i d)) ≡ None →
      prefix ++ filter_map read (map view (drop i vs)) ≡ all →
      prefix ++ filter_map read (map view (drop (i + 1) vs)) ≡ all
  none_on prefix vs i d all low is so_far =
      sym (ap (λ (us : List Value). prefix ++ filter_map read (map view us)) (drop_more vs i d low)
      ∙ ap (λ (o : Option Name).
      prefix ++ cons_option o (filter_map read (map view (drop (i + 1) vs)))) is)
      ∙ so_far

-- the same of lists of texts
pub lists_on : (read : Data → List Name) (prefix : List Name) (vs : List Value) (i : ℕ) (d : Value)
    (all : List Name) → i < length vs →
    prefix ++ flat_map read (map view (drop i vs)) ≡ all →
    (prefix ++ read (view (get_or vs i d))) ++ flat_map read (map view (drop (i + 1) vs)) ≡ all
lists_on read prefix vs i d all low so_far =
    append_assoc prefix (read (view (get_or vs i d))) (flat_map read (map view (drop (i + 1) vs)))
    ∙ sym (ap (λ (us : List Value). prefix ++ flat_map read (map view us)) (drop_more vs i d low))
    ∙ so_far
