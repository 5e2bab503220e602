-- A policy file that has grown by names has grown by the numbers that are given anew.
use Rattle.std.proofs.Common.{◌≡◌, ℕ, zero, suc, ◌+◌, ◌<◌, Bool, true, false, cond, List, [], ◌∷◌}
use Rattle.std.proofs.Common.{◌++◌, length, map, Option, Some, None, slice_get, refl, sym, ap, ◌∙◌}
use Rattle.std.proofs.Common.{arith}
use Rattle.std.specs.Prelude.{option_and_then, unwrap_or, option_map}
use Rattle.std.specs.List.{position_from}
use Rattle.std.specs.Str.{bytes_eq}
use Rattle.std.proofs.lemmas.Option.{slice_get_within, slice_get-map}
use Rattle.wall_policy.specs.Names.{Name, place_of}
use Rattle.wall_policy.specs.Policy.{ChineseWall, IsPolicy, class_of, home_if_any}
use Rattle.wall_policy.specs.Growth as growth
use Rattle.wall_policy.specs.Growth.{IsPrefix, GrewFrom}
use Rattle.wall_policy.specs.Growth.{HasGrown, renumbered, names_first, class_name, class_name_of}
use Rattle.wall_policy.specs.Growth.{class_number, place_if_any, home_name}
use Rattle.wall_policy.proofs.PlaceLemmas.{place_of-name}

---- Lists that go on.

-- what stands at a place stands there also where the list goes on
get_prefix : {X : Type 0} (xs ys : List X) (k : ℕ) (x : X) → slice_get xs k ≡ Some x →
    slice_get (xs ++ ys) k ≡ Some x
get_prefix [] ys k x at = absurd cc
get_prefix (z ∷ xs) ys zero x at = at
get_prefix (z ∷ xs) ys (suc k) x at = get_prefix xs ys k x at

pub some_same : {X : Type 0} (x y : X) → Some x ≡ Some y → x ≡ y
some_same x y e = cc

-- a list whose elements stand at their places in another is the front of it
prefix_by_get : {X : Type 0} (xs ys : List X) →
    ((k : ℕ) (x : X) → slice_get xs k ≡ Some x → slice_get ys k ≡ Some x) → IsPrefix xs ys
prefix_by_get [] ys at = (ys, refl)
prefix_by_get (x ∷ xs) [] at = let none : None ≡ Some x = at 0 x refl in absurd cc
prefix_by_get (x ∷ xs) (y ∷ ys) at =
    let same = some_same y x (at 0 x refl) in
    let rest = prefix_by_get xs ys (λ k z there. at (suc k) z there) in
    (rest.0, ap (λ t. x ∷ t) rest.1 ∙ ap (λ z. z ∷ ys) (sym same))

-- what has a place has an element there
pub get_low : {X : Type 0} (xs : List X) (k : ℕ) → k < length xs → (x : X) × (slice_get xs k ≡ Some x)
get_low [] k low = absurd (omega (arith, low))
get_low (x ∷ xs) zero low = (x, refl)
get_low (x ∷ xs) (suc k) low = get_low xs k (omega (arith, low))

found_step : (k i : ℕ) (t : Bool) (rest longer : Option ℕ) → (rest ≡ Some i → longer ≡ Some i) →
    cond t (Some k) rest ≡ Some i → cond t (Some k) longer ≡ Some i
found_step k i true rest longer more h = h
found_step k i false rest longer more h = more h

found_in_front : (test : Name → Bool) (k i : ℕ) (xs ys : List Name) →
    position_from test k xs ≡ Some i → position_from test k (xs ++ ys) ≡ Some i
found_in_front test k i [] ys h = absurd cc
found_in_front test k i (x ∷ xs) ys h =
    found_step k i (test x) (position_from test (k + 1) xs) (position_from test (k + 1) (xs ++ ys))
    (found_in_front test (k + 1) i xs ys) h

-- the place of a name among names that come first
place_first : (first others : List Name) (i : ℕ) (name : Name) →
    place_of name first ≡ Some i → place_of name (names_first first others) ≡ Some i
place_first first others i name at = found_in_front (bytes_eq name) 0 i first _ at

---- Growth.

module _ (old new : ChineseWall) (policy : IsPolicy old) (policy_too : IsPolicy new)
    (grown : HasGrown old new) where
  abbrev class_names : List Name
  class_names = names_first old.class_names new.class_names

  abbrev dataset_names : List Name
  dataset_names = names_first old.dataset_names new.dataset_names

  processes : IsPrefix old.process_names new.process_names
  processes = prefix_by_get old.process_names new.process_names
      (λ k x at. (grown.processes k (slice_get_within old.process_names k x at)).name ∙ at)

  -- the class of a dataset, by its name
  class_is : (k c : ℕ) (name : Name) → slice_get old.dataset_names k ≡ Some name →
      class_of old k ≡ Some c → class_number class_names (class_name_of new name) ≡ c
  class_is k c name there at =
      let low = policy.known_classes k c at in
      let of_class = get_low old.class_names c low in
      let by_name : class_name_of old name ≡ Some of_class.0 =
      ap (λ p. option_and_then (class_name old) p)
      (place_of-name old.dataset_names k name policy.distinct_datasets there)
      ∙ ap (λ class. option_and_then (λ n. slice_get old.class_names n) class) at
      ∙ of_class.1 in
      ap (class_number class_names) (grown.datasets k name there ∙ by_name)
      ∙ ap (λ p. unwrap_or p 0) (place_first old.class_names new.class_names c of_class.0
      (place_of-name old.class_names c of_class.0 policy.distinct_classes of_class.1))

  class_at : (k c : ℕ) → slice_get old.classes k ≡ Some c →
      slice_get (map (λ name. class_number class_names (class_name_of new name)) dataset_names) k
      ≡ Some c
  class_at k c at =
      let of_each = policy.class_for_each in
      let within = slice_get_within old.classes k c at in
      let named = get_low old.dataset_names k (omega (arith, of_each, within)) in
      slice_get-map (λ name. class_number class_names (class_name_of new name)) dataset_names k
      ∙ ap (option_map (λ name. class_number class_names (class_name_of new name)))
      (get_prefix old.dataset_names _ k named.0 named.1)
      ∙ ap (λ n. Some n) (class_is k c named.0 named.1 at)

  -- the home of a process, by its name
  home_is : (home : Option ℕ) →
      ((d : ℕ) → home ≡ Some d → d < length old.dataset_names) →
      place_if_any dataset_names (option_and_then (λ d. slice_get old.dataset_names d) home) ≡ home
  home_is None known = refl
  home_is (Some d) known =
      let named = get_low old.dataset_names d (known d refl) in
      ap (place_if_any dataset_names) named.1
      ∙ place_first old.dataset_names new.dataset_names d named.0
      (place_of-name old.dataset_names d named.0 policy.distinct_datasets named.1)

  home_at : (k : ℕ) (home : Option ℕ) → slice_get old.homes k ≡ Some home →
      slice_get (map (λ h. place_if_any dataset_names
      (option_and_then (λ d. slice_get new.dataset_names d) h)) new.homes) k ≡ Some home
  home_at k home at =
      let of_each = policy.home_for_each in
      let of_each_too = policy_too.home_for_each in
      let within = slice_get_within old.homes k home at in
      let low : k < length old.process_names = omega (arith, of_each, within) in
      let keeps = grown.processes k low in
      let named = get_low old.process_names k low in
      let there = slice_get_within new.process_names k named.0 (keeps.name ∙ named.1) in
      let now = get_low new.homes k (omega (arith, of_each_too, there)) in
      let then_is : home_name old k ≡ option_and_then (λ d. slice_get old.dataset_names d) home =
      ap (λ h. option_and_then (λ d. slice_get old.dataset_names d) (home_if_any h)) at in
      let now_is : home_name new k ≡ option_and_then (λ d. slice_get new.dataset_names d) now.0 =
      ap (λ h. option_and_then (λ d. slice_get new.dataset_names d) (home_if_any h)) now.1 in
      slice_get-map (λ h. place_if_any dataset_names
      (option_and_then (λ d. slice_get new.dataset_names d) h)) new.homes k
      ∙ ap (option_map (λ h. place_if_any dataset_names
      (option_and_then (λ d. slice_get new.dataset_names d) h))) now.1
      ∙ ap (λ n. Some (place_if_any dataset_names n)) (sym now_is ∙ keeps.home ∙ then_is)
      ∙ ap (λ h. Some h) (home_is home
      (λ d is. policy.known_homes k d (ap home_if_any at ∙ is)))

  pub grew : GrewFrom old (renumbered old new)
  grew = record {
    datasets = (_, refl);
    classes = prefix_by_get old.classes (renumbered old new).classes class_at;
    processes = processes;
    homes = prefix_by_get old.homes (renumbered old new).homes home_at;
  }

pub grown_files_grow : growth.GrownFilesGrow
grown_files_grow old new policy policy_too grown = grew old new policy policy_too grown
