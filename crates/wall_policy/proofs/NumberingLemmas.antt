-- The later policy with the numbers of the earlier first is a policy.
use Rattle.std.proofs.Common.{◌≡◌, ◌⊎◌, ℕ, zero, suc, ◌+◌, ◌<◌, ◌≤◌, Bool, true, false, not, cond}
use Rattle.std.proofs.Common.{◌||◌, List, [], ◌∷◌, ◌++◌, length, map, Option, Some, None}
use Rattle.std.proofs.Common.{slice_get, refl, sym, ap, ◌∙◌, subst, inl, inr, ⊎_elim, arith}
use Rattle.std.proofs.lemmas.List.{length-map}
use Rattle.std.specs.Prelude.{filter, option_and_then, unwrap_or, option_map}
use Rattle.std.specs.List.{position_from, list_all}
use Rattle.std.specs.Str.{bytes_eq}
use Rattle.std.proofs.lemmas.Bool.{cases_Bool, false≢true, or_parts, or_cases, or_right, and_from}
use Rattle.std.proofs.lemmas.Bool.{and_parts}
use Rattle.std.proofs.lemmas.List.Folds.{list_all-append, list_any-append}
use Rattle.std.proofs.lemmas.Option.{slice_get_within, slice_get-map}
use Rattle.std.proofs.lemmas.Slice.Eq.{bytes_eq-Decides}
use Rattle.wall_policy.specs.Names.{Name, place_of, is_in, comes_twice, is_name, is_dataset_name}
use Rattle.wall_policy.specs.Policy.{ChineseWall, IsPolicy, HasAtFirst, class_of}
use Rattle.wall_policy.specs.Policy.{home_if_any}
use Rattle.wall_policy.proofs.PlaceLemmas.{place_of-name}
use Rattle.wall_policy.specs.Growth as growth
use Rattle.wall_policy.specs.Growth.{HasGrown, renumbered, names_first, class_name, class_name_of}
use Rattle.wall_policy.specs.Growth.{class_number, place_if_any, SaysTheSame}
use Rattle.wall_policy.proofs.RenumberLemmas.{get_low, some_same}

---- Names of a list, and their places.

in_at : (ns : List Name) (k : ℕ) (n : Name) → slice_get ns k ≡ Some n → is_in ns n ≡ true
in_at [] k n at = absurd cc
in_at (x ∷ ns) zero n at =
    let same = (bytes_eq-Decides n x).1 (sym (some_same x n at)) in
    ap (λ b. b || is_in ns n) same
in_at (x ∷ ns) (suc k) n at = or_right (bytes_eq n x) (is_in ns n) (in_at ns k n at)

at_in : (ns : List Name) (n : Name) → is_in ns n ≡ true → (k : ℕ) × (slice_get ns k ≡ Some n)
at_in [] n there = absurd cc
at_in (x ∷ ns) n there = ⊎_elim
    (λ here. (zero, ap (λ m. Some m) (sym ((bytes_eq-Decides n x).0 here))))
    (λ later. let at = at_in ns n later in (suc at.0, at.1))
    (or_cases (bytes_eq n x) (is_in ns n) there)

place_step : (n x : Name) (k : ℕ) (ns : List Name) (i : ℕ) (t : Bool) →
    (position_from (bytes_eq n) (k + 1) ns ≡ Some i → i < k + 1 + length ns) →
    cond t (Some k) (position_from (bytes_eq n) (k + 1) ns) ≡ Some i → i < k + suc (length ns)
place_step n x k ns i true more at =
    let is = some_same k i at in omega (arith, is)
place_step n x k ns i false more at = let low = more at in omega (arith, low)

place_within : (n : Name) (k : ℕ) (ns : List Name) (i : ℕ) →
    position_from (bytes_eq n) k ns ≡ Some i → i < k + length ns
place_within n k [] i at = absurd cc
place_within n k (x ∷ ns) i at =
    place_step n x k ns i (bytes_eq n x) (place_within n (k + 1) ns i) at

found_step : (k : ℕ) (t : Bool) (rest : Option ℕ) → ((t ≡ true) ⊎ ((i : ℕ) × (rest ≡ Some i))) →
    (i : ℕ) × (cond t (Some k) rest ≡ Some i)
found_step k true rest h = (k, refl)
found_step k false rest (inl h) = absurd (false≢true h)
found_step k false rest (inr h) = h

place_found : (n : Name) (k : ℕ) (ns : List Name) → is_in ns n ≡ true →
    (i : ℕ) × (position_from (bytes_eq n) k ns ≡ Some i)
place_found n k [] there = absurd cc
place_found n k (x ∷ ns) there = found_step k (bytes_eq n x) (position_from (bytes_eq n) (k + 1) ns)
    (⊎_elim (λ here. inl here) (λ later. inr (place_found n (k + 1) ns later))
    (or_cases (bytes_eq n x) (is_in ns n) there))

---- Names that come first.

-- what is filtered out of a list is not in it
filtered_less : (p : Name → Bool) (ns : List Name) (n : Name) → is_in ns n ≡ false →
    is_in (filter p ns) n ≡ false
filtered_less p [] n none = refl
filtered_less p (x ∷ ns) n none =
    let parts = or_parts (bytes_eq n x) (is_in ns n) none in
    ⊎_elim
    (λ kept. rw kept (ap (λ b. b || is_in (filter p ns) n) parts.0
    ∙ filtered_less p ns n parts.1))
    (λ gone. rw gone (filtered_less p ns n parts.1))
    (cases_Bool (p x))

filtered_once : (p : Name → Bool) (ns : List Name) → comes_twice ns ≡ false →
    comes_twice (filter p ns) ≡ false
filtered_once p [] once = refl
filtered_once p (x ∷ ns) once =
    let parts = or_parts (is_in ns x) (comes_twice ns) once in
    ⊎_elim
    (λ kept. rw kept (ap (λ b. b || comes_twice (filter p ns)) (filtered_less p ns x parts.0)
    ∙ filtered_once p ns parts.1))
    (λ gone. rw gone (filtered_once p ns parts.1))
    (cases_Bool (p x))

-- a name that fails the test is not among those that pass
fails_not_in : (p : Name → Bool) (ns : List Name) (n : Name) → p n ≡ false →
    is_in (filter p ns) n ≡ false
fails_not_in p [] n fails = refl
fails_not_in p (x ∷ ns) n fails = ⊎_elim
    (λ kept.
    let other : bytes_eq n x ≡ false = ⊎_elim
    (λ same. absurd (false≢true
    (sym fails ∙ ap p ((bytes_eq-Decides n x).0 same) ∙ kept)))
    (λ differ. differ)
    (cases_Bool (bytes_eq n x)) in
    rw kept (ap (λ b. b || is_in (filter p ns) n) other ∙ fails_not_in p ns n fails))
    (λ gone. rw gone (fails_not_in p ns n fails))
    (cases_Bool (p x))

-- a name that passes is
passes_in : (p : Name → Bool) (ns : List Name) (n : Name) → p n ≡ true → is_in ns n ≡ true →
    is_in (filter p ns) n ≡ true
passes_in p [] n passes there = absurd cc
passes_in p (x ∷ ns) n passes there = ⊎_elim
    (λ kept. rw kept (⊎_elim
    (λ here. ap (λ b. b || is_in (filter p ns) n) here)
    (λ later. or_right (bytes_eq n x) (is_in (filter p ns) n) (passes_in p ns n passes later))
    (or_cases (bytes_eq n x) (is_in ns n) there)))
    (λ gone. rw gone (⊎_elim
    (λ here. absurd (false≢true
    (sym gone ∙ ap p (sym ((bytes_eq-Decides n x).0 here)) ∙ passes)))
    (λ later. passes_in p ns n passes later)
    (or_cases (bytes_eq n x) (is_in ns n) there)))
    (cases_Bool (p x))

apart_once : (xs ys : List Name) → comes_twice xs ≡ false → comes_twice ys ≡ false →
    ((n : Name) → is_in xs n ≡ true → is_in ys n ≡ false) → comes_twice (xs ++ ys) ≡ false
apart_once [] ys once other apart = other
apart_once (x ∷ xs) ys once other apart =
    let parts = or_parts (is_in xs x) (comes_twice xs) once in
    let here = apart x (in_at (x ∷ xs) zero x refl) in
    let none : is_in (xs ++ ys) x ≡ false =
    list_any-append (bytes_eq x) xs ys ∙ ap (λ b. b || is_in ys x) parts.0 ∙ here in
    ap (λ b. b || comes_twice (xs ++ ys)) none
    ∙ apart_once xs ys parts.1 other
    (λ n there. apart n (or_right (bytes_eq n x) (is_in xs n) there))

module _ (first others : List Name) where
  abbrev is_new : Name → Bool
  is_new name = not (is_in first name)

  pub first_once : comes_twice first ≡ false → comes_twice others ≡ false →
      comes_twice (names_first first others) ≡ false
  first_once once other = apart_once first (filter is_new others) once
      (filtered_once is_new others other)
      (λ n there. fails_not_in is_new others n (ap not there))

  -- a name of the others is there
  pub first_has : (n : Name) → is_in others n ≡ true → is_in (names_first first others) n ≡ true
  first_has n there =
      list_any-append (bytes_eq n) first (filter is_new others)
      ∙ ⊎_elim
      (λ old. ap (λ b. b || is_in (filter is_new others) n) old)
      (λ new. or_right (is_in first n) (is_in (filter is_new others) n)
      (passes_in is_new others n (ap not new) there))
      (cases_Bool (is_in first n))

  filtered_from : (p : Name → Bool) (ns : List Name) (n : Name) → is_in (filter p ns) n ≡ true →
      is_in ns n ≡ true
  filtered_from p ns n there = ⊎_elim
      (λ yes. yes)
      (λ no. absurd (false≢true (sym (filtered_less p ns n no) ∙ there)))
      (cases_Bool (is_in ns n))

  -- and no others are, where the first are among them
  pub first_from : ((n : Name) → is_in first n ≡ true → is_in others n ≡ true) → (n : Name) →
      is_in (names_first first others) n ≡ true → is_in others n ≡ true
  first_from among n there = ⊎_elim
      (λ old. among n old)
      (λ new. filtered_from is_new others n new)
      (or_cases (is_in first n) (is_in (filter is_new others) n)
      (sym (list_any-append (bytes_eq n) first (filter is_new others)) ∙ there))

---- No more names than there are in the list that has them.

abbrev without : Name → List Name → List Name
without x [] = []
without x (y ∷ ys) = cond (bytes_eq x y) ys (y ∷ without x ys)

one_less : (x : Name) (ys : List Name) → is_in ys x ≡ true →
    suc (length (without x ys)) ≡ length ys
one_less x [] there = absurd cc
one_less x (y ∷ ys) there = ⊎_elim
    (λ here. rw here refl)
    (λ other. rw other (ap suc (one_less x ys (⊎_elim
    (λ here. absurd (false≢true (sym other ∙ here))) (λ later. later)
    (or_cases (bytes_eq x y) (is_in ys x) there)))))
    (cases_Bool (bytes_eq x y))

still_in : (x n : Name) (ys : List Name) → (n ≡ x → ⊥) → is_in ys n ≡ true →
    is_in (without x ys) n ≡ true
still_in x n [] apart there = absurd cc
still_in x n (y ∷ ys) apart there = ⊎_elim
    (λ here. rw here (⊎_elim
    (λ same. absurd (apart ((bytes_eq-Decides n y).0 same
    ∙ sym ((bytes_eq-Decides x y).0 here))))
    (λ later. later)
    (or_cases (bytes_eq n y) (is_in ys n) there)))
    (λ other. rw other (⊎_elim
    (λ same. ap (λ b. b || is_in (without x ys) n) same)
    (λ later. or_right (bytes_eq n y) (is_in (without x ys) n) (still_in x n ys apart later))
    (or_cases (bytes_eq n y) (is_in ys n) there)))
    (cases_Bool (bytes_eq x y))

no_more_names : (xs ys : List Name) → comes_twice xs ≡ false →
    ((n : Name) → is_in xs n ≡ true → is_in ys n ≡ true) → length xs ≤ length ys
no_more_names [] ys once among = omega arith
no_more_names (x ∷ xs) ys once among =
    let parts = or_parts (is_in xs x) (comes_twice xs) once in
    let less = one_less x ys (among x (in_at (x ∷ xs) zero x refl)) in
    let rest = no_more_names xs (without x ys) parts.1
    (λ n there. still_in x n ys
    (λ same. false≢true (sym parts.0 ∙ subst (λ m. is_in xs m ≡ true) same there))
    (among n (or_right (bytes_eq n x) (is_in xs n) there))) in
    omega (arith, less, rest)

-- a test that all names pass
all_filtered : (t p : Name → Bool) (ns : List Name) → list_all t ns ≡ true →
    list_all t (filter p ns) ≡ true
all_filtered t p [] all = refl
all_filtered t p (x ∷ ns) all =
    let parts = and_parts (t x) (list_all t ns) all in
    ⊎_elim
    (λ kept. rw kept (and_from (t x) (list_all t (filter p ns)) parts.0
    (all_filtered t p ns parts.1)))
    (λ gone. rw gone (all_filtered t p ns parts.1))
    (cases_Bool (p x))

all_first : (t : Name → Bool) (first others : List Name) → list_all t first ≡ true →
    list_all t others ≡ true → list_all t (names_first first others) ≡ true
all_first t first others one other =
    list_all-append t first (filter (λ name. not (is_in first name)) others)
    ∙ and_from (list_all t first) _ one
    (all_filtered t (λ name. not (is_in first name)) others other)

---- The policy with its numbers given anew.

from_mapped : {X Y : Type 0} (f : X → Y) (o : Option X) (y : Y) → option_map f o ≡ Some y →
    (x : X) × (o ≡ Some x) × (f x ≡ y)
from_mapped f None y e = absurd cc
from_mapped f (Some x) y e = (x, refl, some_same (f x) y e)

module _ (old new : ChineseWall) (policy : IsPolicy old) (policy_too : IsPolicy new)
    (grown : HasGrown old new) where
  abbrev class_names : List Name
  class_names = names_first old.class_names new.class_names

  abbrev dataset_names : List Name
  dataset_names = names_first old.dataset_names new.dataset_names

  abbrev number_of : Name → ℕ
  number_of name = class_number class_names (class_name_of new name)

  abbrev home_anew : Option ℕ → Option ℕ
  home_anew home =
      place_if_any dataset_names (option_and_then (λ d. slice_get new.dataset_names d) home)

  classes_among : (n : Name) → is_in old.class_names n ≡ true → is_in new.class_names n ≡ true
  classes_among n there =
      let at = at_in old.class_names n there in grown.classes at.0 n at.1

  -- the class of a dataset of the policy has a name
  class_named : (w : ChineseWall) → IsPolicy w → (d : ℕ) → d < length w.dataset_names →
      (c : ℕ) × (n : Name) × (class_name w d ≡ Some n) × (slice_get w.class_names c ≡ Some n)
  class_named w is d low =
      let of_each = is.class_for_each in
      let class = get_low w.classes d (omega (arith, of_each, low)) in
      let named = get_low w.class_names class.0 (is.known_classes d class.0 class.1) in (
        class.0,
        named.0,
        ap (λ c. option_and_then (λ k. slice_get w.class_names k) c) class.1 ∙ named.1,
        named.1,
      )

  -- a name that is placed nowhere has no class
  placed : (name n : Name) (o : Option ℕ) → place_of name new.dataset_names ≡ o →
      option_and_then (class_name new) o ≡ Some n → is_in new.dataset_names name ≡ true
  placed name n None at is = absurd cc
  placed name n (Some i) at is = ⊎_elim
      (λ there. there)
      (λ none. absurd (not_placed new.dataset_names 0 none at))
      (cases_Bool (is_in new.dataset_names name))
    where
      not_placed : (ns : List Name) (k : ℕ) → is_in ns name ≡ false →
          position_from (bytes_eq name) k ns ≡ Some i → ⊥
      not_placed [] k none at = cc
      not_placed (x ∷ ns) k none at =
          let parts = or_parts (bytes_eq name x) (is_in ns name) none in
          not_placed ns (k + 1) parts.1
          (ap (λ b. cond b (Some k) (position_from (bytes_eq name) (k + 1) ns)) (sym parts.0) ∙ at)

  datasets_among : (n : Name) → is_in old.dataset_names n ≡ true →
      is_in new.dataset_names n ≡ true
  datasets_among n there =
      let at = at_in old.dataset_names n there in
      let named = class_named old policy at.0 (slice_get_within old.dataset_names at.0 n at.1) in
      let by_name : class_name_of old n ≡ Some named.1 =
      ap (λ p. option_and_then (class_name old) p)
      (place_of-name old.dataset_names at.0 n policy.distinct_datasets at.1) ∙ named.2 in
      placed n named.1 (place_of n new.dataset_names) refl (grown.datasets at.0 n at.1 ∙ by_name)

  few_names : length dataset_names ≤ length new.dataset_names
  few_names = no_more_names dataset_names new.dataset_names
      (first_once old.dataset_names new.dataset_names policy.distinct_datasets
      policy_too.distinct_datasets)
      (first_from old.dataset_names new.dataset_names datasets_among)

  few_class_names : length class_names ≤ length new.class_names
  few_class_names = no_more_names class_names new.class_names
      (first_once old.class_names new.class_names policy.distinct_classes
      policy_too.distinct_classes)
      (first_from old.class_names new.class_names classes_among)

  class_known : (name : Name) → is_in new.dataset_names name ≡ true →
      number_of name < length class_names
  class_known name there =
      let at = at_in new.dataset_names name there in
      let named =
      class_named new policy_too at.0 (slice_get_within new.dataset_names at.0 name at.1) in
      let by_name : class_name_of new name ≡ Some named.1 =
      ap (λ p. option_and_then (class_name new) p)
      (place_of-name new.dataset_names at.0 name policy_too.distinct_datasets at.1)
      ∙ named.2 in
      let found = place_found named.1 0 class_names
      (first_has old.class_names new.class_names named.1
      (in_at new.class_names named.0 named.1 named.3)) in
      let is : number_of name ≡ found.0 =
      ap (class_number class_names) by_name ∙ ap (λ p. unwrap_or p 0) found.1 in
      let low = place_within named.1 0 class_names found.0 found.1 in
      omega (arith, is, low)

  known_classes : (d class : ℕ) → slice_get (map number_of dataset_names) d ≡ Some class →
      class < length class_names
  known_classes d class at =
      let from = from_mapped number_of (slice_get dataset_names d) class
      (sym (slice_get-map number_of dataset_names d) ∙ at) in
      subst (λ c. c < length class_names) from.2
      (class_known from.0 (first_from old.dataset_names new.dataset_names datasets_among from.0
      (in_at dataset_names d from.0 from.1)))

  home_known : (o : Option Name) (d : ℕ) → place_if_any dataset_names o ≡ Some d →
      d < length dataset_names
  home_known None d at = absurd cc
  home_known (Some name) d at =
      let low = place_within name 0 dataset_names d at in omega (arith, low)

  known_homes_at : (o : Option (Option ℕ)) (d : ℕ) →
      home_if_any (option_map home_anew o) ≡ Some d → d < length dataset_names
  known_homes_at None d at = absurd cc
  known_homes_at (Some home) d at =
      home_known (option_and_then (λ k. slice_get new.dataset_names k) home) d at

  pub is_policy : IsPolicy (renumbered old new)
  is_policy = record {
    known_version = policy_too.known_version;
    some_process = policy_too.some_process;
    few_processes = policy_too.few_processes;
    few_datasets = (let few = few_names in let limit = policy_too.few_datasets in
        omega (arith, few, limit));
    few_classes = (let few = few_class_names in let limit = policy_too.few_classes in
        omega (arith, few, limit));
    class_for_each = length-map dataset_names number_of;
    known_classes = known_classes;
    home_for_each = length-map new.homes home_anew ∙ policy_too.home_for_each;
    known_homes = λ p d at. known_homes_at (slice_get new.homes p) d
        (ap home_if_any (sym (slice_get-map home_anew new.homes p)) ∙ at);
    distinct_classes = first_once old.class_names new.class_names policy.distinct_classes
        policy_too.distinct_classes;
    distinct_datasets = first_once old.dataset_names new.dataset_names policy.distinct_datasets
        policy_too.distinct_datasets;
    distinct_processes = policy_too.distinct_processes;
    good_classes = all_first is_name old.class_names new.class_names policy.good_classes
        policy_too.good_classes;
    good_datasets = all_first is_dataset_name old.dataset_names new.dataset_names
        policy.good_datasets policy_too.good_datasets;
    good_processes = policy_too.good_processes;
    good_leasts = policy_too.good_leasts;
    good_distincts = policy_too.good_distincts;
    known_held = λ p d has. absurd (false≢true has);
    apart = apart;
  }
    where
      apart : (p d e : ℕ) → HasAtFirst (renumbered old new) p d →
          HasAtFirst (renumbered old new) p e →
          ¬ (Rattle.wall_policy.specs.Rivals.AreRivals (renumbered old new).classes d e)
      apart p d e (inl home_d) (inl home_e) rivals =
          let is : Some d ≡ Some e = sym home_d ∙ home_e in
          rivals.0 (some_same d e is)
      apart p d e (inl home_d) (inr held) rivals = absurd (false≢true held)
      apart p d e (inr held) other rivals = absurd (false≢true held)

---- It says the same.

at_step : (n x : Name) (k : ℕ) (ns : List Name) (i : ℕ) (t : Bool) → bytes_eq n x ≡ t →
    (position_from (bytes_eq n) (k + 1) ns ≡ Some i →
    (j : ℕ) × (i ≡ k + 1 + j) × (slice_get ns j ≡ Some n)) →
    cond t (Some k) (position_from (bytes_eq n) (k + 1) ns) ≡ Some i →
    (j : ℕ) × (i ≡ k + j) × (slice_get (x ∷ ns) j ≡ Some n)
at_step n x k ns i true is more at =
    let here = some_same k i at in
    (zero, omega (arith, here), ap (λ m. Some m) (sym ((bytes_eq-Decides n x).0 is)))
at_step n x k ns i false is more at =
    let later = more at in
    let far = later.1 in
    (suc later.0, omega (arith, far), later.2)

-- at its place is the name
place_at : (n : Name) (k : ℕ) (ns : List Name) (i : ℕ) →
    position_from (bytes_eq n) k ns ≡ Some i →
    (j : ℕ) × (i ≡ k + j) × (slice_get ns j ≡ Some n)
place_at n k [] i at = absurd cc
place_at n k (x ∷ ns) i at =
    at_step n x k ns i (bytes_eq n x) refl (place_at n (k + 1) ns i) at

there_at : (n : Name) (ns : List Name) (i : ℕ) → place_of n ns ≡ Some i →
    slice_get ns i ≡ Some n
there_at n ns i at =
    let found = place_at n 0 ns i at in
    let far = found.1 in
    let is : i ≡ found.0 = omega (arith, far) in
    ap (λ j. slice_get ns j) is ∙ found.2

pub not_there : (n : Name) (k : ℕ) (ns : List Name) → is_in ns n ≡ false →
    position_from (bytes_eq n) k ns ≡ None
not_there n k [] none = refl
not_there n k (x ∷ ns) none =
    let parts = or_parts (bytes_eq n x) (is_in ns n) none in
    ap (λ b. cond b (Some k) (position_from (bytes_eq n) (k + 1) ns)) parts.0
    ∙ not_there n (k + 1) ns parts.1

module _ (old new : ChineseWall) (policy : IsPolicy old) (policy_too : IsPolicy new)
    (grown : HasGrown old new) where
  abbrev anew : ChineseWall
  anew = renumbered old new

  same_class : (name : Name) → is_in new.dataset_names name ≡ true →
      class_name_of new name ≡ class_name_of anew name
  same_class name there =
      let at = at_in new.dataset_names name there in
      let named = class_named old new policy policy_too grown new policy_too at.0
      (slice_get_within new.dataset_names at.0 name at.1) in
      let by_name : class_name_of new name ≡ Some named.1 =
      ap (λ p. option_and_then (class_name new) p)
      (place_of-name new.dataset_names at.0 name policy_too.distinct_datasets at.1)
      ∙ named.2 in
      let found = place_found named.1 0 anew.class_names
      (first_has old.class_names new.class_names named.1
      (in_at new.class_names named.0 named.1 named.3)) in
      let number : class_number anew.class_names (class_name_of new name) ≡ found.0 =
      ap (class_number anew.class_names) by_name ∙ ap (λ p. unwrap_or p 0) found.1 in
      let place = place_found name 0 anew.dataset_names
      (first_has old.dataset_names new.dataset_names name there) in
      let of_class : class_of anew place.0 ≡ Some found.0 =
      slice_get-map (λ n. class_number anew.class_names (class_name_of new n)) anew.dataset_names
      place.0
      ∙ ap (option_map (λ n. class_number anew.class_names (class_name_of new n)))
      (there_at name anew.dataset_names place.0 place.1)
      ∙ ap (λ c. Some c) number in
      by_name
      ∙ sym (ap (λ p. option_and_then (class_name anew) p) place.1
      ∙ ap (λ c. option_and_then (λ k. slice_get anew.class_names k) c) of_class
      ∙ there_at named.1 anew.class_names found.0 found.1)

  no_class : (name : Name) → is_in new.dataset_names name ≡ false →
      class_name_of new name ≡ class_name_of anew name
  no_class name none =
      let none_too : is_in anew.dataset_names name ≡ false = ⊎_elim
      (λ there. absurd (false≢true (sym none ∙ first_from old.dataset_names new.dataset_names
      (datasets_among old new policy policy_too grown) name there)))
      (λ no. no)
      (cases_Bool (is_in anew.dataset_names name)) in
      ap (λ p. option_and_then (class_name new) p) (not_there name 0 new.dataset_names none)
      ∙ sym (ap (λ p. option_and_then (class_name anew) p)
      (not_there name 0 anew.dataset_names none_too))

  same_home : (home : Option ℕ) →
      ((d : ℕ) → home ≡ Some d → d < length new.dataset_names) →
      option_and_then (λ d. slice_get new.dataset_names d) home
      ≡ option_and_then (λ d. slice_get anew.dataset_names d)
      (place_if_any anew.dataset_names (option_and_then (λ d. slice_get new.dataset_names d) home))
  same_home None known = refl
  same_home (Some d) known =
      let named = get_low new.dataset_names d (known d refl) in
      let place = place_found named.0 0 anew.dataset_names
      (first_has old.dataset_names new.dataset_names named.0
      (in_at new.dataset_names d named.0 named.1)) in
      named.1
      ∙ sym (ap (λ o. option_and_then (λ k. slice_get anew.dataset_names k)
      (place_if_any anew.dataset_names o)) named.1
      ∙ ap (λ o. option_and_then (λ k. slice_get anew.dataset_names k) o) place.1
      ∙ there_at named.0 anew.dataset_names place.0 place.1)

  same_home_at : (p : ℕ) (o : Option (Option ℕ)) → slice_get new.homes p ≡ o →
      option_and_then (λ d. slice_get new.dataset_names d) (home_if_any o)
      ≡ option_and_then (λ d. slice_get anew.dataset_names d) (home_if_any (option_map (λ home.
      place_if_any anew.dataset_names
      (option_and_then (λ d. slice_get new.dataset_names d) home)) o))
  same_home_at p None at = refl
  same_home_at p (Some home) at = same_home home
      (λ d is. policy_too.known_homes p d (ap home_if_any at ∙ is))

  pub says_the_same : SaysTheSame new anew
  says_the_same = record {
    version = refl;
    processes = refl;
    datasets = λ name. ⊎_elim (same_class name) (no_class name)
        (cases_Bool (is_in new.dataset_names name));
    homes = λ p. same_home_at p (slice_get new.homes p) refl
        ∙ ap (λ o. option_and_then (λ d. slice_get anew.dataset_names d) (home_if_any o))
        (sym (slice_get-map (λ home. place_if_any anew.dataset_names
        (option_and_then (λ d. slice_get new.dataset_names d) home)) new.homes p));
    leasts = refl;
    distincts = refl;
  }

pub grown_files_are_policies : growth.GrownFilesArePolicies
grown_files_are_policies old new policy policy_too grown = (
  is_policy old new policy policy_too grown,
  says_the_same old new policy policy_too grown,
)
