-- What is so of the policy of every good record.
use Rattle.std.proofs.Common.{◌≡◌, ℕ, ℤ, pos, negsuc, zero, suc, ◌+◌, ◌<◌, ◌≤◌, Bool, true, false}
use Rattle.std.proofs.Common.{◌&&◌, List, [], ◌∷◌, ◌++◌, length, map, Option, Some, None, cond}
use Rattle.std.proofs.Common.{refl, sym, ◌∙◌, inl, inr, arith, slice_get, ◌⊎◌}
use Rattle.std.proofs.lemmas.Bool.{cases_Bool, leb-true, and_parts}
use Rattle.std.proofs.lemmas.List.{length-map}
use Rattle.std.proofs.lemmas.List.Folds.{list_all-append, list_all-map}
use Rattle.std.specs.List.{list_all, position_from, AllZip}
use Rattle.std.specs.Str.{bytes_eq}
use Rattle.wall_labels.specs.declared.ids.TheConstants.{PROCESS_LIMIT, DATASET_LIMIT, CLASS_LIMIT}
use Rattle.wall_labels.specs.declared.op.Op.{Op}
use Rattle.wall_labels.specs.Ops.{op_of}
use Rattle.wall_policy.specs.Names.{Name, is_name, is_dataset_name}
use Rattle.wall_policy.specs.Plain.{ClassText, ProcessText, RuleText, PolicyText}
use Rattle.wall_policy.specs.Checks.{is_named_class, dataset_names, has_good_names, has_repeats}
use Rattle.wall_policy.specs.Checks.{is_good_least, is_good_distinct, is_good_rule, has_good_leasts}
use Rattle.wall_policy.specs.Checks.{is_small}
use Rattle.wall_policy.specs.Meaning.{class_numbers, home_in, with_rule, leasts_in, distincts_in}
use Rattle.wall_policy.specs.Meaning.{wall_of}
use Rattle.wall_policy.specs.Policy.{ChineseWall, is_version, is_least, home_if_any, IsPair}
use Rattle.wall_policy.specs.Policy.{IsPolicy, with_held, CanBeHeld}
use Rattle.wall_policy.specs.Rivals.{AreRivals}
use Rattle.wall_policy.proofs.BuildLemmas.{length-class_numbers}
use Rattle.wall_policy.proofs.RepeatLemmas.{distinct_names}

both : (a b : Bool) → a ≡ true → b ≡ true → (a && b) ≡ true
both a b p q = rw (p, q) refl

-- the class of a dataset is this class, or one of those after it
this_or_later : (n : ℕ) (words : List Name) (rest : List ℕ) (d class : ℕ) →
    slice_get (map (λ _. n) words ++ rest) d ≡ Some class →
    (class ≡ n) ⊎ ((i : ℕ) × (slice_get rest i ≡ Some class))
this_or_later n [] rest d class at = inr (d, at)
this_or_later n (w ∷ ws) rest zero class at = let same : class ≡ n = cc in inl same
this_or_later n (w ∷ ws) rest (suc d) class at = this_or_later n ws rest d class at

pub class_numbers-below : (n : ℕ) (cs : List ClassText) (d class : ℕ) →
    slice_get (class_numbers n cs) d ≡ Some class → class < n + length cs
class_numbers-below n [] d class at = absurd cc
class_numbers-below n (c ∷ cs) d class at =
    elim (this_or_later n c.datasets (class_numbers (n + 1) cs) d class at) [
      | inl same ↦ omega (arith, same)
      | inr later ↦ omega (arith, class_numbers-below (n + 1) cs later.0 class later.1)
    ]

place-within : (test : Name → Bool) (k : ℕ) (ns : List Name) (d : ℕ) →
    position_from test k ns ≡ Some d → d < k + length ns
place-within test k [] d at = absurd cc
place-within test k (n ∷ ns) d at = elim (cases_Bool (test n)) [
  | inl met
      ↦
      let found : cond true (Some k) (position_from test (k + 1) ns) ≡ Some d = rw met at at in
      let same : k ≡ d = cc in omega (arith, same)
  | inr later ↦ omega (arith, place-within test (k + 1) ns d (rw later at at))
]

home-within : (names : List Name) (home : Option Name) (d : ℕ) → home_in names home ≡ Some d →
    d < length names
home-within names None d at = absurd cc
home-within names (Some home) d at = omega (arith, place-within (bytes_eq home) 0 names d at)

homes-within : (names : List Name) (ps : List ProcessText) (p d : ℕ) →
    home_if_any (slice_get (map (λ q. home_in names q.home) ps) p) ≡ Some d → d < length names
homes-within names [] p d at = absurd cc
homes-within names (q ∷ ps) zero d at = home-within names q.home d at
homes-within names (q ∷ ps) (suc p) d at = homes-within names ps p d at

good_class_names : (cs : List ClassText) → list_all is_named_class cs ≡ true →
    list_all is_name (map (λ c. c.name) cs) ≡ true
good_class_names [] h = refl
good_class_names (c ∷ cs) h =
    let parts = and_parts (is_named_class c) (list_all is_named_class cs) h in
    both _ _ (and_parts (is_name c.name) _ parts.0).0 (good_class_names cs parts.1)

good_dataset_names : (cs : List ClassText) → list_all is_named_class cs ≡ true →
    list_all is_dataset_name (dataset_names cs) ≡ true
good_dataset_names [] h = refl
good_dataset_names (c ∷ cs) h =
    let parts = and_parts (is_named_class c) (list_all is_named_class cs) h in
    list_all-append is_dataset_name c.datasets (dataset_names cs)
    ∙ both _ _ (and_parts (is_name c.name) _ parts.0).1 (good_dataset_names cs parts.1)

good_natural : (op : Option Op) (least : ℤ) (rest : List (Op × ℕ)) → is_good_least least ≡ true →
    list_all (λ r. is_least r.1) rest ≡ true →
    list_all (λ r. is_least r.1) (with_rule op least rest) ≡ true
good_natural None least rest good later = later
good_natural (Some op) (pos n) rest good later = both _ _ good later
good_natural (Some op) (negsuc n) rest good later = absurd cc

leasts_in-good : (rs : List RuleText) → list_all is_good_rule rs ≡ true →
    list_all (λ r. is_least r.1) (leasts_in rs) ≡ true
leasts_in-good [] h = refl
leasts_in-good (r ∷ rs) h =
    let parts = and_parts (is_good_rule r) (list_all is_good_rule rs) h in
    good_natural (op_of r.op) r.least (leasts_in rs) (and_parts (is_good_least r.least) _ parts.0).0
    (leasts_in-good rs parts.1)

good_pair : (op : Option Op) (least distinct : ℤ) (leasts distincts : List (Op × ℕ)) →
    is_good_distinct least distinct ≡ true
    → AllZip IsPair leasts distincts →
    AllZip IsPair (with_rule op least leasts) (with_rule op distinct distincts)
good_pair None least distinct leasts distincts good later = later
good_pair (Some op) (pos least) (pos n) leasts distincts good later = ((refl, good), later)
good_pair (Some op) (pos least) (negsuc n) leasts distincts good later = absurd cc
good_pair (Some op) (negsuc least) distinct leasts distincts good later = absurd cc

distincts_in-good : (rs : List RuleText) → list_all is_good_rule rs ≡ true →
    AllZip IsPair (leasts_in rs) (distincts_in rs)
distincts_in-good [] h = tt
distincts_in-good (r ∷ rs) h =
    let parts = and_parts (is_good_rule r) (list_all is_good_rule rs) h in
    good_pair (op_of r.op) r.least r.distinct (leasts_in rs) (distincts_in rs)
    (and_parts (is_good_least r.least) _ parts.0).1 (distincts_in-good rs parts.1)

pub small_parts : (t : PolicyText) → is_small t ≡ true → (length t.processes ≤ PROCESS_LIMIT)
    × (length (dataset_names t.classes) ≤ DATASET_LIMIT) × (length t.classes ≤ CLASS_LIMIT)
unfolding is_small
small_parts t h =
    let parts = and_parts _ _ h in
    let first = and_parts _ _ parts.0 in
    (leb-true _ _ first.0, leb-true _ _ first.1, leb-true _ _ parts.1)

-- where nothing was held before a process begins with its home alone
home_alone : (classes : List ℕ) (home : Option ℕ) (d e : ℕ) →
    (home ≡ Some d) ⊎ (false ≡ true) → (home ≡ Some e) ⊎ (false ≡ true) →
    ¬ (AreRivals classes d e)
home_alone classes home d e (inl a) (inl b) rivals =
    let is : Some d ≡ Some e = sym a ∙ b in
    let same : d ≡ e = cc in rivals.0 same
home_alone classes home d e (inr bad) b rivals = absurd cc
home_alone classes home d e (inl a) (inr bad) rivals = absurd cc

pub wall_of-IsPolicy : (t : PolicyText) → 1 ≤ length t.processes → has_good_names t ≡ true →
    has_repeats t ≡ false → has_good_leasts t ≡ true → is_small t ≡ true →
    is_version t.version ≡ true → IsPolicy (wall_of t)
unfolding wall_of has_good_names has_good_leasts
wall_of-IsPolicy t some good once leasts small version =
    let names = and_parts (list_all is_named_class t.classes) _ good in
    let few = small_parts t small in
    let distinct = distinct_names t once in
    let processes : length (map (λ p. p.name) t.processes) ≡ length t.processes = length-map
    t.processes (λ p. p.name) in
    let classes : length (map (λ c. c.name) t.classes) ≡ length t.classes = length-map t.classes
    (λ c. c.name) in
    record {
      known_version = version;
      some_process = omega (arith, some, processes);
      few_processes = omega (arith, few.0, processes);
      few_datasets = few.1;
      few_classes = omega (arith, few.2, classes);
      class_for_each = length-class_numbers 0 t.classes;
      known_classes =
          λ d class at. omega (arith, classes, class_numbers-below 0 t.classes d class at);
      home_for_each =
          length-map t.processes (λ p. home_in (dataset_names t.classes) p.home) ∙ sym processes;
      known_homes = λ p d at. homes-within (dataset_names t.classes) t.processes p d at;
      distinct_classes = distinct.0;
      distinct_datasets = distinct.1;
      distinct_processes = distinct.2;
      good_classes = good_class_names t.classes names.0;
      good_datasets = good_dataset_names t.classes names.0;
      good_processes = list_all-map is_name (λ p. p.name) t.processes ∙ names.1;
      good_leasts = leasts_in-good t.rules leasts;
      good_distincts = distincts_in-good t.rules leasts;
      known_held = λ p d bad. let no : false ≡ true = bad in absurd cc;
      apart = λ p d e. home_alone (class_numbers 0 t.classes)
          (home_if_any (slice_get (map (λ q. home_in (dataset_names t.classes) q.home) t.processes)
          p)) d e;
    }

pub with_held-IsPolicy : (w : ChineseWall) (pairs : List (ℕ × ℕ)) → IsPolicy w →
    CanBeHeld w pairs → IsPolicy (with_held w pairs)
with_held-IsPolicy w pairs policy can = record {
  known_version = policy.known_version;
  some_process = policy.some_process;
  few_processes = policy.few_processes;
  few_datasets = policy.few_datasets;
  few_classes = policy.few_classes;
  class_for_each = policy.class_for_each;
  known_classes = policy.known_classes;
  home_for_each = policy.home_for_each;
  known_homes = policy.known_homes;
  distinct_classes = policy.distinct_classes;
  distinct_datasets = policy.distinct_datasets;
  distinct_processes = policy.distinct_processes;
  good_classes = policy.good_classes;
  good_datasets = policy.good_datasets;
  good_processes = policy.good_processes;
  good_leasts = policy.good_leasts;
  good_distincts = policy.good_distincts;
  known_held = can.known;
  apart = can.apart;
}
