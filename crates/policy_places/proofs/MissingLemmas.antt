-- A document that says no record, and shows no sign of a missing key, has no processes.
use Rattle.std.proofs.Common.{◌≡◌, ℕ, zero, suc, ◌+◌, ◌-◌, ◌≤◌, ◌&&◌, ◌||◌, Bool}
use Rattle.std.proofs.Common.{true, false, not, cond, nat_eq, List, [], ◌∷◌, Option, Some, None}
use Rattle.std.proofs.Common.{refl, sym, ap, ◌∙◌, inl, inr}
use Rattle.std.proofs.Common.{arith, slice_get, subst, pos}
use Rattle.std.specs.Prelude.{codes, is_some, find}
use Rattle.std.specs.List.{list_all, position_from}
use Rattle.std.specs.Option.{option_map_or, unwrap_or}
use Rattle.std.proofs.lemmas.Bool.{cases_Bool, and_parts, false≢true}
use Rattle.std.proofs.lemmas.Option.{same_Some}
use Rattle.toml.specs.Data.{Data, string, integer, float, boolean, datetime, array, table, Items}
use Rattle.toml.specs.Data.{no_items, item, Members, get_member, as_str, as_integer, as_array}
use Rattle.wall_policy.specs.Names.{Name}
use Rattle.wall_policy.specs.Plain.{ClassText, ProcessText, RuleText, PolicyText}
use Rattle.wall_policy.specs.Tree.{◌>>=◌, each, listed, if_listed, list_or_empty, list_at, text_at}
use Rattle.wall_policy.specs.Tree.{number_at, text_if_any, if_text}
use Rattle.wall_policy.specs.Form.{class_of, process_of, rule_of, distinct_at, some_of, record_of}
use Rattle.wall_policy.specs.Form.{processes_in}
use Rattle.policy_places.specs.declared.part.Part.{Part}
use Rattle.policy_places.specs.declared.part.Part.TheVariants.{Class, Process, Rule}
use Rattle.policy_places.specs.declared.sign.Sign.TheVariants.{OtherKind, StrayKey, Lacking}
use Rattle.policy_places.specs.declared.sign.Sign.TheVariants.{FileKey}
use Rattle.policy_places.specs.Parts.{key_of, listed_items, items_in, tables_at}
use Rattle.policy_places.specs.Signs.{is_text, is_integer, is_texts, has, has_required, lacks, fits}
use Rattle.policy_places.specs.Signs.{keys_fit, is_fit, are_enough, are_fit, part_fits, or_next}
use Rattle.policy_places.specs.Signs.{lacking_in, table_there, known_of, stated_version, shows}
use Rattle.policy_places.specs.Signs.{sign_of}
use Rattle.policy_places.specs.Laws.{MissingIsFound}
use Rattle.policy_places.proofs.RecordLemmas.{some_bound}

---- options and tests

some_there : {A : Type 0} (o : Option A) → is_some o ≡ true → (a : A) × (o ≡ Some a)
some_there None h = absurd cc
some_there (Some a) h = (a, refl)

not_false : (b : Bool) → not b ≡ false → b ≡ true
not_false true h = refl
not_false false h = absurd cc

pub none_of : {X : Type 0} (test : X → Bool) (x : X) (xs : List X) → find test (x ∷ xs) ≡ None →
    (test x ≡ false) × (find test xs ≡ None)
none_of test x xs h = elim (cases_Bool (test x)) [
  | inl passes ↦
      let found : Some x ≡ None = sym (ap (λ b. cond b (Some x) (find test xs)) passes) ∙ h in
      absurd cc
  | inr fails ↦ (fails, sym (ap (λ b. cond b (Some x) (find test xs)) fails) ∙ h)
]

---- what stands at keys that hold their kinds of value

text_found : (key : List ℕ) (ms : Members) → fits is_text key ms ≡ true → has key ms ≡ true →
    (n : Name) × (text_at key ms ≡ Some n)
unfolding text_at
text_found key ms = go (get_member key ms)
  where
    go : (o : Option Data) → option_map_or is_text o true ≡ true → is_some o ≡ true →
        (n : Name) × ((o >>= as_str) ≡ Some n)
    go None kind there = absurd cc
    go (Some d) kind there = some_there (as_str d) kind

number_found : (key : List ℕ) (ms : Members) → fits is_integer key ms ≡ true →
    has key ms ≡ true → is_some (number_at key ms) ≡ true
unfolding number_at
number_found key ms = go (get_member key ms)
  where
    go : (o : Option Data) → option_map_or is_integer o true ≡ true → is_some o ≡ true →
        is_some (o >>= as_integer) ≡ true
    go None kind there = absurd cc
    go (Some d) kind there = kind

text_free : (key : List ℕ) (ms : Members) → fits is_text key ms ≡ true →
    is_some (text_if_any key ms) ≡ true
unfolding text_if_any
text_free key ms = go (get_member key ms)
  where
    go : (o : Option Data) → option_map_or is_text o true ≡ true → is_some (if_text o) ≡ true
    go None kind = refl
    go (Some d) kind =
        let (t, is) = some_there (as_str d) kind in
        ap (λ (a : Option Name). is_some (a >>= λ t. Some (Some t))) is

-- items that are each read
each_read : {Y : Type 0} (read : Data → Option Y) (first : Option Y) (d : Data) (ds : Items) →
    is_some (read d) ≡ true → is_some (each read ds) ≡ true → is_some (each read (item d ds)) ≡ true
each_read read first d ds here more =
    let (y, is) = some_there (read d) here in
    let (ys, are) = some_there (each read ds) more in
    ap (λ o. is_some (o >>= λ y. each read ds >>= λ ys. Some (y ∷ ys))) is
    ∙ ap (λ o. is_some (o >>= λ ys. Some (y ∷ ys))) are

texts_read : (ds : Items) → list_all is_text (listed_items ds) ≡ true →
    is_some (each as_str ds) ≡ true
texts_read no_items h = refl
texts_read (item d ds) h =
    let (here, more) = and_parts (is_text d) (list_all is_text (listed_items ds)) h in
    each_read as_str None d ds here (texts_read ds more)

list_found : (key : List ℕ) (ms : Members) → fits is_texts key ms ≡ true → has key ms ≡ true →
    is_some (list_at as_str key ms) ≡ true
unfolding list_at listed
list_found key ms = go (get_member key ms)
  where
    of_items : (a : Option Items) →
        (is_some a && list_all is_text (option_map_or listed_items a [])) ≡ true →
        is_some (a >>= each as_str) ≡ true
    of_items None h = absurd cc
    of_items (Some ds) h = texts_read ds h

    go : (o : Option Data) → option_map_or is_texts o true ≡ true → is_some o ≡ true →
        is_some (o >>= listed as_str) ≡ true
    go None kind there = absurd cc
    go (Some d) kind there = of_items (as_array d) kind

---- tables

class_read : (version : ℕ) (ms : Members) → keys_fit version Class ms ≡ true →
    has_required version Class ms ≡ true → is_some (class_of (table ms)) ≡ true
unfolding class_of
class_read version ms kinds whole =
    let (name_fits, list_fits) =
    and_parts (fits is_text (codes "name") ms) (fits is_texts (codes "datasets") ms) kinds in
    let (name_there, list_there) = and_parts (has (codes "name") ms) (has (codes "datasets") ms)
    whole in
    let (name, is) = text_found (codes "name") ms name_fits name_there in
    let (names, are) = some_there (list_at as_str (codes "datasets") ms)
    (list_found (codes "datasets") ms list_fits list_there) in
    ap (λ o. is_some {T = ClassText} (o >>= λ name. list_at as_str (codes "datasets") ms
    >>= λ datasets. Some (record { name = name; datasets = datasets }))) is
    ∙ ap (λ o. is_some {T = ClassText} (o
    >>= λ datasets. Some (record { name = name; datasets = datasets }))) are

process_read : (version : ℕ) (ms : Members) → keys_fit version Process ms ≡ true →
    has_required version Process ms ≡ true → is_some (process_of (table ms)) ≡ true
unfolding process_of
process_read version ms kinds whole =
    let (name_fits, home_fits) =
    and_parts (fits is_text (codes "name") ms) (fits is_text (codes "home") ms) kinds in
    let (name, is) = text_found (codes "name") ms name_fits whole in
    let (home, at) = some_there (text_if_any (codes "home") ms)
    (text_free (codes "home") ms home_fits) in
    ap (λ o. is_some {T = ProcessText} (o >>= λ name. text_if_any (codes "home") ms
    >>= λ home. Some (record { name = name; home = home }))) is
    ∙ ap (λ o. is_some {T = ProcessText} (o
    >>= λ home. Some (record { name = name; home = home }))) at

distinct_found : (version : ℕ) (ms : Members) →
    (nat_eq version 1 || fits is_integer (codes "distinct") ms) ≡ true →
    (nat_eq version 1 || has (codes "distinct") ms) ≡ true →
    is_some (distinct_at version ms) ≡ true
unfolding distinct_at
distinct_found version ms = go (nat_eq version 1)
  where
    go : (b : Bool) → (b || fits is_integer (codes "distinct") ms) ≡ true →
        (b || has (codes "distinct") ms) ≡ true →
        is_some (cond b (Some (pos 1)) (number_at (codes "distinct") ms)) ≡ true
    go true kind there = refl
    go false kind there = number_found (codes "distinct") ms kind there

rule_read : (version : ℕ) (ms : Members) → keys_fit version Rule ms ≡ true →
    has_required version Rule ms ≡ true → is_some (rule_of version (table ms)) ≡ true
unfolding rule_of
rule_read version ms kinds whole =
    let (some_fit, distinct_fits) = and_parts
    (fits is_text (codes "op") ms && fits is_integer (codes "least") ms)
    (nat_eq version 1 || fits is_integer (codes "distinct") ms) kinds in
    let (op_fits, least_fits) =
    and_parts (fits is_text (codes "op") ms) (fits is_integer (codes "least") ms) some_fit in
    let (some_there_too, distinct_there) = and_parts
    (has (codes "op") ms && has (codes "least") ms)
    (nat_eq version 1 || has (codes "distinct") ms) whole in
    let (op_there, least_there) = and_parts (has (codes "op") ms) (has (codes "least") ms)
    some_there_too in
    let (op, is) = text_found (codes "op") ms op_fits op_there in
    let (least, at) = some_there (number_at (codes "least") ms)
    (number_found (codes "least") ms least_fits least_there) in
    let (distinct, too) = some_there (distinct_at version ms)
    (distinct_found version ms distinct_fits distinct_there) in
    ap (λ o. is_some {T = RuleText} (o >>= λ op. number_at (codes "least") ms
    >>= λ least. distinct_at version ms
    >>= λ distinct. Some (record { op = op; least = least; distinct = distinct }))) is
    ∙ ap (λ o. is_some {T = RuleText} (o >>= λ least. distinct_at version ms
    >>= λ distinct. Some (record { op = op; least = least; distinct = distinct }))) at
    ∙ ap (λ o. is_some {T = RuleText} (o
    >>= λ distinct. Some (record { op = op; least = least; distinct = distinct }))) too

---- arrays

module _ {Y : Type 0} (version : ℕ) (part : Part) (read : Data → Option Y)
    (table_read : (ms : Members) → keys_fit version part ms ≡ true →
    has_required version part ms ≡ true → is_some (read (table ms)) ≡ true) where
  value_read : (d : Data) → is_fit version part d ≡ true → lacks version part d ≡ false →
      is_some (read d) ≡ true
  value_read (table ms) kinds whole =
      table_read ms kinds (not_false (has_required version part ms) whole)
  value_read (string s) kinds whole = absurd cc
  value_read (integer z) kinds whole = absurd cc
  value_read (float x) kinds whole = absurd cc
  value_read (boolean b) kinds whole = absurd cc
  value_read (datetime t) kinds whole = absurd cc
  value_read (array ds) kinds whole = absurd cc

  items_read : (i : ℕ) (ds : Items) → list_all (is_fit version part) (listed_items ds) ≡ true →
      position_from (lacks version part) i (listed_items ds) ≡ None →
      is_some (each read ds) ≡ true
  items_read i no_items kinds whole = refl
  items_read i (item d ds) kinds whole =
      let (here, more) = and_parts (is_fit version part d)
      (list_all (is_fit version part) (listed_items ds)) kinds in
      elim (cases_Bool (lacks version part d)) [
        | inl lacking ↦
            let found : Some i ≡ None = sym (ap (λ b. cond b (Some i)
            (position_from (lacks version part) (i + 1) (listed_items ds))) lacking) ∙ whole in
            absurd cc
        | inr there ↦ each_read read None d ds (value_read d here there)
            (items_read (i + 1) ds more (sym (ap (λ b. cond b (Some i)
            (position_from (lacks version part) (i + 1) (listed_items ds))) there) ∙ whole))
      ]

  array_read : (d : Data) → are_fit version part d ≡ true →
      position_from (lacks version part) 0 (items_in (Some d)) ≡ None →
      is_some (listed read d) ≡ true
  unfolding listed
  array_read d kinds whole = go (as_array d) kinds whole
    where
      go : (a : Option Items) → (is_some a && are_enough part (option_map_or listed_items a [])
          && list_all (is_fit version part) (option_map_or listed_items a [])) ≡ true →
          position_from (lacks version part) 0 (option_map_or listed_items a []) ≡ None →
          is_some (a >>= each read) ≡ true
      go None kinds whole = absurd cc
      go (Some ds) kinds whole = items_read 0 ds (and_parts (are_enough part (listed_items ds))
          (list_all (is_fit version part) (listed_items ds)) kinds).1 whole

  list_read : (ms : Members) → part_fits version part ms ≡ true →
      position_from (lacks version part) 0 (tables_at part ms) ≡ None →
      is_some (list_or_empty read (key_of part) ms) ≡ true
  unfolding list_or_empty
  list_read ms kinds whole = go (get_member (key_of part) ms) kinds whole
    where
      go : (o : Option Data) → option_map_or (are_fit version part) o true ≡ true →
          position_from (lacks version part) 0 (items_in o) ≡ None →
          is_some (if_listed read o) ≡ true
      go None kinds whole = refl
      go (Some d) kinds whole = array_read d kinds whole

-- one process at least
enough_read : (ds : Items) (ps : List ProcessText) → are_enough Process (listed_items ds) ≡ true →
    each process_of ds ≡ Some ps → is_some (some_of ps) ≡ true
enough_read no_items ps enough h = absurd cc
enough_read (item d ds) [] enough h =
    let (p, first, h1) =
    some_bound (process_of d) (λ p. each process_of ds >>= λ more. Some (p ∷ more)) [] h in
    let (more, others, h2) = some_bound (each process_of ds) (λ more. Some (p ∷ more)) [] h1 in
    absurd cc
enough_read (item d ds) (p ∷ ps) enough h = refl

processes_read : (version : ℕ) (ms : Members) (d : Data) →
    get_member (codes "process") ms ≡ Some d → are_fit version Process d ≡ true →
    position_from (lacks version Process) 0 (items_in (Some d)) ≡ None →
    is_some (processes_in ms) ≡ true
unfolding list_at listed
processes_read version ms d is kinds whole =
    let (ps, read) = some_there (listed process_of d)
    (array_read version Process process_of (process_read version) d kinds whole) in
    ap (λ o. is_some ((o >>= listed process_of) >>= some_of)) is
    ∙ ap (λ o. is_some (o >>= some_of)) read
    ∙ go (as_array d) ps kinds read
  where
    go : (a : Option Items) (ps : List ProcessText) →
        (is_some a && are_enough Process (option_map_or listed_items a [])
        && list_all (is_fit version Process) (option_map_or listed_items a [])) ≡ true →
        (a >>= each process_of) ≡ Some ps → is_some (some_of ps) ≡ true
    go None ps kinds read = absurd cc
    go (Some ds) ps kinds read = enough_read ds ps (and_parts (are_enough Process (listed_items ds))
        (list_all (is_fit version Process) (listed_items ds)) kinds).0 read

record_read : (version : ℕ) (ms : Members) →
    is_some (list_or_empty class_of (codes "class") ms) ≡ true →
    is_some (processes_in ms) ≡ true →
    is_some (list_or_empty (rule_of version) (codes "sanitise") ms) ≡ true →
    is_some (record_of version ms) ≡ true
unfolding record_of
record_read version ms classes processes rules =
    let (cs, is) = some_there (list_or_empty class_of (codes "class") ms) classes in
    let (ps, at) = some_there (processes_in ms) processes in
    let (rs, too) = some_there (list_or_empty (rule_of version) (codes "sanitise") ms) rules in
    ap (λ o. is_some {T = PolicyText} (o >>= λ classes. processes_in ms
    >>= λ processes. list_or_empty (rule_of version) (codes "sanitise") ms
    >>= λ rules. Some (record {
      version = version;
      classes = classes;
      processes = processes;
      rules = rules;
    }))) is
    ∙ ap (λ o. is_some {T = PolicyText} (o >>= λ processes.
    list_or_empty (rule_of version) (codes "sanitise") ms
    >>= λ rules. Some (record {
      version = version;
      classes = cs;
      processes = processes;
      rules = rules;
    }))) at
    ∙ ap (λ o. is_some {T = PolicyText} (o >>= λ rules. Some (record {
      version = version;
      classes = cs;
      processes = ps;
      rules = rules;
    }))) too

---- the table that lacks a key

-- what is found stands there
position_there : {X : Type 0} (test : X → Bool) (i n : ℕ) (xs : List X) →
    position_from test i xs ≡ Some n → (i ≤ n) × (is_some (slice_get xs (n - i)) ≡ true)
position_there test i n [] h = absurd cc
position_there test i n (x ∷ xs) h = elim (cases_Bool (test x)) [
  | inl passes ↦
      let same : i ≡ n = same_Some i n
      (sym (ap (λ b. cond b (Some i) (position_from test (i + 1) xs)) passes) ∙ h) in
      let none : n - i ≡ zero = omega (arith, same) in
      (omega (arith, same), ap (λ k. is_some (slice_get (x ∷ xs) k)) none)
  | inr fails ↦
      let later = position_there test (i + 1) n xs
      (sym (ap (λ b. cond b (Some i) (position_from test (i + 1) xs)) fails) ∙ h) in
      let low = later.0 in
      let more : n - i ≡ suc (n - (i + 1)) = omega (arith, low) in
      (omega (arith, low), ap (λ k. is_some (slice_get (x ∷ xs) k)) more ∙ later.1)
]

there_if_some : {X : Type 0} (o : Option X) → is_some o ≡ true →
    option_map_or (λ _. true) o false ≡ true
there_if_some None h = absurd cc
there_if_some (Some x) h = refl

table_is_there : (version : ℕ) (ms : Members) (part : Part) (n : ℕ) →
    position_from (lacks version part) 0 (tables_at part ms) ≡ Some n →
    table_there ms (Some (part, n)) (λ _ _. true) ≡ true
table_is_there version ms part n h =
    let (low, there) = position_there (lacks version part) 0 n (tables_at part ms) h in
    let same : n - 0 ≡ n = omega arith in
    there_if_some (slice_get (tables_at part ms) n)
    (ap (λ k. is_some (slice_get (tables_at part ms) k)) (sym same) ∙ there)

-- no table lacks a key, where the first that does so is not there
none_lacks : (version : ℕ) (ms : Members) →
    table_there ms (lacking_in version ms) (λ _ _. true) ≡ false →
    (position_from (lacks version Class) 0 (tables_at Class ms) ≡ None)
    × (position_from (lacks version Process) 0 (tables_at Process ms) ≡ None)
    × (position_from (lacks version Rule) 0 (tables_at Rule ms) ≡ None)
none_lacks version ms h =
    go (position_from (lacks version Class) 0 (tables_at Class ms))
    (position_from (lacks version Process) 0 (tables_at Process ms))
    (position_from (lacks version Rule) 0 (tables_at Rule ms)) refl refl refl h
  where
    go : (c p r : Option ℕ) → position_from (lacks version Class) 0 (tables_at Class ms) ≡ c →
        position_from (lacks version Process) 0 (tables_at Process ms) ≡ p →
        position_from (lacks version Rule) 0 (tables_at Rule ms) ≡ r →
        table_there ms (or_next Class c (or_next Process p (or_next Rule r None))) (λ _ _. true)
        ≡ false →
        (position_from (lacks version Class) 0 (tables_at Class ms) ≡ None)
        × (position_from (lacks version Process) 0 (tables_at Process ms) ≡ None)
        × (position_from (lacks version Rule) 0 (tables_at Rule ms) ≡ None)
    go (Some n) p r is at too h =
        absurd (false≢true (sym h ∙ table_is_there version ms Class n is))
    go None (Some n) r is at too h =
        absurd (false≢true (sym h ∙ table_is_there version ms Process n at))
    go None None (Some n) is at too h =
        absurd (false≢true (sym h ∙ table_is_there version ms Rule n too))
    go None None None is at too h = (is, at, too)

pub missing_is_found : MissingIsFound
unfolding sign_of
missing_is_found ms version stated unread none =
    go (get_member (codes "process") ms) refl
  where
    kinds_and_more : (shows (known_of ms) OtherKind ms ≡ false)
        × (find (λ sign. shows (known_of ms) sign ms) (StrayKey ∷ Lacking ∷ FileKey ∷ []) ≡ None)
    kinds_and_more = none_of (λ sign. shows (known_of ms) sign ms) OtherKind
        (StrayKey ∷ Lacking ∷ FileKey ∷ []) none

    lacking : shows (known_of ms) Lacking ms ≡ false
    lacking = (none_of (λ sign. shows (known_of ms) sign ms) Lacking (FileKey ∷ [])
        (none_of (λ sign. shows (known_of ms) sign ms) StrayKey (Lacking ∷ FileKey ∷ [])
        kinds_and_more.1).1).0

    version_is : stated_version ms ≡ version
    version_is = ap (λ (o : Option ℕ). unwrap_or o 0) stated

    kinds : (part_fits version Class ms && part_fits version Process ms
        && part_fits version Rule ms) ≡ true
    kinds = not_false _ (subst (λ v. not (part_fits v Class ms && part_fits v Process ms
        && part_fits v Rule ms) ≡ false) version_is kinds_and_more.0)

    whole : (position_from (lacks version Class) 0 (tables_at Class ms) ≡ None)
        × (position_from (lacks version Process) 0 (tables_at Process ms) ≡ None)
        × (position_from (lacks version Rule) 0 (tables_at Rule ms) ≡ None)
    whole = none_lacks version ms
        (subst (λ v. table_there ms (lacking_in v ms) (λ _ _. true) ≡ false) version_is lacking)

    first_two : (part_fits version Class ms && part_fits version Process ms) ≡ true
    first_two = (and_parts (part_fits version Class ms && part_fits version Process ms)
        (part_fits version Rule ms) kinds).0

    rules_fit : part_fits version Rule ms ≡ true
    rules_fit = (and_parts (part_fits version Class ms && part_fits version Process ms)
        (part_fits version Rule ms) kinds).1

    both : (part_fits version Class ms ≡ true) × (part_fits version Process ms ≡ true)
    both = and_parts (part_fits version Class ms) (part_fits version Process ms) first_two

    go : (o : Option Data) → get_member (codes "process") ms ≡ o →
        get_member (codes "process") ms ≡ None
    go None is = is
    go (Some d) is =
        let read = record_read version ms
        (list_read version Class class_of (class_read version) ms both.0 whole.0)
        (processes_read version ms d is
        (sym (ap (λ o. option_map_or (are_fit version Process) o true) is) ∙ both.1)
        (sym (ap (λ o. position_from (lacks version Process) 0 (items_in o)) is) ∙ whole.1))
        (list_read version Rule (rule_of version) (rule_read version) ms rules_fit whole.2) in
        absurd (false≢true (ap (λ o. is_some o) (sym unread) ∙ read))
