-- Where a document shows a sign, its word is named.
use Rattle.std.proofs.Common.{◌≡◌, ℕ, suc, ◌+◌, ◌&&◌, ◌||◌, ◌⊎◌, Bool, true, false, not}
use Rattle.std.proofs.Common.{cond, nat_eq, List, [], ◌∷◌, Option, Some, None, refl, sym, ap, ◌∙◌}
use Rattle.std.proofs.Common.{inl, inr, subst, arith, slice_get, find}
use Rattle.std.specs.Prelude.{is_some, codes, option_and_then}
use Rattle.std.specs.List.{list_all, list_any, position_from}
use Rattle.std.specs.Option.{option_map_or}
use Rattle.std.proofs.lemmas.Bool.{cases_Bool, false≢true, or_cases}
use Rattle.toml.specs.Data.{Data, Members, no_members, member, as_table}
use Rattle.wall_labels.specs.Ops.{op_of}
use Rattle.wall_policy.specs.Names.{Name, is_name, is_dataset_name, is_in, comes_twice}
use Rattle.wall_policy.specs.Answer.{tree_of, in_tree}
use Rattle.policy_places.specs.declared.part.Part.{Part}
use Rattle.policy_places.specs.declared.part.Part.TheVariants.{Class, Process, Rule}
use Rattle.policy_places.specs.declared.sign.Sign.{Sign}
use Rattle.policy_places.specs.declared.sign.Sign.TheVariants as signs
use Rattle.policy_places.specs.Prefixes.{prefix}
use Rattle.policy_places.specs.Parts.{key_of, tables_at, texts_in, datasets_in}
use Rattle.policy_places.specs.Signs.{known_of, stated_version, shows, sign_of, is_file_key}
use Rattle.policy_places.specs.Signs.{is_key_of, all_keys, has_keys, has_stray, has, lacks}
use Rattle.policy_places.specs.Signs.{has_required, or_next, lacking_in, table_there}
use Rattle.policy_places.specs.Signs.{has_bad_least, has_bad_distinct, is_bad_rule, part_fits}
use Rattle.policy_places.specs.Places.{IsFoundBy, IsFoundIn}
use Rattle.policy_places.specs.Named.{named_in, or_else, first_read, first_key, stray_in, stray_of}
use Rattle.policy_places.specs.Named.{first_missing, missing_in, read_there, first_twice}
use Rattle.policy_places.specs.Named.{bad_least_in, names, misfit_in, misfit_of}
use Rattle.policy_places.specs.Laws.{has_word, WordsAreNamed}

-- ---- one of two

not_both : (a b : Bool) → not (a && b) ≡ true → (not a ≡ true) ⊎ (not b ≡ true)
not_both true b h = inr h
not_both false b h = inl refl

first_there : {X : Type 0} (a b : Option X) → is_some a ≡ true → is_some (or_else a b) ≡ true
first_there (Some x) b h = refl
first_there None b h = absurd (false≢true h)

then_there : {X : Type 0} (a b : Option X) → is_some b ≡ true → is_some (or_else a b) ≡ true
then_there (Some x) b h = refl
then_there None b h = h

word_there : (part : Option Part) (o : Option Name) → is_some o ≡ true →
    is_some (named_in part o) ≡ true
word_there part (Some w) h = refl
word_there part None h = absurd (false≢true h)

-- of two, where a test fails
kind_there : {X : Type 0} (p : Bool) (a b : Option X) → is_some b ≡ true → not p ≡ true →
    is_some (cond p None (or_else a b)) ≡ true
kind_there true a b there h = absurd (false≢true h)
kind_there false a b there h = then_there a b there

three_there : {X : Type 0} (a b c : Option X) (p q r : Bool) → (not p ≡ true → is_some a ≡ true) →
    (not q ≡ true → is_some b ≡ true) → (not r ≡ true → is_some c ≡ true) →
    not (p && q && r) ≡ true → is_some (or_else a (or_else b c)) ≡ true
three_there a b c p q r one two three h = elim (not_both (p && q) r h) [
  | inl earlier ↦ elim (not_both p q earlier) [
    | inl first ↦ first_there a (or_else b c) (one first)
    | inr second ↦ then_there a (or_else b c) (first_there b c (two second))
  ]
  | inr third ↦ then_there a (or_else b c) (then_there b c (three third))
]

four_there : {X : Type 0} (a b c d : Option X) (p q r s : Bool) →
    (not p ≡ true → is_some a ≡ true) → (not q ≡ true → is_some b ≡ true) →
    (not r ≡ true → is_some c ≡ true) → (not s ≡ true → is_some d ≡ true) →
    not (p && q && r && s) ≡ true → is_some (or_else a (or_else b (or_else c d))) ≡ true
four_there a b c d p q r s one two three four h = elim (not_both (p && q && r) s h) [
  | inl earlier ↦ three_there a b (or_else c d) p q r one two
      (λ no. first_there c d (three no)) earlier
  | inr fourth ↦
      then_there a (or_else b (or_else c d)) (then_there b (or_else c d)
      (then_there c d (four fourth)))
]

one_of_four : {X : Type 0} (a b c d : Option X) (p q r s : Bool) → (p ≡ true → is_some a ≡ true) →
    (q ≡ true → is_some b ≡ true) → (r ≡ true → is_some c ≡ true) →
    (s ≡ true → is_some d ≡ true) → (p || q || r || s) ≡ true →
    is_some (or_else a (or_else b (or_else c d))) ≡ true
one_of_four a b c d p q r s one two three four h = elim (or_cases (p || q || r) s h) [
  | inl earlier ↦ elim (or_cases (p || q) r earlier) [
    | inl prefix ↦ elim (or_cases p q prefix) [
      | inl first ↦ first_there a (or_else b (or_else c d)) (one first)
      | inr second ↦ then_there a (or_else b (or_else c d))
          (first_there b (or_else c d) (two second))
    ]
    | inr third ↦ then_there a (or_else b (or_else c d)) (then_there b (or_else c d)
        (first_there c d (three third)))
  ]
  | inr fourth ↦ then_there a (or_else b (or_else c d)) (then_there b (or_else c d)
      (then_there c d (four fourth)))
]

-- ---- the first of some

not_all : {X : Type 0} (test : X → Bool) (xs : List X) → not (list_all test xs) ≡ true →
    is_some (find (λ x. not (test x)) xs) ≡ true
not_all test [] h = absurd (false≢true h)
not_all test (x ∷ xs) h = elim (cases_Bool (test x)) [
  | inl so ↦
      ap (λ b. is_some (cond (not b) (Some x) (find (λ y. not (test y)) xs))) so
      ∙ not_all test xs (sym (ap (λ b. not (b && list_all test xs)) so) ∙ h)
  | inr other ↦ ap (λ b. is_some (cond (not b) (Some x) (find (λ y. not (test y)) xs))) other
]

twice_there : (ns : List Name) → comes_twice ns ≡ true → is_some (first_twice ns) ≡ true
twice_there [] h = absurd (false≢true h)
twice_there (n ∷ ns) h = elim (cases_Bool (is_in ns n)) [
  | inl so ↦ ap (λ b. is_some (cond b (Some n) (first_twice ns))) so
  | inr other ↦
      ap (λ b. is_some (cond b (Some n) (first_twice ns))) other
      ∙ twice_there ns (sym (ap (λ b. b || comes_twice ns) other) ∙ h)
]

key_there : (test : List ℕ → Bool) (ms : Members) → not (all_keys test ms) ≡ true →
    is_some (first_key test ms) ≡ true
key_there test no_members h = absurd (false≢true h)
key_there test (member k d ms) h = elim (cases_Bool (test k)) [
  | inl so ↦
      ap (λ b. is_some (cond b (first_key test ms) (Some k))) so
      ∙ key_there test ms (sym (ap (λ b. not (b && all_keys test ms)) so) ∙ h)
  | inr other ↦ ap (λ b. is_some (cond b (first_key test ms) (Some k))) other
]

module _ (read : Data → Option Name) (test : Data → Bool) where
  any_there : ((d : Data) → test d ≡ true → is_some (read d) ≡ true) → (ds : List Data) →
      list_any test ds ≡ true → is_some (first_read read ds) ≡ true
  any_there good [] h = absurd (false≢true h)
  any_there good (d ∷ ds) h = elim (cases_Bool (test d)) [
    | inl so ↦ first_there (read d) (first_read read ds) (good d so)
    | inr other ↦ then_there (read d) (first_read read ds)
        (any_there good ds (sym (ap (λ b. b || list_any test ds) other) ∙ h))
  ]

  not_all_there : ((d : Data) → not (test d) ≡ true → is_some (read d) ≡ true) →
      (ds : List Data) → not (list_all test ds) ≡ true → is_some (first_read read ds) ≡ true
  not_all_there good [] h = absurd (false≢true h)
  not_all_there good (d ∷ ds) h = elim (cases_Bool (test d)) [
    | inl so ↦ then_there (read d) (first_read read ds)
        (not_all_there good ds (sym (ap (λ b. not (b && list_all test ds)) so) ∙ h))
    | inr other ↦ first_there (read d) (first_read read ds) (good d (ap not other))
  ]

-- ---- tables

stray_there : (version : ℕ) (part : Part) (d : Data) → has_stray version part d ≡ true →
    is_some (stray_in version part d) ≡ true
stray_there version part d h = go (as_table d) h
  where
    go : (o : Option Members) →
        not (option_map_or (all_keys (is_key_of version part)) o true) ≡ true →
        is_some (option_and_then (first_key (is_key_of version part)) o) ≡ true
    go None h = absurd (false≢true h)
    go (Some ms) h = key_there (is_key_of version part) ms h

strays_there : (version : ℕ) (part : Part) (ms : Members) →
    not (list_all (has_keys version part) (tables_at part ms)) ≡ true →
    is_some (stray_of version part ms) ≡ true
strays_there version part ms h =
    word_there (Some part) (first_read (stray_in version part) (tables_at part ms))
    (not_all_there (stray_in version part) (has_keys version part) (stray_there version part)
    (tables_at part ms) h)

missing_there : (version : ℕ) (part : Part) (d : Data) → lacks version part d ≡ true →
    is_some (missing_in version part d) ≡ true
missing_there version part d h = go (as_table d) h
  where
    one : (b : Bool) (v w : Name) → is_some (cond b (Some v) (Some w)) ≡ true
    one true v w = refl
    one false v w = refl

    some : (part : Part) (ms : Members) → is_some (first_missing version part ms) ≡ true
    some Class ms = one (has (codes "name") ms) (codes "datasets") (codes "name")
    some Process ms = refl
    some Rule ms = elim (cases_Bool (has (codes "op") ms)) [
      | inl so ↦
          ap (λ b. is_some (cond b (cond (has (codes "least") ms) (Some (codes "distinct"))
          (Some (codes "least"))) (Some (codes "op")))) so
          ∙ one (has (codes "least") ms) (codes "distinct") (codes "least")
      | inr other ↦
          ap (λ b. is_some (cond b (cond (has (codes "least") ms) (Some (codes "distinct"))
          (Some (codes "least"))) (Some (codes "op")))) other
    ]

    go : (o : Option Members) →
        option_map_or (λ ms. not (has_required version part ms)) o false ≡ true →
        is_some (option_and_then (first_missing version part) o) ≡ true
    go None h = absurd (false≢true h)
    go (Some ms) h = some part ms

least_there : (version : ℕ) (d : Data) → is_bad_rule version d ≡ true →
    is_some (bad_least_in version d) ≡ true
least_there version d h =
    go (has_bad_least d) (not (nat_eq version 1) && has_bad_distinct d) h
  where
    go : (a b : Bool) → (a || b) ≡ true →
        is_some (cond a (Some (codes "least")) (cond b (Some (codes "distinct")) None)) ≡ true
    go true b h = refl
    go false true h = refl
    go false false h = absurd (false≢true h)

-- what is read of a table that is there
module _ (ms : Members) (read : Part → Data → Option Name) (test : Part → Data → Bool)
    (good : (part : Part) (d : Data) → test part d ≡ true → is_some (read part d) ≡ true) where
  in_place : (part : Part) (o : Option Data) → option_map_or (test part) o false ≡ true →
      is_some (option_and_then (read part) o) ≡ true
  in_place part None h = absurd (false≢true h)
  in_place part (Some d) h = good part d h

  read_is_there : (l : Option (Part × ℕ)) → table_there ms l test ≡ true →
      is_some (read_there ms l read) ≡ true
  read_is_there None h = absurd (false≢true h)
  read_is_there (Some (part, n)) h =
      word_there (Some part) (option_and_then (read part) (slice_get (tables_at part ms) n))
      (in_place part (slice_get (tables_at part ms) n) h)

-- the first that passes stands at its place
at_position : (test : Data → Bool) (ds : List Data) (i n : ℕ) → position_from test i ds ≡ Some n →
    (m : ℕ) × (n ≡ i + m) × (option_map_or test (slice_get ds m) false ≡ true)
at_position test [] i n h = absurd cc
at_position test (d ∷ ds) i n h = elim (cases_Bool (test d)) [
  | inl so ↦
      let here : Some i ≡ Some n =
      sym (ap (λ b. cond b (Some i) (position_from test (i + 1) ds)) so) ∙ h in
      let same : i ≡ n = cc in
      (0, omega (arith, same), so)
  | inr other ↦
      let (m, far, passes) = at_position test ds (i + 1) n
      (sym (ap (λ b. cond b (Some i) (position_from test (i + 1) ds)) other) ∙ h) in
      (suc m, omega (arith, far), passes)
]

-- the table that lacks a key stands in the whole document
lacking_there : (version : ℕ) (ms : Members) → is_some (lacking_in version ms) ≡ true →
    table_there ms (lacking_in version ms) (lacks version) ≡ true
lacking_there version ms h =
    go (position_from (lacks version Class) 0 (tables_at Class ms))
    (position_from (lacks version Process) 0 (tables_at Process ms))
    (position_from (lacks version Rule) 0 (tables_at Rule ms)) refl refl refl h
  where
    at : (part : Part) (n : ℕ) →
        position_from (lacks version part) 0 (tables_at part ms) ≡ Some n →
        option_map_or (lacks version part) (slice_get (tables_at part ms) n) false ≡ true
    at part n is =
        let (m, far, passes) = at_position (lacks version part) (tables_at part ms) 0 n is in
        let same : m ≡ n = omega (arith, far) in
        subst (λ j. option_map_or (lacks version part) (slice_get (tables_at part ms) j) false
        ≡ true) same passes

    go : (a b c : Option ℕ) → position_from (lacks version Class) 0 (tables_at Class ms) ≡ a →
        position_from (lacks version Process) 0 (tables_at Process ms) ≡ b →
        position_from (lacks version Rule) 0 (tables_at Rule ms) ≡ c →
        is_some (or_next Class a (or_next Process b (or_next Rule c None))) ≡ true →
        table_there ms (or_next Class a (or_next Process b (or_next Rule c None))) (lacks version)
        ≡ true
    go (Some n) b c one two three h = at Class n one
    go None (Some n) c one two three h = at Process n two
    go None None (Some n) one two three h = at Rule n three
    go None None None one two three h = absurd (false≢true h)

-- ---- signs

module _ (whole ms : Members) where
  abbrev version : ℕ
  version = stated_version whole

  unknown : shows (known_of whole) signs.UnknownKey ms ≡ true →
      is_some (names whole (known_of whole) signs.UnknownKey ms) ≡ true
  unknown h = four_there (named_in None (first_key is_file_key ms)) (stray_of version Class ms)
      (stray_of version Process ms) (stray_of version Rule ms) (all_keys is_file_key ms)
      (list_all (has_keys version Class) (tables_at Class ms))
      (list_all (has_keys version Process) (tables_at Process ms))
      (list_all (has_keys version Rule) (tables_at Rule ms))
      (λ no. word_there None (first_key is_file_key ms) (key_there is_file_key ms no))
      (strays_there version Class ms) (strays_there version Process ms)
      (strays_there version Rule ms) h

  bad_names : (part : Part) (test : Name → Bool) (ns : List Name) → not (list_all test ns) ≡ true →
      is_some (named_in (Some part) (find (λ n. not (test n)) ns)) ≡ true
  bad_names part test ns h =
      word_there (Some part) (find (λ n. not (test n)) ns) (not_all test ns h)

  abbrev class_names : List Name
  class_names = texts_in (codes "name") (tables_at Class ms)

  abbrev data_names : List Name
  data_names = datasets_in (tables_at Class ms)

  abbrev process_names : List Name
  process_names = texts_in (codes "name") (tables_at Process ms)

  abbrev op_names : List Name
  op_names = texts_in (codes "op") (tables_at Rule ms)

  bad_name : shows (known_of whole) signs.BadName ms ≡ true →
      is_some (names whole (known_of whole) signs.BadName ms) ≡ true
  bad_name h = three_there (named_in (Some Class) (find (λ n. not (is_name n)) class_names))
      (named_in (Some Class) (find (λ n. not (is_dataset_name n)) data_names))
      (named_in (Some Process) (find (λ n. not (is_name n)) process_names))
      (list_all is_name class_names) (list_all is_dataset_name data_names)
      (list_all is_name process_names) (bad_names Class is_name class_names)
      (bad_names Class is_dataset_name data_names) (bad_names Process is_name process_names) h

  repeated : (part : Part) (ns : List Name) → comes_twice ns ≡ true →
      is_some (named_in (Some part) (first_twice ns)) ≡ true
  repeated part ns h = word_there (Some part) (first_twice ns) (twice_there ns h)

  twice : shows (known_of whole) signs.DuplicateName ms ≡ true →
      is_some (names whole (known_of whole) signs.DuplicateName ms) ≡ true
  twice h = one_of_four (named_in (Some Class) (first_twice class_names))
      (named_in (Some Class) (first_twice data_names))
      (named_in (Some Process) (first_twice process_names))
      (named_in (Some Rule) (first_twice op_names)) (comes_twice class_names)
      (comes_twice data_names) (comes_twice process_names) (comes_twice op_names)
      (repeated Class class_names) (repeated Class data_names) (repeated Process process_names)
      (repeated Rule op_names) h

  lacking : shows (known_of whole) signs.Lacking ms ≡ true →
      is_some (names whole (known_of whole) signs.Lacking ms) ≡ true
  lacking h =
      read_is_there whole (missing_in version) (lacks version) (missing_there version)
      (lacking_in version whole) (lacking_there version whole (some (lacking_in version whole) h))
    where
      some : (l : Option (Part × ℕ)) → table_there ms l (λ _ _. true) ≡ true → is_some l ≡ true
      some None h = h
      some (Some one) h = refl

  misfit_there : (part : Part) → not (part_fits version part ms) ≡ true →
      is_some (misfit_of version part ms) ≡ true
  misfit_there part h = kind_there (part_fits version part ms)
      (named_in (Some part) (first_read (misfit_in version part) (tables_at part ms)))
      (named_in None (Some (key_of part))) refl h

  other_kind : shows (known_of whole) signs.OtherKind ms ≡ true →
      is_some (names whole (known_of whole) signs.OtherKind ms) ≡ true
  other_kind h = three_there (misfit_of version Class ms) (misfit_of version Process ms)
      (misfit_of version Rule ms) (part_fits version Class ms) (part_fits version Process ms)
      (part_fits version Rule ms) (misfit_there Class) (misfit_there Process) (misfit_there Rule) h

  pub named_where_shown : (sign : Sign) → shows (known_of whole) sign ms ≡ true →
      has_word sign ≡ true → is_some (names whole (known_of whole) sign ms) ≡ true
  named_where_shown signs.NotToml h word = absurd (false≢true word)
  named_where_shown signs.Version h word = absurd (false≢true word)
  named_where_shown signs.OtherKind h word = other_kind h
  named_where_shown signs.FileKey h word =
      word_there None (first_key is_file_key ms) (key_there is_file_key ms h)
  named_where_shown signs.StrayKey h word =
      read_is_there ms (stray_in version) (has_stray version) (stray_there version)
      (lacking_in version whole) h
  named_where_shown signs.Lacking h word = lacking h
  named_where_shown signs.UnknownKey h word = unknown h
  named_where_shown signs.BadName h word = bad_name h
  named_where_shown signs.DuplicateName h word = twice h
  named_where_shown signs.UnknownDataset h word =
      word_there (Some Process) (find (λ n. not (is_in (datasets_in (tables_at Class whole)) n))
      (texts_in (codes "home") (tables_at Process ms)))
      (not_all (is_in (datasets_in (tables_at Class whole)))
      (texts_in (codes "home") (tables_at Process ms)) h)
  named_where_shown signs.BadOp h word =
      word_there (Some Rule) (find (λ n. not (is_some (op_of n)))
      (texts_in (codes "op") (tables_at Rule ms)))
      (not_all (λ o. is_some (op_of o)) (texts_in (codes "op") (tables_at Rule ms)) h)
  named_where_shown signs.BadLeast h word =
      word_there (Some Rule) (first_read (bad_least_in version) (tables_at Rule ms))
      (any_there (bad_least_in version) (is_bad_rule version) (least_there version)
      (tables_at Rule ms) h)
  named_where_shown signs.TooMany h word = refl

pub words_are_named : WordsAreNamed
words_are_named text place found is there word = go (tree_of text)
    (subst (λ f. IsFoundIn text place.fault (tree_of text) f) there is.found)
  where
    at : (whole : Members) (t : Option Members) → in_tree (shows (known_of whole) found.sign) t
        ≡ true → is_some (option_and_then (names whole (known_of whole) found.sign) t) ≡ true
    at whole None h = absurd (false≢true h)
    at whole (Some ms) h = named_where_shown whole ms found.sign h word

    by_sign : (whole : Members) (o : Option Sign) → IsFoundBy text whole o (Some found) →
        is_some (option_and_then (names whole (known_of whole) found.sign)
        (tree_of (prefix found.line text))) ≡ true
    by_sign whole None h = absurd h
    by_sign whole (Some sign) h = at whole (tree_of (prefix found.line text))
        (subst (λ (s : Sign). in_tree (shows (known_of whole) s) (tree_of (prefix found.line text))
        ≡ true) (sym h.0) h.1.here)

    go : (o : Option Members) → IsFoundIn text place.fault o (Some found) →
        is_some (option_and_then (λ whole. option_and_then (names whole (known_of whole) found.sign)
        (tree_of (prefix found.line text))) o) ≡ true
    go None h = absurd (false≢true (sym (ap has_word h.0) ∙ word))
    go (Some whole) h = by_sign whole (sign_of whole place.fault) h
