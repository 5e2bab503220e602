-- Names that come twice, over lists that are walked in parts.
use Rattle.std.proofs.Common.{◌≡◌, ℕ, ◌+◌, ◌<◌, Bool, true, false, ◌||◌, not, List, [], ◌∷◌, ◌++◌}
use Rattle.std.proofs.Common.{length, get_or, drop, map, refl, sym, ap, ◌∙◌, append_assoc}
use Rattle.std.proofs.Common.{cond, Option, Some, None, inl, inr}
use Rattle.std.proofs.lemmas.Bool.{cases_Bool}
use Rattle.std.proofs.lemmas.List.{drop_more, append-nil}
use Rattle.wall_policy.specs.Plain.{ClassText, PolicyText}
use Rattle.std.proofs.Math.Bool.{or-true}
use Rattle.std.proofs.lemmas.List.Folds.{list_any-append}
use Rattle.std.specs.List.{list_any}
use Rattle.std.specs.Str.{bytes_eq}
use Rattle.wall_policy.proofs.PlaceLemmas.{bytes_eq-symmetric}
use Rattle.wall_policy.specs.Names.{Name, is_in, comes_twice}
use Rattle.wall_policy.specs.Numbering.{repeats_after, table_if_distinct}
use Rattle.wall_policy.specs.Checks.{dataset_names, has_repeats}

or_assoc : (a b c : Bool) → (a || b || c) ≡ (a || (b || c))
or_assoc true b c = refl
or_assoc false b c = refl

pub repeats_after-append : (seen xs ys : List Name) →
    repeats_after seen (xs ++ ys) ≡ (repeats_after seen xs || repeats_after (seen ++ xs) ys)
repeats_after-append seen [] ys = ap (λ s. repeats_after s ys) (sym (append-nil seen))
repeats_after-append seen (x ∷ xs) ys =
    ap (λ b. is_in seen x || b) (repeats_after-append (seen ++ x ∷ []) xs ys)
    ∙ ap (λ s. is_in seen x || (repeats_after (seen ++ x ∷ []) xs || repeats_after s ys))
    (append_assoc seen (x ∷ []) xs)
    ∙ sym (or_assoc (is_in seen x) _ _)

-- a name of the list is among `seen ++ x ∷ []` if it is among `seen` or is x
regroup_last : (p q r s : Bool) → ((p || (q || false)) || (r || s)) ≡ ((p || r) || (q || s))
regroup_last true q r s = refl
regroup_last false true true s = refl
regroup_last false true false s = refl
regroup_last false false r s = refl

any_with_last : (seen ys : List Name) (x : Name) →
    list_any (is_in (seen ++ x ∷ [])) ys ≡ (list_any (is_in seen) ys || is_in ys x)
any_with_last seen [] x = refl
any_with_last seen (y ∷ ys) x =
    (λ i. list_any-append (bytes_eq y) seen (x ∷ []) i || any_with_last seen ys x i)
    ∙ regroup_last (is_in seen y) (bytes_eq y x) (list_any (is_in seen) ys) (is_in ys x)
    ∙ ap (λ b. (is_in seen y || list_any (is_in seen) ys) || (b || is_in ys x))
    (bytes_eq-symmetric y x)

regroup_rest : (a b c d : Bool) → (a || ((b || c) || d)) ≡ ((a || b) || (c || d))
regroup_rest true b c d = refl
regroup_rest false true c d = refl
regroup_rest false false c d = refl

-- a walk that remembers the names seen finds the same
repeats_after-is : (seen ns : List Name) →
    repeats_after seen ns ≡ (list_any (is_in seen) ns || comes_twice ns)
repeats_after-is seen [] = refl
repeats_after-is seen (n ∷ ns) =
    ap (λ b. is_in seen n || b) (repeats_after-is (seen ++ n ∷ []) ns
    ∙ ap (λ b. b || comes_twice ns) (any_with_last seen ns n))
    ∙ regroup_rest (is_in seen n) (list_any (is_in seen) ns) (is_in ns n) (comes_twice ns)

none_seen : (ns : List Name) → list_any (is_in []) ns ≡ false
none_seen [] = refl
none_seen (n ∷ ns) = none_seen ns

pub repeats_after-nil : (ns : List Name) → repeats_after [] ns ≡ comes_twice ns
repeats_after-nil ns = repeats_after-is [] ns ∙ ap (λ b. b || comes_twice ns) (none_seen ns)

same_names : (xs : List Name) → map (λ x. x) xs ≡ xs
same_names [] = refl
same_names (x ∷ xs) = ap (λ ys. x ∷ ys) (same_names xs)

datasets-drop : (cs : List ClassText) (i : ℕ) (d : ClassText) → i < length cs →
    dataset_names (drop i cs)
    ≡ map (λ x. x) (get_or cs i d).datasets ++ dataset_names (drop (i + 1) cs)
datasets-drop cs i d h =
    ap dataset_names (drop_more cs i d h)
    ∙ ap (λ ns. ns ++ dataset_names (drop (i + 1) cs))
    (sym (same_names (get_or cs i d).datasets))

module _ (old seen : List Name) (cs : List ClassText) (i : ℕ) (d : ClassText) (lt : i < length cs)
  where
    abbrev added : List Name
    added = map (λ x. x) (get_or cs i d).datasets

    parts : repeats_after seen (dataset_names (drop i cs))
        ≡ (repeats_after seen added
        || repeats_after (seen ++ added) (dataset_names (drop (i + 1) cs)))
    parts = ap (repeats_after seen) (datasets-drop cs i d lt) ∙ repeats_after-append seen added _

    pub stops : repeats_after seen added ≡ true →
        repeats_after seen (dataset_names (drop i cs)) ≡ repeats_after old (dataset_names cs) →
        repeats_after old (dataset_names cs) ≡ true
    stops twice rest = sym rest ∙ parts
        ∙ ap (λ b. b || repeats_after (seen ++ added) (dataset_names (drop (i + 1) cs))) twice

    pub goes_on : repeats_after seen added ≡ false →
        repeats_after seen (dataset_names (drop i cs)) ≡ repeats_after old (dataset_names cs)
        →
        repeats_after (seen ++ added) (dataset_names (drop (i + 1) cs))
        ≡ repeats_after old (dataset_names cs)
    goes_on once rest =
        ap (λ b. b || repeats_after (seen ++ added) (dataset_names (drop (i + 1) cs)))
        (sym once) ∙ sym parts ∙ rest

    pub goes_through : seen ++ dataset_names (drop i cs) ≡ old ++ dataset_names cs →
        (seen ++ added) ++ dataset_names (drop (i + 1) cs) ≡ old ++ dataset_names cs
    goes_through all =
        append_assoc seen added _ ∙ ap (λ ns. seen ++ ns) (sym (datasets-drop cs i d lt)) ∙ all

-- one name more, which was not there
module _ {A : Type 0} (name_of : A → Name) (seen : List Name) (xs : List A) (i : ℕ) (x : A)
    (all : Bool) (lt : i < length xs) (same : x ≡ get_or xs i x)
    (h : repeats_after seen (map name_of (drop i xs)) ≡ all)
  where
    pub one_more : is_in seen (name_of x) ≡ false →
        repeats_after (seen ++ name_of x ∷ []) (map name_of (drop (i + 1) xs)) ≡ all
    one_more once =
        ap (λ b. b || repeats_after (seen ++ name_of x ∷ []) (map name_of (drop (i + 1) xs)))
        (sym once)
        ∙ ap (λ y. repeats_after seen (name_of y ∷ map name_of (drop (i + 1) xs))) same
        ∙ ap (λ ys. repeats_after seen (map name_of ys)) (sym (drop_more xs i x lt))
        ∙ h

pub turned_true : (b x : Bool) → b ≡ not x → b ≡ false → x ≡ true
turned_true b true e f = refl
turned_true b false e f = cc

pub turned_false : (b x : Bool) → b ≡ not x → b ≡ true → x ≡ false
turned_false b true e f = cc
turned_false b false e f = refl

-- what a table tells of the names that it was made from
pub distinct_some : (o : Option (List Name)) (t ns : List Name) → o ≡ table_if_distinct ns →
    o ≡ Some t → (comes_twice ns ≡ false) × (t ≡ ns)
distinct_some o t ns made found = elim (cases_Bool (comes_twice ns)) [
  | inl twice ↦ let none : o ≡ None = made ∙ ap (λ b. cond b None (Some ns)) twice in cc
  | inr once ↦ (once, let some : o ≡ Some ns = made ∙ ap (λ b. cond b None (Some ns)) once in cc)
]

pub distinct_none : (o : Option (List Name)) (ns : List Name) → o ≡ table_if_distinct ns →
    o ≡ None → comes_twice ns ≡ true
distinct_none o ns made found = elim (cases_Bool (comes_twice ns)) [
  | inl twice ↦ twice
  | inr once ↦ let some : o ≡ Some ns = made ∙ ap (λ b. cond b None (Some ns)) once in cc
]

any_last : (a b c d : Bool) → d ≡ true → (a || b || c || d) ≡ true
any_last a b c d h = rw h (or-true (a || b || c))

none_of : (a b c d : Bool) → a ≡ false → b ≡ false → c ≡ false → d ≡ false →
    (a || b || c || d) ≡ false
none_of a b c d p q r s = rw (p, q, r, s) refl

pub repeat_in_rules : (t : PolicyText) → comes_twice (map (λ r. r.op) t.rules) ≡ true →
    has_repeats t ≡ true
unfolding has_repeats
repeat_in_rules t h =
    any_last (comes_twice (map (λ c. c.name) t.classes)) (comes_twice (dataset_names t.classes))
    (comes_twice (map (λ p. p.name) t.processes)) _ h

pub no_repeats : (t : PolicyText) → comes_twice (map (λ c. c.name) t.classes) ≡ false →
    comes_twice (dataset_names t.classes) ≡ false
    → comes_twice (map (λ p. p.name) t.processes) ≡ false →
    comes_twice (map (λ r. r.op) t.rules) ≡ false → has_repeats t ≡ false
unfolding has_repeats
no_repeats t p q r s = none_of _ _ _ _ p q r s

-- where nothing repeats, no list of names repeats
no_first : (a b c d : Bool) → (a || b || c || d) ≡ false → (a ≡ false) × (b ≡ false) × (c ≡ false)
no_first true b c d h = cc
no_first false true c d h = cc
no_first false false true d h = cc
no_first false false false d h = (refl, refl, refl)

pub distinct_names : (t : PolicyText) → has_repeats t ≡ false
    → (comes_twice (map (λ c. c.name) t.classes) ≡ false)
    × (comes_twice (dataset_names t.classes) ≡ false)
    × (comes_twice (map (λ p. p.name) t.processes) ≡ false)
unfolding has_repeats
distinct_names t h = no_first _ _ _ _ h

-- the table that was made by adding the names to an empty one
pub table_made : (fresh : Bool) (empty new ns : List Name) → empty ≡ [] →
    fresh ≡ not (repeats_after empty ns) → (fresh ≡ true → new ≡ empty ++ ns) → fresh ≡ true →
    Some new ≡ table_if_distinct ns
table_made fresh empty new ns none told added yes_fresh =
    let once : comes_twice ns ≡ false = sym (repeats_after-nil ns) ∙ ap
    (λ seen. repeats_after seen ns) (sym none) ∙ turned_false fresh _ told yes_fresh in
    let same : new ≡ ns = added yes_fresh ∙ ap (λ seen. seen ++ ns) none in
    rw once (ap (λ (t : List Name). Some t) same)

pub table_refused : (fresh : Bool) (empty ns : List Name) → empty ≡ [] →
    fresh ≡ not (repeats_after empty ns) → fresh ≡ false → None ≡ table_if_distinct ns
table_refused fresh empty ns none told not_fresh =
    let twice : comes_twice ns ≡ true = sym (repeats_after-nil ns) ∙ ap
    (λ seen. repeats_after seen ns) (sym none) ∙ turned_true fresh _ told not_fresh in
    rw twice refl
