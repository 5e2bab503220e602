-- A document that says a record: its texts are those of the record.
use Rattle.std.proofs.Common.{suc, ◌≡◌, ℕ, pos, ◌&&◌, ◌||◌, Bool, true, false, not, cond, nat_eq}
use Rattle.std.proofs.Common.{List, [], ◌∷◌, ◌++◌, length, Option, Some, None, refl, ap}
use Rattle.std.proofs.Common.{◌∙◌}
use Rattle.std.specs.Prelude.{codes, option_and_then}
use Rattle.std.specs.List.{list_all, list_any, cons_option, filter_map, flat_map}
use Rattle.std.specs.Option.{option_map_or}
use Rattle.toml.specs.Data.{Data, Items, no_items, item, Members, get_member, as_str, as_integer}
use Rattle.toml.specs.Data.{as_array, as_table}
use Rattle.wall_policy.specs.Names.{Name}
use Rattle.wall_policy.specs.Plain.{ClassText, ProcessText, RuleText}
use Rattle.wall_policy.specs.Tree.{◌>>=◌, each, listed, if_listed, list_or_empty, list_at, text_at}
use Rattle.wall_policy.specs.Tree.{number_at, text_if_any, if_text}
use Rattle.wall_policy.specs.Form.{class_of, process_of, rule_of, distinct_at}
use Rattle.policy_places.specs.Parts.{listed_items, items_in, value_in, text_in}
use Rattle.policy_places.specs.Parts.{listed_in}
use Rattle.policy_places.specs.Signs.{number_in}

module _ {A B : Type 0} where
  pub some_bound : (o : Option A) (f : A → Option B) (b : B) → (o >>= f) ≡ Some b →
      (a : A) × (o ≡ Some a) × (f a ≡ Some b)
  some_bound None f b h = absurd cc
  some_bound (Some a) f b h = (a, refl, h)

  bind_is : (o : Option A) (f : A → Option B) → option_and_then f o ≡ (o >>= f)
  bind_is None f = refl
  bind_is (Some a) f = refl

-- what stands at a key of a table
value_there : (key : List ℕ) (d : Data) (ms : Members) → as_table d ≡ Some ms →
    value_in key d ≡ get_member key ms
value_there key d ms is = ap (option_and_then (get_member key)) is

text_there : (key : List ℕ) (d : Data) (ms : Members) → as_table d ≡ Some ms →
    text_in key d ≡ text_at key ms
unfolding text_at
text_there key d ms is =
    ap (option_and_then as_str) (value_there key d ms is) ∙ bind_is (get_member key ms) as_str

number_there : (key : List ℕ) (d : Data) (ms : Members) → as_table d ≡ Some ms →
    number_in key d ≡ number_at key ms
unfolding number_at
number_there key d ms is = ap (option_and_then as_integer) (value_there key d ms is)
    ∙ bind_is (get_member key ms) as_integer

-- items that are all read
module _ {Y : Type 0} (read : Data → Option Y) where
  pub texts_read : (of : Data → Option Name) (view : Y → Option Name) →
      ((d : Data) (y : Y) → read d ≡ Some y → of d ≡ view y) →
      (ds : Items) (ys : List Y) → each read ds ≡ Some ys →
      filter_map of (listed_items ds) ≡ filter_map view ys
  texts_read of view same no_items ys h =
      let none : [] ≡ ys = cc in ap (filter_map view) none
  texts_read of view same (item d ds) ys h =
      let (y, first, h1) =
      some_bound (read d) (λ y. each read ds >>= λ more. Some (y ∷ more)) ys h in
      let (more, others, h2) = some_bound (each read ds) (λ more. Some (y ∷ more)) ys h1 in
      let all : y ∷ more ≡ ys = cc in
      ap (λ (o : Option Name). cons_option o (filter_map of (listed_items ds))) (same d y first)
      ∙ ap (cons_option (view y)) (texts_read of view same ds more others)
      ∙ ap (filter_map view) all

  -- the same of lists of texts
  pub lists_read : (of : Data → List Name) (view : Y → List Name) →
      ((d : Data) (y : Y) → read d ≡ Some y → of d ≡ view y) →
      (ds : Items) (ys : List Y) → each read ds ≡ Some ys →
      flat_map of (listed_items ds) ≡ flat_map view ys
  lists_read of view same no_items ys h =
      let none : [] ≡ ys = cc in ap (flat_map view) none
  lists_read of view same (item d ds) ys h =
      let (y, first, h1) =
      some_bound (read d) (λ y. each read ds >>= λ more. Some (y ∷ more)) ys h in
      let (more, others, h2) = some_bound (each read ds) (λ more. Some (y ∷ more)) ys h1 in
      let all : y ∷ more ≡ ys = cc in
      ap (λ (ns : List Name). ns ++ flat_map of (listed_items ds)) (same d y first)
      ∙ ap (λ (ns : List Name). view y ++ ns) (lists_read of view same ds more others)
      ∙ ap (flat_map view) all

  -- one of them passes exactly if not all are good
  pub any_read : (test : Data → Bool) (good : Y → Bool) →
      ((d : Data) (y : Y) → read d ≡ Some y → test d ≡ not (good y)) →
      (ds : Items) (ys : List Y) → each read ds ≡ Some ys →
      list_any test (listed_items ds) ≡ not (list_all good ys)
  any_read test good same no_items ys h =
      let none : [] ≡ ys = cc in ap (λ (zs : List Y). not (list_all good zs)) none
  any_read test good same (item d ds) ys h =
      let (y, first, h1) =
      some_bound (read d) (λ y. each read ds >>= λ more. Some (y ∷ more)) ys h in
      let (more, others, h2) = some_bound (each read ds) (λ more. Some (y ∷ more)) ys h1 in
      let all : y ∷ more ≡ ys = cc in
      ap (λ b. b || list_any test (listed_items ds)) (same d y first)
      ∙ ap (λ b. not (good y) || b) (any_read test good same ds more others)
      ∙ both (good y) (list_all good more)
      ∙ ap (λ (zs : List Y). not (list_all good zs)) all
    where
      both : (a b : Bool) → (not a || not b) ≡ not (a && b)
      both true b = refl
      both false b = refl

  -- there are as many
  pub as_many : (ds : Items) (ys : List Y) → each read ds ≡ Some ys →
      length (listed_items ds) ≡ length ys
  as_many no_items ys h = let none : [] ≡ ys = cc in ap (λ (zs : List Y). length zs) none
  as_many (item d ds) ys h =
      let (y, first, h1) =
      some_bound (read d) (λ y. each read ds >>= λ more. Some (y ∷ more)) ys h in
      let (more, others, h2) = some_bound (each read ds) (λ more. Some (y ∷ more)) ys h1 in
      let all : y ∷ more ≡ ys = cc in
      ap suc (as_many ds more others) ∙ ap (λ (zs : List Y). length zs) all

  -- what an array says that may be absent
  pub items_read : (key : List ℕ) (ms : Members) (ys : List Y) →
      list_or_empty read key ms ≡ Some ys →
      (ds : Items) × (items_in (get_member key ms) ≡ listed_items ds) × (each read ds ≡ Some ys)
  unfolding list_or_empty listed
  items_read key ms ys h = go (get_member key ms) h
    where
      go : (o : Option Data) → if_listed read o ≡ Some ys →
          (ds : Items) × (items_in o ≡ listed_items ds) × (each read ds ≡ Some ys)
      go None h = (no_items, refl, h)
      go (Some d) h =
          let (ds, is, h1) = some_bound (as_array d) (each read) ys h in
          (ds, ap (λ (a : Option Items). option_map_or listed_items a []) is, h1)

  -- and one that has to be there
  pub items_at : (key : List ℕ) (ms : Members) (ys : List Y) → list_at read key ms ≡ Some ys →
      (ds : Items) × (items_in (get_member key ms) ≡ listed_items ds) × (each read ds ≡ Some ys)
  unfolding list_at listed
  items_at key ms ys h =
      let (d, is, h1) = some_bound (get_member key ms) (listed read) ys h in
      let (ds, are, h2) = said d h1 in
      (ds, ap items_in is ∙ ap (λ (a : Option Items). option_map_or listed_items a []) are, h2)
    where
      said : (d : Data) → listed read d ≡ Some ys →
          (ds : Items) × (as_array d ≡ Some ds) × (each read ds ≡ Some ys)
      said d h = some_bound (as_array d) (each read) ys h

-- texts that are all there
words_read : (ds : Items) (ns : List Name) → each as_str ds ≡ Some ns →
    filter_map as_str (listed_items ds) ≡ ns
words_read no_items ns h = cc
words_read (item d ds) ns h =
    let (n, first, h1) =
    some_bound (as_str d) (λ n. each as_str ds >>= λ more. Some (n ∷ more)) ns h in
    let (more, others, h2) = some_bound (each as_str ds) (λ more. Some (n ∷ more)) ns h1 in
    let all : n ∷ more ≡ ns = cc in
    ap (λ (o : Option Name). cons_option o (filter_map as_str (listed_items ds))) first
    ∙ ap (λ (ms : List Name). n ∷ ms) (words_read ds more others)
    ∙ all

---- the tables of a record

-- fields of what may be there
abbrev class_or : Option ClassText → ClassText
class_or None = record { name = []; datasets = [] }
class_or (Some c) = c

abbrev process_or : Option ProcessText → ProcessText
process_or None = record { name = []; home = None }
process_or (Some p) = p

abbrev rule_or : Option RuleText → RuleText
rule_or None = record { op = []; least = pos 0; distinct = pos 0 }
rule_or (Some r) = r

pub class_said : (d : Data) (c : ClassText) → class_of d ≡ Some c →
    (text_in (codes "name") d ≡ Some c.name) × (listed_in d ≡ c.datasets)
unfolding class_of
class_said d c h =
    let (ms, is, h1) = some_bound (as_table d) (λ ms. text_at (codes "name") ms
    >>= λ name. list_at as_str (codes "datasets") ms
    >>= λ datasets. Some (record { name = name; datasets = datasets })) c h in
    let (name, there, h2) = some_bound (text_at (codes "name") ms) (λ name.
    list_at as_str (codes "datasets") ms
    >>= λ datasets. Some (record { name = name; datasets = datasets })) c h1 in
    let (datasets, listed, h3) = some_bound (list_at as_str (codes "datasets") ms)
    (λ datasets. Some (record { name = name; datasets = datasets })) c h2 in
    let (ds, are, all) = items_at as_str (codes "datasets") ms datasets listed in (
      text_there (codes "name") d ms is ∙ there
          ∙ ap (λ (o : Option ClassText). Some (class_or o).name) h3,
      ap (λ o. filter_map as_str (items_in o)) (value_there (codes "datasets") d ms is)
          ∙ ap (filter_map as_str) are ∙ words_read ds datasets all
          ∙ ap (λ (o : Option ClassText). (class_or o).datasets) h3,
    )

-- a text at a key that may be absent
text_if_there : (key : List ℕ) (ms : Members) (home : Option Name) →
    text_if_any key ms ≡ Some home → text_at key ms ≡ home
unfolding text_if_any text_at
text_if_there key ms home h = go (get_member key ms) h
  where
    go : (o : Option Data) → if_text o ≡ Some home → (o >>= as_str) ≡ home
    go None h = cc
    go (Some d) h =
        let (t, is, h1) = some_bound (as_str d) (λ t. Some (Some t)) home h in
        let same : Some t ≡ home = cc in
        is ∙ same

pub process_said : (d : Data) (p : ProcessText) → process_of d ≡ Some p →
    (text_in (codes "name") d ≡ Some p.name) × (text_in (codes "home") d ≡ p.home)
unfolding process_of
process_said d p h =
    let (ms, is, h1) = some_bound (as_table d) (λ ms. text_at (codes "name") ms
    >>= λ name. text_if_any (codes "home") ms
    >>= λ home. Some (record { name = name; home = home })) p h in
    let (name, there, h2) = some_bound (text_at (codes "name") ms) (λ name.
    text_if_any (codes "home") ms >>= λ home. Some (record { name = name; home = home })) p h1 in
    let (home, at, h3) = some_bound (text_if_any (codes "home") ms)
    (λ home. Some (record { name = name; home = home })) p h2 in (
      text_there (codes "name") d ms is ∙ there
          ∙ ap (λ (o : Option ProcessText). Some (process_or o).name) h3,
      text_there (codes "home") d ms is ∙ text_if_there (codes "home") ms home at
          ∙ ap (λ (o : Option ProcessText). (process_or o).home) h3,
    )

pub rule_said : (version : ℕ) (d : Data) (r : RuleText) → rule_of version d ≡ Some r →
    (text_in (codes "op") d ≡ Some r.op) × (number_in (codes "least") d ≡ Some r.least)
    × (cond (nat_eq version 1) (Some (pos 1)) (number_in (codes "distinct") d) ≡ Some r.distinct)
unfolding rule_of distinct_at
rule_said version d r h =
    let (ms, is, h1) = some_bound (as_table d) (λ ms. text_at (codes "op") ms
    >>= λ op. number_at (codes "least") ms >>= λ least. distinct_at version ms
    >>= λ distinct. Some (record { op = op; least = least; distinct = distinct })) r h in
    let (op, there, h2) = some_bound (text_at (codes "op") ms) (λ op.
    number_at (codes "least") ms >>= λ least. distinct_at version ms
    >>= λ distinct. Some (record { op = op; least = least; distinct = distinct })) r h1 in
    let (least, at, h3) = some_bound (number_at (codes "least") ms) (λ least.
    distinct_at version ms
    >>= λ distinct. Some (record { op = op; least = least; distinct = distinct })) r h2 in
    let (distinct, too, h4) = some_bound (distinct_at version ms)
    (λ distinct. Some (record { op = op; least = least; distinct = distinct })) r h3 in (
      text_there (codes "op") d ms is ∙ there
          ∙ ap (λ (o : Option RuleText). Some (rule_or o).op) h4,
      number_there (codes "least") d ms is ∙ at
          ∙ ap (λ (o : Option RuleText). Some (rule_or o).least) h4,
      ap (λ o. cond (nat_eq version 1) (Some (pos 1)) o) (number_there (codes "distinct") d ms is)
          ∙ too ∙ ap (λ (o : Option RuleText). Some (rule_or o).distinct) h4,
    )
