-- The signs of a document that says a record are its faults.
use Rattle.std.proofs.Common.{◌≡◌, ℕ, ℤ, pos, negsuc, ◌&&◌, ◌||◌, Bool, true, false, not}
use Rattle.std.proofs.Common.{cond, nat_eq, nat_le, nat_lt, List, [], ◌∷◌, ◌++◌, length, map}
use Rattle.std.proofs.Common.{Option}
use Rattle.std.proofs.Common.{Some, None, refl, sym, ap, ◌∙◌, arith}
use Rattle.std.specs.Prelude.{codes, option_and_then, is_some}
use Rattle.std.specs.List.{list_all, list_any, cons_option, filter_map}
use Rattle.std.specs.Option.{option_map_or, unwrap_or}
use Rattle.std.proofs.lemmas.Bool.Decides.{nat_tests}
use Rattle.std.proofs.lemmas.Option.{same_Some}
use Rattle.toml.specs.Data.{Data, Items, Members}
use Rattle.wall_labels.specs.Limits.{process_limit, dataset_limit, class_limit}
use Rattle.wall_labels.specs.Ops.{op_of}
use Rattle.wall_policy.specs.declared.fault.PolicyFault.TheVariants as faults
use Rattle.wall_policy.specs.Names.{Name, is_name, is_dataset_name, is_in, comes_twice}
use Rattle.wall_policy.specs.Plain.{ClassText, ProcessText, RuleText, PolicyText}
use Rattle.wall_policy.specs.Tree.{◌>>=◌, each, list_or_empty, list_at}
use Rattle.wall_policy.specs.Form.{class_of, process_of, rule_of, some_of, record_of, processes_in}
use Rattle.wall_policy.specs.Keys.{version_of}
use Rattle.wall_policy.specs.Checks.{is_named_class, dataset_names, has_good_names, has_repeats}
use Rattle.wall_policy.specs.Checks.{has_known_homes, has_known_ops, has_good_leasts, is_small}
use Rattle.wall_policy.specs.Checks.{is_home, is_good_least, is_good_distinct, is_good_rule}
use Rattle.wall_policy.specs.Answer.{record_in}
use Rattle.policy_places.specs.declared.part.Part.TheVariants.{Class, Process, Rule}
use Rattle.policy_places.specs.declared.sign.Sign.TheVariants as signs
use Rattle.policy_places.specs.Parts.{listed_items, tables_at, text_in, texts_in}
use Rattle.policy_places.specs.Parts.{listed_in, datasets_in}
use Rattle.policy_places.specs.Signs.{number_in, has_bad_least}
use Rattle.policy_places.specs.Signs.{has_bad_distinct, is_bad_rule}
use Rattle.policy_places.specs.Laws.{IsSignOf, SignsAreFaults}
use Rattle.policy_places.proofs.KeyLemmas.{unknown_key}
use Rattle.policy_places.proofs.RecordLemmas.{some_bound, texts_read, lists_read, any_read, as_many}
use Rattle.policy_places.proofs.RecordLemmas.{items_read, items_at, class_said, process_said}
use Rattle.policy_places.proofs.RecordLemmas.{rule_said}

---- lists

all_some : {Y : Type 0} (f : Y → Name) (ys : List Y) → filter_map (λ y. Some (f y)) ys ≡ map f ys
all_some f [] = refl
all_some f (y ∷ ys) = ap (λ (ns : List Name). f y ∷ ns) (all_some f ys)

all_of_map : {Y : Type 0} (test : Name → Bool) (f : Y → Name) (ys : List Y) →
    list_all test (map f ys) ≡ list_all (λ y. test (f y)) ys
all_of_map test f [] = refl
all_of_map test f (y ∷ ys) = ap (λ b. test (f y) && b) (all_of_map test f ys)

all_of_both : {X : Type 0} (test : X → Bool) (xs ys : List X) →
    list_all test (xs ++ ys) ≡ (list_all test xs && list_all test ys)
all_of_both test [] ys = refl
all_of_both test (x ∷ xs) ys = ap (λ b. test x && b) (all_of_both test xs ys)
    ∙ regroup (test x) (list_all test xs) (list_all test ys)
  where
    regroup : (a b c : Bool) → (a && (b && c)) ≡ ((a && b) && c)
    regroup true b c = refl
    regroup false b c = refl

-- the names of all classes are good
named_classes : (cs : List ClassText) →
    (list_all is_name (map (λ c. c.name) cs) && list_all is_dataset_name (dataset_names cs))
    ≡ list_all is_named_class cs
named_classes [] = refl
named_classes (c ∷ cs) =
    ap (λ b. (is_name c.name && list_all is_name (map (λ k. k.name) cs)) && b)
    (all_of_both is_dataset_name c.datasets (dataset_names cs))
    ∙ regroup (is_name c.name) (list_all is_name (map (λ k. k.name) cs))
    (list_all is_dataset_name c.datasets) (list_all is_dataset_name (dataset_names cs))
    ∙ ap (λ b. (is_name c.name && list_all is_dataset_name c.datasets) && b) (named_classes cs)
  where
    regroup : (a b c d : Bool) → ((a && b) && (c && d)) ≡ ((a && c) && (b && d))
    regroup true true c d = rules_of c d
      where
        rules_of : (c d : Bool) → (c && d) ≡ (c && d)
        rules_of c d = refl
    regroup true false true d = refl
    regroup true false false d = refl
    regroup false b c d = refl

-- no home, or one of these
homes_all : (names : List Name) (ps : List ProcessText) →
    list_all (is_in names) (filter_map (λ p. p.home) ps)
    ≡ list_all (λ p. is_home names p.home) ps
homes_all names [] = refl
homes_all names (p ∷ ps) = go (homes_all names ps) p.home
  where
    go : list_all (is_in names) (filter_map (λ q. q.home) ps)
        ≡ list_all (λ q. is_home names q.home) ps → (home : Option Name) →
        list_all (is_in names) (cons_option home (filter_map (λ q. q.home) ps))
        ≡ (is_home names home && list_all (λ q. is_home names q.home) ps)
    go later None = later
    go later (Some name) = ap (λ b. is_in names name && b) later

---- numbers

le_lt : (a b : ℕ) → nat_lt a b ≡ not (nat_le b a)
le_lt a b = grind (arith, nat_tests)

not_all_three : (a b c : Bool) → (not a || not b || not c) ≡ not (a && b && c)
not_all_three true true c = refl
not_all_three true false c = refl
not_all_three false b c = refl

-- one dataset is no more than the least number of contributors
one_is_good : (least : ℤ) → is_good_least least ≡ true → is_good_distinct least (pos 1) ≡ true
one_is_good (pos n) good = grind (arith, nat_tests)
one_is_good (negsuc n) good = absurd cc

---- rules

bad_is : (version : ℕ) (d : Data) (r : RuleText) → rule_of version d ≡ Some r →
    is_bad_rule version d ≡ not (is_good_rule r)
bad_is version d r h = go (nat_eq version 1) (rule_said version d r h).2
  where
    least : number_in (codes "least") d ≡ Some r.least
    least = (rule_said version d r h).1

    bad_least : has_bad_least d ≡ not (is_good_least r.least)
    bad_least = ap (λ o. option_map_or (λ n. not (is_good_least n)) o false) least

    one : (good : Bool) → is_good_least r.least ≡ good → r.distinct ≡ pos 1 →
        (not good || false) ≡ not (good && is_good_distinct r.least r.distinct)
    one true is first = sym (ap not (ap (is_good_distinct r.least) first ∙ one_is_good r.least is))
    one false is first = refl

    both : (a b : Bool) → (not a || not b) ≡ not (a && b)
    both true b = refl
    both false b = refl

    bad_distinct : number_in (codes "distinct") d ≡ Some r.distinct →
        has_bad_distinct d ≡ not (is_good_distinct r.least r.distinct)
    bad_distinct there =
        ap (λ o. option_map_or
        (λ n. not (is_good_distinct
        (unwrap_or (number_in (codes "least") d) (pos process_limit)) n))
        o false) there
        ∙ ap (λ o. not (is_good_distinct (unwrap_or o (pos process_limit)) r.distinct)) least

    go : (b : Bool) →
        cond b (Some (pos 1)) (number_in (codes "distinct") d) ≡ Some r.distinct →
        (has_bad_least d || (not b && has_bad_distinct d)) ≡ not (is_good_rule r)
    go true there =
        let first : pos 1 ≡ r.distinct = same_Some _ _ there in
        ap (λ a. a || false) bad_least ∙ one (is_good_least r.least) refl (sym first)
    go false there =
        ap (λ a. a || has_bad_distinct d) bad_least
        ∙ ap (λ b. not (is_good_least r.least) || b) (bad_distinct there)
        ∙ both (is_good_least r.least) (is_good_distinct r.least r.distinct)

---- a document and its record

-- what the arrays of a document of this version say
record Says (ms : Members) (version : ℕ) (t : PolicyText) : Type 0 where
  stated : version_of ms ≡ Some version
  classes : Items
  class_items : tables_at Class ms ≡ listed_items classes
  classes_read : each class_of classes ≡ Some t.classes
  processes : Items
  process_items : tables_at Process ms ≡ listed_items processes
  processes_read : each process_of processes ≡ Some t.processes
  rules : Items
  rule_items : tables_at Rule ms ≡ listed_items rules
  rules_read : each (rule_of version) rules ≡ Some t.rules

abbrev text_or : Option PolicyText → PolicyText
text_or None = record { version = 0; classes = []; processes = []; rules = [] }
text_or (Some t) = t

at_least_one : {Y : Type 0} (ys zs : List Y) → some_of ys ≡ Some zs → ys ≡ zs
at_least_one [] zs h = absurd cc
at_least_one (y ∷ ys) zs h = same_Some _ _ h

says : (ms : Members) (version : ℕ) (t : PolicyText) → version_of ms ≡ Some version →
    record_of version ms ≡ Some t → Says ms version t
unfolding record_of
says ms version t stated h =
    let (cs, classes, h1) = some_bound (list_or_empty class_of (codes "class") ms) (λ classes.
    processes_in ms >>= λ processes. list_or_empty (rule_of version) (codes "sanitise") ms
    >>= λ rules. Some (record {
      version = version;
      classes = classes;
      processes = processes;
      rules = rules;
    })) t h in
    let (ps, processes, h2) = some_bound (processes_in ms) (λ processes.
    list_or_empty (rule_of version) (codes "sanitise") ms >>= λ rules. Some (record {
      version = version;
      classes = cs;
      processes = processes;
      rules = rules;
    })) t h1 in
    let (rs, rules, h3) = some_bound (list_or_empty (rule_of version) (codes "sanitise") ms)
    (λ rules. Some (record { version = version; classes = cs; processes = ps; rules = rules })) t
    h2 in
    let (qs, some, h4) =
    some_bound (list_at process_of (codes "process") ms) some_of ps processes in
    let (cds, class_items, classes_read) = items_read class_of (codes "class") ms cs classes in
    let (pds, process_items, processes_read) = items_at process_of (codes "process") ms qs some in
    let (rds, rule_items, rules_read) =
    items_read (rule_of version) (codes "sanitise") ms rs rules in
    record {
      stated = stated;
      classes = cds;
      class_items = class_items;
      classes_read = classes_read ∙ ap (λ (o : Option PolicyText). Some (text_or o).classes) h3;
      processes = pds;
      process_items = process_items;
      processes_read = processes_read
          ∙ ap (λ (ys : List ProcessText). Some ys) (at_least_one qs ps h4)
          ∙ ap (λ (o : Option PolicyText). Some (text_or o).processes) h3;
      rules = rds;
      rule_items = rule_items;
      rules_read = rules_read ∙ ap (λ (o : Option PolicyText). Some (text_or o).rules) h3;
    }

record_said : (ms : Members) (t : PolicyText) → record_in ms ≡ Some t →
    (version : ℕ) × Says ms version t
record_said ms t h = go (version_of ms) refl h
  where
    go : (o : Option ℕ) → version_of ms ≡ o →
        option_and_then (λ version. record_of version ms) o ≡ Some t →
        (version : ℕ) × Says ms version t
    go None is h = absurd cc
    go (Some version) is h = (version, says ms version t is h)

module _ (ms : Members) (version : ℕ) (t : PolicyText) (said : Says ms version t)
    (whole : record_in ms ≡ Some t) where
  class_names : texts_in (codes "name") (tables_at Class ms) ≡ map (λ c. c.name) t.classes
  class_names = ap (texts_in (codes "name")) said.class_items
      ∙ texts_read class_of (text_in (codes "name")) (λ c. Some c.name)
      (λ d c h. (class_said d c h).0) said.classes t.classes said.classes_read
      ∙ all_some (λ c. c.name) t.classes

  datasets : datasets_in (tables_at Class ms) ≡ dataset_names t.classes
  datasets = ap datasets_in said.class_items
      ∙ lists_read class_of listed_in (λ c. c.datasets) (λ d c h. (class_said d c h).1)
      said.classes t.classes said.classes_read

  process_names : texts_in (codes "name") (tables_at Process ms) ≡ map (λ p. p.name) t.processes
  process_names = ap (texts_in (codes "name")) said.process_items
      ∙ texts_read process_of (text_in (codes "name")) (λ p. Some p.name)
      (λ d p h. (process_said d p h).0) said.processes t.processes said.processes_read
      ∙ all_some (λ p. p.name) t.processes

  homes : texts_in (codes "home") (tables_at Process ms) ≡ filter_map (λ p. p.home) t.processes
  homes = ap (texts_in (codes "home")) said.process_items
      ∙ texts_read process_of (text_in (codes "home")) (λ p. p.home)
      (λ d p h. (process_said d p h).1) said.processes t.processes said.processes_read

  ops : texts_in (codes "op") (tables_at Rule ms) ≡ map (λ r. r.op) t.rules
  ops = ap (texts_in (codes "op")) said.rule_items
      ∙ texts_read (rule_of version) (text_in (codes "op")) (λ r. Some r.op)
      (λ d r h. (rule_said version d r h).0) said.rules t.rules said.rules_read
      ∙ all_some (λ r. r.op) t.rules

  -- a condition of the record is one of the document
  of_record : (test : PolicyText → Bool) → test t ≡ option_map_or test (record_in ms) false
  of_record test = sym (ap (λ o. option_map_or test o false) whole)

  bad_name : IsSignOf ms signs.BadName faults.BadName
  unfolding has_good_names
  bad_name =
      ap (λ ns. not (list_all is_name ns
      && list_all is_dataset_name (datasets_in (tables_at Class ms))
      && list_all is_name (texts_in (codes "name") (tables_at Process ms)))) class_names
      ∙ ap (λ ns. not (list_all is_name (map (λ c. c.name) t.classes)
      && list_all is_dataset_name ns
      && list_all is_name (texts_in (codes "name") (tables_at Process ms)))) datasets
      ∙ ap (λ ns. not (list_all is_name (map (λ c. c.name) t.classes)
      && list_all is_dataset_name (dataset_names t.classes) && list_all is_name ns)) process_names
      ∙ ap (λ b. not (b && list_all is_name (map (λ p. p.name) t.processes)))
      (named_classes t.classes)
      ∙ ap (λ b. not (list_all is_named_class t.classes && b))
      (all_of_map is_name (λ p. p.name) t.processes)
      ∙ of_record (λ u. not (has_good_names u))

  duplicate_name : IsSignOf ms signs.DuplicateName faults.DuplicateName
  unfolding has_repeats
  duplicate_name =
      ap (λ ns. comes_twice ns || comes_twice (datasets_in (tables_at Class ms))
      || comes_twice (texts_in (codes "name") (tables_at Process ms))
      || comes_twice (texts_in (codes "op") (tables_at Rule ms))) class_names
      ∙ ap (λ ns. comes_twice (map (λ c. c.name) t.classes) || comes_twice ns
      || comes_twice (texts_in (codes "name") (tables_at Process ms))
      || comes_twice (texts_in (codes "op") (tables_at Rule ms))) datasets
      ∙ ap (λ ns. comes_twice (map (λ c. c.name) t.classes)
      || comes_twice (dataset_names t.classes) || comes_twice ns
      || comes_twice (texts_in (codes "op") (tables_at Rule ms))) process_names
      ∙ ap (λ ns. comes_twice (map (λ c. c.name) t.classes)
      || comes_twice (dataset_names t.classes)
      || comes_twice (map (λ p. p.name) t.processes) || comes_twice ns) ops
      ∙ of_record has_repeats

  unknown_dataset : IsSignOf ms signs.UnknownDataset faults.UnknownDataset
  unfolding has_known_homes
  unknown_dataset =
      ap (λ ns. not (list_all (is_in ns) (texts_in (codes "home") (tables_at Process ms)))) datasets
      ∙ ap (λ ns. not (list_all (is_in (dataset_names t.classes)) ns)) homes
      ∙ ap not (homes_all (dataset_names t.classes) t.processes)
      ∙ of_record (λ u. not (has_known_homes u))

  bad_op : IsSignOf ms signs.BadOp faults.BadOp
  unfolding has_known_ops
  bad_op =
      ap (λ ns. not (list_all (λ o. is_some (op_of o)) ns)) ops
      ∙ ap not (all_of_map (λ o. is_some (op_of o)) (λ r. r.op) t.rules)
      ∙ of_record (λ u. not (has_known_ops u))

  bad_least : IsSignOf ms signs.BadLeast faults.BadLeast
  unfolding has_good_leasts
  bad_least =
      ap (λ (o : Option ℕ). list_any (is_bad_rule (unwrap_or o 0)) (tables_at Rule ms)) said.stated
      ∙ ap (list_any (is_bad_rule version)) said.rule_items
      ∙ any_read (rule_of version) (is_bad_rule version) is_good_rule (bad_is version) said.rules
      t.rules said.rules_read
      ∙ of_record (λ u. not (has_good_leasts u))

  too_many : IsSignOf ms signs.TooMany faults.TooMany
  unfolding is_small
  too_many =
      ap (λ n. nat_lt process_limit n
      || nat_lt dataset_limit (length (datasets_in (tables_at Class ms)))
      || nat_lt class_limit (length (tables_at Class ms)))
      (ap (λ (ds : List Data). length ds) said.process_items
      ∙ as_many process_of said.processes t.processes said.processes_read)
      ∙ ap (λ (ns : List Name). nat_lt process_limit (length t.processes)
      || nat_lt dataset_limit (length ns) || nat_lt class_limit (length (tables_at Class ms)))
      datasets
      ∙ ap (λ n. nat_lt process_limit (length t.processes)
      || nat_lt dataset_limit (length (dataset_names t.classes)) || nat_lt class_limit n)
      (ap (λ (ds : List Data). length ds) said.class_items
      ∙ as_many class_of said.classes t.classes said.classes_read)
      ∙ small (length t.processes) (length (dataset_names t.classes)) (length t.classes)
      ∙ of_record (λ u. not (is_small u))
    where
      small : (p d c : ℕ) →
          (nat_lt process_limit p || nat_lt dataset_limit d || nat_lt class_limit c)
          ≡ not (nat_le p process_limit && nat_le d dataset_limit && nat_le c class_limit)
      small p d c =
          ap (λ b. b || nat_lt dataset_limit d || nat_lt class_limit c) (le_lt process_limit p)
          ∙ ap (λ b. not (nat_le p process_limit) || b || nat_lt class_limit c)
          (le_lt dataset_limit d)
          ∙ ap (λ b. not (nat_le p process_limit) || not (nat_le d dataset_limit) || b)
          (le_lt class_limit c)
          ∙ not_all_three (nat_le p process_limit) (nat_le d dataset_limit) (nat_le c class_limit)

pub signs_are_faults : SignsAreFaults
signs_are_faults ms t whole =
    let (version, said) = record_said ms t whole in (
      unknown_key ms version said.stated,
      bad_name ms version t said whole,
      duplicate_name ms version t said whole,
      unknown_dataset ms version t said whole,
      bad_op ms version t said whole,
      bad_least ms version t said whole,
      too_many ms version t said whole,
    )
