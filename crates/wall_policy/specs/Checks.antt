-- What is asked of the names and numbers of a policy file. (Own rules.)
use Rattle.std.specs.Prelude.{◌≡◌, ℤ, pos, negsuc, Bool, true, false, ◌&&◌, ◌||◌, nat_le, List}
use Rattle.std.specs.Prelude.{length, map, Option, Some, None, is_some}
use Rattle.std.specs.List.{list_all, flat_map}
use Rattle.wall_labels.specs.Limits.{process_limit, dataset_limit, class_limit}
use Rattle.wall_labels.specs.Ops.{op_of}
use Rattle.wall_policy.specs.Names.{Name, is_name, is_dataset_name, is_in, comes_twice}
use Rattle.wall_policy.specs.Plain.{ClassText, RuleText, PolicyText}
use Rattle.wall_policy.specs.Policy.{is_least, is_distinct}
use Rattle.wall_policy.specs.declared.names.Tables.{Tables}

abbrev pub is_named_class : ClassText → Bool
is_named_class c = is_name c.name && list_all is_dataset_name c.datasets

unfoldable pub has_good_names : PolicyText → Bool
has_good_names t = list_all is_named_class t.classes && list_all (λ p. is_name p.name) t.processes

-- the names of the datasets, through all classes
abbrev pub dataset_names : List ClassText → List Name
dataset_names cs = flat_map (λ c. c.datasets) cs

-- the names that the text has, each kind in its order
pub record AreNamesOf (tables : Tables) (t : PolicyText) : Type 0 where
  pub classes : tables.class_names ≡ map (λ c. c.name) t.classes
  pub datasets : tables.dataset_names ≡ dataset_names t.classes
  pub processes : tables.process_names ≡ map (λ p. p.name) t.processes

-- two classes, two datasets, two processes or two operations are written alike
unfoldable pub has_repeats : PolicyText → Bool
has_repeats t =
    comes_twice (map (λ c. c.name) t.classes)
    || comes_twice (dataset_names t.classes)
    || comes_twice (map (λ p. p.name) t.processes)
    || comes_twice (map (λ r. r.op) t.rules)

-- no home, or one that is among the datasets
abbrev pub is_home : List Name → Option Name → Bool
is_home names None = true
is_home names (Some home) = is_in names home

unfoldable pub has_known_homes : PolicyText → Bool
has_known_homes t = list_all (λ p. is_home (dataset_names t.classes) p.home) t.processes

unfoldable pub has_known_ops : PolicyText → Bool
has_known_ops t = list_all (λ r. is_some (op_of r.op)) t.rules

abbrev pub is_good_least : ℤ → Bool
is_good_least (pos n) = is_least n
is_good_least (negsuc n) = false

-- at least 1, and no more than there must be contributors
abbrev pub is_good_distinct : (least distinct : ℤ) → Bool
is_good_distinct (pos least) (pos n) = is_distinct least n
is_good_distinct _ _ = false

abbrev pub is_good_rule : RuleText → Bool
is_good_rule r = is_good_least r.least && is_good_distinct r.least r.distinct

-- both least numbers of each rule are in their ranges
unfoldable pub has_good_leasts : PolicyText → Bool
has_good_leasts t = list_all is_good_rule t.rules

-- no limit is passed
unfoldable pub is_small : PolicyText → Bool
is_small t =
    nat_le (length t.processes) process_limit
    && nat_le (length (dataset_names t.classes)) dataset_limit
    && nat_le (length t.classes) class_limit
