-- The policy that a record says, where its names and numbers are good.
use Rattle.std.specs.Prelude.{ℕ, ◌+◌, ℤ, pos, negsuc, List, [], ◌∷◌, ◌++◌, map, Option, Some, None}
use Rattle.wall_labels.specs.declared.op.Op.{Op}
use Rattle.wall_labels.specs.Ops.{op_of}
use Rattle.wall_policy.specs.Names.{Name, place_of}
use Rattle.wall_policy.specs.Plain.{ClassText, RuleText, PolicyText}
use Rattle.wall_policy.specs.Checks.{dataset_names}
use Rattle.wall_policy.specs.Policy.{ChineseWall}

-- the class of each dataset, where the first class has this number
abbrev pub class_numbers : ℕ → List ClassText → List ℕ
class_numbers n [] = []
class_numbers n (c ∷ cs) = map (λ _. n) c.datasets ++ class_numbers (n + 1) cs

-- the number of the home among the datasets
abbrev pub home_in : List Name → Option Name → Option ℕ
home_in names None = None
home_in names (Some home) = place_of home names

-- a whole number that is no less than 0
abbrev pub natural : ℤ → ℕ
natural (pos n) = n
natural (negsuc n) = 0

abbrev pub with_rule : Option Op → ℤ → List (Op × ℕ) → List (Op × ℕ)
with_rule None number numbers = numbers
with_rule (Some op) number numbers = (op, natural number) ∷ numbers

-- the operations that the rules name, each with a number of its rule
abbrev pub numbers_in : (RuleText → ℤ) → List RuleText → List (Op × ℕ)
numbers_in number [] = []
numbers_in number (r ∷ rs) = with_rule (op_of r.op) (number r) (numbers_in number rs)

abbrev pub leasts_in : List RuleText → List (Op × ℕ)
leasts_in rs = numbers_in (λ r. r.least) rs

abbrev pub distincts_in : List RuleText → List (Op × ℕ)
distincts_in rs = numbers_in (λ r. r.distinct) rs

unfoldable pub wall_of : PolicyText → ChineseWall
wall_of t = record {
  version = t.version;
  class_names = map (λ c. c.name) t.classes;
  dataset_names = dataset_names t.classes;
  process_names = map (λ p. p.name) t.processes;
  classes = class_numbers 0 t.classes;
  homes = map (λ p. home_in (dataset_names t.classes) p.home) t.processes;
  leasts = leasts_in t.rules;
  distincts = distincts_in t.rules;
  held = [];
}
