-- The keys of a policy file, and what kind of value each holds. (Own format.)
use Rattle.std.specs.Prelude.{ℕ, ℤ, pos, nat_eq, List, [], ◌∷◌, Option, Some, None, codes}
use Rattle.std.specs.Prelude.{if◌then◌else◌}
use Rattle.toml.specs.Data.{Data, Members, as_str, as_table}
use Rattle.wall_policy.specs.Plain.{ClassText, ProcessText, RuleText, PolicyText}
use Rattle.wall_policy.specs.Tree.{◌>>=◌, list_or_empty, list_at, text_at, number_at, text_if_any}

unfoldable pub class_of : Data → Option ClassText
class_of d = do
  ms ← as_table d
  name ← text_at (codes "name") ms
  datasets ← list_at as_str (codes "datasets") ms
  Some (record { name = name; datasets = datasets })

unfoldable pub process_of : Data → Option ProcessText
process_of d = do
  ms ← as_table d
  name ← text_at (codes "name") ms
  home ← text_if_any (codes "home") ms
  Some (record { name = name; home = home })

-- the number at `distinct`; a file of version 1, which has no such key, is read as if each were 1
unfoldable pub distinct_at : (version : ℕ) → Members → Option ℤ
distinct_at version ms = if nat_eq version 1 then Some (pos 1) else number_at (codes "distinct") ms

unfoldable pub rule_of : (version : ℕ) → Data → Option RuleText
rule_of version d = do
  ms ← as_table d
  op ← text_at (codes "op") ms
  least ← number_at (codes "least") ms
  distinct ← distinct_at version ms
  Some (record { op = op; least = least; distinct = distinct })

-- at least one
abbrev pub some_of : {Y : Type 0} → List Y → Option (List Y)
some_of [] = None
some_of (y ∷ ys) = Some (y ∷ ys)

-- the processes that the tree says: one at least
abbrev pub processes_in : Members → Option (List ProcessText)
processes_in ms = list_at process_of (codes "process") ms >>= some_of

-- the record that the tree says, where no required key is absent and each has its kind of value
unfoldable pub record_of : (version : ℕ) → Members → Option PolicyText
record_of version ms = do
  classes ← list_or_empty class_of (codes "class") ms
  processes ← processes_in ms
  rules ← list_or_empty (rule_of version) (codes "sanitise") ms
  Some (record { version = version; classes = classes; processes = processes; rules = rules })
