-- Histories: who has had access to what. (Brewer and Nash 1989: there a matrix of subjects and
-- objects.)
use Rattle.std.specs.Prelude.{◌≡◌, ℕ, ◌≤◌, nat_eq, Bool, false, IsTrue, ◌&&◌, ◌||◌, List, length}
use Rattle.std.specs.Prelude.{Option, Some, None, slice_index_or, refl}
use Rattle.std.specs.Ordering.{nat_cmp}
use Rattle.std.specs.FinSet.{FinSet, empty, contains, code as set_code}
use Rattle.std.specs.Coded.{Coded, code_by, coded×, coded_ℕ, coded_list}
use Rattle.wall_labels.specs.Limits.{process_limit, dataset_limit}
use Rattle.wall_policy.specs.Policy.{ChineseWall, home_of, held_of, has_pair}
use Rattle.wall_policy.specs.Rivals.{are_rivals}
use Rattle.wall_rules.specs.Rules.{HoldsNoRivals}

-- a set of pairs of process and dataset, by its test
abbrev pub History : Type 0
History = ℕ → ℕ → Bool

-- the set and, for one process, the members of a set of datasets
abbrev pub entered : History → ℕ → FinSet nat_cmp → History
entered history process s p d = history p d || (nat_eq p process && contains s d)

-- the pairs of each process and its home
abbrev pub is_home : Option ℕ → ℕ → Bool
is_home (Some home) d = nat_eq home d
is_home None d = false

abbrev pub at_home : ChineseWall → History
at_home w p d = is_home (home_of w p) d

-- the pairs of each process and what it begins with: what it held before, and its home (own rule:
-- each process begins with access to these alone)
abbrev pub opening : ChineseWall → History
opening w p d = held_of w p d || at_home w p d

-- no process has had access to two rivals (Brewer and Nash 1989: what the simple security rule
-- keeps)
abbrev pub NobodyHoldsRivals : List ℕ → History → Type 0
NobodyHoldsRivals classes history = (p : ℕ) → HoldsNoRivals classes (history p)

-- The value of `Histories` in clauses. `has` shows its pairs.
pub record Accesses : Type 0 where
  -- how many processes the policy has, and the class of each dataset
  pub processes : ℕ
  pub classes : List ℕ
  -- for each number that a process can have, the set of its datasets
  pub sets : List (FinSet nat_cmp)

-- an `Accesses` is stored as the tuple of its fields
abbrev pub accesses_code : Coded Accesses
accesses_code = code_by (ℕ × (List ℕ × List (FinSet nat_cmp)))
    (coded× coded_ℕ (coded× (coded_list coded_ℕ) (coded_list (set_code coded_ℕ))))
    (λ h. (h.processes, (h.classes, h.sets)))
    (λ t. record { processes = t.0; classes = t.1.0; sets = t.1.1 }) (λ _. refl)

abbrev pub has_in : List (FinSet nat_cmp) → History
has_in sets p d = contains (slice_index_or sets p empty) d

abbrev pub has : Accesses → History
has h = has_in h.sets

-- what is so of all `Histories`
pub record KeepsWall (h : Accesses) : Type 0 where
  pub set_for_each : length h.sets ≡ process_limit
  pub few_datasets : length h.classes ≤ dataset_limit
  pub apart : NobodyHoldsRivals h.classes (has h)

-- a process that has had access to these has had access to one of the set
abbrev pub HoldsOneOf : (ℕ → Bool) → FinSet nat_cmp → Type 0
HoldsOneOf held s = (d : ℕ) × IsTrue (held d) × IsTrue (contains s d)

-- a process that has had access to these has had access to all of the set
abbrev pub HoldsAllOf : (ℕ → Bool) → FinSet nat_cmp → Type 0
HoldsAllOf held s = (d : ℕ) → IsTrue (contains s d) → IsTrue (held d)

-- the rows with these pairs
abbrev pub AddsPairs : List (ℕ × ℕ) → (old new : List (FinSet nat_cmp)) → Type 0
AddsPairs pairs old new =
    (p d : ℕ) → has_in new p d ≡ (has_pair pairs p d || has_in old p d)

-- the list has the pairs of the set, and no others
abbrev pub ArePairsOf : History → List (ℕ × ℕ) → Type 0
ArePairsOf history pairs = (p d : ℕ) → has_pair pairs p d ≡ history p d

-- the rows have for each dataset its rivals
abbrev pub AreRivalRows : List ℕ → List (FinSet nat_cmp) → Type 0
AreRivalRows classes rows =
    (d e : ℕ) → contains (slice_index_or rows d empty) e ≡ are_rivals classes d e

-- the rivals of d are added to a set
abbrev pub AddsRivals : List ℕ → (d : ℕ) → (old new : FinSet nat_cmp) → Type 0
AddsRivals classes d old new = (e : ℕ) → contains new e ≡ (contains old e || are_rivals classes d e)

-- what is so of the parts that `Histories` are made of
abbrev pub IsKept : ℕ → (classes : List ℕ) → (rows rivals : List (FinSet nat_cmp)) → Type 0
IsKept n classes rows rivals = KeepsWall (record { processes = n; classes = classes; sets = rows })
    × AreRivalRows classes rivals
