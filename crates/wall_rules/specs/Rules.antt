-- The two rules of the Chinese Wall, for one process: `held` tells which datasets it has had access
-- to. (Brewer and Nash 1989: the sections on simple security and on the *-property.)
use Rattle.std.specs.Prelude.{◌≡◌, ◌≢◌, ℕ, ◌<◌, nat_eq, Bool, true, not, ◌&&◌, ◌||◌, IsTrue, List}
use Rattle.std.specs.Prelude.{length, Option, Some, None, is_some, is_none}
use Rattle.std.specs.Ordering.{nat_cmp}
use Rattle.std.specs.FinSet.{FinSet, contains}
use Rattle.wall_labels.specs.declared.label.Label.{Label}
use Rattle.wall_labels.specs.Labels.{dataset_of}
use Rattle.wall_policy.specs.Rivals.{AreRivals, are_rivals}
use Rattle.wall_rules.specs.Least.{least}

-- P holds of the number, and of none below it
abbrev pub IsLowest : (ℕ → Type 0) → ℕ → Type 0
IsLowest P d = P d × ((e : ℕ) → e < d → ¬ (P e))

---- Simple security. A subject may have access to an object that is in a dataset which it has had
---- access to already, or in a class of which it has had access to nothing: so never to two
---- datasets of one class.

-- the process has had access to e, which is a rival of d
abbrev pub IsHeldRival : List ℕ → (ℕ → Bool) → ℕ → ℕ → Type 0
IsHeldRival classes held d e = IsTrue (held e) × AreRivals classes d e

-- the rule permits access to d
abbrev pub PassesSimple : List ℕ → (ℕ → Bool) → ℕ → Type 0
PassesSimple classes held d = (e : ℕ) → ¬ (IsHeldRival classes held d e)

-- no two of the datasets are rivals: what the rule keeps
abbrev pub HoldsNoRivals : List ℕ → (ℕ → Bool) → Type 0
HoldsNoRivals classes held =
    (d e : ℕ) → IsTrue (held d) → IsTrue (held e) → ¬ (AreRivals classes d e)

-- The rule as a test: the lowest rival of d that is held. (No number that is not in the list of
-- classes is a rival.)
abbrev pub is_held_rival : List ℕ → (ℕ → Bool) → ℕ → ℕ → Bool
is_held_rival classes held d e = held e && are_rivals classes d e

unfoldable pub first_rival : List ℕ → (ℕ → Bool) → ℕ → Option ℕ
first_rival classes held d = least (is_held_rival classes held d) (length classes)

abbrev pub clashes : List ℕ → (ℕ → Bool) → ℕ → Bool
clashes classes held d = is_some (first_rival classes held d)

---- The star rule. A subject may write to a dataset only if it can read no unsanitised object of
---- another dataset. (Read here as: what it has had access to is of the dataset that its label
---- names. Under `public`, which names none, only a process that has had access to none may write.)

-- the process has had access to d, which is not the dataset of the label
abbrev pub IsHeldOther : (ℕ → Bool) → Label → ℕ → Type 0
IsHeldOther held label d = IsTrue (held d) × (dataset_of label ≢ Some d)

-- the rule permits a write with this label
abbrev pub PassesStar : (ℕ → Bool) → Label → Type 0
PassesStar held label = (d : ℕ) → IsTrue (held d) → dataset_of label ≡ Some d

-- The rule as a test: the lowest of so many datasets that is held and is not the label's.
abbrev pub is_other : Option ℕ → ℕ → Bool
is_other (Some own) d = not (nat_eq own d)
is_other None d = true

abbrev pub is_held_other : (ℕ → Bool) → Label → ℕ → Bool
is_held_other held label d = held d && is_other (dataset_of label) d

unfoldable pub first_other : ℕ → (ℕ → Bool) → Label → Option ℕ
first_other datasets held label = least (is_held_other held label) datasets

abbrev pub passes_star : ℕ → (ℕ → Bool) → Label → Bool
passes_star datasets held label = is_none (first_other datasets held label)

---- What is held, and the members of a set beside it.
abbrev pub joined : (ℕ → Bool) → FinSet nat_cmp → ℕ → Bool
joined held s d = held d || contains s d
