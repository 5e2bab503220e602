-- Which entries have a text of their own: their processes and datasets are the policy's, and their
-- numbers have a spelling. (Own rules.)
use Rattle.std.specs.Prelude.{◌≡◌, ℕ, ◌≤◌, true}
use Rattle.wall_policy.specs.Policy.{ChineseWall}
use Rattle.coll_routes.specs.declared.statement.Stated.{Stated}
use Rattle.run_model.specs.Books.{is_labelled}
use Rattle.run_model.specs.declared.outcome.Outcome.{Outcome}
use Rattle.run_model.specs.declared.outcome.Outcome.TheVariants.{Made}
use Rattle.run_model.specs.declared.entry.Entry.{Entry}
use Rattle.run_model.specs.declared.entry.Entry.TheVariants.{Posted, Settled}
use Rattle.coll_text.specs.Spellings.{IsSpellable}
use Rattle.run_model.specs.Known.{IsKnownProcess, IsKnownIfAny, IsKnownOutcome}

pub record IsSpelledPost (wall : ChineseWall) (p c : ℕ) (s : Stated) : Type 0 where
  pub process : IsKnownProcess wall p
  pub comm : c ≤ 4294967295
  pub statement : IsSpellable s.sig s.own
  pub given : s.given ≤ 4294967295
  pub label : IsKnownIfAny wall s.label
  pub labelled : is_labelled s ≡ true

abbrev pub HasNumbers : Outcome → Type 0
HasNumbers (Made first number) = (first ≤ 4294967295) × (number ≤ 4294967295)
HasNumbers _ = Unit {0}

pub record IsSpelledVerdict (wall : ChineseWall) (c k : ℕ) (o : Outcome) : Type 0 where
  pub comm : c ≤ 4294967295
  pub instance : k ≤ 18446744073709551615
  pub known : IsKnownOutcome wall o
  pub numbers : HasNumbers o

abbrev pub IsSpelled : ChineseWall → Entry → Type 0
IsSpelled wall (Posted process comm stated) = IsSpelledPost wall process comm stated
IsSpelled wall (Settled comm k outcome) = IsSpelledVerdict wall comm k outcome
