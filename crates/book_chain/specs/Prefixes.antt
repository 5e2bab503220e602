-- The prefix of a policy under which a book is read: words of private contracts.
use Rattle.std.specs.Prelude.{ℕ, ◌<◌, List}
use Rattle.wall_policy.specs.Policy.{ChineseWall, IsPolicy, with_held}
use Rattle.run_model.specs.declared.entry.Entry.{Entry}
use Rattle.run_model.specs.declared.entry.Entry.TheVariants.{Posted, Settled}
use Rattle.run_model.specs.declared.outcome.Outcome.{Outcome}
use Rattle.run_model.specs.declared.outcome.Outcome.TheVariants.{Denied}
use Rattle.run_model.specs.Books.{posts_in}
use Rattle.run_model.specs.Chains.{IsPolicyAfter}

abbrev pub IsOutcomeBelow : (n : ℕ) → Outcome → Type 0
IsOutcomeBelow n (Denied rule process label) = process < n
IsOutcomeBelow n outcome = Unit {0}

-- the process that the entry names, if it names one, is one of the first n
abbrev pub IsBelow : (n : ℕ) → Entry → Type 0
IsBelow n (Posted process comm stated) = process < n
IsBelow n (Settled comm k outcome) = IsOutcomeBelow n outcome

-- these pairs are what each process held at the book's end
pub record HoldsAfter (wall : ChineseWall) (entries : List Entry) (pairs : List (ℕ × ℕ)) : Type 0
  where
    pub policy : IsPolicy (with_held wall pairs)
    pub after : IsPolicyAfter wall (posts_in entries) (with_held wall pairs)
