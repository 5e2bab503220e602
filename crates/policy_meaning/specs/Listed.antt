-- A list of all that holds, in the order of their places.
use Rattle.std.specs.Prelude.{ℕ, ◌<◌, List, All, AllPairs, Contains}

-- The list has exactly what holds and has a place below n, each once, in the order of their places.
pub record AreListed {X : Type 0} (Holds : X → Type 0) (place : X → ℕ) (xs : List X) (n : ℕ)
    : Type 0 where
  pub sound : All Holds xs
  pub below : All (λ x. place x < n) xs
  pub whole : (x : X) → Holds x → place x < n → Contains xs x
  pub rising : AllPairs (λ x y. place x < place y) xs
