-- The numbers below one more.
use Rattle.std.proofs.Common.{◌≡◌, ℕ, ◌+◌, [], ◌∷◌, ◌++◌, ap, ◌∙◌}
use Rattle.std.proofs.Common.{map}
use Rattle.std.proofs.lemmas.List.{map-append}
use Rattle.mpi_cart.specs.Grids.{below}
use Rattle.mpi_cart.proofs.MpiCartLemmas.{below_more}

pub map_more : {A : Type 0} (f : ℕ → A) (n : ℕ) →
    map f (below (n + 1)) ≡ map f (below n) ++ f n ∷ []
map_more f n = ap (λ xs. map f xs) (below_more n) ∙ map-append f (below n) (n ∷ [])
