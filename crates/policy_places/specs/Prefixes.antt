-- The lines at the front of a text. (Own rule.)
use Rattle.std.specs.Prelude.{ℕ, zero, suc, ◌==◌, List, [], ◌∷◌, if◌then◌else◌}

-- the first n lines, each with the line feed that ends it
abbrev pub prefix : ℕ → List ℕ → List ℕ
prefix zero text = []
prefix (suc n) [] = []
prefix (suc n) (b ∷ bs) = b ∷ (if b == 10 then prefix n bs else prefix (suc n) bs)
