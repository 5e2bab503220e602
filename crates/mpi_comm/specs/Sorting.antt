-- A stable sort.
use Rattle.std.specs.Prelude.{Bool, if◌then◌else◌, List, [], ◌∷◌}

-- the element goes before the first that is not less
abbrev pub put : {X : Type 0} → (X → X → Bool) → X → List X → List X
put less x [] = x ∷ []
put less x (y ∷ ys) = if less y x then y ∷ put less x ys else x ∷ y ∷ ys

-- the elements in ascending order; those that tie stay in the order that they had
abbrev pub sorted_by : {X : Type 0} → (X → X → Bool) → List X → List X
sorted_by less [] = []
sorted_by less (x ∷ xs) = put less x (sorted_by less xs)
