-- Cells as elements, and what the loop over cells gives, place by place.
use Rattle.std.specs.Prelude.{◌≡◌, ℕ, ◌<◌, ◌≤◌, List, [], ◌∷◌, ℤ, map, if◌then◌else◌}
use Rattle.wall_labels.specs.declared.op.Op.{Op}
use Rattle.mpi_elems.specs.Operations.{keeps_first}
use Rattle.mpi_elems.specs.Elements.{Element, single, pair}

-- cells of one number each, and cells of a pair each
abbrev pub singles : {A : Type 0} → (A → ℤ) → List A → List Element
singles number xs = map (λ x. single (number x)) xs

abbrev pub pairs : List (ℤ × ℤ) → List Element
pairs xs = map (λ p. pair p.0 p.1) xs

-- R holds of the cells at each place
unfoldable pub Combines : {A : Type 0} → (A → A → A → Type 0) → List A → List A → List A → Type 0
Combines R [] [] [] = Unit {0}
Combines R (x ∷ xs) (y ∷ ys) (z ∷ zs) = R x y z × Combines R xs ys zs
Combines R _ _ _ = ⊥

-- R holds of the cells at each place that both have; the rest of the longer one stays
unfoldable pub Merges : {A : Type 0} → (A → A → A → Type 0) → List A → List A → List A → Type 0
Merges R [] ys zs = zs ≡ ys
Merges R (x ∷ xs) [] zs = zs ≡ x ∷ xs
Merges R (x ∷ xs) (y ∷ ys) (z ∷ zs) = R x y z × Merges R xs ys zs
Merges R (x ∷ xs) (y ∷ ys) [] = ⊥

-- where fewer are held than are merged in, there is room for these
abbrev pub HasRoomFor : (len held room : ℕ) → Type 0
HasRoomFor len held room = held < len → len ≤ room

-- the room after so many were merged in is no less, and the same where as many were held
abbrev pub KeepsRoom : (len held old new : ℕ) → Type 0
KeepsRoom len held old new = (old ≤ new) × (len ≤ held → new ≡ old)

abbrev pub better_pair : Op → ℤ × ℤ → ℤ × ℤ → ℤ × ℤ
better_pair op p q = if keeps_first op p.0 p.1 q.0 q.1 then p else q
