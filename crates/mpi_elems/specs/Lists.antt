-- Lists combined place by place, and lists folded.
use Rattle.std.specs.Prelude.{List, [], ◌∷◌, Option, Some, None, fold}

-- f of the elements at each place that both lists have
unfoldable pub zip_with : {A B C : Type 0} → (A → B → C) → List A → List B → List C
zip_with f [] ys = []
zip_with f (x ∷ xs) [] = []
zip_with f (x ∷ xs) (y ∷ ys) = f x y ∷ zip_with f xs ys

-- f of the elements at each place that both lists have, and behind them the rest of the longer one:
-- so a list merged into none is itself
unfoldable pub merged : {E : Type 0} → (E → E → E) → List E → List E → List E
merged f [] ys = ys
merged f (x ∷ xs) [] = x ∷ xs
merged f (x ∷ xs) (y ∷ ys) = f x y ∷ merged f xs ys

-- a list folded from the left; none of an empty list
abbrev pub fold_first : {E : Type 0} → (E → E → E) → List E → Option E
fold_first f [] = None
fold_first f (x ∷ xs) = Some (fold f x xs)
