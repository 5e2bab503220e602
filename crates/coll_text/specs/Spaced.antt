-- Words behind separators: words of private contracts.
use Rattle.std.specs.Prelude.{ℕ, List, ◌∷◌}
use Rattle.std.specs.List.{flat_map}
use Rattle.coll_text.specs.Numbers.{Word}

-- each word behind a separator
abbrev pub behind_each : ℕ → List Word → List ℕ
behind_each separator ws = flat_map (λ w. separator ∷ w) ws

abbrev pub behind_comma : {A : Type 0} → (A → Word) → List A → List ℕ
behind_comma f xs = flat_map (λ x. 44 ∷ f x) xs
