-- What is written behind a text, and out of it. (Own rules.)
use Rattle.std.specs.Prelude.{◌≡◌, ℕ, ℤ, List, [], ◌∷◌, ◌++◌, length, take, Option}
use Rattle.std.specs.List.{flat_map}
use Rattle.std.specs.Fmt.{signed_decimal}
use Rattle.std.specs.Io.KnownBytes.{Appends}

-- each number behind a space
abbrev pub spaced_numbers : List ℤ → List ℕ
spaced_numbers ns = flat_map (λ n. 32 ∷ signed_decimal n) ns

-- some numbers between two bytes, with a space between two
abbrev pub enclosed_numbers : ℕ → List ℤ → ℕ → List ℕ
enclosed_numbers first [] last = first ∷ last ∷ []
enclosed_numbers first (n ∷ ns) last =
    first ∷ (signed_decimal n ++ spaced_numbers ns ++ last ∷ [])

-- what stood there stands at the front
abbrev pub KeepsPrefix : (old new : List ℕ) → Type 0
KeepsPrefix old new = take (length old) new ≡ old

-- a prefix of the text was written out, and the rest of it is left
abbrev pub Moves : (before now : Option (List ℕ)) → (old new : List ℕ) → Type 0
Moves before now old new = (gone : List ℕ) × Appends before now gone × (gone ++ new ≡ old)
