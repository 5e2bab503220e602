-- The words of a chain file. (Own format.)
use Rattle.std.specs.Prelude.{◌≡◌, ◌<◌, ℕ, Bool, ◌&&◌, ◌==◌, not, nat_lt, List, [], ◌∷◌, ◌++◌}
use Rattle.std.specs.Prelude.{length, All, if◌then◌else◌}
use Rattle.std.specs.List.{flat_map}
use Rattle.hex.specs.Hex.{encode_lower}

-- the bytes that stand for themselves in the word of a path: printable ASCII, no space and no `%`
abbrev pub is_plain : ℕ → Bool
is_plain b = nat_lt 32 b && (nat_lt b 127 && not (b == 37))

-- another byte is `%` and its two hex digits
unfoldable pub path_byte : ℕ → List ℕ
path_byte b = if is_plain b then b ∷ [] else 37 ∷ encode_lower (b ∷ [])

abbrev pub path_word : List ℕ → List ℕ
path_word path = flat_map path_byte path

-- a space behind each word
abbrev pub spaced : List (List ℕ) → List ℕ
spaced words = flat_map (λ word. word ++ 32 ∷ []) words

-- a path is bytes, at least one
abbrev pub IsPath : List ℕ → Type 0
IsPath path = (0 < length path) × All (λ b. b < 256) path

-- a digest is 32 bytes
abbrev pub IsDigest : List ℕ → Type 0
IsDigest digest = (length digest ≡ 32) × All (λ b. b < 256) digest
