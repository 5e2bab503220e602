-- Heads: a text that only grows, line by line, where each line ends with the digest of all bytes
-- before it. Who has the last digest has all of the text in hand. (Own rule; the digest is SHA-256
-- of FIPS 180-4.) Nothing is said here of how hard it is to find two messages of one digest: each
-- law gives them, where it fails.
use Rattle.std.specs.Prelude.{◌≡◌, ◌≢◌, ◌⊎◌, ◌<◌, ◌*◌, ◌^◌, ℕ, List, [], ◌∷◌, ◌++◌, length, map, All}
use Rattle.hex.specs.Hex.{encode_lower}
use Rattle.sha2.specs.Sha256.{sha256}

---- Digests.

-- a message of the standard: bytes, whose bits are fewer than 2 ^ 64 (FIPS 180-4, section 1)
pub record IsMessage (m : List ℕ) : Type 0 where
  pub bytes : All (λ b. b < 256) m
  pub few : length m * 8 < 2 ^ 64

-- two different messages that have one digest
pub record Collision : Type 0 where
  pub one : List ℕ
  pub other : List ℕ
  pub one_is : IsMessage one
  pub other_is : IsMessage other
  pub apart : one ≢ other
  pub same : sha256 one ≡ sha256 other

---- Heads.

-- the head of a text, as it is written: its digest as 64 hex digits
unfoldable pub head_of : List ℕ → List ℕ
head_of text = encode_lower (sha256 text)

-- a text, a line of these words behind it, and the head of all that
abbrev pub with_line : (text words : List ℕ) → List ℕ
with_line text words = (text ++ words) ++ (head_of (text ++ words) ++ 10 ∷ [])

-- the text of these lines, the newest first, behind what it begins with; a line is its words
abbrev pub text_of : (first : List ℕ) → (lines : List (List ℕ)) → List ℕ
text_of first [] = first
text_of first (words ∷ older) = with_line (text_of first older) words

-- The text has this head at the end of its last line: that of all bytes before it.
pub record EndsWithHead (text head : List ℕ) : Type 0 where
  pub before : List ℕ
  pub is : text ≡ before ++ (head ++ 10 ∷ [])
  pub due : head ≡ head_of before

-- The text of these lines has this head at the end of one of them, behind which others may stand.
pub record HasHead (first : List ℕ) (lines : List (List ℕ)) (head : List ℕ) : Type 0 where
  pub later : List (List ℕ)
  pub words : List ℕ
  pub older : List (List ℕ)
  pub are : later ++ (words ∷ older) ≡ lines
  pub due : head ≡ head_of (text_of first older ++ words)

---- Laws.

-- texts with one last head are one text, or two different messages with one digest are in hand
abbrev pub HeadsDecide : Type 0
HeadsDecide = (one other head : List ℕ) → IsMessage one → IsMessage other →
    EndsWithHead one head → EndsWithHead other head → (one ≡ other) ⊎ Collision

-- each line that is built so ends with the head of all before it
abbrev pub LinesEndWithHeads : Type 0
LinesEndWithHeads = (first words : List ℕ) (older : List (List ℕ)) →
    EndsWithHead (text_of first (words ∷ older)) (head_of (text_of first older ++ words))

-- A head that is the last of one text and stands in another: the other begins with the one, or two
-- different messages with one digest are in hand. So a fork is two lines that follow one head.
abbrev pub HeadsFixWhatIsBefore : Type 0
HeadsFixWhatIsBefore =
    (first one : List ℕ) (lines : List (List ℕ)) (head : List ℕ) → IsMessage one →
    IsMessage (text_of first lines) → EndsWithHead one head → HasHead first lines head →
    ((rest : List ℕ) × (text_of first lines ≡ one ++ rest)) ⊎ Collision

-- And the files whose digests stand in a text, however they are found there: where two texts have
-- one last head, and these files have the digests that stand in the one and those the digests that
-- stand in the other, they are the same files in the same order, or two different messages with one
-- digest are in hand.
abbrev pub HeadsDecideFiles : Type 0
HeadsDecideFiles = (digests_in : List ℕ → List (List ℕ)) (one other head : List ℕ)
    (files others : List (List ℕ)) → IsMessage one → IsMessage other → EndsWithHead one head →
    EndsWithHead other head → All IsMessage files → All IsMessage others →
    map sha256 files ≡ digests_in one → map sha256 others ≡ digests_in other →
    ((one ≡ other) × (files ≡ others)) ⊎ Collision
