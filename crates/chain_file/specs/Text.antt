-- The text of a chain file: a line for each run that began and one for each that has ended, with the
-- head of all bytes before it at the end of each. (Own format; digests are SHA-256 of FIPS 180-4.)
use Rattle.std.specs.Prelude.{ℕ, List, [], ◌∷◌, ◌++◌, codes, All, Option, Some, None, IfSome}
use Rattle.hex.specs.Hex.{encode_lower}
use Rattle.chain_heads.specs.Heads.{with_line}
use Rattle.chain_file.specs.declared.run.Begun.{Begun}
use Rattle.chain_file.specs.declared.run.Run.{Run}
use Rattle.chain_file.specs.Words.{path_word, spaced, IsPath, IsDigest}

---- A file.

-- The runs that have ended, the oldest first, and the one that is under way behind them.
pub record Chain : Type 0 where
  pub ended : List Run
  pub under_way : Option Begun

---- Words.

abbrev pub begun_words : Begun → List (List ℕ)
begun_words b = codes "begun" ∷ path_word b.policy ∷ encode_lower b.policy_digest
    ∷ path_word b.book ∷ []

abbrev pub ended_words : (book_digest : List ℕ) → List (List ℕ)
ended_words digest = codes "ended" ∷ encode_lower digest ∷ []

---- Lines.

-- a text, and a line of these words and the head of all before it
unfoldable pub with_words : (text : List ℕ) → List (List ℕ) → List ℕ
with_words text words = with_line text (spaced words)

abbrev pub with_begun : (text : List ℕ) → Begun → List ℕ
with_begun text begun = with_words text (begun_words begun)

abbrev pub with_ended : (text : List ℕ) → (book_digest : List ℕ) → List ℕ
with_ended text digest = with_words text (ended_words digest)

-- a text, and the lines of these runs
unfoldable pub with_runs : (text : List ℕ) → List Run → List ℕ
with_runs text [] = text
with_runs text (run ∷ runs) =
    with_runs (with_ended (with_begun text run.begun) run.book_digest) runs

abbrev pub with_last : (text : List ℕ) → Option Begun → List ℕ
with_last text None = text
with_last text (Some begun) = with_begun text begun

abbrev pub first_line : List ℕ
first_line = codes "chain 1"

-- the text of a chain file
unfoldable pub text_of : Chain → List ℕ
text_of chain = with_last (with_runs (first_line ++ 10 ∷ []) chain.ended) chain.under_way

---- What a file can have.

pub record IsBegun (begun : Begun) : Type 0 where
  pub policy : IsPath begun.policy
  pub policy_digest : IsDigest begun.policy_digest
  pub book : IsPath begun.book

pub record IsRun (run : Run) : Type 0 where
  pub begun : IsBegun run.begun
  pub book_digest : IsDigest run.book_digest

-- paths are bytes, at least one, and digests 32 bytes
pub record IsChain (chain : Chain) : Type 0 where
  pub ended : All IsRun chain.ended
  pub under_way : IfSome chain.under_way IsBegun
