-- A chain file, read from the top: what each line says, and the first that should not stand there.
-- (Own format.)
use Rattle.std.specs.Prelude.{◌≡◌, ℕ, ◌+◌, ◌==◌, List, [], ◌∷◌, ◌++◌, length, codes}
use Rattle.std.specs.Prelude.{Option, Some, None, Result, Ok, Err, option_map, if◌then◌else◌}
use Rattle.std.specs.List.{slice_split}
use Rattle.std.specs.Str.{bytes_eq}
use Rattle.hex.specs.declared.error.FromHexError.{FromHexError}
use Rattle.hex.specs.Hex.{encode_lower, decode_sized}
use Rattle.chain_heads.specs.Heads.{head_of}
use Rattle.chain_file.specs.declared.run.Begun.{Begun}
use Rattle.chain_file.specs.declared.run.Run.{Run}
use Rattle.chain_file.specs.declared.fault.ChainFault.{ChainFault}
use Rattle.chain_file.specs.declared.fault.ChainFault.TheVariants.{BadLine, BadHead, Cut, NoMemory}
use Rattle.chain_file.specs.Text.{Chain, begun_words, ended_words, text_of}
use Rattle.chain_file.specs.Words.{is_plain, spaced}
use Rattle.chain_file.specs.Text.{first_line}

infixl 10 ◌>>=◌
abbrev pub ◌>>=◌ : {A B : Type 0} → Option A → (A → Option B) → Option B
(Some x) >>= f = f x
None >>= f = None

-- the parts of a text between separators
abbrev pub parts : ℕ → List ℕ → List (List ℕ)
parts separator text = slice_split (λ b. b == separator) text

---- Words.

abbrev pub lower_of : List ℕ → Result (List ℕ) FromHexError → Option (List ℕ)
lower_of word (Ok bytes) = if bytes_eq (encode_lower bytes) word then Some bytes else None
lower_of word (Err fault) = None

-- so many bytes of which a word is the hex digits, in lower case
unfoldable pub hex_in : (number : ℕ) → List ℕ → Option (List ℕ)
hex_in number word = lower_of word (decode_sized word number)

abbrev pub plain_then : ℕ → Option (List ℕ) → Option (List ℕ)
plain_then b rest = if is_plain b then option_map (λ path. b ∷ path) rest else None

-- a byte that stands for itself is never spelled by its digits
abbrev pub escaped_then : Option (List ℕ) → Option (List ℕ) → Option (List ℕ)
escaped_then (Some (b ∷ [])) rest =
    if is_plain b then None else option_map (λ path. b ∷ path) rest
escaped_then _ rest = None

-- the bytes that a word spells
unfoldable pub spelled_in : List ℕ → Option (List ℕ)
spelled_in [] = Some []
spelled_in (b ∷ []) = plain_then b (Some [])
spelled_in (b ∷ h ∷ []) = plain_then b (plain_then h (Some []))
spelled_in (b ∷ h ∷ l ∷ word) =
    if b == 37 then escaped_then (hex_in 1 (h ∷ l ∷ [])) (spelled_in word)
    else plain_then b (spelled_in (h ∷ l ∷ word))

-- a path has a byte
unfoldable pub path_in : List ℕ → Option (List ℕ)
path_in word = if length word == 0 then None else spelled_in word

---- Lines.

-- what a line says: that a run begins, or that it has ended
pub data Said : Type 0 where
  Begins : Begun → Said
  Ends : (book_digest : List ℕ) → Said

abbrev pub words_of : Said → List (List ℕ)
words_of (Begins begun) = begun_words begun
words_of (Ends digest) = ended_words digest

-- behind the word `begun`: what begins, and the head
unfoldable pub begun_in : List (List ℕ) → Option (Said × List ℕ)
begun_in (policy ∷ policy_digest ∷ book ∷ head ∷ []) = do
  p ← path_in policy
  d ← hex_in 32 policy_digest
  b ← path_in book
  _ ← hex_in 32 head
  Some (Begins (record { policy = p; policy_digest = d; book = b }), head)
begun_in _ = None

-- behind the word `ended`: the digest of the book, and the head
unfoldable pub ended_in : List (List ℕ) → Option (Said × List ℕ)
ended_in (book_digest ∷ head ∷ []) = do
  d ← hex_in 32 book_digest
  _ ← hex_in 32 head
  Some (Ends d, head)
ended_in _ = None

unfoldable pub said_in : List (List ℕ) → Option (Said × List ℕ)
said_in [] = None
said_in (verb ∷ words) =
    if bytes_eq verb (codes "begun") then begun_in words
    else if bytes_eq verb (codes "ended") then ended_in words
    else None

---- Files.

-- A run begins where none is under way, and ends where one is.
abbrev pub entered : List Run → Option Begun → Said → Option Chain
entered ended None (Begins begun) = Some (record { ended = ended; under_way = Some begun })
entered ended None (Ends digest) = None
entered ended (Some last) (Begins begun) = None
entered ended (Some last) (Ends digest) = Some (record {
  ended = ended ++ (record { begun = last; book_digest = digest } ∷ []);
  under_way = None;
})

abbrev pub after_said : Chain → Said → Option Chain
after_said chain said = entered chain.ended chain.under_way said

-- the head is the one that is due
abbrev pub with_head : (number : ℕ) → Option Chain → (head due : List ℕ) → Result Chain ChainFault
with_head number None head due = Err (BadLine number)
with_head number (Some chain) head due =
    if bytes_eq head due then Ok chain else Err (BadHead number)

abbrev pub by_said : Chain → (number : ℕ) → Option (Said × List ℕ) → Result Chain ChainFault
by_said chain number None = Err (BadLine number)
by_said chain number (Some (said, head)) = with_head number (after_said chain said) head
    (head_of (text_of chain ++ spaced (words_of said)))

-- the chain with the line of this number
abbrev pub line_in : Chain → (number : ℕ) → List ℕ → Result Chain ChainFault
line_in chain number line = by_said chain number (said_in (parts 32 line))

abbrev pub then_lines : Result Chain ChainFault → (Chain → Result Chain ChainFault) →
    Result Chain ChainFault
then_lines (Ok chain) more = more chain
then_lines (Err fault) more = Err fault

-- The lines behind those of a chain, the first with this number. The last of the list is what stands
-- behind the last line feed.
unfoldable pub lines_in : Chain → (number : ℕ) → List (List ℕ) → Result Chain ChainFault
lines_in chain number [] = Err Cut
lines_in chain number (rest ∷ []) = if length rest == 0 then Ok chain else Err Cut
lines_in chain number (line ∷ next ∷ more) =
    then_lines (line_in chain number line) (λ now. lines_in now (number + 1) (next ∷ more))

abbrev pub no_runs : Chain
no_runs = record { ended = []; under_way = None }

abbrev pub file_in : List (List ℕ) → Result Chain ChainFault
file_in [] = Err Cut
file_in (first ∷ []) = Err Cut
file_in (first ∷ next ∷ more) =
    if bytes_eq first first_line then lines_in no_runs 2 (next ∷ more) else Err (BadLine 1)

-- The chain of a text, or its first line that is not in its form or whose head is not due, or `Cut`
-- where the text stops within a line.
unfoldable pub chain_in : List ℕ → Result Chain ChainFault
chain_in text = file_in (parts 10 text)

-- What a reader returned is what is said, unless memory ran out.
abbrev pub IsSaid : Result Chain ChainFault → Result Chain ChainFault → Type 0
IsSaid (Err NoMemory) said = Unit {0}
IsSaid result said = result ≡ said
