-- Reading from the left, with the first fault that is met. (Own format.)
use Rattle.std.specs.Prelude.{◌≡◌, ℕ, Bool, true, false, ◌&&◌, ◌==◌, nat_le, List, [], ◌∷◌, length}
use Rattle.std.specs.Prelude.{codes, Option, Some, None, Result, Ok, Err, if◌then◌else◌}
use Rattle.std.specs.List.{slice_split}
use Rattle.std.specs.Str.{bytes_eq}
use Rattle.coll_text.specs.declared.fault.LineFault.{LineFault}
use Rattle.coll_text.specs.declared.fault.LineFault.TheVariants.{BadShape, BadField, NoMemory}
use Rattle.coll_text.specs.Numbers.{Word, number_within}

infixl 10 ◌>>=◌
abbrev pub ◌>>=◌ : {A B : Type 0} → Result A LineFault → (A → Result B LineFault) →
    Result B LineFault
(Ok x) >>= f = f x
(Err e) >>= f = Err e

-- What a reader returned is what is said, unless memory ran out.
abbrev pub Fails : {Y : Type 0} → LineFault → Result Y LineFault → Type 0
Fails NoMemory said = Unit {0}
Fails fault said = said ≡ Err fault

abbrev pub Gives : {Y : Type 0} → Result Y LineFault → Result Y LineFault → Type 0
Gives (Ok y) said = said ≡ Ok y
Gives (Err fault) said = Fails fault said

-- what a reader left is what is said, unless memory ran out
abbrev pub Leaves : {X Y : Type 0} → Result X LineFault → Y → Result Y LineFault → Type 0
Leaves (Ok x) y said = said ≡ Ok y
Leaves (Err fault) y said = Fails fault said

-- what is seen of what a reader returned, and the words that it left, are what is said, unless
-- memory ran out
abbrev pub Takes : {X Y : Type 0} → (X → Y) → Result X LineFault → List Word →
    Result (Y × List Word) LineFault → Type 0
Takes view (Ok x) rest said = said ≡ Ok (view x, rest)
Takes view (Err fault) rest said = Fails fault said

abbrev pub some_or : {A : Type 0} → LineFault → Option A → Result A LineFault
some_or fault None = Err fault
some_or fault (Some x) = Ok x

-- the parts of a text between separators
abbrev pub parts : ℕ → List ℕ → List Word
parts separator text = slice_split (λ b. b == separator) text

-- the next word, which is not empty
abbrev pub word_at : List Word → Result (Word × List Word) LineFault
word_at [] = Err BadShape
word_at (w ∷ ws) = if length w == 0 then Err BadShape else Ok (w, ws)

-- a number up to most
abbrev pub number_up_to : ℕ → Word → Result ℕ LineFault
number_up_to most word = some_or BadField (number_within most word)

abbrev pub number_at : ℕ → List Word → Result (ℕ × List Word) LineFault
number_at most ws = do
  w ← word_at ws
  n ← number_up_to most w.0
  Ok (n, w.1)

-- no word is left
abbrev pub ended : {A : Type 0} → List Word → A → Result A LineFault
ended [] x = Ok x
ended (w ∷ ws) x = Err BadShape

-- each word, read in order
unfoldable pub each_of : {A : Type 0} → (Word → Result A LineFault) → List Word →
    Result (List A) LineFault
each_of read [] = Ok []
each_of read (w ∷ ws) = do
  x ← read w
  xs ← each_of read ws
  Ok (x ∷ xs)

-- `-` for none, or words between commas
unfoldable pub list_of : {A : Type 0} → (Word → Result A LineFault) → Word →
    Result (List A) LineFault
list_of read word = if bytes_eq word (codes "-") then Ok [] else each_of read (parts 44 word)

-- `0` or `1`
abbrev pub flag_of : Word → Result Bool LineFault
flag_of word = if bytes_eq word (codes "0") then Ok false else if bytes_eq word (codes "1")
    then Ok true else Err BadField

abbrev pub is_printable : ℕ → Bool
is_printable b = nat_le 32 b && nat_le b 126
