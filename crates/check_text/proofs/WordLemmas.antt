-- The word in a column of a line.
use Rattle.std.proofs.Common.{◌≡◌, ℕ, zero, suc, ◌+◌, ◌-◌, ◌<◌, ◌≤◌, ◌==◌, Bool, true, false, cond}
use Rattle.std.proofs.Common.{List, [], ◌∷◌, ◌++◌, length, take, drop, get_or, Some}
use Rattle.std.proofs.Common.{refl, sym, ap, ◌∙◌, subst, arith, slice_get, codes, inl, inr}
use Rattle.std.specs.Prelude.{sum_by}
use Rattle.std.specs.List.{list_all, onto_first}
use Rattle.std.proofs.lemmas.Bool.{and_parts, eqb-true}
use Rattle.std.proofs.lemmas.List.{drop-drop, drop_all, length-append, length-drop}
use Rattle.std.proofs.lemmas.List.{get_or-append-add}
use Rattle.std.proofs.lemmas.List.Sums.{sum_by-cons}
use Rattle.std.proofs.lemmas.Option.{slice_get_past}
use Rattle.coll_text.specs.declared.fault.LineFault.TheVariants.{BadShape}
use Rattle.coll_text.specs.Numbers.{Word}
use Rattle.coll_text.specs.Reading.{parts, is_printable}
use Rattle.script_places.specs.Places.{column_of}
use Rattle.check_text.specs.Words.{word_from, ends_in_space}
use Rattle.check_text.specs.Sentences.{complaint_of, byte_text, shape_at, shape_text}
use Rattle.check_text.specs.Laws.{WordIsAtFault, IsSaidEmpty, ShapesAreSaid}

-- a line of more words than one is the first, a space, and a line of the others
record IsApart (line : List ℕ) (w : Word) (ws : List Word) : Type 0 where
  space : ℕ
  rest : List ℕ
  cut : (space == 32) ≡ true
  whole : line ≡ w ++ space ∷ rest
  words : parts 32 rest ≡ ws

apart : (line : List ℕ) (w v : Word) (ws : List Word) → parts 32 line ≡ w ∷ v ∷ ws →
    IsApart line w (v ∷ ws)
apart [] w v ws e = absurd cc
apart (x ∷ xs) w v ws e = go (x == 32) refl e (λ u. apart xs u v ws)
  where
    onto : (ps : List Word) → onto_first x ps ≡ w ∷ v ∷ ws →
        ((u : Word) → ps ≡ u ∷ v ∷ ws → IsApart xs u (v ∷ ws)) → IsApart (x ∷ xs) w (v ∷ ws)
    onto [] f next = absurd cc
    onto (p ∷ ps) f next =
        let first : x ∷ p ≡ w = cc in
        let others : ps ≡ v ∷ ws = cc in
        let later = next p (ap (λ (qs : List Word). p ∷ qs) others) in
        record {
          space = later.space;
          rest = later.rest;
          cut = later.cut;
          whole = ap (λ ys. x ∷ ys) later.whole
              ∙ ap (λ (u : Word). u ++ later.space ∷ later.rest) first;
          words = later.words;
        }

    go : (b : Bool) → (x == 32) ≡ b →
        cond b ([] ∷ parts 32 xs) (onto_first x (parts 32 xs)) ≡ w ∷ v ∷ ws →
        ((u : Word) → parts 32 xs ≡ u ∷ v ∷ ws → IsApart xs u (v ∷ ws)) →
        IsApart (x ∷ xs) w (v ∷ ws)
    go true is f next =
        let none : [] ≡ w = cc in
        let others : parts 32 xs ≡ v ∷ ws = cc in
        record {
          space = x;
          rest = xs;
          cut = is;
          whole = ap (λ (u : Word). u ++ x ∷ xs) none;
          words = others;
        }
    go false is f next = onto (parts 32 xs) f next

past_space : (v : Word) (x : ℕ) (ys : List ℕ) → drop (length v + 1) (v ++ x ∷ ys) ≡ ys
past_space [] x ys = refl
past_space (b ∷ v) x ys =
    let more : length (b ∷ v) + 1 ≡ suc (length v + 1) = omega arith in
    ap (λ n. drop n (b ∷ (v ++ x ∷ ys))) more ∙ past_space v x ys

-- what stands from word i on, where that many bytes stand before it
abbrev before : List Word → ℕ → ℕ
before ws i = sum_by (λ w. length w + 1) (take i ws)

from_word : (ws : List Word) (line : List ℕ) (i : ℕ) (w : Word) → parts 32 line ≡ ws →
    slice_get ws i ≡ Some w → get_or (parts 32 (drop (before ws i) line)) 0 [] ≡ w
from_word [] line i w e at = absurd cc
from_word (v ∷ ws) line zero w e at =
    let same : v ≡ w = cc in ap (λ ps. get_or ps 0 []) e ∙ same
from_word (v ∷ []) line (suc i) w e at = absurd cc
from_word (v ∷ u ∷ ws) line (suc i) w e at =
    let two = apart line v u ws e in
    let prefix = sum_by-cons (λ (x : Word). length x + 1) v (take i (u ∷ ws)) in
    let gone : drop (length v + 1) line ≡ two.rest =
    ap (drop (length v + 1)) two.whole ∙ past_space v two.space two.rest in
    ap (λ n. get_or (parts 32 (drop n line)) 0 []) prefix
    ∙ ap (λ ys. get_or (parts 32 ys) 0 []) (sym (drop-drop (before (u ∷ ws) i) (length v + 1) line)
    ∙ ap (drop (before (u ∷ ws) i)) gone)
    ∙ from_word (u ∷ ws) two.rest i w two.words at

pub word_is_at_fault : WordIsAtFault
word_is_at_fault = (
  λ line i w at.
      let less : column_of (parts 32 line) i - 1 ≡ before (parts 32 line) i = omega arith in
      ap (λ n. get_or (parts 32 (drop n line)) 0 []) less
      ∙ from_word (parts 32 line) line i w refl at,
  λ line.
      let all : drop (length line + 1 - 1) line ≡ [] =
      drop_all (length line + 1 - 1) line (omega arith) in
      ap (λ ys. get_or (parts 32 ys) 0 []) all,
)

---- what is said of the shape at a word

-- where a text begins with a word that is not empty, it begins with the first byte of that
first_byte : (ys : List ℕ) (b : ℕ) (w : Word) → get_or (parts 32 ys) 0 [] ≡ b ∷ w →
    (rest : List ℕ) × (ys ≡ b ∷ rest) × ((b == 32) ≡ false)
first_byte [] b w e = absurd cc
first_byte (x ∷ xs) b w e = go (x == 32) refl e
  where
    onto : (ps : List Word) → (x == 32) ≡ false → get_or (onto_first x ps) 0 [] ≡ b ∷ w →
        (rest : List ℕ) × (x ∷ xs ≡ b ∷ rest) × ((b == 32) ≡ false)
    onto [] is f =
        let same : x ≡ b = cc in (xs, ap (λ y. y ∷ xs) same, ap (λ y. y == 32) (sym same) ∙ is)
    onto (p ∷ ps) is f =
        let same : x ≡ b = cc in (xs, ap (λ y. y ∷ xs) same, ap (λ y. y == 32) (sym same) ∙ is)

    go : (t : Bool) → (x == 32) ≡ t →
        get_or (cond t ([] ∷ parts 32 xs) (onto_first x (parts 32 xs))) 0 [] ≡ b ∷ w →
        (rest : List ℕ) × (x ∷ xs ≡ b ∷ rest) × ((b == 32) ≡ false)
    go true is f = absurd cc
    go false is f = onto (parts 32 xs) is f

-- and where with an empty one, with a space, if there is a byte
first_space : (x : ℕ) (xs : List ℕ) → get_or (parts 32 (x ∷ xs)) 0 [] ≡ [] → x ≡ 32
first_space x xs e = go (x == 32) refl e
  where
    onto : (ps : List Word) → get_or (onto_first x ps) 0 [] ≡ [] → x ≡ 32
    onto [] f = absurd cc
    onto (p ∷ ps) f = absurd cc

    go : (t : Bool) → (x == 32) ≡ t →
        get_or (cond t ([] ∷ parts 32 xs) (onto_first x (parts 32 xs))) 0 [] ≡ [] → x ≡ 32
    go true is f = eqb-true x 32 is
    go false is f = onto (parts 32 xs) f

-- the byte behind n bytes
byte_at : (line rest : List ℕ) (n b : ℕ) → drop n line ≡ b ∷ rest → slice_get line n ≡ Some b
byte_at [] rest zero b e = absurd cc
byte_at [] rest (suc n) b e = absurd cc
byte_at (x ∷ xs) rest zero b e = let same : x ≡ b = cc in ap (λ (y : ℕ). Some y) same
byte_at (x ∷ xs) rest (suc n) b e = byte_at xs rest n b e

printable_at : (line : List ℕ) (n b : ℕ) → list_all is_printable line ≡ true →
    slice_get line n ≡ Some b → is_printable b ≡ true
printable_at [] n b all at = absurd cc
printable_at (x ∷ xs) zero b all at =
    let same : x ≡ b = cc in
    ap is_printable (sym same) ∙ (and_parts (is_printable x) (list_all is_printable xs) all).0
printable_at (x ∷ xs) (suc n) b all at =
    printable_at xs n b (and_parts (is_printable x) (list_all is_printable xs) all).1 at

-- the last byte, where a space and others stand behind a word
last_byte : (v : Word) (x : ℕ) (ys : List ℕ) →
    get_or (v ++ x ∷ ys) (length (v ++ x ∷ ys) - 1) 0 ≡ get_or (x ∷ ys) (length ys) 0
last_byte v x ys =
    let long = length-append v (x ∷ ys) in
    let place : length (v ++ x ∷ ys) - 1 ≡ length v + length ys = omega (arith, long) in
    ap (λ n. get_or (v ++ x ∷ ys) n 0) place ∙ get_or-append-add v (x ∷ ys) (length ys) 0

-- a line of which nothing stands behind the words before the last, which is empty
last_space : (ws : List Word) (line : List ℕ) (i : ℕ) → parts 32 line ≡ ws →
    slice_get ws i ≡ Some [] → drop (before ws i) line ≡ [] → 0 < length line →
    ends_in_space line ≡ true
last_space [] line i e at none some = absurd cc
last_space (v ∷ ws) line zero e at none some = let short = ap length none in absurd (omega arith)
last_space (v ∷ []) line (suc i) e at none some = absurd cc
last_space (v ∷ u ∷ ws) line (suc i) e at none some =
    let two = apart line v u ws e in
    let prefix = sum_by-cons (λ (x : Word). length x + 1) v (take i (u ∷ ws)) in
    let gone : drop (length v + 1) line ≡ two.rest =
    ap (drop (length v + 1)) two.whole ∙ past_space v two.space two.rest in
    let left : drop (before (u ∷ ws) i) two.rest ≡ [] =
    ap (drop (before (u ∷ ws) i)) (sym gone)
    ∙ drop-drop (before (u ∷ ws) i) (length v + 1) line
    ∙ ap (λ n. drop n line) (sym prefix) ∙ none in
    ap (λ l. get_or l (length l - 1) 0 == 32) two.whole
    ∙ ap (λ b. b == 32) (last_byte v two.space two.rest)
    ∙ go two.rest two.words left (λ l. last_space (u ∷ ws) l i)
  where
    go : (rest : List ℕ) → parts 32 rest ≡ u ∷ ws → drop (before (u ∷ ws) i) rest ≡ [] →
        ((l : List ℕ) → parts 32 l ≡ u ∷ ws → slice_get (u ∷ ws) i ≡ Some [] →
        drop (before (u ∷ ws) i) l ≡ [] → 0 < length l → ends_in_space l ≡ true) →
        (get_or ((apart line v u ws e).space ∷ rest) (length rest) 0 == 32) ≡ true
    go [] words left later = (apart line v u ws e).cut
    go (x ∷ xs) words left later =
        let place : length (x ∷ xs) - 1 ≡ length xs = omega arith in
        ap (λ n. get_or (x ∷ xs) n 0 == 32) (sym place)
        ∙ later (x ∷ xs) words at left (omega arith)

too_many : (line : List ℕ) (i : ℕ) (b : ℕ) (w : Word) → list_all is_printable line ≡ true →
    slice_get (parts 32 line) i ≡ Some (b ∷ w) →
    shape_text line (column_of (parts 32 line) i) ≡ complaint_of (b ∷ w) BadShape
too_many line i b w printable at =
    let place : column_of (parts 32 line) i - 1 ≡ before (parts 32 line) i = omega arith in
    let word = from_word (parts 32 line) line i (b ∷ w) refl at in
    let first = first_byte (drop (before (parts 32 line) i) line) b w word in
    let byte = byte_at line first.0 (before (parts 32 line) i) b first.1 in
    ap (λ n. shape_at line (get_or (parts 32 (drop n line)) 0 []) (slice_get line n)) place
    ∙ ap (λ u. shape_at line u (slice_get line (before (parts 32 line) i))) word
    ∙ ap (λ o. shape_at line (b ∷ w) o) byte
    ∙ ap (λ t. cond t (cond (b == 32) (codes "an empty field: one space too many")
    (complaint_of (b ∷ w) BadShape)) (byte_text b))
    (printable_at line (before (parts 32 line) i) b printable byte)
    ∙ ap (λ t. cond t (codes "an empty field: one space too many")
    (complaint_of (b ∷ w) BadShape)) first.2

empty_field : (line : List ℕ) (i : ℕ) → 0 < length line →
    slice_get (parts 32 line) i ≡ Some [] →
    IsSaidEmpty (shape_text line (column_of (parts 32 line) i))
empty_field line i some at =
    let place : column_of (parts 32 line) i - 1 ≡ before (parts 32 line) i = omega arith in
    let word = from_word (parts 32 line) line i [] refl at in
    let same = ap (λ n. shape_at line (get_or (parts 32 (drop n line)) 0 []) (slice_get line n))
    place in
    subst IsSaidEmpty (sym same) (go (drop (before (parts 32 line) i) line) refl word)
  where
    go : (ys : List ℕ) → drop (before (parts 32 line) i) line ≡ ys →
        get_or (parts 32 ys) 0 [] ≡ [] →
        IsSaidEmpty (shape_at line
        (get_or (parts 32 (drop (before (parts 32 line) i) line)) 0 [])
        (slice_get line (before (parts 32 line) i)))
    go [] e word =
        let past : length line ≤ before (parts 32 line) i =
        let gone = ap length e in
        let long = length-drop (before (parts 32 line) i) line in omega arith in
        let none = slice_get_past line (before (parts 32 line) i) past in
        let space = last_space (parts 32 line) line i refl at e some in
        inr (ap (λ o. shape_at line
        (get_or (parts 32 (drop (before (parts 32 line) i) line)) 0 []) o) none
        ∙ ap (λ t. cond t (codes "an empty field: the line ends in a space")
        (codes "a field is missing at the end of the line")) space)
    go (x ∷ xs) e word =
        let space = first_space x xs word in
        let byte = byte_at line xs (before (parts 32 line) i) x e in
        inl (ap (λ o. shape_at line
        (get_or (parts 32 (drop (before (parts 32 line) i) line)) 0 []) o)
        (byte ∙ ap (λ (b : ℕ). Some b) space))

missing_field : (line : List ℕ) → ends_in_space line ≡ false →
    shape_text line (length line + 1) ≡ codes "a field is missing at the end of the line"
missing_field line no_space =
    let place : length line + 1 - 1 ≡ length line = omega arith in
    let none = slice_get_past line (length line) (omega arith) in
    ap (λ n. shape_at line (get_or (parts 32 (drop n line)) 0 []) (slice_get line n)) place
    ∙ ap (λ o. shape_at line (get_or (parts 32 (drop (length line) line)) 0 []) o) none
    ∙ ap (λ t. cond t (codes "an empty field: the line ends in a space")
    (codes "a field is missing at the end of the line")) no_space

unprintable_byte : (line : List ℕ) (c b : ℕ) → slice_get line (c - 1) ≡ Some b →
    is_printable b ≡ false → shape_text line c ≡ byte_text b
unprintable_byte line c b at bad =
    ap (λ o. shape_at line (word_from line c) o) at
    ∙ ap (λ t. cond t (cond (b == 32) (codes "an empty field: one space too many")
    (complaint_of (word_from line c) BadShape)) (byte_text b)) bad

pub shapes_are_said : ShapesAreSaid
shapes_are_said = record {
  too_many = too_many;
  empty = empty_field;
  missing = missing_field;
  unprintable = unprintable_byte;
}
