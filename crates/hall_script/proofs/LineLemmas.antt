-- The line of a call is read.
use Rattle.std.proofs.Common.{◌≡◌, ℕ, ◌%◌, ◌^◌, ◌<◌, ◌≤◌, Bool, true, false, not, ◌&&◌, ◌||◌, leb}
use Rattle.std.proofs.Common.{ltb, eqb, length, List, [], ◌∷◌, ◌++◌, Ok, ℤ, codes, map, refl, sym}
use Rattle.std.proofs.Common.{ap, ◌∙◌, arith}
use Rattle.std.specs.List.{All, list_all, join_with_byte}
use Rattle.std.specs.Fmt.{decimal, signed_decimal}
use Rattle.std.proofs.lemmas.Bool.{and_parts, and_from, eqb-true, leb-true, le-leb, ne_eqb}
use Rattle.std.proofs.lemmas.List.Elements.{All-nil, All-cons}
use Rattle.std.proofs.lemmas.List.Folds.{list_all-append}
use Rattle.std.proofs.lemmas.List.Splits.{slice_split_none, slice_split_at}
use Rattle.wall_labels.specs.declared.label.Label.{Label}
use Rattle.wall_labels.specs.declared.label.Label.TheVariants as labels
use Rattle.wall_policy.specs.Names.{Name, is_name, is_letter, is_digit, is_name_byte}
use Rattle.wall_policy.specs.declared.checks.TheConstants.{NAME_LIMIT}
use Rattle.wall_policy.specs.Policy.{ChineseWall, IsPolicy}
use Rattle.mpi_elems.specs.declared.elem_type.ElemType.{ElemType}
use Rattle.mpi_elems.specs.declared.fault.BufferFault.TheVariants as faults
use Rattle.mpi_elems.specs.Types.{is_pair}
use Rattle.mpi_elems.specs.Numbers.{is_number_of}
use Rattle.coll_routes.specs.Faults.{stated_type}
use Rattle.coll_text.specs.Numbers.{Word}
use Rattle.coll_text.specs.Reading.{parts, is_printable}
use Rattle.coll_text.specs.Spellings.{statement_words}
use Rattle.run_model.specs.Known.{IsKnownLabel}
use Rattle.run_model.specs.declared.call.Act.{Act}
use Rattle.run_model.specs.declared.call.Act.TheVariants.{Post, Take, Info}
use Rattle.run_model.specs.declared.call.Call.{Call}
use Rattle.hall_script.specs.Lines.{answer_to}
use Rattle.coll_text.specs.Words.{name_at}
use Rattle.coll_text.proofs.CollTextLemmas.{name_at_of}
use Rattle.hall_script.specs.Spellings.{given_words, act_words, call_words, call_line, IsSayableAct}
use Rattle.hall_script.specs.Spellings.{IsSayableCall}
use Rattle.hall_script.proofs.PlainLemmas.{is_visible, is_plain, decimal_plain, signed_plain}
use Rattle.hall_script.proofs.PlainLemmas.{digit_plain, statement_plain, all_joint}
use Rattle.hall_script.proofs.AgainLemmas.{between, parts_of, act_again}

-- ---- names

or_cases : (a b : Bool) → (a || b) ≡ true → (a ≡ true → ⊥) → b ≡ true
or_cases true b e n = absurd (n refl)
or_cases false b e n = e

letter_plain : (b : ℕ) → is_letter b ≡ true → is_visible b ≡ true
letter_plain b h =
    let p = and_parts (leb 97 b) (leb b 122) h in
    let low : 97 ≤ b = leb-true 97 b p.0 in
    let high : b ≤ 122 = leb-true b 122 p.1 in
    and_from (leb 33 b) (leb b 126) (le-leb 33 b (omega arith)) (le-leb b 126 (omega arith))

one_plain : (b n : ℕ) → eqb b n ≡ true → is_visible n ≡ true → is_visible b ≡ true
one_plain b n e h = ap is_visible (eqb-true b n e) ∙ h

byte_by : (b : ℕ) (l d u m : Bool) → is_letter b ≡ l → is_digit b ≡ d → eqb b 95 ≡ u →
    eqb b 45 ≡ m → (l || d || u || m) ≡ true → is_visible b ≡ true
byte_by b true d u m x y z w h = letter_plain b x
byte_by b false true u m x y z w h = digit_plain b y
byte_by b false false true m x y z w h = one_plain b 95 z refl
byte_by b false false false true x y z w h = one_plain b 45 w refl
byte_by b false false false false x y z w h = absurd cc

bytes_plain : (w : Word) → list_all is_name_byte w ≡ true → is_plain w ≡ true
bytes_plain [] h = refl
bytes_plain (b ∷ bs) h =
    let p = and_parts (is_name_byte b) (list_all is_name_byte bs) h in
    and_from (is_visible b) (is_plain bs)
    (byte_by b (is_letter b) (is_digit b) (eqb b 95) (eqb b 45) refl refl refl refl p.0)
    (bytes_plain bs p.1)

name_plain : (n : Name) → is_name n ≡ true → is_plain n ≡ true
name_plain [] h = absurd cc
name_plain (b ∷ bs) h =
    let p = and_parts (is_letter b && list_all is_name_byte bs) (ltb (length bs) NAME_LIMIT) h in
    let q = and_parts (is_letter b) (list_all is_name_byte bs) p.0 in
    and_from (is_visible b) (is_plain bs) (letter_plain b q.0) (bytes_plain bs q.1)

-- ---- words

dataset_plain : (wall : ChineseWall) (d : ℕ) → IsPolicy wall → d < length wall.dataset_names →
    is_plain (name_at wall.dataset_names d) ≡ true
dataset_plain wall d good lt =
    let n = name_at_of wall d good lt in ap is_plain n.1.word ∙ name_plain n.0 n.1.named

numbers_plain : (ty : ElemType) (ns : List ℤ) → list_all (is_number_of ty) ns ≡ true →
    list_all is_plain (map signed_decimal ns) ≡ true
numbers_plain ty [] h = refl
numbers_plain ty (n ∷ ns) h =
    let p = and_parts (is_number_of ty n) (list_all (is_number_of ty) ns) h in
    and_from (is_plain (signed_decimal n)) (list_all is_plain (map signed_decimal ns))
    (signed_plain 18446744073709551615 18446744073709551615 n (omega arith) (omega arith)
    (between ty n p.0)) (numbers_plain ty ns p.1)

given_plain : (wall : ChineseWall) (label : Label) (ns : List ℤ) → IsPolicy wall →
    IsKnownLabel wall label → list_all is_plain (map signed_decimal ns) ≡ true →
    list_all is_plain (given_words wall.dataset_names label ns) ≡ true
given_plain wall labels.Public [] good known h = refl
given_plain wall labels.Public (n ∷ ns) good known h = h
given_plain wall (labels.Of d) ns good known h = and_from (is_plain (name_at wall.dataset_names d))
    (list_all is_plain (map signed_decimal ns)) (dataset_plain wall d good known) h

two_plain : (p q : ℕ) → p < 2 ^ 64 → q < 2 ^ 64 →
    list_all is_plain (decimal p ∷ decimal q ∷ []) ≡ true
two_plain p q h k = and_from (is_plain (decimal p)) (list_all is_plain (decimal q ∷ []))
    (decimal_plain p h) (and_from (is_plain (decimal q)) true (decimal_plain q k) refl)

act_plain : (wall : ChineseWall) (p : ℕ) (act : Act) → IsPolicy wall → p ≤ 4294967295 →
    IsSayableAct wall act → list_all is_plain (act_words wall.dataset_names p act) ≡ true
act_plain wall p (Post posting) good low h =
    let given = given_words wall.dataset_names posting.label posting.elements.numbers in
    let rest = statement_words posting.sig posting.own ++ given in
    let ty = stated_type posting.sig in
    let ns = posting.elements.numbers in
    let sound = parts_of (list_all (is_number_of ty) ns) (is_pair ty && not (eqb (length ns % 2) 0))
    faults.BadNumber faults.OddPair h.numbers in
    let behind : list_all is_plain rest ≡ true = all_joint (statement_words posting.sig posting.own)
    given (statement_plain posting.sig posting.own h.statement)
    (given_plain wall posting.label ns good h.label (numbers_plain ty ns sound.0)) in
    and_from (is_plain (decimal p)) (list_all is_plain (decimal posting.comm ∷ rest))
    (decimal_plain p (omega (arith, low)))
    (and_from (is_plain (decimal posting.comm)) (list_all is_plain rest)
    (decimal_plain posting.comm (omega (arith, h.comm))) behind)
act_plain wall p (Take request) good low h =
    two_plain p request (omega (arith, low)) (omega (arith, h))
act_plain wall p (Info comm) good low h = two_plain p comm (omega (arith, low)) (omega (arith, h))

-- ---- lines

no_space : (w : Word) → is_plain w ≡ true → All (λ b. eqb b 32 ≡ false) w
no_space [] h = All-nil (λ b. eqb b 32 ≡ false)
no_space (b ∷ bs) h =
    let p = and_parts (is_visible b) (is_plain bs) h in
    let low : 33 ≤ b = leb-true 33 b (and_parts (leb 33 b) (leb b 126) p.0).0 in
    let other : b ≡ 32 → ⊥ = λ e. absurd (omega arith) in
    All-cons (λ c. eqb c 32 ≡ false) b bs (ne_eqb b 32 other) (no_space bs p.1)

split_again : (w : Word) (ws : List Word) → list_all is_plain (w ∷ ws) ≡ true →
    parts 32 (join_with_byte 32 (w ∷ ws)) ≡ w ∷ ws
split_again w [] h =
    slice_split_none (λ b. eqb b 32) w (no_space w (and_parts (is_plain w) true h).0)
split_again w (v ∷ vs) h =
    let p = and_parts (is_plain w) (list_all is_plain (v ∷ vs)) h in
    slice_split_at (λ b. eqb b 32) w 32 (join_with_byte 32 (v ∷ vs)) (no_space w p.0) refl
    ∙ ap (λ us. w ∷ us) (split_again v vs p.1)

word_printable : (w : Word) → is_plain w ≡ true → list_all is_printable w ≡ true
word_printable [] h = refl
word_printable (b ∷ bs) h =
    let p = and_parts (is_visible b) (is_plain bs) h in
    let q = and_parts (leb 33 b) (leb b 126) p.0 in
    let low : 33 ≤ b = leb-true 33 b q.0 in
    and_from (is_printable b) (list_all is_printable bs)
    (and_from (leb 32 b) (leb b 126) (le-leb 32 b (omega arith)) q.1) (word_printable bs p.1)

line_printable : (w : Word) (ws : List Word) → list_all is_plain (w ∷ ws) ≡ true →
    list_all is_printable (join_with_byte 32 (w ∷ ws)) ≡ true
line_printable w [] h = word_printable w (and_parts (is_plain w) true h).0
line_printable w (v ∷ vs) h =
    let p = and_parts (is_plain w) (list_all is_plain (v ∷ vs)) h in
    list_all-append is_printable w (32 ∷ join_with_byte 32 (v ∷ vs))
    ∙ and_from (list_all is_printable w) (list_all is_printable (32 ∷ join_with_byte 32 (v ∷ vs)))
    (word_printable w p.0) (line_printable v vs p.1)

-- the first word, and those behind it
act_split : (datasets : List Word) (p : ℕ) (act : Act) →
    (w : Word) × (ws : List Word) × (act_words datasets p act ≡ w ∷ ws)
act_split datasets p (Post posting) = (
  codes "post",
  decimal p ∷ decimal posting.comm
      ∷ (statement_words posting.sig posting.own
      ++ given_words datasets posting.label posting.elements.numbers),
  refl,
)
act_split datasets p (Take request) = (codes "take", decimal p ∷ decimal request ∷ [], refl)
act_split datasets p (Info comm) = (codes "info", decimal p ∷ decimal comm ∷ [], refl)

pub line_again : (wall : ChineseWall) (call : Call) → IsPolicy wall → IsSayableCall wall call →
    answer_to wall.dataset_names (call_line wall.dataset_names call) ≡ Ok call
unfolding answer_to
line_again wall call good h =
    let words = call_words wall.dataset_names call in
    let s = act_split wall.dataset_names call.process call.act in
    let plain : list_all is_plain (s.0 ∷ s.1) ≡ true = ap (list_all is_plain) (sym s.2) ∙ act_plain
    wall call.process call.act good h.0 h.1 in
    let printable : list_all is_printable (join_with_byte 32 words) ≡ true = ap
    (λ ws. list_all is_printable (join_with_byte 32 ws)) s.2 ∙ line_printable s.0 s.1 plain in
    let split : parts 32 (join_with_byte 32 words) ≡ words = ap
    (λ ws. parts 32 (join_with_byte 32 ws)) s.2 ∙ split_again s.0 s.1 plain ∙ sym s.2 in
    rw (printable, split) (act_again wall call.process call.act good h.0 h.1)
