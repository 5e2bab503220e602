-- The lines of entries are read again.
use Rattle.std.proofs.Common.{◌≡◌, ℕ, nat_eq, ◌<◌, ◌≤◌, Bool, true, false, cond, ◌&&◌}
use Rattle.std.proofs.Common.{◌||◌, eqb, leb, ltb, length, List, [], ◌∷◌, ◌++◌, All, Option, Some}
use Rattle.std.proofs.Common.{None, slice_get, Ok, codes, refl, sym, ap, ◌∙◌, arith}
use Rattle.std.specs.Option.{is_none, is_some}
use Rattle.std.specs.List.{list_all, join_with_byte}
use Rattle.std.specs.Fmt.{decimal}
use Rattle.std.proofs.lemmas.Bool.{and_parts, and_from, leb-true, ltb-true, lt-ltb, ne_eqb}
use Rattle.std.proofs.lemmas.Bool.{eqb-true}
use Rattle.std.proofs.lemmas.List.{append-nil}
use Rattle.std.proofs.lemmas.List.Elements.{All-nil, All-cons}
use Rattle.std.proofs.lemmas.List.Splits.{slice_split_none, slice_split_at}
use Rattle.std.proofs.lemmas.Option.{slice_get-get_or, unwrap_or-slice_get}
use Rattle.wall_labels.specs.declared.label.Label.{Label}
use Rattle.wall_labels.specs.declared.label.Label.TheVariants.{Public, Of}
use Rattle.wall_policy.specs.Names.{Name, is_letter, is_digit as is_name_digit, is_name_byte}
use Rattle.wall_policy.specs.Names.{is_name, place_of}
use Rattle.wall_policy.specs.Policy.{ChineseWall, IsPolicy}
use Rattle.wall_policy.proofs.WallPolicyLemmas.{place_of-name, list_all-place}
use Rattle.wall_rules.specs.declared.rule.Rule.{Rule}
use Rattle.wall_rules.specs.declared.rule.Rule.TheVariants.{Star, Simple}
use Rattle.coll_routes.specs.declared.statement.Stated.{Stated}
use Rattle.run_model.specs.declared.outcome.Outcome.{Outcome}
use Rattle.run_model.specs.declared.outcome.Outcome.TheVariants.{Granted, Denied, Made, NoRoom}
use Rattle.run_model.specs.declared.entry.Entry.{Entry}
use Rattle.run_model.specs.declared.entry.Entry.TheVariants.{Posted, Settled}
use Rattle.coll_text.specs.Numbers.{Word}
use Rattle.coll_text.specs.Reading.{parts}
use Rattle.coll_text.specs.Spellings.{statement_words, is_solid}
use Rattle.coll_text.proofs.CollTextLemmas.{decimal_is_number, statement_again}
use Rattle.coll_text.proofs.CollTextLemmas.{decimal_solid, statement_solid, all_joint, name_at_of}
use Rattle.coll_text.proofs.CollTextLemmas.{decimal_some, name_some, label_some, label_again}
use Rattle.audit_book.specs.declared.line.Line.TheVariants.{Said, End}
use Rattle.coll_text.specs.Words.{name_at, label_word, rule_word}
use Rattle.audit_book.specs.Lines.{label_at, given_label, given_at, post_at, came_of, denied_at}
use Rattle.audit_book.specs.Lines.{made_at, outcome_at, verdict_at, end_at, verb_of, line_in}
use Rattle.audit_book.specs.Lines.{line_at}
use Rattle.audit_book.specs.Text.{given_word, passage_word, given_words, post_words, outcome_words}
use Rattle.audit_book.specs.Text.{verdict_words, entry_words, end_words, header_line}
use Rattle.run_model.specs.Known.{IsKnownProcess, IsKnownIfAny, IsKnownOutcome, IsKnownLabel}
use Rattle.audit_book.specs.Laws.{IsSpelledPost, HasNumbers, IsSpelledVerdict, IsSpelled}

-- ---- bytes

abbrev pub Lacks : ℕ → Word → Type 0
Lacks c w = All (λ b. eqb b c ≡ false) w

solid_lacks : (c : ℕ) → c ≤ 32 → (w : Word) → is_solid w ≡ true → Lacks c w
solid_lacks c small [] h = All-nil (λ b. eqb b c ≡ false)
solid_lacks c small (b ∷ bs) h =
    let p = and_parts (ltb 32 b) (is_solid bs) h in
    let far : 32 < b = ltb-true 32 b p.0 in
    let other : b ≡ c → ⊥ = λ e. absurd (omega arith) in
    All-cons (λ b. eqb b c ≡ false) b bs (ne_eqb b c other) (solid_lacks c small bs p.1)

parts_join : (ws : List Word) → 0 < length ws → list_all is_solid ws ≡ true →
    parts 32 (join_with_byte 32 ws) ≡ ws
parts_join [] some h = absurd (omega arith)
parts_join (w ∷ []) some h = slice_split_none (λ b. eqb b 32) w
    (solid_lacks 32 (omega arith) w (and_parts (is_solid w) true h).0)
parts_join (w ∷ v ∷ ws) some h =
    let p = and_parts (is_solid w) (list_all is_solid (v ∷ ws)) h in
    slice_split_at (λ b. eqb b 32) w 32 (join_with_byte 32 (v ∷ ws))
    (solid_lacks 32 (omega arith) w p.0) refl
    ∙ ap (λ vs. w ∷ vs) (parts_join (v ∷ ws) (omega arith) p.1)

-- bytes above the line feed
abbrev pub is_line : Word → Bool
is_line w = list_all (λ b. ltb 10 b) w

solid_line : (w : Word) → is_solid w ≡ true → is_line w ≡ true
solid_line [] h = refl
solid_line (b ∷ bs) h =
    let p = and_parts (ltb 32 b) (is_solid bs) h in
    let far : 32 < b = ltb-true 32 b p.0 in
    and_from (ltb 10 b) (is_line bs) (lt-ltb 10 b (omega arith)) (solid_line bs p.1)

line_joint : (v w : Word) → is_line v ≡ true → is_line w ≡ true → is_line (v ++ w) ≡ true
line_joint [] w h k = k
line_joint (b ∷ bs) w h k = let p = and_parts (ltb 10 b) (is_line bs) h in
    and_from (ltb 10 b) (is_line (bs ++ w)) p.0 (line_joint bs w p.1 k)

line_join : (ws : List Word) → list_all is_solid ws ≡ true → is_line (join_with_byte 32 ws) ≡ true
line_join [] h = refl
line_join (w ∷ []) h = solid_line w (and_parts (is_solid w) true h).0
line_join (w ∷ v ∷ ws) h =
    let p = and_parts (is_solid w) (list_all is_solid (v ∷ ws)) h in
    line_joint w (32 ∷ join_with_byte 32 (v ∷ ws)) (solid_line w p.0) (line_join (v ∷ ws) p.1)

pub line_lacks : (w : Word) → is_line w ≡ true → Lacks 10 w
line_lacks [] h = All-nil (λ b. eqb b 10 ≡ false)
line_lacks (b ∷ bs) h =
    let p = and_parts (ltb 10 b) (is_line bs) h in
    let far : 10 < b = ltb-true 10 b p.0 in
    let other : b ≡ 10 → ⊥ = λ e. absurd (omega arith) in
    All-cons (λ b. eqb b 10 ≡ false) b bs (ne_eqb b 10 other) (line_lacks bs p.1)

-- the header is a line
version_whole : (t : Bool) →
    is_line (join_with_byte 32 (codes "book" ∷ cond t (codes "2") (codes "1") ∷ [])) ≡ true
version_whole true = refl
version_whole false = refl

pub header_whole : (version : ℕ) → is_line (header_line version) ≡ true
header_whole version = version_whole (nat_eq version 2)

letter_solid : (b : ℕ) → is_letter b ≡ true → ltb 32 b ≡ true
letter_solid b h = let far : 97 ≤ b = leb-true 97 b (and_parts (leb 97 b) (leb b 122) h).0 in
    lt-ltb 32 b (omega arith)

or_true : (a b : Bool) → (a || b) ≡ true → (c : Bool) → (a ≡ true → c ≡ true) →
    (b ≡ true → c ≡ true) → c ≡ true
or_true true b h c f g = f refl
or_true false b h c f g = g h

name_byte_solid : (b : ℕ) → is_name_byte b ≡ true → ltb 32 b ≡ true
name_byte_solid b h =
    or_true (is_letter b || is_name_digit b || eqb b 95) (eqb b 45) h (ltb 32 b)
    (λ h. or_true (is_letter b || is_name_digit b) (eqb b 95) h (ltb 32 b)
    (λ h. or_true (is_letter b) (is_name_digit b) h (ltb 32 b) (letter_solid b)
    (λ h. let far : 48 ≤ b = leb-true 48 b (and_parts (leb 48 b) (leb b 57) h).0 in
    lt-ltb 32 b (omega arith)))
    (λ h. let same : b ≡ 95 = eqb-true b 95 h in lt-ltb 32 b (omega arith)))
    (λ h. let same : b ≡ 45 = eqb-true b 45 h in lt-ltb 32 b (omega arith))

name_bytes_solid : (bs : Name) → list_all is_name_byte bs ≡ true → is_solid bs ≡ true
name_bytes_solid [] h = refl
name_bytes_solid (b ∷ bs) h =
    let p = and_parts (is_name_byte b) (list_all is_name_byte bs) h in
    and_from (ltb 32 b) (is_solid bs) (name_byte_solid b p.0) (name_bytes_solid bs p.1)

name_solid : (w : Name) → is_name w ≡ true → is_solid w ≡ true
name_solid [] h = absurd cc
name_solid (b ∷ bs) h =
    let p = and_parts (is_letter b && list_all is_name_byte bs) _ h in
    let q = and_parts (is_letter b) (list_all is_name_byte bs) p.0 in
    and_from (ltb 32 b) (is_solid bs) (letter_solid b q.0) (name_bytes_solid bs q.1)

-- ---- words

-- a number below the length of a list has a name there
named : (ns : List Word) (i : ℕ) → i < length ns → slice_get ns i ≡ Some (name_at ns i)
named ns i h =
    slice_get-get_or ns i [] h ∙ ap (λ (w : Word). Some w) (sym (unwrap_or-slice_get ns i []))

module _ (wall : ChineseWall) (policy : IsPolicy wall) where
  process_is_name : (p : ℕ) → IsKnownProcess wall p → is_name (name_at wall.process_names p) ≡ true
  process_is_name p h = list_all-place is_name wall.process_names p (name_at wall.process_names p)
      policy.good_processes (named wall.process_names p h)

  process_place : (p : ℕ) → IsKnownProcess wall p →
      place_of (name_at wall.process_names p) wall.process_names ≡ Some p
  process_place p h = place_of-name wall.process_names p (name_at wall.process_names p)
      policy.distinct_processes (named wall.process_names p h)

  small_process : (p : ℕ) → IsKnownProcess wall p → p ≤ 4294967295
  small_process p h = omega (arith, policy.few_processes, h)

module _ (wall : ChineseWall) (policy : IsPolicy wall) where
  label_at_again : (l : Label) (ws : List Word) → IsKnownLabel wall l →
      label_at wall (label_word wall.dataset_names l ∷ ws) ≡ Ok (l, ws)
  label_at_again l ws h = rw (label_some wall l policy h, label_again wall l policy h) refl

  -- ---- posts

  given_label_again : (given : ℕ) (label : Option Label) (ws : List Word) (t : Bool) →
      eqb given 0 ≡ t → IsKnownIfAny wall label → cond t (is_none label) (is_some label) ≡ true
      → given_label wall given (given_word wall label ∷ ws) ≡ Ok (label, ws)
  unfolding given_label
  given_label_again given None ws true e known h = rw e refl
  given_label_again given None ws false e known h = absurd cc
  given_label_again given (Some l) ws true e known h = absurd cc
  given_label_again given (Some l) ws false e known h =
      rw (e, label_some wall l policy known, label_again wall l policy known) refl

  given_again : (given : ℕ) (label : Option Label) (barred : Bool) (ws : List Word) →
      given ≤ 4294967295 → IsKnownIfAny wall label →
      cond (eqb given 0) (is_none label) (is_some label) ≡ true
      →
      given_at wall (given_words wall given label barred ++ ws)
      ≡ Ok (record { given = given; label = label; barred = barred }, ws)
  unfolding given_at
  given_again given label true ws small known h =
      rw (
        decimal_some given (omega arith),
        decimal_is_number 4294967295 given small (omega arith),
        given_label_again given label (codes "barred" ∷ ws) (eqb given 0) refl known h,
      ) refl
  given_again given label false ws small known h =
      rw (
        decimal_some given (omega arith),
        decimal_is_number 4294967295 given small (omega arith),
        given_label_again given label (codes "passed" ∷ ws) (eqb given 0) refl known h,
      ) refl

  pub post_again : (p c : ℕ) (s : Stated) → IsSpelledPost wall p c s →
      post_at wall (decimal p ∷ decimal c
      ∷ (statement_words s.sig s.own ++ given_words wall s.given s.label s.barred))
      ≡ Ok (Posted p c s)
  unfolding post_at
  post_again p c s h =
      let small : p ≤ 4294967295 = small_process wall policy p h.process in
      let given = ap (given_at wall) (sym (append-nil (given_words wall s.given s.label s.barred)))
      ∙ given_again s.given s.label s.barred [] h.given h.label h.labelled in
      rw (
        decimal_some p (omega arith),
        decimal_is_number 4294967295 p small (omega arith),
        lt-ltb p (length wall.process_names) h.process,
        decimal_some c (omega (arith, h.comm)),
        decimal_is_number 4294967295 c h.comm (omega arith),
        statement_again s.sig s.own (given_words wall s.given s.label s.barred) h.statement,
        given,
      ) refl

  -- ---- verdicts

  denied_again : (rule : Rule) (p : ℕ) (l : Label) → IsKnownProcess wall p → IsKnownLabel wall l →
      denied_at wall
      (rule_word rule ∷ name_at wall.process_names p ∷ label_word wall.dataset_names l ∷ [])
      ≡ Ok (Denied rule p l, [])
  unfolding denied_at
  denied_again Star p l hp hl = rw (
    name_some (name_at wall.process_names p)
        (process_is_name wall policy p hp),
    process_place wall policy p hp,
    label_some wall l policy hl,
    label_again wall l policy hl,
  ) refl
  denied_again Simple p l hp hl = rw (
    name_some (name_at wall.process_names p)
        (process_is_name wall policy p hp),
    process_place wall policy p hp,
    label_some wall l policy hl,
    label_again wall l policy hl,
  ) refl

  made_again : (first number : ℕ) → first ≤ 4294967295 → number ≤ 4294967295 →
      made_at (decimal first ∷ decimal number ∷ []) ≡ Ok (Made first number, [])
  unfolding made_at
  made_again first number f n =
      rw (
        decimal_some first (omega arith),
        decimal_is_number 4294967295 first f (omega arith),
        decimal_some number (omega arith),
        decimal_is_number 4294967295 number n (omega arith),
      ) refl

  outcome_again : (o : Outcome) → IsKnownOutcome wall o → HasNumbers o →
      outcome_at wall (outcome_words wall o) ≡ Ok (o, [])
  unfolding outcome_at came_of
  outcome_again Granted k h = refl
  outcome_again (Denied rule p l) k h = denied_again rule p l k.0 k.1
  outcome_again (Made first number) k h = made_again first number h.0 h.1
  outcome_again NoRoom k h = refl

  pub verdict_again : (c k : ℕ) (o : Outcome) → IsSpelledVerdict wall c k o →
      verdict_at wall (decimal c ∷ decimal k ∷ outcome_words wall o) ≡ Ok (Settled c k o)
  unfolding verdict_at
  verdict_again c k o h =
      rw (
        decimal_some c (omega (arith, h.comm)),
        decimal_is_number 4294967295 c h.comm (omega arith),
        decimal_some k (omega (arith, h.instance)),
        decimal_is_number 18446744073709551615 k h.instance (omega arith),
        outcome_again o h.known h.numbers,
      ) refl

  -- ---- lines

  entry_again : (e : Entry) → IsSpelled wall e → line_in wall (entry_words wall e) ≡ Ok (Said e)
  unfolding line_in verb_of post_words verdict_words
  entry_again (Posted p c s) h = rw (post_again p c s h) refl
  entry_again (Settled c k o) h = rw (verdict_again c k o h) refl

  end_again : (n : ℕ) → n ≤ 18446744073709551615 → line_in wall (end_words n) ≡ Ok (End n)
  unfolding line_in verb_of end_at
  end_again n h = rw
      (decimal_some n (omega arith), decimal_is_number 18446744073709551615 n h (omega arith)) refl

  -- ---- words without spaces

  process_solid : (p : ℕ) → IsKnownProcess wall p → is_solid (name_at wall.process_names p) ≡ true
  process_solid p h = name_solid (name_at wall.process_names p) (process_is_name wall policy p h)

  label_solid : (l : Label) → IsKnownLabel wall l →
      is_solid (label_word wall.dataset_names l) ≡ true
  label_solid Public h = refl
  label_solid (Of d) h =
      let n = name_at_of wall d policy h in ap is_solid n.1.word ∙ name_solid n.0 n.1.named

  given_solid : (label : Option Label) → IsKnownIfAny wall label →
      is_solid (given_word wall label) ≡ true
  given_solid None h = refl
  given_solid (Some l) h = label_solid l h

  outcome_solid : (o : Outcome) → IsKnownOutcome wall o → HasNumbers o →
      list_all is_solid (outcome_words wall o) ≡ true
  outcome_solid Granted k h = refl
  outcome_solid (Denied Star p l) k h = rw (process_solid p k.0, label_solid l k.1) refl
  outcome_solid (Denied Simple p l) k h = rw (process_solid p k.0, label_solid l k.1) refl
  outcome_solid (Made first number) k h =
      rw (decimal_solid first (omega (arith, h.0)), decimal_solid number (omega (arith, h.1))) refl
  outcome_solid NoRoom k h = refl

  passage_solid : (b : Bool) → is_solid (passage_word b) ≡ true
  passage_solid true = refl
  passage_solid false = refl

  givens_solid : (s : Stated) → s.given ≤ 4294967295 → IsKnownIfAny wall s.label →
      list_all is_solid (given_words wall s.given s.label s.barred) ≡ true
  givens_solid s n l =
      rw (decimal_solid s.given (omega arith), given_solid s.label l, passage_solid s.barred) refl

  entry_solid : (e : Entry) → IsSpelled wall e → list_all is_solid (entry_words wall e) ≡ true
  unfolding post_words verdict_words
  entry_solid (Posted p c s) h =
      let small : p ≤ 4294967295 = small_process wall policy p h.process in
      rw (decimal_solid p (omega arith), decimal_solid c (omega (arith, h.comm)))
      (all_joint (statement_words s.sig s.own) (given_words wall s.given s.label s.barred)
      (statement_solid s.sig s.own h.statement) (givens_solid s h.given h.label))
  entry_solid (Settled c k o) h = rw
      (decimal_solid c (omega (arith, h.comm)), decimal_solid k (omega (arith, h.instance)))
      (outcome_solid o h.known h.numbers)

  end_solid : (n : ℕ) → n ≤ 18446744073709551615 → list_all is_solid (end_words n) ≡ true
  end_solid n h = rw (decimal_solid n (omega arith)) refl

  some_words : (e : Entry) → 0 < length (entry_words wall e)
  unfolding post_words verdict_words
  some_words (Posted p c s) = omega arith
  some_words (Settled c k o) = omega arith

  pub entry_line_again : (e : Entry) → IsSpelled wall e →
      line_at wall (join_with_byte 32 (entry_words wall e)) ≡ Ok (Said e)
  entry_line_again e h = ap (line_in wall)
      (parts_join (entry_words wall e) (some_words e) (entry_solid e h)) ∙ entry_again e h

  pub end_line_again : (n : ℕ) → n ≤ 18446744073709551615 →
      line_at wall (join_with_byte 32 (end_words n)) ≡ Ok (End n)
  end_line_again n h =
      ap (line_in wall) (parts_join (end_words n) (omega arith) (end_solid n h)) ∙ end_again n h

  pub entry_line_whole : (e : Entry) → IsSpelled wall e →
      is_line (join_with_byte 32 (entry_words wall e)) ≡ true
  entry_line_whole e h = line_join (entry_words wall e) (entry_solid e h)

  pub end_line_whole : (n : ℕ) → n ≤ 18446744073709551615 →
      is_line (join_with_byte 32 (end_words n)) ≡ true
  end_line_whole n h = line_join (end_words n) (end_solid n h)
