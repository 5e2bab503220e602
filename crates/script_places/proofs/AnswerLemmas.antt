-- What the answer to a line says of its words.
use Rattle.std.proofs.Common.{◌≡◌, ℕ, ◌+◌, ◌-◌, ◌==◌, ◌<◌, ◌≤◌, true, List, [], ◌∷◌, ◌++◌, length}
use Rattle.std.proofs.Common.{take, drop, cond, ◌&&◌, Err, refl, sym, ap, ◌∙◌, subst, arith, inl}
use Rattle.std.proofs.Common.{inr, get_or}
use Rattle.std.specs.List.{list_all}
use Rattle.std.proofs.lemmas.Bool.{cases_Bool, and_parts}
use Rattle.std.proofs.lemmas.List.{append-nil, take_all}
use Rattle.std.proofs.lemmas.List.Folds.{list_all-append}
use Rattle.std.proofs.lemmas.List.Splits.{length-slice_split}
use Rattle.std.proofs.lemmas.Option.{slice_get-get_or}
use Rattle.coll_text.specs.declared.fault.LineFault.{LineFault}
use Rattle.coll_text.specs.declared.fault.LineFault.TheVariants.{BadShape}
use Rattle.coll_text.specs.Numbers.{Word}
use Rattle.coll_text.specs.Reading.{parts, is_printable}
use Rattle.hall_script.specs.Lines.{call_of, answer_to}
use Rattle.script_places.specs.Places.{HaveFault, StandsAt, StandsBehind, IsUnprintable, column_of}
use Rattle.script_places.specs.Cuts.{IsCut, AreEnds, probe}
use Rattle.script_places.proofs.CutLemmas.{parts_apart}
use Rattle.script_places.proofs.EndLemmas.{column_behind}
use Rattle.script_places.proofs.PlaceLemmas.{take_drop, not_printable}
use Rattle.script_places.proofs.ProbeLemmas.{probe_tells}

---- the answer to a line and that to its words

answer_is : (datasets : List Word) (line : List ℕ) → list_all is_printable line ≡ true →
    answer_to datasets line ≡ call_of datasets (parts 32 line)
unfolding answer_to
answer_is datasets line printable =
    ap (λ b. cond b (call_of datasets (parts 32 line)) (Err BadShape)) printable

-- a line with a byte that is not printable has one fault
pub shape_of_unprintable : (datasets : List Word) (line : List ℕ) (fault : LineFault) (c : ℕ) →
    IsUnprintable line c → answer_to datasets line ≡ Err fault → fault ≡ BadShape
unfolding answer_to
shape_of_unprintable datasets line fault c one answer =
    elim (cases_Bool (list_all is_printable line)) [
      | inl all ↦ absurd (not_printable line c one all)
      | inr some ↦
          let shape : Err BadShape ≡ Err fault =
          sym (ap (λ b. cond b (call_of datasets (parts 32 line)) (Err BadShape)) some) ∙ answer in
          cc
    ]

-- the probe behind the words
more_words : (line : List ℕ) → parts 32 (line ++ 32 ∷ 120 ∷ []) ≡ parts 32 line ++ probe ∷ []
more_words line = parts_apart (λ b. b == 32) line 32 (120 ∷ []) refl

more_printable : (line : List ℕ) → list_all is_printable line ≡ true →
    list_all is_printable (line ++ 32 ∷ 120 ∷ []) ≡ true
more_printable line printable =
    list_all-append is_printable line (32 ∷ 120 ∷ []) ∙ ap (λ b. b && true) printable

more_answer : (datasets : List Word) (line : List ℕ) → list_all is_printable line ≡ true →
    answer_to datasets (line ++ 32 ∷ 120 ∷ []) ≡ call_of datasets (parts 32 line ++ probe ∷ [])
more_answer datasets line printable =
    answer_is datasets (line ++ 32 ∷ 120 ∷ []) (more_printable line printable)
    ∙ ap (call_of datasets) (more_words line)

module _ (datasets : List Word) (line : List ℕ) (fault : LineFault)
    (printable : list_all is_printable line ≡ true) where
  pub have_it : answer_to datasets line ≡ Err fault →
      answer_to datasets (line ++ 32 ∷ 120 ∷ []) ≡ Err fault →
      HaveFault datasets (parts 32 line) fault
  have_it one two = probe_tells datasets (parts 32 line) fault (
    sym (answer_is datasets line printable) ∙ one,
    sym (more_answer datasets line printable) ∙ two,
  )

  pub answer_of_line : HaveFault datasets (parts 32 line) fault →
      answer_to datasets line ≡ Err fault
  answer_of_line have = answer_is datasets line printable
      ∙ ap (call_of datasets) (sym (append-nil (parts 32 line))) ∙ have []

  pub answer_of_more : HaveFault datasets (parts 32 line) fault →
      answer_to datasets (line ++ 32 ∷ 120 ∷ []) ≡ Err fault
  answer_of_more have = more_answer datasets line printable ∙ have (probe ∷ [])

  -- where the words do not have the fault, it stands behind them
  pub stands_behind : answer_to datasets line ≡ Err fault →
      (HaveFault datasets (parts 32 line) fault → ⊥) → StandsBehind datasets (parts 32 line) fault
  stands_behind answer none = record {
    answer = sym (answer_is datasets line printable) ∙ answer;
    not_before = none;
  }

---- words at the front of a line

pub printable_prefix : (n : ℕ) (line : List ℕ) → list_all is_printable line ≡ true →
    list_all is_printable (take n line) ≡ true
printable_prefix n line printable = (and_parts (list_all is_printable (take n line))
    (list_all is_printable (drop n line))
    (sym (list_all-append is_printable (take n line) (drop n line))
    ∙ ap (list_all is_printable) (sym (take_drop n line)) ∙ printable)).0

pub cut_at : (line ends : List ℕ) (k : ℕ) → AreEnds line ends → k < length ends →
    IsCut line (k + 1) (get_or ends k 0)
cut_at line ends k all low = all.cuts k (get_or ends k 0) (slice_get-get_or ends k 0 low)

pub some_words : (line ends : List ℕ) → AreEnds line ends → 0 < length ends
some_words line ends all =
    let count = all.count in
    let words = length-slice_split (λ b. b == 32) line in
    omega (arith, count, words)

module _ (datasets : List Word) (line ends : List ℕ) (fault : LineFault)
    (all : AreEnds line ends) where
  -- all words
  pub have_all : HaveFault datasets (parts 32 line) fault →
      HaveFault datasets (take (length ends) (parts 32 line)) fault
  have_all have =
      let count = all.count in
      subst (λ ws. HaveFault datasets ws fault)
      (sym (take_all (length ends) (parts 32 line) (omega (arith, count)))) have

  -- the words up to the m-th, which are those of the bytes up to its end
  pub have_prefix : (m : ℕ) → 1 ≤ m → m ≤ length ends →
      HaveFault datasets (parts 32 (take (get_or ends (m - 1) 0) line)) fault →
      HaveFault datasets (take m (parts 32 line)) fault
  have_prefix m some within have =
      let cut = cut_at line ends (m - 1) all (omega arith) in
      let same : m - 1 + 1 ≡ m = omega arith in
      subst (λ k. HaveFault datasets (take k (parts 32 line)) fault) same
      (subst (λ ws. HaveFault datasets ws fault) cut.1 have)

  pub no_prefix : (m : ℕ) → 1 ≤ m → m ≤ length ends →
      (HaveFault datasets (parts 32 (take (get_or ends (m - 1) 0) line)) fault → ⊥) →
      HaveFault datasets (take m (parts 32 line)) fault → ⊥
  no_prefix m some within none have =
      let cut = cut_at line ends (m - 1) all (omega arith) in
      let same : m - 1 + 1 ≡ m = omega arith in
      none (subst (λ ws. HaveFault datasets ws fault) (sym cut.1)
      (subst (λ k. HaveFault datasets (take k (parts 32 line)) fault) (sym same) have))

  pub stands_at : (low high : ℕ) → low < high → high ≤ low + 1 → high ≤ length ends →
      HaveFault datasets (take high (parts 32 line)) fault →
      (HaveFault datasets (take low (parts 32 line)) fault → ⊥) →
      (i : ℕ) × (high ≡ i + 1) × StandsAt datasets (parts 32 line) fault i
  stands_at low high apart near within have none =
      let count = all.count in
      let same : high ≡ low + 1 = omega arith in (
        low,
        same,
        record {
          within = omega (arith, count);
          up_to = subst (λ k. HaveFault datasets (take k (parts 32 line)) fault) same have;
          not_before = none;
        },
      )

-- the column behind the end of a word
pub begins_at : (line ends : List ℕ) (words i : ℕ) → AreEnds line ends → 2 ≤ words →
    words ≤ length ends → words ≡ i + 1 →
    get_or ends (words - 2) 0 + 2 ≡ column_of (parts 32 line) i
begins_at line ends words i all some within is =
    let cut = cut_at line ends (words - 2) all (omega arith) in
    let same : words - 2 + 1 ≡ i = omega arith in
    subst (λ k. get_or ends (words - 2) 0 + 2 ≡ column_of (parts 32 line) k) same
    (column_behind line (words - 2 + 1) (get_or ends (words - 2) 0) cut)
