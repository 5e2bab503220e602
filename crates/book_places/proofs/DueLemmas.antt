-- What was due at the first bad line.
use Rattle.std.proofs.Common.{◌≡◌, ◌≢◌, ℕ, suc, ◌+◌, ◌-◌, ◌<◌, ◌≤◌, List, ◌∷◌, Some, None, Ok, Err}
use Rattle.std.proofs.Common.{sym, ap, ◌∙◌, subst, inl, inr, ◌⊎◌, arith, slice_get}
use Rattle.wall_policy.specs.Policy.{ChineseWall}
use Rattle.coll_text.specs.declared.fault.LineFault.{LineFault}
use Rattle.coll_text.specs.Numbers.{Word}
use Rattle.coll_text.specs.Reading.{parts}
use Rattle.audit_book.specs.declared.fault.ReadFault.TheVariants.{BadLine}
use Rattle.audit_book.specs.declared.line.Line.TheVariants.{Said, End}
use Rattle.audit_book.specs.Lines.{line_at}
use Rattle.audit_book.specs.Reading.{book_in}
use Rattle.book_places.specs.Places.{IsLineOf, AreEntriesBefore, LacksHeader, LacksEntry}
use Rattle.book_places.specs.Places.{StatesOther, EndsBefore}
use Rattle.book_places.proofs.WalkLemmas.{Why, IsFirstBad, IsBad, bad_line}

module _ (wall : ChineseWall) (text : List ℕ) (n : ℕ) where
  at_least_two : IsBad wall text n → 2 ≤ n
  at_least_two bad = go bad.3.why
    where
      go : Why wall 0 bad.3.i n bad.3.line → 2 ≤ n
      go (inl (at, fault)) = omega (arith, at)
      go (inr (inl (at, other))) = omega (arith, at)
      go (inr (inr (at, end))) = omega (arith, at)

  pub lacks_header : book_in wall text ≡ Err (BadLine n) → n ≤ 1 → LacksHeader wall text n
  lacks_header h few = elim (bad_line wall text n h) [
    | inl lacks ↦ lacks
    | inr bad ↦ let two = at_least_two bad in absurd (omega (arith, two, few))
  ]

  is_bad : book_in wall text ≡ Err (BadLine n) → 2 ≤ n → IsBad wall text n
  is_bad h many = elim (bad_line wall text n h) [
    | inl lacks ↦ let one = lacks.first in absurd (omega (arith, one, many))
    | inr bad ↦ bad
  ]

  -- a line behind the header
  line_behind : (header : Word) (ls : List Word) (i : ℕ) → parts 10 text ≡ header ∷ ls →
      slice_get (parts 10 text) (suc i) ≡ slice_get ls i
  line_behind header ls i is = ap (λ (ws : List Word). slice_get ws (suc i)) is

  line_of : (bad : IsBad wall text n) (m : ℕ) → m ≡ bad.3.i + 2 →
      IsLineOf text m bad.3.line
  line_of bad m is =
      let place : m - 1 ≡ suc bad.3.i = omega (arith, is) in
      record {
        counted = omega (arith, is);
        there = ap (λ k. slice_get (parts 10 text) k) place
            ∙ line_behind bad.0 bad.1 bad.3.i bad.2 ∙ bad.3.there;
      }

  entries_of : (bad : IsBad wall text n) (m : ℕ) → m ≤ bad.3.i + 2 → AreEntriesBefore wall text m
  entries_of bad m most k line behind before at =
      let place : k - 1 ≡ suc (k - 2) = omega arith in
      bad.3.entries (k - 2) line (omega arith)
      (sym (line_behind bad.0 bad.1 (k - 2) bad.2)
      ∙ ap (λ j. slice_get (parts 10 text) j) (sym place) ∙ at.there)

  pub entries_before : book_in wall text ≡ Err (BadLine n) → 2 ≤ n →
      AreEntriesBefore wall text (n - 1)
  entries_before h many = go (is_bad h many)
    where
      go : IsBad wall text n → AreEntriesBefore wall text (n - 1)
      go bad = with_why bad.3.why
        where
          with_why : Why wall 0 bad.3.i n bad.3.line → AreEntriesBefore wall text (n - 1)
          with_why (inl (at, fault)) = entries_of bad (n - 1) (omega (arith, at))
          with_why (inr (inl (at, other))) = entries_of bad (n - 1) (omega (arith, at))
          with_why (inr (inr (at, end))) = entries_of bad (n - 1) (omega (arith, at))

  -- the bad line, where the line before is not the end
  abbrev pub IsHere : Type 0
  IsHere = (line : Word) × IsLineOf text n line × AreEntriesBefore wall text n
      × (((fault : LineFault) × (line_at wall line ≡ Err fault))
      ⊎ ((m : ℕ) × (line_at wall line ≡ Ok (End m)) × (m ≢ n - 2)))

  pub bad_here : book_in wall text ≡ Err (BadLine n) → 2 ≤ n →
      (EndsBefore wall text n → ⊥) → IsHere
  bad_here h many not_before = go (is_bad h many)
    where
      go : IsBad wall text n → IsHere
      go bad = with_why bad.3.why
        where
          with_why : Why wall 0 bad.3.i n bad.3.line → IsHere
          with_why (inl (at, fault)) = (
            bad.3.line,
            line_of bad n (omega (arith, at)),
            entries_of bad n (omega (arith, at)),
            inl fault,
          )
          with_why (inr (inl (at, (m, end, other)))) = (
            bad.3.line,
            line_of bad n (omega (arith, at)),
            entries_of bad n (omega (arith, at)),
            inr (m, end, λ same. other (omega (arith, same, at))),
          )
          with_why (inr (inr (at, end))) =
              let same : 0 + bad.3.i ≡ n - 3 = omega (arith, at) in
              absurd (not_before (record {
                behind = omega (arith, at);
                line = bad.3.line;
                at = line_of bad (n - 1) (omega (arith, at));
                end = end ∙ ap (λ k. Ok (End k)) same;
              }))

  -- two lines of one number are one
  one_line : (l k : Word) → IsLineOf text n l → slice_get (parts 10 text) (n - 1) ≡ Some k → l ≡ k
  one_line l k at there = let same : Some l ≡ Some k = sym at.there ∙ there in cc

  module _ (h : book_in wall text ≡ Err (BadLine n)) (many : 2 ≤ n)
      (not_before : EndsBefore wall text n → ⊥) where
    pub some_line : slice_get (parts 10 text) (n - 1) ≡ None → ⊥
    some_line none =
        let bad = bad_here h many not_before in
        let there : Some bad.0 ≡ None = sym bad.1.there ∙ none in
        absurd cc

    pub states_other : (line : Word) (stated : ℕ) →
        slice_get (parts 10 text) (n - 1) ≡ Some line → line_at wall line ≡ Ok (End stated) →
        StatesOther wall text n stated
    states_other line stated there end = go (bad_here h many not_before)
      where
        go : IsHere → StatesOther wall text n stated
        go (l, at, entries, inl (fault, answer)) =
            let same = one_line l line at there in
            let both : Ok (End stated) ≡ Err fault =
            sym end ∙ ap (λ (w : Word). line_at wall w) (sym same) ∙ answer in
            absurd cc
        go (l, at, entries, inr (m, answer, other)) =
            let same = one_line l line at there in
            let both : Ok (End stated) ≡ Ok (End m) =
            sym end ∙ ap (λ (w : Word). line_at wall w) (sym same) ∙ answer in
            let number : m ≡ stated = cc in
            record {
              behind = many;
              entries = entries;
              line = line;
              at = subst (λ w. IsLineOf text n w) same at;
              end = end;
              other = λ is. other (number ∙ is);
            }

    pub lacks_entry : (line : Word) → slice_get (parts 10 text) (n - 1) ≡ Some line →
        ((m : ℕ) → line_at wall line ≢ Ok (End m)) → LacksEntry wall text n
    lacks_entry line there no_end = go (bad_here h many not_before)
      where
        go : IsHere → LacksEntry wall text n
        go (l, at, entries, inl (fault, answer)) =
            let same = one_line l line at there in
            record {
              behind = many;
              entries = entries;
              line = l;
              at = at;
              fault = fault;
              answer = answer;
            }
        go (l, at, entries, inr (m, answer, other)) =
            let same = one_line l line at there in
            absurd (no_end m (ap (λ (w : Word). line_at wall w) (sym same) ∙ answer))
