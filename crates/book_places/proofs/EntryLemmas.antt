-- On which line of a book an entry stands.
use Rattle.std.proofs.Common.{◌≡◌, ℕ, zero, suc, ◌+◌, ◌-◌, ◌<◌, ◌≤◌, ◌==◌, List, [], ◌∷◌, ◌++◌}
use Rattle.std.proofs.Common.{length, cond, Option, Some, None, Result, Ok, Err, refl, sym, ap, ◌∙◌}
use Rattle.std.proofs.Common.{inl, inr, subst, arith, slice_get}
use Rattle.std.specs.Str.{bytes_eq}
use Rattle.std.proofs.lemmas.Bool.{cases_Bool}
use Rattle.std.proofs.lemmas.Bool.Decides.{eqb_tells}
use Rattle.wall_policy.specs.Policy.{ChineseWall}
use Rattle.run_model.specs.declared.entry.Entry.{Entry}
use Rattle.run_model.specs.Books.{IsFirstBad}
use Rattle.coll_text.specs.declared.fault.LineFault.{LineFault}
use Rattle.coll_text.specs.Numbers.{Word}
use Rattle.coll_text.specs.Reading.{parts}
use Rattle.audit_book.specs.declared.fault.ReadFault.{ReadFault}
use Rattle.audit_book.specs.declared.fault.ReadFault.TheVariants.{BadLine, Cut}
use Rattle.audit_book.specs.declared.line.Line.{Line}
use Rattle.audit_book.specs.declared.line.Line.TheVariants.{Said, End}
use Rattle.audit_book.specs.Lines.{line_at}
use Rattle.audit_book.specs.Text.{header_line}
use Rattle.audit_book.specs.Reading.{with_prefix, ended_at, by_line, entries_in, lines_in, book_in}
use Rattle.book_places.specs.Places.{IsLineOf}
use Rattle.book_places.specs.Owed.{said_in, StandsAt}

module _ (wall : ChineseWall) where
  -- line k says the entry of that place, or the end behind the last
  abbrev IsSaid : (e : ℕ) → List Word → List Entry → (k : ℕ) → Type 0
  IsSaid e ls entries k = (line : Word) × (slice_get ls k ≡ Some line)
      × (line_at wall line ≡ Ok (said_in (e + length entries) (slice_get entries k)))

  abbrev AreSaid : (e : ℕ) → List Word → List Entry → Type 0
  AreSaid e ls entries = (k : ℕ) → k ≤ length entries → IsSaid e ls entries k

  ends_empty : (number : ℕ) (ls : List Word) (entries : List Entry) →
      ended_at number ls ≡ Ok entries → entries ≡ []
  ends_empty number [] entries h = absurd cc
  ends_empty number (rest ∷ []) entries h = elim (cases_Bool (length rest == 0)) [
    | inl t ↦
        let same : Ok [] ≡ Ok entries =
        sym (ap (λ b. cond b (Ok []) (Err (BadLine number))) t) ∙ h in
        cc
    | inr f ↦
        let bad : Err (BadLine number) ≡ Ok entries =
        sym (ap (λ b. cond b (Ok []) (Err (BadLine number))) f) ∙ h in
        absurd cc
  ]
  ends_empty number (rest ∷ next ∷ more) entries h = absurd cc

  -- the line at the front is the end
  end_said : (e : ℕ) (line : Word) (ls : List Word) (m : ℕ) → line_at wall line ≡ Ok (End m) →
      m ≡ e → AreSaid e (line ∷ ls) []
  end_said e line ls m is same zero low =
      (line, refl, is ∙ ap (λ n. Ok (End n)) (let whole : m ≡ e + 0 = omega (arith, same) in whole))
  end_said e line ls m is same (suc k) low = absurd (omega arith)

  -- it is an entry
  entry_said : (e : ℕ) (line : Word) (ls : List Word) (entry : Entry) (es : List Entry) →
      line_at wall line ≡ Ok (Said entry) → AreSaid (e + 1) ls es →
      AreSaid e (line ∷ ls) (entry ∷ es)
  entry_said e line ls entry es is more zero low = (line, refl, is)
  entry_said e line ls entry es is more (suc k) low =
      let said = more k (omega arith) in
      let same : e + 1 + length es ≡ e + length (entry ∷ es) = omega arith in (
        said.0,
        said.1,
        said.2 ∙ ap (λ n. Ok (said_in n (slice_get es k))) same,
      )

  pub are_said : (e : ℕ) (ls : List Word) (entries : List Entry) →
      entries_in wall e ls ≡ Ok entries → AreSaid e ls entries
  unfolding entries_in
  are_said e [] entries h = absurd cc
  are_said e (line ∷ []) entries h = absurd cc
  are_said e (line ∷ next ∷ more) entries h =
      go (line_at wall line) refl (entries_in wall (e + 1) (next ∷ more))
      (are_said (e + 1) (next ∷ more)) h
    where
      go : (r : Result Line LineFault) → line_at wall line ≡ r →
          (others : Result (List Entry) ReadFault) →
          ((es : List Entry) → others ≡ Ok es → AreSaid (e + 1) (next ∷ more) es) →
          by_line e r others (ended_at (e + 3) (next ∷ more)) ≡ Ok entries →
          AreSaid e (line ∷ next ∷ more) entries
      go (Err fault) is others rest h = absurd cc
      go (Ok (Said entry)) is (Err fault) rest h = absurd cc
      go (Ok (Said entry)) is (Ok es) rest h =
          let same : entry ∷ es ≡ entries = cc in
          subst (AreSaid e (line ∷ next ∷ more)) same
          (entry_said e line (next ∷ more) entry es is (rest es refl))
      go (Ok (End m)) is others rest h = elim (eqb_tells m e) [
        | inl t ↦
            let none = ends_empty (e + 3) (next ∷ more) entries
            (sym (ap (λ b. cond b (ended_at (e + 3) (next ∷ more)) (Err (BadLine (e + 2)))) t.0)
            ∙ h) in
            subst (AreSaid e (line ∷ next ∷ more)) (sym none)
            (end_said e line (next ∷ more) m is (omega (arith, t.1)))
        | inr f ↦
            let bad : Err (BadLine (e + 2)) ≡ Ok entries =
            sym (ap (λ b. cond b (ended_at (e + 3) (next ∷ more)) (Err (BadLine (e + 2)))) f.0) ∙ h
            in
            absurd cc
      ]

  -- the lines of a text that is a book
  abbrev IsRead : (text : List ℕ) (entries : List Entry) → Type 0
  IsRead text entries = (header : Word) × (ls : List Word) × (parts 10 text ≡ header ∷ ls)
      × AreSaid 0 ls entries

  is_read : (text : List ℕ) (entries : List Entry) → book_in wall text ≡ Ok entries →
      IsRead text entries
  unfolding book_in
  is_read text entries h = go (parts 10 text) refl h
    where
      go : (ls : List Word) → parts 10 text ≡ ls → lines_in wall ls ≡ Ok entries →
          IsRead text entries
      go [] is h = absurd cc
      go (line ∷ []) is h = absurd cc
      go (line ∷ next ∷ more) is h =
          elim (cases_Bool (bytes_eq line (header_line wall.version))) [
            | inl t ↦ (
              line,
              next ∷ more,
              is,
              are_said 0 (next ∷ more) entries
                  (sym (ap (λ b. cond b (entries_in wall 0 (next ∷ more)) (Err (BadLine 1))) t)
                  ∙ h),
            )
            | inr f ↦
                let bad : Err (BadLine 1) ≡ Ok entries =
                sym (ap (λ b. cond b (entries_in wall 0 (next ∷ more)) (Err (BadLine 1))) f) ∙ h in
                absurd cc
          ]

  -- entry n stands on line n + 1, and the end behind the last
  pub stands_on : (text : List ℕ) (entries : List Entry) (n line : ℕ) →
      book_in wall text ≡ Ok entries → IsFirstBad wall entries n → line ≡ n + 1 →
      StandsAt wall text entries n line
  stands_on text entries n line h bad behind = go (is_read text entries h)
    where
      go : IsRead text entries → StandsAt wall text entries n line
      go (header, ls, is, said) =
          let counted = bad.counted in
          let within = bad.within in
          let one = said (n - 1) (omega (arith, counted, within)) in
          let place : line - 1 ≡ suc (n - 1) = omega (arith, counted, behind) in
          record {
            word = one.0;
            at = record {
              counted = omega (arith, behind);
              there = ap (λ k. slice_get (parts 10 text) k) place
                  ∙ ap (λ (ws : List Word). slice_get ws (suc (n - 1))) is ∙ one.1;
            };
            says = one.2
                ∙ ap (λ m. Ok (said_in m (slice_get entries (n - 1))))
                (let same : 0 + length entries ≡ length entries = omega arith in same);
          }
