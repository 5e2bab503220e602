-- The first line that should not stand there, line by line.
use Rattle.std.proofs.Common.{◌≡◌, ◌≢◌, ℕ, zero, suc, ◌+◌, ◌-◌, ◌<◌, ◌==◌, List, [], ◌∷◌, ◌++◌}
use Rattle.std.proofs.Common.{length, cond, Some, Result, Ok, Err, refl, sym, ap, ◌∙◌, inl, inr}
use Rattle.std.proofs.Common.{◌⊎◌, arith, slice_get}
use Rattle.std.specs.Str.{bytes_eq}
use Rattle.std.proofs.lemmas.Bool.{cases_Bool, false≢true}
use Rattle.std.proofs.lemmas.Bool.Decides.{eqb_tells}
use Rattle.std.proofs.lemmas.Slice.Eq.{bytes_eq-Decides}
use Rattle.wall_policy.specs.Policy.{ChineseWall}
use Rattle.run_model.specs.declared.entry.Entry.{Entry}
use Rattle.coll_text.specs.declared.fault.LineFault.{LineFault}
use Rattle.coll_text.specs.Numbers.{Word}
use Rattle.coll_text.specs.Reading.{parts}
use Rattle.audit_book.specs.declared.fault.ReadFault.{ReadFault}
use Rattle.audit_book.specs.declared.fault.ReadFault.TheVariants.{BadLine, Cut}
use Rattle.audit_book.specs.declared.line.Line.{Line}
use Rattle.audit_book.specs.declared.line.Line.TheVariants.{Said, End}
use Rattle.audit_book.specs.Lines.{line_at}
use Rattle.audit_book.specs.Text.{header_line}
use Rattle.audit_book.specs.Reading.{with_prefix, ended_at, by_line, entries_in, lines_in, book_in}
use Rattle.book_places.specs.Places.{LacksHeader}

module _ (wall : ChineseWall) where
  -- why line n is the first bad one, which stands at place i behind e entries and the header
  abbrev pub Why : (e i n : ℕ) → Word → Type 0
  Why e i n line =
      ((n ≡ e + i + 2) × ((fault : LineFault) × (line_at wall line ≡ Err fault)))
      ⊎ (((n ≡ e + i + 2) × ((m : ℕ) × (line_at wall line ≡ Ok (End m)) × (m ≢ e + i)))
      ⊎ ((n ≡ e + i + 3) × (line_at wall line ≡ Ok (End (e + i)))))

  pub record IsFirstBad (e : ℕ) (ls : List Word) (n : ℕ) : Type 0 where
    pub i : ℕ
    pub line : Word
    pub there : slice_get ls i ≡ Some line
    pub entries : (k : ℕ) (l : Word) → k < i → slice_get ls k ≡ Some l →
        (entry : Entry) × (line_at wall l ≡ Ok (Said entry))
    pub why : Why e i n line

  prefix_fails : (prefix : List Entry) (r : Result (List Entry) ReadFault) (fault : ReadFault) →
      with_prefix prefix r ≡ Err fault → r ≡ Err fault
  prefix_fails prefix (Ok xs) fault h = absurd cc
  prefix_fails prefix (Err f) fault h = h

  behind_end : (number : ℕ) (ls : List Word) (n : ℕ) → ended_at number ls ≡ Err (BadLine n) →
      n ≡ number
  behind_end number [] n h = cc
  behind_end number (rest ∷ []) n h = elim (cases_Bool (length rest == 0)) [
    | inl t ↦
        let same : Ok [] ≡ Err (BadLine n) =
        sym (ap (λ b. cond b (Ok []) (Err (BadLine number))) t) ∙ h in
        absurd cc
    | inr f ↦
        let same : Err (BadLine number) ≡ Err (BadLine n) =
        sym (ap (λ b. cond b (Ok []) (Err (BadLine number))) f) ∙ h in
        cc
  ]
  behind_end number (rest ∷ next ∷ more) n h = cc

  -- the line at the front is bad
  here : (e : ℕ) (line : Word) (ls : List Word) (n : ℕ) → Why e 0 n line →
      IsFirstBad e (line ∷ ls) n
  here e line ls n why = record {
    i = 0;
    line = line;
    there = refl;
    entries = λ k l low. absurd (omega arith);
    why = why;
  }

  later_why : (e i n : ℕ) (line : Word) → Why (e + 1) i n line → Why e (suc i) n line
  later_why e i n line (inl (at, fault)) = inl (omega (arith, at), fault)
  later_why e i n line (inr (inl (at, (m, end, other)))) =
      inr (inl (omega (arith, at), (m, end, λ same. other (omega (arith, same)))))
  later_why e i n line (inr (inr (at, end))) =
      let same : e + 1 + i ≡ e + suc i = omega arith in
      inr (inr (omega (arith, at), end ∙ ap (λ k. Ok (End k)) same))

  -- the line at the front is an entry
  later : (e : ℕ) (line : Word) (ls : List Word) (n : ℕ) (entry : Entry) →
      line_at wall line ≡ Ok (Said entry) → IsFirstBad (e + 1) ls n → IsFirstBad e (line ∷ ls) n
  later e line ls n entry said bad = record {
    i = suc bad.i;
    line = bad.line;
    there = bad.there;
    entries = before;
    why = later_why e bad.i n bad.line bad.why;
  }
    where
      before : (k : ℕ) (l : Word) → k < suc bad.i → slice_get (line ∷ ls) k ≡ Some l →
          (entry : Entry) × (line_at wall l ≡ Ok (Said entry))
      before zero l low at =
          let same : line ≡ l = cc in
          (entry, ap (λ (w : Word). line_at wall w) (sym same) ∙ said)
      before (suc k) l low at = bad.entries k l (omega arith) at

  pub first_bad : (e : ℕ) (ls : List Word) (n : ℕ) → entries_in wall e ls ≡ Err (BadLine n) →
      IsFirstBad e ls n
  unfolding entries_in
  first_bad e [] n h = absurd cc
  first_bad e (line ∷ []) n h = absurd cc
  first_bad e (line ∷ next ∷ more) n h =
      go (line_at wall line) refl h (first_bad (e + 1) (next ∷ more) n)
    where
      go : (r : Result Line LineFault) → line_at wall line ≡ r →
          by_line e r (entries_in wall (e + 1) (next ∷ more)) (ended_at (e + 3) (next ∷ more))
          ≡ Err (BadLine n) →
          (entries_in wall (e + 1) (next ∷ more) ≡ Err (BadLine n)
          → IsFirstBad (e + 1) (next ∷ more) n) →
          IsFirstBad e (line ∷ next ∷ more) n
      go (Err fault) is h more_bad =
          let at : e + 2 ≡ n = cc in
          here e line (next ∷ more) n (inl (omega (arith, at), (fault, is)))
      go (Ok (Said entry)) is h more_bad =
          later e line (next ∷ more) n entry is
          (more_bad
          (prefix_fails (entry ∷ []) (entries_in wall (e + 1) (next ∷ more)) (BadLine n) h))
      go (Ok (End m)) is h more_bad = elim (eqb_tells m e) [
        | inl t ↦
            let at = behind_end (e + 3) (next ∷ more) n
            (sym (ap (λ b. cond b (ended_at (e + 3) (next ∷ more)) (Err (BadLine (e + 2)))) t.0)
            ∙ h) in
            let same : m ≡ e + 0 = omega (arith, t.1) in
            here e line (next ∷ more) n
            (inr (inr (omega (arith, at), is ∙ ap (λ k. Ok (End k)) same)))
        | inr f ↦
            let other : Err (BadLine (e + 2)) ≡ Err (BadLine n) =
            sym (ap (λ b. cond b (ended_at (e + 3) (next ∷ more)) (Err (BadLine (e + 2)))) f.0) ∙ h
            in
            let at : e + 2 ≡ n = cc in
            here e line (next ∷ more) n
            (inr (inl (omega (arith, at), (m, is, λ same. f.1 (omega (arith, same))))))
      ]

  -- the lines of a text that is no book
  abbrev pub IsBad : (text : List ℕ) (n : ℕ) → Type 0
  IsBad text n = (header : Word) × (ls : List Word) × (parts 10 text ≡ header ∷ ls)
      × IsFirstBad 0 ls n

  pub bad_line : (text : List ℕ) (n : ℕ) → book_in wall text ≡ Err (BadLine n) →
      LacksHeader wall text n ⊎ IsBad text n
  unfolding book_in
  bad_line text n h = go (parts 10 text) refl h
    where
      go : (ls : List Word) → parts 10 text ≡ ls → lines_in wall ls ≡ Err (BadLine n) →
          LacksHeader wall text n ⊎ IsBad text n
      go [] is h = absurd cc
      go (line ∷ []) is h = absurd cc
      go (line ∷ next ∷ more) is h =
          elim (cases_Bool (bytes_eq line (header_line wall.version))) [
            | inl t ↦
                let rest : entries_in wall 0 (next ∷ more) ≡ Err (BadLine n) =
                sym (ap (λ b. cond b (entries_in wall 0 (next ∷ more)) (Err (BadLine 1))) t) ∙ h in
                inr (line, next ∷ more, is, first_bad 0 (next ∷ more) n rest)
            | inr f ↦
                let bad : Err (BadLine 1) ≡ Err (BadLine n) =
                sym (ap (λ b. cond b (entries_in wall 0 (next ∷ more)) (Err (BadLine 1))) f) ∙ h in
                let one : n ≡ 1 = cc in
                inl (record {
                  first = one;
                  line = line;
                  at = record {
                    counted = omega (arith, one);
                    there = ap (λ (k : ℕ). slice_get (parts 10 text) (k - 1)) one
                        ∙ ap (λ ws. slice_get ws 0) is;
                  };
                  other = λ same. false≢true (sym f
                      ∙ (bytes_eq-Decides line (header_line wall.version)).1 same);
                })
          ]
