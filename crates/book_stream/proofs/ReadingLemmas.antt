-- How a reader goes on by one finished line.
use Rattle.std.proofs.Common.{◌≡◌, ◌≢◌, ℕ, ◌+◌, ◌<◌, ◌≤◌, ◌==◌, true, false, cond, List, [], ◌∷◌, inl, inr}
use Rattle.std.proofs.Common.{◌++◌, length, Option, Some, None, Result, Ok, Err, refl, sym, ap}
use Rattle.std.proofs.Common.{subst, ◌∙◌, append_assoc, arith}
use Rattle.std.specs.Prelude.{◌^◌}
use Rattle.std.specs.Str.{bytes_eq}
use Rattle.std.proofs.lemmas.Bool.Decides.{nat_tests}
use Rattle.std.proofs.lemmas.List.{length-append}
use Rattle.wall_policy.specs.Policy.{ChineseWall}
use Rattle.run_model.specs.declared.entry.Entry.{Entry}
use Rattle.coll_text.specs.declared.fault.LineFault.{LineFault}
use Rattle.coll_text.specs.declared.fault.LineFault.TheVariants as line_faults
use Rattle.coll_text.specs.Numbers.{Word}
use Rattle.coll_text.specs.Reading.{Fails}
use Rattle.audit_book.specs.declared.fault.ReadFault.{ReadFault}
use Rattle.audit_book.specs.declared.fault.ReadFault.TheVariants as faults
use Rattle.audit_book.specs.declared.line.Line.{Line}
use Rattle.audit_book.specs.declared.line.Line.TheVariants.{Said, End}
use Rattle.audit_book.specs.Lines.{line_at}
use Rattle.audit_book.specs.LineSteps.{end_number}
use Rattle.audit_book.specs.Reading.{with_prefix, by_line, ended_at, entries_in, lines_in}
use Rattle.audit_book.specs.Text.{header_line}
use Rattle.audit_book.proofs.AuditBookLemmas.{with_none}
use Rattle.book_stream.specs.declared.reading.Reading.{Reading}
use Rattle.book_stream.specs.declared.reading.Stage.{Stage}
use Rattle.book_stream.specs.declared.reading.Stage.TheVariants as stages
use Rattle.book_stream.specs.declared.fault.AuditFault.TheVariants.{BadLine, LongLine, TooMany}
use Rattle.book_stream.specs.Cuts.{line_limit}
use Rattle.book_stream.specs.Readings.{SayEntries, SayBook, SayAt, IsJudged, HasRead, IsBadBehind}

regroup : (prefix : List Entry) (e : Entry) (r : Result (List Entry) ReadFault) →
    with_prefix prefix (with_prefix (e ∷ []) r) ≡ with_prefix (prefix ++ e ∷ []) r
regroup prefix e (Ok es) = ap Ok (sym (append_assoc prefix (e ∷ []) es))
regroup prefix e (Err f) = refl

one_more : {A : Type 0} (xs : List A) (x : A) → length (xs ++ x ∷ []) ≡ length xs + 1
one_more xs x = let long = length-append xs (x ∷ []) in omega (arith, long)

same_number : (m n : ℕ) → m ≡ n → (m == n) ≡ true
same_number m n same = grind (arith, nat_tests)

other_number : (m n : ℕ) → (m ≡ n → ⊥) → (m == n) ≡ false
other_number m n other = grind (arith, nat_tests)

no_fault : (fault : LineFault) → fault ≢ line_faults.NoMemory → (x : Option ℕ) →
    Fails fault (Ok x) → ⊥
no_fault line_faults.BadVerb some x h = absurd cc
no_fault line_faults.BadShape some x h = absurd cc
no_fault line_faults.BadField some x h = absurd cc
no_fault line_faults.BadKind some x h = absurd cc
no_fault line_faults.BadType some x h = absurd cc
no_fault line_faults.UnknownOp some x h = absurd cc
no_fault line_faults.BadLabel some x h = absurd cc
no_fault line_faults.BadNumber some x h = absurd cc
no_fault line_faults.OddPair some x h = absurd cc
no_fault line_faults.NoMemory some x h = absurd (some refl)

-- ---- the header

pub header_says : (wall : ChineseWall) (line : Word) →
    bytes_eq line (header_line wall.version) ≡ true → SayEntries wall (line ∷ []) []
header_says wall line same = record {
  says = λ next more. ap (λ b. cond b (entries_in wall 0 (next ∷ more)) (Err (faults.BadLine 1)))
      same ∙ sym (with_none (entries_in wall 0 (next ∷ more)));
  number = refl;
}

pub header_bad : (wall : ChineseWall) (line : Word) →
    bytes_eq line (header_line wall.version) ≡ false → (next : Word) (more : List Word) →
    lines_in wall (line ∷ next ∷ more) ≡ Err (faults.BadLine 1)
header_bad wall line other next more =
    ap (λ b. cond b (entries_in wall 0 (next ∷ more)) (Err (faults.BadLine 1))) other

-- ---- a line behind it

module _ (wall : ChineseWall) (lines : List Word) (es : List Entry)
    (say : SayEntries wall lines es) (line : Word) where
  -- the line is finished
  opened : (next : Word) (more : List Word) → lines_in wall (lines ++ line ∷ next ∷ more)
      ≡ with_prefix es (by_line (length es) (line_at wall line)
      (entries_in wall (length es + 1) (next ∷ more)) (ended_at (length es + 3) (next ∷ more)))
  unfolding entries_in
  opened next more = say.says line (next ∷ more)

  behind_line : (next : Word) (more : List Word) →
      lines_in wall ((lines ++ line ∷ []) ++ next ∷ more)
      ≡ lines_in wall (lines ++ line ∷ next ∷ more)
  behind_line next more = ap (lines_in wall) (append_assoc lines (line ∷ []) (next ∷ more))

  pub entry_says : (e : Entry) → line_at wall line ≡ Ok (Said e) →
      SayEntries wall (lines ++ line ∷ []) (es ++ e ∷ [])
  entry_says e is = record {
    says = λ next more.
        let others = entries_in wall (length es + 1) (next ∷ more) in
        let ended = ended_at (length es + 3) (next ∷ more) in
        behind_line next more ∙ opened next more
        ∙ ap (λ said. with_prefix es (by_line (length es) said others ended)) is
        ∙ regroup es e others
        ∙ ap (λ n. with_prefix (es ++ e ∷ []) (entries_in wall n (next ∷ more)))
        (sym (one_more es e));
    number =
        let now = one_more lines line in
        let then = one_more es e in
        let was = say.number in
        omega (arith, now, then, was);
  }

  pub end_says : (n : ℕ) → n ≡ length es → line_at wall line ≡ Ok (End n) →
      SayBook wall (lines ++ line ∷ []) es
  end_says n same is = λ next more.
      let others = entries_in wall (length es + 1) (next ∷ more) in
      let ended = ended_at (length es + 3) (next ∷ more) in
      behind_line next more ∙ opened next more
      ∙ ap (λ said. with_prefix es (by_line (length es) said others ended)) is
      ∙ ap (λ b. with_prefix es (cond b ended (Err (faults.BadLine (length es + 2)))))
      (same_number n (length es) same)

  pub other_end : (n : ℕ) → (n ≡ length es → ⊥) → line_at wall line ≡ Ok (End n) →
      (next : Word) (more : List Word) →
      lines_in wall (lines ++ line ∷ next ∷ more) ≡ Err (faults.BadLine (length es + 2))
  other_end n other is next more =
      let others = entries_in wall (length es + 1) (next ∷ more) in
      let ended = ended_at (length es + 3) (next ∷ more) in
      opened next more
      ∙ ap (λ said. with_prefix es (by_line (length es) said others ended)) is
      ∙ ap (λ b. with_prefix es (cond b ended (Err (faults.BadLine (length es + 2)))))
      (other_number n (length es) other)

  pub no_line : (fault : LineFault) → line_at wall line ≡ Err fault →
      (next : Word) (more : List Word) →
      lines_in wall (lines ++ line ∷ next ∷ more) ≡ Err (faults.BadLine (length es + 2))
  no_line fault is next more =
      let others = entries_in wall (length es + 1) (next ∷ more) in
      let ended = ended_at (length es + 3) (next ∷ more) in
      opened next more
      ∙ ap (λ said. with_prefix es (by_line (length es) said others ended)) is

-- ---- what is told of a line

pub entry_told : (said : Result Line LineFault) → end_number said ≡ Ok None →
    (e : Entry) × (said ≡ Ok (Said e))
entry_told (Ok (Said e)) h = (e, refl)
entry_told (Ok (End n)) h = absurd cc
entry_told (Err f) h = absurd cc

pub same_entry : (said : Result Line LineFault) (e x : Entry) → said ≡ Ok (Said e) →
    said ≡ Ok (Said x) → x ≡ e
same_entry said e x is was =
    let both : Ok (Said e) ≡ Ok (Said x) = sym is ∙ was in let same : x ≡ e = cc in same

pub end_told : (said : Result Line LineFault) (n : ℕ) → end_number said ≡ Ok (Some n) →
    said ≡ Ok (End n)
end_told (Ok (Said e)) n h = absurd cc
end_told (Ok (End m)) n h = ap (λ k. Ok (End k)) (let k : m ≡ n = cc in k)
end_told (Err f) n h = absurd cc

pub fault_told : (said : Result Line LineFault) (fault : LineFault) →
    fault ≢ line_faults.NoMemory → Fails fault (end_number said) →
    (f : LineFault) × (said ≡ Err f)
fault_told (Err f) fault some h = (f, refl)
fault_told (Ok (Said e)) fault some h = absurd (no_fault fault some None h)
fault_told (Ok (End n)) fault some h = absurd (no_fault fault some (Some n) h)

-- ---- a line of a reader

module _ (wall : ChineseWall) (old new : Reading) (lines : List Word) (line : Word)
    (h : HasRead wall old lines) where
  at_stage : (stage : Stage) → old.stage ≡ stage → SayAt wall stage lines h.entries
  at_stage stage is = subst (λ s. SayAt wall s lines h.entries) is h.say

  pub header_read : old.stage ≡ stages.Header → new.stage ≡ stages.Entry →
      new.audit ≡ old.audit → new.fault ≡ old.fault → new.entries ≡ old.entries →
      bytes_eq line (header_line wall.version) ≡ true → HasRead wall new (lines ++ line ∷ [])
  header_read is then audit fault number same =
      let none = at_stage stages.Header is in record {
        entries = h.entries;
        number = number ∙ h.number;
        few = h.few;
        judged = subst (λ a. IsJudged wall a new.fault h.entries) (sym audit)
            (subst (λ f. IsJudged wall old.audit f h.entries) (sym fault) h.judged);
        say = subst (λ s. SayAt wall s (lines ++ line ∷ []) h.entries) (sym then)
            (subst (λ l. SayEntries wall (l ++ line ∷ []) h.entries) (sym none.0)
            (subst (SayEntries wall (line ∷ [])) (sym none.1) (header_says wall line same)));
      }

  pub entry_read : old.stage ≡ stages.Entry → new.stage ≡ stages.Entry → (e : Entry) →
      line_at wall line ≡ Ok (Said e) → new.entries ≡ old.entries + 1 →
      old.entries < 2 ^ 62 → IsJudged wall new.audit new.fault (h.entries ++ e ∷ []) →
      HasRead wall new (lines ++ line ∷ [])
  entry_read is then e said number few judged =
      let long = one_more h.entries e in
      let was = h.number in record {
        entries = h.entries ++ e ∷ [];
        number = omega (arith, number, long, was);
        few = omega (arith, long, was, few);
        judged = judged;
        say = subst (λ s. SayAt wall s (lines ++ line ∷ []) (h.entries ++ e ∷ [])) (sym then)
            (entry_says wall lines h.entries (at_stage stages.Entry is) line e said);
      }

  pub end_read : old.stage ≡ stages.Entry → new.stage ≡ stages.Ended →
      new.audit ≡ old.audit → new.fault ≡ old.fault → new.entries ≡ old.entries →
      (n : ℕ) → n ≡ old.entries → line_at wall line ≡ Ok (End n) →
      HasRead wall new (lines ++ line ∷ [])
  end_read is then audit fault number n same said = record {
    entries = h.entries;
    number = number ∙ h.number;
    few = h.few;
    judged = subst (λ a. IsJudged wall a new.fault h.entries) (sym audit)
        (subst (λ f. IsJudged wall old.audit f h.entries) (sym fault) h.judged);
    say = subst (λ s. SayAt wall s (lines ++ line ∷ []) h.entries) (sym then)
        (end_says wall lines h.entries (at_stage stages.Entry is) line n (same ∙ h.number) said);
  }

  -- ---- and one that is not taken

  pub header_stops : old.stage ≡ stages.Header →
      bytes_eq line (header_line wall.version) ≡ false → IsBadBehind wall lines line (BadLine 1)
  header_stops is other = λ next more.
      ap (λ l. lines_in wall (l ++ line ∷ next ∷ more)) (at_stage stages.Header is).0
      ∙ header_bad wall line other next more

  pub other_stops : old.stage ≡ stages.Entry → (n : ℕ) → (n ≡ old.entries → ⊥) →
      line_at wall line ≡ Ok (End n) → IsBadBehind wall lines line (BadLine (old.entries + 2))
  other_stops is n other said = λ next more.
      other_end wall lines h.entries (at_stage stages.Entry is) line n
      (λ same. other (same ∙ sym h.number)) said next more
      ∙ ap (λ k. Err (faults.BadLine (k + 2))) (sym h.number)

  pub fault_stops : old.stage ≡ stages.Entry → (f : LineFault) → line_at wall line ≡ Err f →
      IsBadBehind wall lines line (BadLine (old.entries + 2))
  fault_stops is f said = λ next more.
      no_line wall lines h.entries (at_stage stages.Entry is) line f said next more
      ∙ ap (λ k. Err (faults.BadLine (k + 2))) (sym h.number)

  pub many_stops : old.stage ≡ stages.Entry → 4611686018427387904 ≤ old.entries →
      IsBadBehind wall lines line TooMany
  many_stops is many =
      (h.entries, at_stage stages.Entry is, let n = h.number in omega (arith, n, many))

  pub ended_stops : old.stage ≡ stages.Ended →
      IsBadBehind wall lines line (BadLine (old.entries + 3))
  ended_stops is = λ next more.
      at_stage stages.Ended is line (next ∷ more)
      ∙ ap (λ k. Err (faults.BadLine (k + 3))) (sym h.number)

  pub long_header : old.stage ≡ stages.Header → line_limit < length line →
      IsBadBehind wall lines line (LongLine 1)
  long_header is long =
      let none = (at_stage stages.Header is).0 in record {
        before = inl none;
        long = long;
        place = sym (ap (λ l. length l + 1) none);
      }

  pub long_entry : old.stage ≡ stages.Entry → line_limit < length line →
      IsBadBehind wall lines line (LongLine (old.entries + 2))
  long_entry is long =
      let say = at_stage stages.Entry is in record {
        before = inr (h.entries, say);
        long = long;
        place = let n = say.number in let m = h.number in omega (arith, n, m);
      }
