-- A text that is refused does not start as a sound book does.
use Rattle.std.proofs.Common.{◌≡◌, ◌≢◌, ⊎_elim, ℕ, ◌+◌, ◌<◌, ◌≤◌, eqb, Bool}
use Rattle.std.proofs.Common.{true, false, cond, List, [], ◌∷◌, ◌++◌, length, take, drop, Result}
use Rattle.std.proofs.Common.{Ok, Err, refl, sym, ap, subst, ◌∙◌, arith, append_assoc, eq-eqb}
use Rattle.std.specs.Str.{bytes_eq}
use Rattle.std.proofs.lemmas.Bool.{cases_lt}
use Rattle.std.proofs.lemmas.List.{take-append-drop}
use Rattle.wall_policy.specs.Policy.{ChineseWall}
use Rattle.run_model.specs.declared.entry.Entry.{Entry}
use Rattle.run_model.specs.Books.{IsSound, Begins}
use Rattle.coll_text.specs.declared.fault.LineFault.{LineFault}
use Rattle.coll_text.specs.Numbers.{Word}
use Rattle.coll_text.specs.Reading.{parts}
use Rattle.audit_book.specs.declared.fault.ReadFault.{ReadFault}
use Rattle.audit_book.specs.declared.fault.ReadFault.TheVariants.{BadLine}
use Rattle.audit_book.specs.declared.line.Line.{Line}
use Rattle.audit_book.specs.declared.line.Line.TheVariants.{Said, End}
use Rattle.audit_book.specs.Lines.{line_at}
use Rattle.audit_book.specs.Text.{header_line}
use Rattle.audit_book.specs.Reading.{with_prefix, by_line, ended_at, entries_in, lines_in, book_in}
use Rattle.audit_book.proofs.AuditBookLemmas.{more_found, ended_found, end_step, header_step}
use Rattle.audit_book.proofs.AuditBookLemmas.{some_parts, done, same_done}
use Rattle.book_seal.specs.declared.fault.SealFault.{SealFault}
use Rattle.book_seal.specs.declared.fault.SealFault.TheVariants as faults
use Rattle.book_seal.specs.Seals.{finished, finished_lines, finished_entries}
use Rattle.book_seal.specs.Refusals.{StartsSoundly, HasBadEntry, IsFaultOf}
use Rattle.book_seal.proofs.FinishedLemmas.{parts_behind, parts_of_finished}
use Rattle.book_seal.proofs.BegunLemmas.{told, entries_are, told_step, told_behind_header}
use Rattle.book_seal.proofs.BegunLemmas.{end_told, whole_told}
use Rattle.book_seal.proofs.SealLemmas.{ok_value}

abbrev pub Read : Type 0
Read = Result (List Entry) ReadFault

-- All entries begin with those that finished lines tell; what is read of these lines alone is not
-- bad, and a book only of all entries.
pub record Extends (told : List Entry) (alone : Read) (all : List Entry) : Type 0 where
  pub more : List Entry
  pub is : all ≡ told ++ more
  pub good : (n : ℕ) → alone ≡ Err (BadLine n) → ⊥
  pub whole : (es : List Entry) → alone ≡ Ok es → es ≡ all

prefix_fault : (e : Entry) (r : Read) (n : ℕ) → with_prefix (e ∷ []) r ≡ Err (BadLine n) →
    r ≡ Err (BadLine n)
prefix_fault e (Ok es) n h = absurd cc
prefix_fault e (Err d) n h = h

one_only : (ls : List Word) (w v : Word) (ws : List Word) → ls ++ (w ∷ ws) ≡ v ∷ [] → ls ≡ []
one_only [] w v ws e = refl
one_only (l ∷ []) w v ws e = absurd cc
one_only (l ∷ m ∷ ls) w v ws e = absurd cc

ok_no_fault : (es : List Entry) (n : ℕ) → done es ≡ Err (BadLine n) → ⊥
ok_no_fault es n e = cc

module _ (wall : ChineseWall) where
  end_alone : (k n : ℕ) (v : Word) (vs : List Word) → n ≡ k → v ∷ vs ≡ [] ∷ [] →
      cond (eqb n k) (ended_at (k + 3) (v ∷ vs)) (Err (BadLine (k + 2))) ≡ Ok []
  end_alone k n v vs same one =
      (λ i. cond (eq-eqb n k same i) (ended_at (k + 3) (one i)) (Err (BadLine (k + 2))))

  extends_step : (k : ℕ) (l : Word) (ls : List Word) (w : Word) (ws : List Word) (x : Word)
      (xs : List Word) (v : Word) (vs : List Word) (all : List Entry)
      (r : Result Line LineFault) → line_at wall l ≡ r → ls ++ (w ∷ ws) ≡ x ∷ xs →
      ls ++ ([] ∷ []) ≡ v ∷ vs →
      ((rest : List Entry) → entries_in wall (k + 1) (x ∷ xs) ≡ Ok rest →
      Extends (told wall ls) (entries_in wall (k + 1) (v ∷ vs)) rest) →
      by_line k r (entries_in wall (k + 1) (x ∷ xs)) (ended_at (k + 3) (x ∷ xs)) ≡ Ok all →
      Extends (told wall (l ∷ ls))
      (by_line k r (entries_in wall (k + 1) (v ∷ vs)) (ended_at (k + 3) (v ∷ vs))) all
  extends_step k l ls w ws x xs v vs all (Ok (Said e)) said long alone behind h =
      let m = more_found e (entries_in wall (k + 1) (x ∷ xs)) all h in
      let b = behind m.rest m.read in
      record {
        more = b.more;
        is = m.whole ∙ ap (λ es. e ∷ es) b.is
            ∙ ap (λ es. es ++ b.more) (sym (told_step wall l ls e said));
        good = λ n bad. b.good n (prefix_fault e (entries_in wall (k + 1) (v ∷ vs)) n bad);
        whole = λ es read.
            let a = more_found e (entries_in wall (k + 1) (v ∷ vs)) es read in
            a.whole ∙ ap (λ rest. e ∷ rest) (b.whole a.rest a.read) ∙ sym m.whole;
      }
  extends_step k l ls w ws x xs v vs all (Ok (End n)) said long alone behind h =
      let e = end_step k n (ended_at (k + 3) (x ∷ xs)) all (eqb n k) refl h in
      let f = ended_found (k + 3) x xs all e.1 in
      let none : ls ≡ [] = one_only ls w [] ws (long ∙ f.0) in
      let one : v ∷ vs ≡ [] ∷ [] = sym alone ∙ ap (λ ms. ms ++ ([] ∷ [])) none in
      let read = end_alone k n v vs e.0 one in
      let nothing : told wall (l ∷ ls) ≡ [] = end_told wall l ls n said ∙ ap (told wall) none in
      record {
        more = all;
        is = ap (λ es. es ++ all) (sym nothing);
        good = λ m bad. ok_no_fault [] m (sym read ∙ bad);
        whole = λ es got. same_done es [] (sym got ∙ read) ∙ sym f.1;
      }
  extends_step k l ls w ws x xs v vs all (Err f) said long alone behind h = absurd cc

  extends : (k : ℕ) (ls : List Word) (w : Word) (ws : List Word) (all : List Entry) →
      entries_in wall k (ls ++ (w ∷ ws)) ≡ Ok all →
      Extends (told wall ls) (entries_in wall k (ls ++ ([] ∷ []))) all
  unfolding entries_in
  extends k [] w ws all h =
      record { more = all; is = refl; good = λ n bad. cc; whole = λ es got. absurd cc }
  extends k (l ∷ []) w ws all h = extends_step k l [] w ws w ws [] [] all (line_at wall l) refl
      refl refl (extends (k + 1) [] w ws) h
  extends k (l ∷ m ∷ ls) w ws all h = extends_step k l (m ∷ ls) w ws m (ls ++ (w ∷ ws)) m
      (ls ++ ([] ∷ [])) all (line_at wall l) refl refl refl (extends (k + 1) (m ∷ ls) w ws) h

  header_extends : (l : Word) (ls : List Word) (long alone : Read) (all : List Entry) (t : Bool) →
      bytes_eq l (header_line wall.version) ≡ t →
      (long ≡ Ok all → Extends (told wall ls) alone all) →
      (l ≡ header_line wall.version → told wall (l ∷ ls) ≡ told wall ls) →
      (cond t long (Err (BadLine 1)) ≡ Ok all → l ≡ header_line wall.version) →
      cond t long (Err (BadLine 1)) ≡ Ok all →
      Extends (told wall (l ∷ ls)) (cond t alone (Err (BadLine 1))) all
  header_extends l ls long alone all true e behind same is h =
      subst (λ es. Extends es alone all) (sym (same (is h))) (behind h)
  header_extends l ls long alone all false e behind same is h = absurd cc

  behind_header : (l : Word) (ls : List Word) → l ≡ header_line wall.version →
      told wall (l ∷ ls) ≡ told wall ls
  behind_header l ls is =
      ap (λ (w : Word). told wall (w ∷ ls)) is ∙ told_behind_header wall ls

  lines_extend : (ls : List Word) (w : Word) (ws : List Word) (all : List Entry) →
      lines_in wall (ls ++ (w ∷ ws)) ≡ Ok all →
      Extends (told wall ls) (lines_in wall (ls ++ ([] ∷ []))) all
  lines_extend [] w ws all h =
      record { more = all; is = refl; good = λ n bad. cc; whole = λ es got. absurd cc }
  lines_extend (l ∷ []) w ws all h = header_extends l [] (entries_in wall 0 (w ∷ ws))
      (entries_in wall 0 ([] ∷ [])) all (bytes_eq l (header_line wall.version)) refl
      (extends 0 [] w ws all) (behind_header l [])
      (λ read. (header_step wall l w ws all (bytes_eq l (header_line wall.version)) refl read).0) h
  lines_extend (l ∷ m ∷ ls) w ws all h =
      header_extends l (m ∷ ls) (entries_in wall 0 (m ∷ (ls ++ (w ∷ ws))))
      (entries_in wall 0 (m ∷ (ls ++ ([] ∷ [])))) all (bytes_eq l (header_line wall.version)) refl
      (extends 0 (m ∷ ls) w ws all) (behind_header l (m ∷ ls))
      (λ read. (header_step wall l m (ls ++ (w ∷ ws)) all
      (bytes_eq l (header_line wall.version)) refl read).0) h

  -- a book's text that starts with the finished lines of a text
  pub text_extends : (text rest : List ℕ) (all : List Entry) →
      book_in wall (finished text ++ rest) ≡ Ok all →
      Extends (finished_entries wall text) (book_in wall (finished text)) all
  unfolding book_in
  text_extends text rest all h =
      let p = some_parts rest in
      let long : lines_in wall (finished_lines text ++ (p.0 ∷ p.1)) ≡ Ok all =
      ap (lines_in wall)
      (sym (parts_behind text rest ∙ ap (λ ws. finished_lines text ++ ws) p.2)) ∙ h in
      subst (λ es. Extends es (lines_in wall (parts 10 (finished text))) all)
      (sym (entries_are wall text (finished_lines text) refl))
      (subst (λ (ls : List Word). Extends (told wall (finished_lines text)) (lines_in wall ls) all)
      (sym (parts_of_finished text)) (lines_extend (finished_lines text) p.0 p.1 all long))

  begins_so : (es more all : List Entry) (n : ℕ) → all ≡ es ++ more → IsSound wall all →
      Begins wall (take n es)
  begins_so es more all n is sound = (
    drop n es ++ more,
    subst (IsSound wall) (is ∙ ap (λ xs. xs ++ more) (sym (take-append-drop n es))
        ∙ append_assoc (take n es) (drop n es) more) sound,
  )

  no_bad_entry : (text : List ℕ) (n : ℕ) (all : List Entry) → HasBadEntry wall text n →
      IsSound wall all →
      Extends (finished_entries wall text) (book_in wall (finished text)) all → ⊥
  no_bad_entry text n all h sound x = ⊎_elim
      (λ (low : n ≤ length (finished_entries wall text)).
      h.bad.wrong low (begins_so (finished_entries wall text) x.more all n x.is sound))
      (λ ok. ⊎_elim
      (λ (high : length (finished_entries wall text) < n).
      let v = ok_value (book_in wall (finished text)) ok in
      let within = h.bad.within in
      h.bad.missing (omega (arith, high, within)) (subst (IsSound wall)
      (sym (whole_told wall text v.0 v.1 ∙ x.whole v.0 v.1)) sound))
      (λ (low : n ≤ length (finished_entries wall text)).
      h.bad.wrong low (begins_so (finished_entries wall text) x.more all n x.is sound))
      (cases_lt (length (finished_entries wall text)) n))
      h.there

  -- what is refused
  pub starts_unsoundly : (text : List ℕ) (f : SealFault) → IsFaultOf wall text f →
      f ≢ faults.NoMemory → StartsSoundly wall text → ⊥
  starts_unsoundly text (faults.BadLine n) h other s =
      (text_extends text s.prefix.0 s.entries (ap (book_in wall) s.prefix.1 ∙ s.read)).good n h
  starts_unsoundly text (faults.BadEntry n) h other s = no_bad_entry text n s.entries h s.sound
      (text_extends text s.prefix.0 s.entries (ap (book_in wall) s.prefix.1 ∙ s.read))
  starts_unsoundly text faults.NoMemory h other s = other refl
