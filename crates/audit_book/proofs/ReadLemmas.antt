-- Lines taken one after the other, as a loop does.
use Rattle.std.proofs.Common.{◌≡◌, ℕ, ◌+◌, ◌≤◌, ◌==◌, Bool, true, false, cond, List, [], ◌∷◌, ◌++◌}
use Rattle.std.proofs.Common.{length, Result, Ok, Err, refl, sym, ap, subst, ◌∙◌, append_assoc}
use Rattle.std.proofs.Common.{arith}
use Rattle.std.specs.Prelude.{OnOk, IsOk}
use Rattle.std.specs.List.{slice_split}
use Rattle.std.proofs.lemmas.List.{append-nil}
use Rattle.std.proofs.lemmas.List.Splits.{length-slice_split}
use Rattle.std.proofs.lemmas.List.Sums.{count_by-le-length}
use Rattle.wall_policy.specs.Policy.{ChineseWall}
use Rattle.run_model.specs.declared.entry.Entry.{Entry}
use Rattle.coll_text.specs.declared.fault.LineFault.{LineFault}
use Rattle.coll_text.specs.Numbers.{Word}
use Rattle.audit_book.specs.declared.fault.ReadFault.{ReadFault}
use Rattle.audit_book.specs.declared.fault.ReadFault.TheVariants.{BadLine, Cut, NoMemory}
use Rattle.audit_book.specs.declared.line.Line.{Line}
use Rattle.audit_book.specs.declared.line.Line.TheVariants.{Said, End}
use Rattle.audit_book.specs.Lines.{line_at}
use Rattle.audit_book.specs.Reading.{IsSaid, with_prefix, by_line, ended_at, entries_in}
use Rattle.audit_book.specs.LineSteps.{end_number, goes_on, Adds, text_told}

regroup : (prefix : List Entry) (e : Entry) (r : Result (List Entry) ReadFault) →
    with_prefix prefix (with_prefix (e ∷ []) r) ≡ with_prefix (prefix ++ e ∷ []) r
regroup prefix e (Ok es) = ap Ok (sym (append_assoc prefix (e ∷ []) es))
regroup prefix e (Err f) = refl

pub with_none : (r : Result (List Entry) ReadFault) → with_prefix [] r ≡ r
with_none (Ok es) = refl
with_none (Err f) = refl

prefix_told : (prefix : List Entry) (r : Result (List Entry) ReadFault) →
    text_told (with_prefix prefix r) ≡ text_told r
prefix_told prefix (Ok es) = refl
prefix_told prefix (Err f) = refl

-- ---- a line

no_entry : (fits : Bool) (f : ReadFault) → cond fits (Ok false) (Err f) ≡ Ok true → ⊥
no_entry true f h = absurd cc
no_entry false f h = absurd cc

if_ended : (fits : Bool) (f : ReadFault) (ended : Result (List Entry) ReadFault) →
    cond fits (Ok false) (Err f) ≡ Ok false → cond fits ended (Err f) ≡ ended
if_ended true f ended h = refl
if_ended false f ended h = absurd cc

if_bad : (fits : Bool) (f g : ReadFault) (ended : Result (List Entry) ReadFault) →
    cond fits (Ok false) (Err f) ≡ Err g → cond fits ended (Err f) ≡ Err g
if_bad true f g ended h = absurd cc
if_bad false f g ended h = ap Err (let k : f ≡ g = cc in k)

-- a line behind which the text goes on is an entry
entry_in : (n : ℕ) (said : Result Line LineFault) → goes_on n (end_number said) ≡ Ok true →
    (e : Entry) × (said ≡ Ok (Said e))
entry_in n (Ok (Said e)) h = (e, refl)
entry_in n (Ok (End m)) h = absurd (no_entry (m == n) (BadLine (n + 2)) h)
entry_in n (Err f) h = absurd cc

added : (old new prefix : List Entry) (said : Result Line LineFault) (e : Entry) →
    said ≡ Ok (Said e) → Adds old new said → old ≡ prefix → new ≡ prefix ++ e ∷ []
added old new prefix said e is h same = subst (Adds old new) is h ∙ ap (λ es. es ++ e ∷ []) same

-- the end adds nothing
by_end : (n : ℕ) (said : Result Line LineFault) (others ended : Result (List Entry) ReadFault) →
    goes_on n (end_number said) ≡ Ok false → by_line n said others ended ≡ ended
by_end n (Ok (Said e)) others ended h = absurd cc
by_end n (Ok (End m)) others ended h = if_ended (m == n) (BadLine (n + 2)) ended h
by_end n (Err f) others ended h = absurd cc

same_still : (n : ℕ) (old new : List Entry) (said : Result Line LineFault) →
    goes_on n (end_number said) ≡ Ok false → Adds old new said → new ≡ old
same_still n old new (Ok (Said e)) h adds = absurd cc
same_still n old new (Ok (End m)) h adds = adds
same_still n old new (Err f) h adds = adds

bad : (n : ℕ) (g : ReadFault) (said : Result Line LineFault)
    (others ended : Result (List Entry) ReadFault) → goes_on n (end_number said) ≡ Err g →
    by_line n said others ended ≡ Err g
bad n g (Ok (Said e)) others ended h = absurd cc
bad n g (Ok (End m)) others ended h = if_bad (m == n) (BadLine (n + 2)) g ended h
bad n g (Err f) others ended h = ap Err (let k : BadLine (n + 2) ≡ g = cc in k)

if_none : (b : Bool) (f : ReadFault) (r : Result (List Entry) ReadFault) →
    r ≡ cond b (Ok []) (Err f) → Ok tt ≡ text_told r → r ≡ Ok []
if_none true f r is h = is
if_none false f r is h = absurd (let k : Ok tt ≡ text_told (Err f) = h ∙ ap text_told is in cc)

ended_none : (n : ℕ) (ws : List Word) → Ok tt ≡ text_told (ended_at n ws) → ended_at n ws ≡ Ok []
ended_none n [] h = absurd cc
ended_none n (rest ∷ []) h = if_none (length rest == 0) (BadLine n) (ended_at n (rest ∷ [])) refl h
ended_none n (rest ∷ w ∷ ws) h = absurd cc

on_ok : {P : Type 0} (r : Result (Unit {0}) ReadFault) → (Ok tt ≡ r → P) → OnOk r P
on_ok (Ok u) h = h refl
on_ok (Err f) h = tt

-- ---- lines

-- The entries of the lines so far are in the book, unless memory ran out.
pub record HasEntries (wall : ChineseWall) (ran_out : Bool) (book : List Entry) (entries : ℕ)
    (line : Word) (lines : List Word) (total : Result (List Entry) ReadFault) : Type 0 where
  pub prefix : List Entry
  pub kept : ran_out ≡ false → book ≡ prefix
  pub so_far : with_prefix prefix (entries_in wall entries (line ∷ lines)) ≡ total

pub begins : (wall : ChineseWall) (ran_out : Bool) (book : List Entry) (line : Word)
    (lines : List Word) → book ≡ [] →
    HasEntries wall ran_out book 0 line lines (entries_in wall 0 (line ∷ lines))
begins wall ran_out book line lines none =
    record { prefix = []; kept = λ _. none; so_far = with_none (entries_in wall 0 (line ∷ lines)) }

module _ (wall : ChineseWall) (was : Bool) (book : List Entry) (n : ℕ) (line next : Word)
    (before more : List Word) (total : Result (List Entry) ReadFault) (split : before ≡ next ∷ more)
    (so : HasEntries wall was book n line before total) where
  opened : with_prefix so.prefix (by_line n (line_at wall line)
      (entries_in wall (n + 1) (next ∷ more)) (ended_at (n + 3) (next ∷ more))) ≡ total
  unfolding entries_in
  opened =
      sym (ap (λ (ls : List Word). with_prefix so.prefix (entries_in wall n (line ∷ ls))) split)
      ∙ so.so_far

  pub reads_on : (is : Bool) (new : List Entry) →
      Ok true ≡ goes_on n (end_number (line_at wall line)) →
      (is ≡ false → Adds book new (line_at wall line)) → (is ≡ false → was ≡ false) →
      HasEntries wall is new (n + 1) next more total
  reads_on is new h adds stays =
      let others = entries_in wall (n + 1) (next ∷ more) in
      let ended = ended_at (n + 3) (next ∷ more) in
      let it = entry_in n (line_at wall line) (sym h) in record {
        prefix = so.prefix ++ it.0 ∷ [];
        kept = λ off. added book new so.prefix (line_at wall line) it.0 it.1 (adds off)
            (so.kept (stays off));
        so_far = sym (regroup so.prefix it.0 others)
            ∙ ap (λ said. with_prefix so.prefix (by_line n said others ended)) (sym it.1)
            ∙ opened;
      }

  pub stops : (f : ReadFault) → Err f ≡ goes_on n (end_number (line_at wall line)) →
      Err f ≡ text_told total
  stops f h = ap text_told (sym (ap (with_prefix so.prefix)
      (bad n f (line_at wall line) (entries_in wall (n + 1) (next ∷ more))
      (ended_at (n + 3) (next ∷ more)) (sym h))) ∙ opened)

  module _ (h : Ok false ≡ goes_on n (end_number (line_at wall line)))
      (r : Result (Unit {0}) ReadFault)
      (end : r ≡ text_told (ended_at (n + 3) (next ∷ more))) where
    ends : with_prefix so.prefix (ended_at (n + 3) (next ∷ more)) ≡ total
    ends = sym (ap (with_prefix so.prefix) (by_end n (line_at wall line)
        (entries_in wall (n + 1) (next ∷ more)) (ended_at (n + 3) (next ∷ more)) (sym h)))
        ∙ opened

    pub end_told : r ≡ text_told total
    end_told = end ∙ sym (prefix_told so.prefix (ended_at (n + 3) (next ∷ more)))
        ∙ ap text_told ends

    end_found : Ok tt ≡ r → total ≡ Ok so.prefix
    end_found k = sym ends
        ∙ ap (with_prefix so.prefix) (ended_none (n + 3) (next ∷ more) (k ∙ end))
        ∙ ap Ok (append-nil so.prefix)

    pub end_kept : (is : Bool) (new : List Entry) →
        (is ≡ false → Adds book new (line_at wall line)) → (is ≡ false → was ≡ false) →
        is ≡ false → OnOk r (total ≡ Ok new)
    end_kept is new adds stays off = on_ok r (λ k. end_found k ∙ ap Ok (sym (same_still n book new
        (line_at wall line) (sym h) (adds off) ∙ so.kept (stays off))))

pub cut : (wall : ChineseWall) (ran_out : Bool) (book : List Entry) (n : ℕ) (line : Word)
    (lines : List Word) (total : Result (List Entry) ReadFault) → lines ≡ [] →
    HasEntries wall ran_out book n line lines total → Err Cut ≡ text_told total
unfolding entries_in
cut wall ran_out book n line lines total none so = ap text_told (sym (ap (λ (ls : List Word).
    with_prefix so.prefix (entries_in wall n (line ∷ ls))) none) ∙ so.so_far)

-- ---- a text

fault_told : (f : ReadFault) (said : Result (List Entry) ReadFault) → Err f ≡ text_told said →
    said ≡ Err f
fault_told f (Ok es) h = absurd cc
fault_told f (Err g) h = ap Err (let k : g ≡ f = cc in k)

pub fault_said : {X : Type 0} (view : X → List Entry) (f : ReadFault)
    (said : Result (List Entry) ReadFault) → Err f ≡ text_told said → IsSaid view (Err f) said
fault_said view (BadLine n) said h = fault_told (BadLine n) said h
fault_said view Cut said h = fault_told Cut said h
fault_said view NoMemory said h = tt

pub book_told : (said : Result (List Entry) ReadFault) → Ok tt ≡ text_told said → IsOk said
book_told (Ok es) h = refl
book_told (Err g) h = absurd cc

-- a text has at most one line more than bytes
pub parts_few : (text : List ℕ) → length (slice_split (λ b. b == 10) text) ≤ length text + 1
parts_few text = let n = length-slice_split (λ b. b == 10) text in
    omega (arith, n, count_by-le-length (λ (b : ℕ). b == 10) text)
