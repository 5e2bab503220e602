-- Where a text is no book.
use Rattle.std.proofs.Common.{◌≡◌, ◌≢◌, ◌⊎◌, inl, inr, ℕ, suc, ◌+◌, ◌<◌, eqb, Bool, true, false}
use Rattle.std.proofs.Common.{cond, List, [], ◌∷◌, ◌++◌, length, Result, Ok, Err, refl, sym}
use Rattle.std.proofs.Common.{ap, subst, ◌∙◌, append_assoc, arith, eq-eqb}
use Rattle.std.specs.List.{AllByRecursion, join_with_byte, onto_first}
use Rattle.std.specs.Str.{bytes_eq}
use Rattle.std.proofs.lemmas.Bool.{eqb-true, ne_eqb, cond-true}
use Rattle.std.proofs.lemmas.List.{append-nil, length-append}
use Rattle.std.proofs.lemmas.List.Elements.{All-nil, All-cons}
use Rattle.std.proofs.lemmas.List.Splits.{slice_split_none, slice_split_at}
use Rattle.std.proofs.lemmas.List.Splits.{join_with_byte-slice_split}
use Rattle.std.proofs.lemmas.Slice.Eq.{bytes_eq-Decides}
use Rattle.wall_policy.specs.Policy.{ChineseWall}
use Rattle.run_model.specs.declared.entry.Entry.{Entry}
use Rattle.coll_text.specs.declared.fault.LineFault.{LineFault}
use Rattle.coll_text.specs.Numbers.{Word}
use Rattle.coll_text.specs.Reading.{parts}
use Rattle.audit_book.specs.declared.fault.ReadFault.{ReadFault}
use Rattle.audit_book.specs.declared.fault.ReadFault.TheVariants.{BadLine, Cut}
use Rattle.audit_book.specs.declared.line.Line.{Line}
use Rattle.audit_book.specs.declared.line.Line.TheVariants.{Said, End}
use Rattle.audit_book.specs.Lines.{line_at}
use Rattle.audit_book.specs.Reading.{with_prefix, by_line, ended_at, entries_in, lines_in, book_in}
use Rattle.audit_book.specs.Faults.{IsLine, IsEntryLine, text_of, IsCut, IsBadAt}
use Rattle.audit_book.specs.Text.{header_line}
use Rattle.audit_book.proofs.AgainLemmas.{line_lacks, header_whole}
use Rattle.audit_book.proofs.BookLemmas.{ended_lines}
use Rattle.audit_book.proofs.TextAgainLemmas.{step_again, some_behind}

abbrev pub AreLines : List Word → Type 0
AreLines ls = AllByRecursion IsLine ls

-- ---- the parts of a text

onto_lines : (b : ℕ) (ls : List Word) → eqb b 10 ≡ false → AreLines ls → AreLines (onto_first b ls)
onto_lines b [] e h =
    (All-cons (λ b. eqb b 10 ≡ false) b [] e (All-nil (λ b. eqb b 10 ≡ false)), tt)
onto_lines b (l ∷ ls) e h = (All-cons (λ b. eqb b 10 ≡ false) b l e h.0, h.1)

parts_step : (b : ℕ) (ls : List Word) (t : Bool) → eqb b 10 ≡ t → AreLines ls →
    AreLines (cond t ([] ∷ ls) (onto_first b ls))
parts_step b ls true e h = (All-nil (λ b. eqb b 10 ≡ false), h)
parts_step b ls false e h = onto_lines b ls e h

pub parts_lines : (text : List ℕ) → AreLines (parts 10 text)
parts_lines [] = (All-nil (λ b. eqb b 10 ≡ false), tt)
parts_lines (b ∷ bs) = parts_step b (parts 10 bs) (eqb b 10) refl (parts_lines bs)

-- the first of a list and the others
abbrev pub Parted : List Word → Type 0
Parted ls = (next : Word) × (more : List Word) × (ls ≡ next ∷ more)

some_onto : (b : ℕ) (ls : List Word) → Parted (onto_first b ls)
some_onto b [] = (b ∷ [], [], refl)
some_onto b (l ∷ ls) = (b ∷ l, ls, refl)

some_step : (b : ℕ) (ls : List Word) (t : Bool) → Parted (cond t ([] ∷ ls) (onto_first b ls))
some_step b ls true = ([], ls, refl)
some_step b ls false = some_onto b ls

pub some_parts : (text : List ℕ) → Parted (parts 10 text)
some_parts [] = ([], [], refl)
some_parts (b ∷ bs) = some_step b (parts 10 bs) (eqb b 10)

pub parts_more : (ls : List Word) → AreLines ls → (rest : List ℕ) →
    parts 10 (ended_lines ls ++ rest) ≡ ls ++ parts 10 rest
parts_more [] h rest = refl
parts_more (l ∷ ls) h rest =
    ap (parts 10) (append_assoc (l ++ (10 ∷ [])) (ended_lines ls) rest
    ∙ append_assoc l (10 ∷ []) (ended_lines ls ++ rest))
    ∙ slice_split_at (λ b. eqb b 10) l 10 (ended_lines ls ++ rest) h.0 refl
    ∙ ap (λ ws. l ∷ ws) (parts_more ls h.1 rest)

join_more : (prefix : List Word) (w : Word) (ws : List Word) →
    join_with_byte 10 (prefix ++ (w ∷ ws)) ≡ ended_lines prefix ++ join_with_byte 10 (w ∷ ws)
join_more [] w ws = refl
join_more (l ∷ []) w ws = sym (ap (λ t. t ++ join_with_byte 10 (w ∷ ws))
    (append-nil (l ++ (10 ∷ []))) ∙ append_assoc l (10 ∷ []) (join_with_byte 10 (w ∷ ws)))
join_more (l ∷ m ∷ prefix) w ws =
    ap (λ t. l ++ (10 ∷ t)) (join_more (m ∷ prefix) w ws)
    ∙ sym (append_assoc (l ++ (10 ∷ [])) (ended_lines (m ∷ prefix)) (join_with_byte 10 (w ∷ ws))
    ∙ append_assoc l (10 ∷ []) (ended_lines (m ∷ prefix) ++ join_with_byte 10 (w ∷ ws)))

-- ---- cut

abbrev said : Result (List Entry) ReadFault → Result (List Entry) ReadFault
said r = r

prefix_fault : (e : Entry) (r : Result (List Entry) ReadFault) (f : ReadFault) →
    with_prefix (e ∷ []) r ≡ Err f → r ≡ Err f
prefix_fault e (Ok es) f h = absurd cc
prefix_fault e (Err d) f h = h

rest_cut : (t : Bool) (n : ℕ) → said (cond t (Ok []) (Err (BadLine n))) ≡ Err Cut → ⊥
rest_cut true n h = cc
rest_cut false n h = cc

ended_no_cut : (n : ℕ) (next : Word) (more : List Word) → ended_at n (next ∷ more) ≡ Err Cut → ⊥
ended_no_cut n next [] h = rest_cut (eqb (length next) 0) n h
ended_no_cut n next (m ∷ ms) h = cc

end_no_cut : (t : Bool) (k n : ℕ) (next : Word) (more : List Word) →
    cond t (ended_at n (next ∷ more)) (Err (BadLine k)) ≡ Err Cut → ⊥
end_no_cut true k n next more h = ended_no_cut n next more h
end_no_cut false k n next more h = cc

module _ (wall : ChineseWall) where
  -- lines of entries, and one that is not finished
  record CutRest (ls : List Word) : Type 0 where
    prefix : List Word
    last : Word
    entries : AllByRecursion (IsEntryLine wall) prefix
    unfinished : IsLine last
    split : ls ≡ prefix ++ (last ∷ [])

  cut_step : (k : ℕ) (line next : Word) (more : List Word) (r : Result Line LineFault) →
      line_at wall line ≡ r → IsLine line
      → (entries_in wall (k + 1) (next ∷ more) ≡ Err Cut → CutRest (next ∷ more))
      →
      by_line k r (entries_in wall (k + 1) (next ∷ more)) (ended_at (k + 3) (next ∷ more))
      ≡ Err Cut → CutRest (line ∷ next ∷ more)
  cut_step k line next more (Ok (Said e)) is l behind h =
      let c = behind (prefix_fault e (entries_in wall (k + 1) (next ∷ more)) Cut h) in
      record {
        prefix = line ∷ c.prefix;
        last = c.last;
        entries = ((l, (e, is)), c.entries);
        unfinished = c.unfinished;
        split = ap (λ ws. line ∷ ws) c.split;
      }
  cut_step k line next more (Ok (End n)) is l behind h =
      absurd (end_no_cut (eqb n k) (k + 2) (k + 3) next more h)
  cut_step k line next more (Err f) is l behind h = absurd cc

  cut_rest : (k : ℕ) (line : Word) (more : List Word) → AreLines (line ∷ more) →
      entries_in wall k (line ∷ more) ≡ Err Cut → CutRest (line ∷ more)
  unfolding entries_in
  cut_rest k line [] ls h =
      record { prefix = []; last = line; entries = tt; unfinished = ls.0; split = refl }
  cut_rest k line (next ∷ more) ls h =
      cut_step k line next more (line_at wall line) refl ls.0 (cut_rest (k + 1) next more ls.1) h

  abbrev CutLines : List Word → Type 0
  CutLines ls = IsCut wall (join_with_byte 10 ls)

  cut_header : (line next : Word) (more : List Word) (t : Bool) →
      bytes_eq line (header_line wall.version) ≡ t → AreLines (next ∷ more)
      → cond t (entries_in wall 0 (next ∷ more)) (Err (BadLine 1)) ≡ Err Cut →
      CutLines (line ∷ next ∷ more)
  cut_header line next more true e ls h =
      let c = cut_rest 0 next more ls h in
      let header : line ≡ header_line wall.version =
      (bytes_eq-Decides line (header_line wall.version)).0 e in
      inr (record {
        lines = c.prefix;
        last = c.last;
        entries = c.entries;
        unfinished = c.unfinished;
        whole = (λ i. header i ++ (10 ∷ join_with_byte 10 (c.split i)))
            ∙ ap (λ t. header_line wall.version ++ (10 ∷ t)) (join_more c.prefix c.last []);
      })
  cut_header line next more false e ls h = absurd cc

  cut_lines : (ls : List Word) → AreLines ls → lines_in wall ls ≡ Err Cut → CutLines ls
  cut_lines [] a h = inl (All-nil (λ b. eqb b 10 ≡ false))
  cut_lines (line ∷ []) a h = inl a.0
  cut_lines (line ∷ next ∷ more) a h =
      cut_header line next more (bytes_eq line (header_line wall.version)) refl a.1 h

  pub cut_found : (text : List ℕ) → book_in wall text ≡ Err Cut → IsCut wall text
  unfolding book_in
  cut_found text h = subst (IsCut wall) (join_with_byte-slice_split 10 text)
      (cut_lines (parts 10 text) (parts_lines text) h)

  lines_of : (ls : List Word) → AllByRecursion (IsEntryLine wall) ls → AreLines ls
  lines_of [] h = tt
  lines_of (l ∷ ls) h = (h.0.0, lines_of ls h.1)

  entries_cut : (k : ℕ) (ls : List Word) (last : Word) → AllByRecursion (IsEntryLine wall) ls →
      entries_in wall k (ls ++ (last ∷ [])) ≡ Err Cut
  unfolding entries_in
  entries_cut k [] last h = refl
  entries_cut k (l ∷ ls) last h = step_again wall k l (ls ++ (last ∷ [])) h.0.1.0
      (some_behind ls last) h.0.1.1
      ∙ ap (with_prefix (h.0.1.0 ∷ [])) (entries_cut (k + 1) ls last h.1)

  header_in : (ls : List Word) → 0 < length ls →
      lines_in wall (header_line wall.version ∷ ls) ≡ entries_in wall 0 ls
  header_in [] some = absurd (omega arith)
  header_in (next ∷ more) some = cond-true
      (bytes_eq (header_line wall.version) (header_line wall.version))
      (entries_in wall 0 (next ∷ more)) (Err (BadLine 1))
      ((bytes_eq-Decides (header_line wall.version) (header_line wall.version)).1 refl)

  -- the parts of a text are its header and those of what is behind it
  header_first : (rest : List ℕ) →
      parts 10 (header_line wall.version ++ (10 ∷ rest)) ≡ header_line wall.version ∷ parts 10 rest
  header_first rest = slice_split_at (λ b. eqb b 10) (header_line wall.version) 10 rest
      (line_lacks (header_line wall.version) (header_whole wall.version)) refl

  pub cut_so : (text : List ℕ) → IsCut wall text → book_in wall text ≡ Err Cut
  unfolding book_in
  cut_so text (inl h) = ap (lines_in wall) (slice_split_none (λ b. eqb b 10) text h)
  cut_so text (inr c) =
      ap (λ (t : List ℕ). lines_in wall (parts 10 t)) c.whole
      ∙ ap (lines_in wall) (header_first (ended_lines c.lines ++ c.last))
      ∙ ap (λ (ls : List Word). lines_in wall (header_line wall.version ∷ ls))
      (parts_more c.lines (lines_of c.lines c.entries) c.last
      ∙ ap (λ (ls : List Word). c.lines ++ ls)
      (slice_split_none (λ b. eqb b 10) c.last c.unfinished))
      ∙ header_in (c.lines ++ (c.last ∷ [])) (some_behind c.lines c.last)
      ∙ entries_cut 0 c.lines c.last c.entries

-- ---- bad lines

abbrev fault : ℕ → Result (List Entry) ReadFault
fault n = Err (BadLine n)

same_line : (m n : ℕ) → fault m ≡ fault n → n ≡ m
same_line m n h = cc

pub no_bad_cut : (n : ℕ) → said (Err Cut) ≡ Err (BadLine n) → ⊥
no_bad_cut n h = cc

last_bad : (m n : ℕ) (next : Word) (t : Bool) → eqb (length next) 0 ≡ t →
    said (cond t (Ok []) (Err (BadLine m))) ≡ Err (BadLine n) → (n ≡ m) × (0 < length next)
last_bad m n next true e h = absurd cc
last_bad m n [] false e h = absurd cc
last_bad m n (b ∷ bs) false e h = (same_line m n h, omega arith)

longer_join : (w v : Word) (ws : List Word) → 0 < length (join_with_byte 10 (w ∷ v ∷ ws))
longer_join w v ws = let l = length-append w (10 ∷ join_with_byte 10 (v ∷ ws)) in omega (arith, l)

ended_bad : (m n : ℕ) (next : Word) (more : List Word) →
    ended_at m (next ∷ more) ≡ Err (BadLine n) →
    (n ≡ m) × (0 < length (join_with_byte 10 (next ∷ more)))
ended_bad m n next [] h = last_bad m n next (eqb (length next) 0) refl h
ended_bad m n next (v ∷ ws) h = (same_line m n h, longer_join next v ws)

module _ (wall : ChineseWall) where
  abbrev IsOffending : ℕ → Word → Type 0
  IsOffending entries line = ((entry : Entry) → line_at wall line ≢ Ok (Said entry))
      × (line_at wall line ≢ Ok (End entries))

  -- why the line of number n is bad: this one, behind so many entries, or what is behind it
  abbrev IsWrong : (entries n : ℕ) → (line next : Word) → (more : List Word) → Type 0
  IsWrong entries n line next more =
      (IsOffending entries line × (n ≡ entries + 2))
      ⊎ ((line_at wall line ≡ Ok (End entries)) × (n ≡ entries + 3)
      × (0 < length (join_with_byte 10 (next ∷ more))))

  record BadRest (k n : ℕ) (ls : List Word) : Type 0 where
    prefix : List Word
    line : Word
    next : Word
    more : List Word
    count : ℕ
    entries : AllByRecursion (IsEntryLine wall) prefix
    finished : IsLine line
    split : ls ≡ prefix ++ (line ∷ next ∷ more)
    sum : count ≡ k + length prefix
    why : IsWrong count n line next more

  -- the first line is bad
  at_once : (k n : ℕ) (line next : Word) (more : List Word) → IsLine line →
      IsWrong k n line next more → BadRest k n (line ∷ next ∷ more)
  at_once k n line next more l w = record {
    prefix = [];
    line = line;
    next = next;
    more = more;
    count = k;
    entries = tt;
    finished = l;
    split = refl;
    sum = omega arith;
    why = w;
  }

  end_offends : (k m : ℕ) (line : Word) → line_at wall line ≡ Ok (End m) → eqb m k ≡ false →
      IsOffending k line
  end_offends k m line is e = (
    (λ entry q. absurd cc),
    λ q. let same : m ≡ k = cc in let t : eqb m k ≡ true = eq-eqb m k same in absurd cc,
  )

  fault_offends : (k : ℕ) (f : LineFault) (line : Word) → line_at wall line ≡ Err f →
      IsOffending k line
  fault_offends k f line is = ((λ entry q. absurd cc), λ q. absurd cc)

  bad_end : (k n m : ℕ) (line next : Word) (more : List Word) (t : Bool) → eqb m k ≡ t →
      line_at wall line ≡ Ok (End m) → IsLine line
      → cond t (ended_at (k + 3) (next ∷ more)) (Err (BadLine (k + 2))) ≡ Err (BadLine n) →
      BadRest k n (line ∷ next ∷ more)
  bad_end k n m line next more true e is l h =
      let same : m ≡ k = eqb-true m k e in
      let b = ended_bad (k + 3) n next more h in
      at_once k n line next more l
      (inr (subst (λ (j : ℕ). line_at wall line ≡ Ok (End j)) same is, b.0, b.1))
  bad_end k n m line next more false e is l h =
      at_once k n line next more l (inl (end_offends k m line is e, same_line (k + 2) n h))

  bad_step : (k n : ℕ) (line next : Word) (more : List Word) (r : Result Line LineFault) →
      line_at wall line ≡ r → IsLine line
      → (entries_in wall (k + 1) (next ∷ more) ≡ Err (BadLine n) → BadRest (k + 1) n (next ∷ more))
      →
      by_line k r (entries_in wall (k + 1) (next ∷ more)) (ended_at (k + 3) (next ∷ more))
      ≡ Err (BadLine n) → BadRest k n (line ∷ next ∷ more)
  bad_step k n line next more (Ok (Said e)) is l behind h =
      let b = behind (prefix_fault e (entries_in wall (k + 1) (next ∷ more)) (BadLine n) h) in
      let sum : b.count ≡ k + 1 + length b.prefix = b.sum in
      record {
        prefix = line ∷ b.prefix;
        line = b.line;
        next = b.next;
        more = b.more;
        count = b.count;
        entries = ((l, (e, is)), b.entries);
        finished = b.finished;
        split = ap (λ ws. line ∷ ws) b.split;
        sum = omega (arith, sum);
        why = b.why;
      }
  bad_step k n line next more (Ok (End m)) is l behind h =
      bad_end k n m line next more (eqb m k) refl is l h
  bad_step k n line next more (Err f) is l behind h =
      at_once k n line next more l (inl (fault_offends k f line is, same_line (k + 2) n h))

  bad_rest : (k n : ℕ) (line : Word) (more : List Word) → AreLines (line ∷ more) →
      entries_in wall k (line ∷ more) ≡ Err (BadLine n) → BadRest k n (line ∷ more)
  unfolding entries_in
  bad_rest k n line [] ls h = absurd (no_bad_cut n h)
  bad_rest k n line (next ∷ more) ls h = bad_step k n line next more (line_at wall line) refl ls.0
      (bad_rest (k + 1) n next more ls.1) h

  bad_text : (n : ℕ) (text : List ℕ) (prefix : List Word) (line next : Word) (more : List Word) →
      AllByRecursion (IsEntryLine wall) prefix → IsLine line
      → text ≡ text_of wall prefix (line ++ (10 ∷ join_with_byte 10 (next ∷ more))) →
      IsWrong (length prefix) n line next more → IsBadAt wall text n
  bad_text n text prefix line next more entries l whole (inl w) =
      inr (inl (record {
        lines = prefix;
        line = line;
        rest = join_with_byte 10 (next ∷ more);
        entries = entries;
        finished = l;
        no_entry = w.0.0;
        no_end = w.0.1;
        whole = whole;
        place = w.1;
      }))
  bad_text n text prefix line next more entries l whole (inr w) =
      inr (inr (record {
        lines = prefix;
        line = line;
        rest = join_with_byte 10 (next ∷ more);
        entries = entries;
        finished = l;
        is_end = w.0;
        whole = whole;
        some = w.2;
        place = w.1;
      }))

  bad_header : (n : ℕ) (line next : Word) (more : List Word) (t : Bool) →
      bytes_eq line (header_line wall.version) ≡ t → AreLines (line ∷ next ∷ more)
      → cond t (entries_in wall 0 (next ∷ more)) (Err (BadLine 1)) ≡ Err (BadLine n) →
      IsBadAt wall (join_with_byte 10 (line ∷ next ∷ more)) n
  bad_header n line next more true e ls h =
      let b = bad_rest 0 n next more ls.1 h in
      let header : line ≡ header_line wall.version =
      (bytes_eq-Decides line (header_line wall.version)).0 e in
      let sum : b.count ≡ 0 + length b.prefix = b.sum in
      let count : b.count ≡ length b.prefix = omega (arith, sum) in
      bad_text n (join_with_byte 10 (line ∷ next ∷ more)) b.prefix b.line b.next b.more b.entries
      b.finished
      ((λ i. header i ++ (10 ∷ join_with_byte 10 (b.split i)))
      ∙ ap (λ t. header_line wall.version ++ (10 ∷ t))
      (join_more b.prefix b.line (b.next ∷ b.more)))
      (subst (λ (j : ℕ). IsWrong j n b.line b.next b.more) count b.why)
  bad_header n line next more false e ls h =
      inl (record {
        line = line;
        rest = join_with_byte 10 (next ∷ more);
        finished = ls.0;
        other = λ q. let t : bytes_eq line (header_line wall.version) ≡ true =
            (bytes_eq-Decides line (header_line wall.version)).1 q in
            absurd cc;
        whole = refl;
        place = same_line 1 n h;
      })

  bad_lines : (n : ℕ) (ls : List Word) → AreLines ls → lines_in wall ls ≡ Err (BadLine n) →
      IsBadAt wall (join_with_byte 10 ls) n
  bad_lines n [] a h = absurd (no_bad_cut n h)
  bad_lines n (line ∷ []) a h = absurd (no_bad_cut n h)
  bad_lines n (line ∷ next ∷ more) a h =
      bad_header n line next more (bytes_eq line (header_line wall.version)) refl a h

  pub bad_found : (text : List ℕ) (n : ℕ) → book_in wall text ≡ Err (BadLine n) →
      IsBadAt wall text n
  unfolding book_in
  bad_found text n h = subst (λ (t : List ℕ). IsBadAt wall t n) (join_with_byte-slice_split 10 text)
      (bad_lines n (parts 10 text) (parts_lines text) h)

  -- ---- and back

  not_header : (line : Word) (t : Bool) → bytes_eq line (header_line wall.version) ≡ t →
      line ≢ header_line wall.version → t ≡ false
  not_header line true e other =
      absurd (other ((bytes_eq-Decides line (header_line wall.version)).0 e))
  not_header line false e other = refl

  header_bad : (line : Word) (ls : List Word) → line ≢ header_line wall.version → Parted ls →
      lines_in wall (line ∷ ls) ≡ Err (BadLine 1)
  header_bad line ls other p = ap (λ (ls : List Word). lines_in wall (line ∷ ls)) p.2
      ∙ rw (not_header line (bytes_eq line (header_line wall.version)) refl other) refl

  entries_bad : (k : ℕ) (prefix ls : List Word) (f : ReadFault) →
      AllByRecursion (IsEntryLine wall) prefix → 0 < length ls →
      entries_in wall (k + length prefix) ls ≡ Err f → entries_in wall k (prefix ++ ls) ≡ Err f
  entries_bad k [] ls f h some e =
      let none : k ≡ k + 0 = omega arith in ap (λ (j : ℕ). entries_in wall j ls) none ∙ e
  entries_bad k (l ∷ prefix) ls f h some e =
      let sum : k + 1 + length prefix ≡ k + suc (length prefix) = omega arith in
      let all = length-append prefix ls in
      let behind : entries_in wall (k + 1) (prefix ++ ls) ≡ Err f = entries_bad (k + 1) prefix ls f
      h.1 some (ap (λ (j : ℕ). entries_in wall j ls) sum ∙ e) in
      step_again wall k l (prefix ++ ls) h.0.1.0 (omega (arith, all, some)) h.0.1.1
      ∙ ap (with_prefix (h.0.1.0 ∷ [])) behind

  not_end : (k m : ℕ) (line : Word) (t : Bool) → eqb m k ≡ t → line_at wall line ≡ Ok (End m) →
      line_at wall line ≢ Ok (End k) → t ≡ false
  not_end k m line true e is other =
      absurd (other (is ∙ ap (λ (j : ℕ). Ok (End j)) (eqb-true m k e)))
  not_end k m line false e is other = refl

  offending_bad : (k : ℕ) (line : Word) (others ended : Result (List Entry) ReadFault)
      (r : Result Line LineFault) → line_at wall line ≡ r → IsOffending k line →
      by_line k r others ended ≡ Err (BadLine (k + 2))
  offending_bad k line others ended (Ok (Said e)) is o = absurd (o.0 e is)
  offending_bad k line others ended (Ok (End m)) is o =
      rw (not_end k m line (eqb m k) refl is o.1) refl
  offending_bad k line others ended (Err f) is o = refl

  last_more : (n : ℕ) (next : Word) → 0 < length next → ended_at n (next ∷ []) ≡ Err (BadLine n)
  last_more n [] some = absurd (omega arith)
  last_more n (b ∷ bs) some = rw (ne_eqb (length (b ∷ bs)) 0 (λ e. absurd (omega (arith, e)))) refl

  ended_more : (n : ℕ) (next : Word) (more : List Word) →
      0 < length (join_with_byte 10 (next ∷ more)) → ended_at n (next ∷ more) ≡ Err (BadLine n)
  ended_more n next [] some = last_more n next some
  ended_more n next (v ∷ ws) some = refl

  wrong_bad : (k n : ℕ) (line next : Word) (more : List Word) → IsWrong k n line next more →
      entries_in wall k (line ∷ next ∷ more) ≡ Err (BadLine n)
  unfolding entries_in
  wrong_bad k n line next more (inl w) =
      offending_bad k line (entries_in wall (k + 1) (next ∷ more)) (ended_at (k + 3) (next ∷ more))
      (line_at wall line) refl w.0 ∙ ap (λ (j : ℕ). Err (BadLine j)) (sym w.1)
  wrong_bad k n line next more (inr w) =
      ap (λ (r : Result Line LineFault).
      by_line k r (entries_in wall (k + 1) (next ∷ more)) (ended_at (k + 3) (next ∷ more)))
      w.0
      ∙ rw (eq-eqb k k refl) (ended_more (k + 3) next more w.2)
      ∙ ap (λ (j : ℕ). Err (BadLine j)) (sym w.1)

  -- the parts of a text behind its header
  parts_behind : (prefix : List Word) (line : Word) (rest : List ℕ) →
      AllByRecursion (IsEntryLine wall) prefix → IsLine line
      →
      parts 10 (text_of wall prefix (line ++ (10 ∷ rest)))
      ≡ header_line wall.version ∷ (prefix ++ (line ∷ parts 10 rest))
  parts_behind prefix line rest entries l =
      header_first wall (ended_lines prefix ++ (line ++ (10 ∷ rest)))
      ∙ ap (λ (ls : List Word). header_line wall.version ∷ ls) (parts_more prefix
      (lines_of wall prefix entries) (line ++ (10 ∷ rest))
      ∙ ap (λ (ls : List Word). prefix ++ ls)
      (slice_split_at (λ b. eqb b 10) line 10 rest l refl))

  bad_behind : (n : ℕ) (text : List ℕ) (prefix : List Word) (line : Word) (rest : List ℕ) →
      AllByRecursion (IsEntryLine wall) prefix → IsLine line →
      text ≡ text_of wall prefix (line ++ (10 ∷ rest))
      → ((next : Word) (more : List Word) → join_with_byte 10 (next ∷ more) ≡ rest →
      IsWrong (length prefix) n line next more) → book_in wall text ≡ Err (BadLine n)
  unfolding book_in
  bad_behind n text prefix line rest entries l whole wrong =
      let p = some_parts rest in
      let ls = line ∷ p.0 ∷ p.1 in
      let joined : join_with_byte 10 (p.0 ∷ p.1) ≡ rest = ap (join_with_byte 10) (sym p.2) ∙
      join_with_byte-slice_split 10 rest in
      let none : 0 + length prefix ≡ length prefix = omega arith in
      let all = length-append prefix ls in
      ap (λ (t : List ℕ). lines_in wall (parts 10 t)) whole
      ∙ ap (lines_in wall) (parts_behind prefix line rest entries l
      ∙ ap (λ (ls : List Word). header_line wall.version ∷ (prefix ++ (line ∷ ls))) p.2)
      ∙ header_in wall (prefix ++ ls) (omega (arith, all))
      ∙ entries_bad 0 prefix ls (BadLine n) entries (omega arith) (ap
      (λ (j : ℕ). entries_in wall j ls) none
      ∙ wrong_bad (length prefix) n line p.0 p.1 (wrong p.0 p.1 joined))

  pub bad_so : (text : List ℕ) (n : ℕ) → IsBadAt wall text n → book_in wall text ≡ Err (BadLine n)
  unfolding book_in
  bad_so text n (inl h) =
      ap (λ (t : List ℕ). lines_in wall (parts 10 t)) h.whole
      ∙ ap (lines_in wall) (slice_split_at (λ b. eqb b 10) h.line 10 h.rest h.finished refl)
      ∙ header_bad h.line (parts 10 h.rest) h.other (some_parts h.rest)
      ∙ ap (λ (j : ℕ). Err (BadLine j)) (sym h.place)
  bad_so text n (inr (inl h)) = bad_behind n text h.lines h.line h.rest h.entries h.finished h.whole
      (λ next more e. inl ((h.no_entry, h.no_end), h.place))
  bad_so text n (inr (inr h)) =
      bad_behind n text h.lines h.line h.rest h.entries h.finished h.whole
      (λ next more e.
      inr (h.is_end, h.place, subst (λ (t : List ℕ). 0 < length t) (sym e) h.some))
