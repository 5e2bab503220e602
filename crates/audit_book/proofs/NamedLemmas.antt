-- What is read names processes and datasets of the policy.
use Rattle.std.proofs.Common.{◌≡◌, ℕ, suc, ◌+◌, ◌<◌, Bool, true, false, cond, eqb, ltb, length}
use Rattle.std.proofs.Common.{List, [], ◌∷◌, All, Option, Some, None, option_map, Result, Ok, Err}
use Rattle.std.proofs.Common.{codes, refl, sym, subst, arith}
use Rattle.std.specs.List.{position_from}
use Rattle.std.specs.Str.{bytes_eq}
use Rattle.std.proofs.lemmas.Bool.{ltb-true}
use Rattle.std.proofs.lemmas.List.Elements.{All-nil, All-cons}
use Rattle.wall_labels.specs.declared.label.Label.{Label}
use Rattle.wall_labels.specs.declared.label.Label.TheVariants.{Public, Of}
use Rattle.wall_policy.specs.Names.{place_of}
use Rattle.wall_policy.specs.Policy.{ChineseWall}
use Rattle.run_model.specs.declared.outcome.Outcome.{Outcome}
use Rattle.run_model.specs.declared.outcome.Outcome.TheVariants.{Granted, Denied, Made, NoRoom}
use Rattle.run_model.specs.declared.entry.Entry.{Entry}
use Rattle.run_model.specs.declared.entry.Entry.TheVariants.{Posted, Settled}
use Rattle.coll_text.specs.declared.fault.LineFault.{LineFault}
use Rattle.coll_text.specs.declared.fault.LineFault.TheVariants.{BadVerb, BadShape, BadField}
use Rattle.coll_text.specs.declared.fault.LineFault.TheVariants.{BadLabel}
use Rattle.coll_text.specs.Numbers.{Word}
use Rattle.coll_text.specs.Reading.{◌>>=◌, some_or, parts, word_at, number_at, ended}
use Rattle.coll_text.specs.Fields.{statement_at}
use Rattle.coll_text.proofs.CollTextLemmas.{bind_ok, some_ok, ok_is}
use Rattle.audit_book.specs.declared.line.Line.{Line}
use Rattle.audit_book.specs.declared.line.Line.TheVariants.{Said, End}
use Rattle.audit_book.specs.declared.words.Verb.{Verb}
use Rattle.audit_book.specs.declared.words.Verb.TheVariants as verbs
use Rattle.audit_book.specs.declared.words.OutcomeWord.{OutcomeWord}
use Rattle.audit_book.specs.declared.words.OutcomeWord.TheVariants as came
use Rattle.audit_book.specs.declared.words.Given.{Given}
use Rattle.coll_text.specs.Words.{label_of}
use Rattle.audit_book.specs.Lines.{past_word, known_process, process_at, named_at, label_at}
use Rattle.audit_book.specs.Lines.{given_label, barred_at, rule_at, given_at, post_at, came_of}
use Rattle.audit_book.specs.Lines.{denied_at, made_at, came_to, outcome_at, verdict_at, end_at}
use Rattle.audit_book.specs.Lines.{verb_of, line_behind, line_in, line_at}
use Rattle.audit_book.specs.Text.{header_line}
use Rattle.audit_book.specs.Reading.{by_line, ended_at, entries_in, lines_in, book_in}
use Rattle.run_model.specs.Known.{IsKnownProcess, IsKnownIfAny, IsKnownOutcome, IsKnownEntry}
use Rattle.run_model.specs.Known.{IsKnownLabel}
use Rattle.audit_book.proofs.FoundLemmas.{end_is}
use Rattle.audit_book.proofs.BookLemmas.{more_found, end_step, ended_found, header_step}

-- ---- names

below_step : (w n : Word) (ns : List Word) (k p : ℕ) (t : Bool) →
    (position_from (bytes_eq w) (k + 1) ns ≡ Some p → p < k + 1 + length ns)
    → cond t (Some k) (position_from (bytes_eq w) (k + 1) ns) ≡ Some p → p < k + suc (length ns)
below_step w n ns k p true more h = let same : k ≡ p = cc in omega (arith, same)
below_step w n ns k p false more h = let r = more h in omega (arith, r)

below_from : (w : Word) (ns : List Word) (k p : ℕ) → position_from (bytes_eq w) k ns ≡ Some p →
    p < k + length ns
below_from w [] k p h = absurd cc
below_from w (n ∷ ns) k p h = below_step w n ns k p (bytes_eq w n) (below_from w ns (k + 1) p) h

place_below : (w : Word) (ns : List Word) (p : ℕ) → place_of w ns ≡ Some p → p < length ns
place_below w ns p h = let r = below_from w ns 0 p h in omega (arith, r)

module _ (wall : ChineseWall) where
  known_below : (n p : ℕ) (t : Bool) → ltb n (length wall.process_names) ≡ t →
      cond t (Ok n) (Err BadField) ≡ Ok p → IsKnownProcess wall p
  known_below n p true e h =
      subst (IsKnownProcess wall) (ok_is n p h) (ltb-true n (length wall.process_names) e)
  known_below n p false e h = absurd cc

  process_known : (ws : List Word) (x : ℕ × List Word) → process_at wall ws ≡ Ok x →
      IsKnownProcess wall x.0
  process_known ws x h =
      let a = bind_ok (number_at 4294967295 ws) (λ n. known_process wall n.0 >>= λ p. Ok (p, n.1)) x
      h in
      let b = bind_ok (known_process wall a.0.0) (λ p. Ok (p, a.0.1)) x a.2 in
      let k : (b.0, a.0.1) ≡ x = ok_is (b.0, a.0.1) x b.2 in
      subst (λ (p : ℕ × List Word). IsKnownProcess wall p.0) k
      (known_below a.0.0 b.0 (ltb a.0.0 (length wall.process_names)) refl b.1)

  named_known : (ws : List Word) (x : ℕ × List Word) → named_at wall ws ≡ Ok x →
      IsKnownProcess wall x.0
  named_known ws x h =
      let a = bind_ok (word_at ws)
      (λ w. some_or BadField (place_of w.0 wall.process_names) >>= λ p. Ok (p, w.1)) x h in
      let b = bind_ok (some_or BadField (place_of a.0.0 wall.process_names)) (λ p. Ok (p, a.0.1)) x
      a.2 in
      let k : (b.0, a.0.1) ≡ x = ok_is (b.0, a.0.1) x b.2 in
      subst (λ (p : ℕ × List Word). IsKnownProcess wall p.0) k (place_below a.0.0 wall.process_names
      b.0 (some_ok BadField (place_of a.0.0 wall.process_names) b.0 b.1))

  dataset_known : (w : Word) (l : Label) (r : Option ℕ) → place_of w wall.dataset_names ≡ r →
      some_or BadLabel (option_map Of r) ≡ Ok l → IsKnownLabel wall l
  dataset_known w l None e h = absurd cc
  dataset_known w l (Some d) e h =
      subst (IsKnownLabel wall) (ok_is (Of d) l h) (place_below w wall.dataset_names d e)

  label_step : (w : Word) (l : Label) (t : Bool) →
      cond t (Ok Public) (some_or BadLabel (option_map Of (place_of w wall.dataset_names))) ≡ Ok l →
      IsKnownLabel wall l
  label_step w l true h = subst (IsKnownLabel wall) (ok_is Public l h) tt
  label_step w l false h = dataset_known w l (place_of w wall.dataset_names) refl h

  label_known : (w : Word) (l : Label) → label_of wall.dataset_names w ≡ Ok l → IsKnownLabel wall l
  unfolding label_of
  label_known w l h = label_step w l (bytes_eq w (codes "public")) h

  label_at_known : (ws : List Word) (x : Label × List Word) → label_at wall ws ≡ Ok x →
      IsKnownLabel wall x.0
  label_at_known ws x h =
      let a = bind_ok (word_at ws) (λ w. label_of wall.dataset_names w.0 >>= λ l. Ok (l, w.1)) x h
      in
      let b = bind_ok (label_of wall.dataset_names a.0.0) (λ l. Ok (l, a.0.1)) x a.2 in
      let k : (b.0, a.0.1) ≡ x = ok_is (b.0, a.0.1) x b.2 in
      subst (λ (p : Label × List Word). IsKnownLabel wall p.0) k (label_known a.0.0 b.0 b.1)

  -- ---- posts

  given_step : (ws : List Word) (x : Option Label × List Word) (t : Bool)
      →
      cond t (past_word (codes "none") ws >>= λ w. Ok (None, w.1))
      (label_at wall ws >>= λ label. Ok (Some label.0, label.1)) ≡ Ok x →
      IsKnownIfAny wall x.0
  given_step ws x true h =
      let a = bind_ok (past_word (codes "none") ws) (λ w. Ok (None, w.1)) x h in
      let k : (None, a.0.1) ≡ x = ok_is (None, a.0.1) x a.2 in
      subst (λ (p : Option Label × List Word). IsKnownIfAny wall p.0) k tt
  given_step ws x false h =
      let a = bind_ok (label_at wall ws) (λ label. Ok (Some label.0, label.1)) x h in
      let k : (Some a.0.0, a.0.1) ≡ x = ok_is (Some a.0.0, a.0.1) x a.2 in
      subst (λ (p : Option Label × List Word). IsKnownIfAny wall p.0) k (label_at_known ws a.0 a.1)

  given_label_known : (given : ℕ) (ws : List Word) (x : Option Label × List Word) →
      given_label wall given ws ≡ Ok x → IsKnownIfAny wall x.0
  unfolding given_label
  given_label_known given ws x h = given_step ws x (eqb given 0) h

  given_known : (ws : List Word) (x : Given × List Word) → given_at wall ws ≡ Ok x →
      IsKnownIfAny wall x.0.label
  unfolding given_at
  given_known ws x h =
      let a = bind_ok (past_word (codes "gives") ws) (λ a. number_at 4294967295 a.1
      >>= λ n. past_word (codes "as") n.1
      >>= λ b. given_label wall n.0 b.1
      >>= λ label. barred_at label.1
      >>= λ barred. Ok (
        record {
          given = n.0;
          label = label.0;
          barred = barred.0;
        },
        barred.1,
      )) x h in
      let n = bind_ok (number_at 4294967295 a.0.1) (λ n. past_word (codes "as") n.1
      >>= λ b. given_label wall n.0 b.1
      >>= λ label. barred_at label.1
      >>= λ barred. Ok (
        record
            { given = n.0; label = label.0; barred = barred.0 },
        barred.1,
      )) x a.2 in
      let b = bind_ok (past_word (codes "as") n.0.1) (λ b. given_label wall n.0.0 b.1
      >>= λ label. barred_at label.1
      >>= λ barred. Ok (
        record
            { given = n.0.0; label = label.0; barred = barred.0 },
        barred.1,
      )) x n.2 in
      let l = bind_ok (given_label wall n.0.0 b.0.1) (λ label.
      barred_at label.1
      >>= λ barred.
      Ok (record { given = n.0.0; label = label.0; barred = barred.0 }, barred.1)) x
      b.2 in
      let p = bind_ok (barred_at l.0.1)
      (λ barred. Ok (record { given = n.0.0; label = l.0.0; barred = barred.0 }, barred.1)) x
      l.2 in
      let made : Given = record { given = n.0.0; label = l.0.0; barred = p.0.0 } in
      let k : (made, p.0.1) ≡ x = ok_is (made, p.0.1) x p.2 in
      subst (λ (x : Given × List Word). IsKnownIfAny wall x.0.label) k
      (given_label_known n.0.0 b.0.1 l.0 l.1)

  post_known : (ws : List Word) (e : Entry) → post_at wall ws ≡ Ok e → IsKnownEntry wall e
  unfolding post_at
  post_known ws e h =
      let p = bind_ok (process_at wall ws) (λ p. number_at 4294967295 p.1
      >>= λ c. statement_at c.1
      >>= λ s. given_at wall s.1
      >>= λ g. ended g.1 (Posted p.0 c.0 (record {
        sig = s.0.0;
        own = s.0.1;
        given = g.0.given;
        label = g.0.label;
        barred = g.0.barred;
      }))) e h in
      let c = bind_ok (number_at 4294967295 p.0.1) (λ c. statement_at c.1
      >>= λ s. given_at wall s.1
      >>= λ g. ended g.1 (Posted p.0.0 c.0 (record {
        sig = s.0.0;
        own = s.0.1;
        given = g.0.given;
        label = g.0.label;
        barred = g.0.barred;
      }))) e p.2 in
      let s = bind_ok (statement_at c.0.1) (λ s. given_at wall s.1
      >>= λ g. ended g.1 (Posted p.0.0 c.0.0 (record {
        sig = s.0.0;
        own = s.0.1;
        given = g.0.given;
        label = g.0.label;
        barred = g.0.barred;
      }))) e
      c.2 in
      let g = bind_ok (given_at wall s.0.1) (λ g. ended g.1 (Posted p.0.0 c.0.0
      (record {
        sig = s.0.0.0;
        own = s.0.0.1;
        given = g.0.given;
        label = g.0.label;
        barred = g.0.barred;
      }))) e s.2 in
      let last = end_is g.0.1 (Posted p.0.0 c.0.0 (record {
        sig = s.0.0.0;
        own = s.0.0.1;
        given = g.0.0.given;
        label = g.0.0.label;
        barred = g.0.0.barred;
      })) e g.2 in
      subst (IsKnownEntry wall) last.1 (process_known ws p.0 p.1, given_known s.0.1 g.0 g.1)

  -- ---- verdicts

  denied_known : (ws : List Word) (x : Outcome × List Word) → denied_at wall ws ≡ Ok x →
      IsKnownOutcome wall x.0
  unfolding denied_at
  denied_known ws x h =
      let r = bind_ok (rule_at ws) (λ rule. named_at wall rule.1
      >>= λ p. label_at wall p.1 >>= λ label. Ok (Denied rule.0 p.0 label.0, label.1)) x h
      in
      let p = bind_ok (named_at wall r.0.1)
      (λ p. label_at wall p.1 >>= λ label. Ok (Denied r.0.0 p.0 label.0, label.1)) x r.2 in
      let l = bind_ok (label_at wall p.0.1) (λ label. Ok (Denied r.0.0 p.0.0 label.0, label.1)) x
      p.2 in
      let k : (Denied r.0.0 p.0.0 l.0.0, l.0.1) ≡ x = ok_is (Denied r.0.0 p.0.0 l.0.0, l.0.1) x l.2
      in
      subst (λ (x : Outcome × List Word). IsKnownOutcome wall x.0) k
      (named_known r.0.1 p.0 p.1, label_at_known p.0.1 l.0 l.1)

  made_known : (ws : List Word) (x : Outcome × List Word) → made_at ws ≡ Ok x →
      IsKnownOutcome wall x.0
  unfolding made_at
  made_known ws x h =
      let f = bind_ok (number_at 4294967295 ws)
      (λ first. number_at 4294967295 first.1 >>= λ number. Ok (Made first.0 number.0, number.1))
      x h in
      let n = bind_ok (number_at 4294967295 f.0.1) (λ number. Ok (Made f.0.0 number.0, number.1)) x
      f.2 in
      let k : (Made f.0.0 n.0.0, n.0.1) ≡ x = ok_is (Made f.0.0 n.0.0, n.0.1) x n.2 in
      subst (λ (x : Outcome × List Word). IsKnownOutcome wall x.0) k tt

  came_known : (c : OutcomeWord) (ws : List Word) (x : Outcome × List Word) →
      came_to wall c ws ≡ Ok x → IsKnownOutcome wall x.0
  came_known came.Granted ws x h =
      subst (λ (x : Outcome × List Word). IsKnownOutcome wall x.0) (ok_is (Granted, ws) x h) tt
  came_known came.Denied ws x h = denied_known ws x h
  came_known came.Made ws x h = made_known ws x h
  came_known came.NoRoom ws x h =
      subst (λ (x : Outcome × List Word). IsKnownOutcome wall x.0) (ok_is (NoRoom, ws) x h) tt

  outcome_known : (ws : List Word) (x : Outcome × List Word) → outcome_at wall ws ≡ Ok x →
      IsKnownOutcome wall x.0
  unfolding outcome_at
  outcome_known ws x h =
      let a = bind_ok (word_at ws) (λ w. some_or BadShape (came_of w.0) >>= λ c. came_to wall c w.1)
      x h in
      let c = bind_ok (some_or BadShape (came_of a.0.0)) (λ c. came_to wall c a.0.1) x a.2 in
      came_known c.0 a.0.1 x c.2

  verdict_known : (ws : List Word) (e : Entry) → verdict_at wall ws ≡ Ok e → IsKnownEntry wall e
  unfolding verdict_at
  verdict_known ws e h =
      let c = bind_ok (number_at 4294967295 ws) (λ c. number_at 18446744073709551615 c.1
      >>= λ k. outcome_at wall k.1 >>= λ o. ended o.1 (Settled c.0 k.0 o.0)) e h in
      let k = bind_ok (number_at 18446744073709551615 c.0.1)
      (λ k. outcome_at wall k.1 >>= λ o. ended o.1 (Settled c.0.0 k.0 o.0)) e c.2 in
      let o = bind_ok (outcome_at wall k.0.1) (λ o. ended o.1 (Settled c.0.0 k.0.0 o.0)) e k.2 in
      let last = end_is o.0.1 (Settled c.0.0 k.0.0 o.0.0) e o.2 in
      subst (IsKnownEntry wall) last.1 (outcome_known k.0.1 o.0 o.1)

  -- ---- lines

  abbrev IsKnown : Line → Type 0
  IsKnown (Said e) = IsKnownEntry wall e
  IsKnown (End n) = Unit {0}

  behind_known : (v : Verb) (ws : List Word) (l : Line) → line_behind wall v ws ≡ Ok l → IsKnown l
  behind_known verbs.Post ws l h =
      let e = bind_ok (post_at wall ws) (λ e. Ok (Said e)) l h in
      subst IsKnown (ok_is (Said e.0) l e.2) (post_known ws e.0 e.1)
  behind_known verbs.Verdict ws l h =
      let e = bind_ok (verdict_at wall ws) (λ e. Ok (Said e)) l h in
      subst IsKnown (ok_is (Said e.0) l e.2) (verdict_known ws e.0 e.1)
  behind_known verbs.End ws l h =
      let n = bind_ok (end_at ws) (λ n. Ok (End n)) l h in
      subst IsKnown (ok_is (End n.0) l n.2) tt

  line_known : (ws : List Word) (l : Line) → line_in wall ws ≡ Ok l → IsKnown l
  unfolding line_in
  line_known ws l h =
      let a = bind_ok (word_at ws)
      (λ w. some_or BadVerb (verb_of w.0) >>= λ v. line_behind wall v w.1) l h in
      let v = bind_ok (some_or BadVerb (verb_of a.0.0)) (λ v. line_behind wall v a.0.1) l a.2 in
      behind_known v.0 a.0.1 l v.2

  by_line_known : (k : ℕ) (line next : Word) (more : List Word) (es : List Entry)
      (r : Result Line LineFault) → line_at wall line ≡ r
      → ((rest : List Entry) → entries_in wall (k + 1) (next ∷ more) ≡ Ok rest →
      All (IsKnownEntry wall) rest)
      →
      by_line k r (entries_in wall (k + 1) (next ∷ more)) (ended_at (k + 3) (next ∷ more))
      ≡ Ok es → All (IsKnownEntry wall) es
  by_line_known k line next more es (Ok (Said e)) said behind h =
      let m = more_found e (entries_in wall (k + 1) (next ∷ more)) es h in
      subst (All (IsKnownEntry wall)) (sym m.whole) (All-cons (IsKnownEntry wall) e m.rest
      (line_known (parts 32 line) (Said e) said) (behind m.rest m.read))
  by_line_known k line next more es (Ok (End n)) said behind h =
      let e = end_step k n (ended_at (k + 3) (next ∷ more)) es (eqb n k) refl h in
      let f = ended_found (k + 3) next more es e.1 in
      subst (All (IsKnownEntry wall)) (sym f.1) (All-nil (IsKnownEntry wall))
  by_line_known k line next more es (Err f) said behind h = absurd cc

  entries_known : (k : ℕ) (ls : List Word) (es : List Entry) → entries_in wall k ls ≡ Ok es →
      All (IsKnownEntry wall) es
  unfolding entries_in
  entries_known k [] es h = absurd cc
  entries_known k (line ∷ []) es h = absurd cc
  entries_known k (line ∷ next ∷ more) es h = by_line_known k line next more es (line_at wall line)
      refl (entries_known (k + 1) (next ∷ more)) h

  lines_known : (ls : List Word) (es : List Entry) → lines_in wall ls ≡ Ok es →
      All (IsKnownEntry wall) es
  lines_known [] es h = absurd cc
  lines_known (line ∷ []) es h = absurd cc
  lines_known (line ∷ next ∷ more) es h = entries_known 0 (next ∷ more) es
      (header_step wall line next more es (bytes_eq line (header_line wall.version)) refl h).1

-- the processes and datasets of a book that is read are the policy's
pub book_known : (wall : ChineseWall) (text : List ℕ) (es : List Entry) →
    book_in wall text ≡ Ok es → All (IsKnownEntry wall) es
unfolding book_in
book_known wall text es h = lines_known wall (parts 10 text) es h
