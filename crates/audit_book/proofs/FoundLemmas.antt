-- Lines that are read are spelled so.
use Rattle.std.proofs.Common.{◌≡◌, ℕ, ◌^◌, ◌<◌, Bool, true, false, cond, eqb, ltb, length}
use Rattle.std.proofs.Common.{List, [], ◌∷◌, ◌++◌, Option, Some, None}
use Rattle.std.proofs.Common.{Result, Ok, Err, codes, refl, sym, ap, ◌∙◌, arith}
use Rattle.std.specs.Str.{bytes_eq}
use Rattle.std.specs.Fmt.{decimal}
use Rattle.std.proofs.lemmas.List.{append-nil}
use Rattle.std.proofs.lemmas.Slice.Eq.{bytes_eq-Decides}
use Rattle.wall_labels.specs.declared.label.Label.{Label}
use Rattle.wall_policy.specs.Names.{place_of}
use Rattle.wall_policy.specs.Policy.{ChineseWall}
use Rattle.wall_rules.specs.declared.rule.Rule.{Rule}
use Rattle.run_model.specs.declared.outcome.Outcome.{Outcome}
use Rattle.run_model.specs.declared.outcome.Outcome.TheVariants.{Granted, Denied, Made, NoRoom}
use Rattle.run_model.specs.declared.entry.Entry.{Entry}
use Rattle.run_model.specs.declared.entry.Entry.TheVariants.{Posted, Settled}
use Rattle.coll_text.specs.declared.fault.LineFault.{LineFault}
use Rattle.coll_text.specs.declared.fault.LineFault.TheVariants.{BadVerb, BadShape, BadField}
use Rattle.coll_text.specs.Numbers.{Word, number_within}
use Rattle.coll_text.specs.Reading.{◌>>=◌, some_or, word_at, number_up_to, number_at, ended}
use Rattle.coll_text.specs.Fields.{statement_at}
use Rattle.coll_text.specs.Spellings.{statement_words}
use Rattle.coll_text.proofs.CollTextLemmas.{number_is_decimal, bind_ok, some_ok, done, ok_is}
use Rattle.coll_text.proofs.CollTextLemmas.{word_found, statement_found, place_found, label_found}
use Rattle.audit_book.specs.declared.line.Line.{Line}
use Rattle.audit_book.specs.declared.line.Line.TheVariants.{Said, End}
use Rattle.audit_book.specs.declared.words.Verb.{Verb}
use Rattle.audit_book.specs.declared.words.Verb.TheVariants as verbs
use Rattle.audit_book.specs.declared.words.OutcomeWord.{OutcomeWord}
use Rattle.audit_book.specs.declared.words.OutcomeWord.TheVariants as came
use Rattle.audit_book.specs.declared.words.Given.{Given}
use Rattle.coll_text.specs.Words.{name_at, label_word, label_of, rule_word}
use Rattle.audit_book.specs.Lines.{past_word, known_process, process_at, named_at, label_at}
use Rattle.audit_book.specs.Lines.{given_label, either_word, barred_at, rule_of, rule_at, given_at}
use Rattle.audit_book.specs.Lines.{post_at, came_of, denied_at, made_at, came_to, outcome_at}
use Rattle.audit_book.specs.Lines.{verdict_at, end_at, verb_of, line_behind, line_in}
use Rattle.audit_book.specs.Text.{given_word, passage_word, given_words, post_words, outcome_words}
use Rattle.audit_book.specs.Text.{verdict_words, entry_words, end_words}

-- ---- words

same_step : (w v : Word) (ws : List Word) (x : Unit {0} × List Word) (t : Bool) → bytes_eq w v ≡ t →
    cond t (Ok (tt, ws)) (Err BadShape) ≡ Ok x → w ∷ ws ≡ v ∷ x.1
same_step w v ws x true e h =
    let k : (tt, ws) ≡ x = ok_is (tt, ws) x h in λ i. (bytes_eq-Decides w v).0 e i ∷ (k i).1
same_step w v ws x false e h = absurd cc

pub past_found : (v : Word) (ws : List Word) (x : Unit {0} × List Word) → past_word v ws ≡ Ok x →
    ws ≡ v ∷ x.1
past_found v ws x h =
    let a = bind_ok (word_at ws) (λ w. cond (bytes_eq w.0 v) (Ok (tt, w.1)) (Err BadShape)) x h in
    word_found ws a.0 a.1 ∙ same_step a.0.0 v a.0.1 x (bytes_eq a.0.0 v) refl a.2

-- what is read from a word, and what is left
module _ {A : Type 0} (read : Word → Result A LineFault) (spell : A → Word)
    (found : (w : Word) (a : A) → read w ≡ Ok a → w ≡ spell a) where
  pub one_found : (ws : List Word) (x : A × List Word) →
      (word_at ws >>= λ w. read w.0 >>= λ a. Ok (a, w.1)) ≡ Ok x → ws ≡ spell x.0 ∷ x.1
  one_found ws x h =
      let a = bind_ok (word_at ws) (λ w. read w.0 >>= λ a. Ok (a, w.1)) x h in
      let b = bind_ok (read a.0.0) (λ r. Ok (r, a.0.1)) x a.2 in
      let k : (b.0, a.0.1) ≡ x = ok_is (b.0, a.0.1) x b.2 in
      word_found ws a.0 a.1 ∙ ap (λ w. w ∷ a.0.1) (found a.0.0 b.0 b.1)
      ∙ ap (λ (p : A × List Word). spell p.0 ∷ p.1) k

number_found : (most : ℕ) → most < 2 ^ 64 → (w : Word) (n : ℕ) → number_up_to most w ≡ Ok n →
    w ≡ decimal n
number_found most small w n h =
    (number_is_decimal most n w small (some_ok BadField (number_within most w) n h)).0

pub number_at_found : (most : ℕ) → most < 2 ^ 64 → (ws : List Word) (x : ℕ × List Word) →
    number_at most ws ≡ Ok x → ws ≡ decimal x.0 ∷ x.1
number_at_found most small ws x h =
    one_found (number_up_to most) decimal (number_found most small) ws x h

small32 : 4294967295 < 2 ^ 64
small32 = omega arith

small64 : 18446744073709551615 < 2 ^ 64
small64 = omega arith

known_step : (n p : ℕ) (t : Bool) → cond t (Ok n) (Err BadField) ≡ Ok p → n ≡ p
known_step n p true h = ok_is n p h
known_step n p false h = absurd cc

pub process_found : (wall : ChineseWall) (ws : List Word) (x : ℕ × List Word) →
    process_at wall ws ≡ Ok x → ws ≡ decimal x.0 ∷ x.1
process_found wall ws x h =
    let a = bind_ok (number_at 4294967295 ws) (λ n. known_process wall n.0 >>= λ p. Ok (p, n.1)) x h
    in
    let b = bind_ok (known_process wall a.0.0) (λ p. Ok (p, a.0.1)) x a.2 in
    let k : (b.0, a.0.1) ≡ x = ok_is (b.0, a.0.1) x b.2 in
    let same : a.0.0 ≡ b.0 = known_step a.0.0 b.0 (ltb a.0.0 (length wall.process_names)) b.1 in
    number_at_found 4294967295 small32 ws a.0 a.1 ∙ ap (λ n. decimal n ∷ a.0.1) same
    ∙ ap (λ (p : ℕ × List Word). decimal p.0 ∷ p.1) k

-- ---- names

name_found : (names : List Word) (w : Word) (p : ℕ) → some_or BadField (place_of w names) ≡ Ok p →
    w ≡ name_at names p
name_found names w p h = place_found w names p (some_ok BadField (place_of w names) p h)

pub named_found : (wall : ChineseWall) (ws : List Word) (x : ℕ × List Word) →
    named_at wall ws ≡ Ok x → ws ≡ name_at wall.process_names x.0 ∷ x.1
named_found wall ws x h = one_found (λ w. some_or BadField (place_of w wall.process_names))
    (name_at wall.process_names) (name_found wall.process_names) ws x h

pub label_at_found : (wall : ChineseWall) (ws : List Word) (x : Label × List Word) →
    label_at wall ws ≡ Ok x → ws ≡ label_word wall.dataset_names x.0 ∷ x.1
label_at_found wall ws x h = one_found (label_of wall.dataset_names) (label_word wall.dataset_names)
    (label_found wall.dataset_names) ws x h

-- ---- posts

none_step : (ws : List Word) (x : Option Label × List Word) →
    (past_word (codes "none") ws >>= λ w. Ok (None, w.1)) ≡ Ok x →
    (x.0 ≡ None) × (ws ≡ codes "none" ∷ x.1)
none_step ws x h =
    let a = bind_ok (past_word (codes "none") ws) (λ w. Ok (None, w.1)) x h in
    let k : (None, a.0.1) ≡ x = ok_is (None, a.0.1) x a.2 in (
      ap (λ (p : Option Label × List Word). p.0) (sym k),
      past_found (codes "none") ws a.0 a.1
          ∙ ap (λ (p : Option Label × List Word). codes "none" ∷ p.1) k,
    )

some_step : (wall : ChineseWall) (ws : List Word) (x : Option Label × List Word) →
    (label_at wall ws >>= λ label. Ok (Some label.0, label.1)) ≡ Ok x →
    ws ≡ given_word wall x.0 ∷ x.1
some_step wall ws x h =
    let a = bind_ok (label_at wall ws) (λ label. Ok (Some label.0, label.1)) x h in
    let k : (Some a.0.0, a.0.1) ≡ x = ok_is (Some a.0.0, a.0.1) x a.2 in
    label_at_found wall ws a.0 a.1
    ∙ ap (λ (p : Option Label × List Word). given_word wall p.0 ∷ p.1) k

given_step : (wall : ChineseWall) (ws : List Word) (x : Option Label × List Word) (t : Bool)
    →
    cond t (past_word (codes "none") ws >>= λ w. Ok (None, w.1))
    (label_at wall ws >>= λ label. Ok (Some label.0, label.1)) ≡ Ok x →
    ws ≡ given_word wall x.0 ∷ x.1
given_step wall ws x true h =
    let s = none_step ws x h in s.1 ∙ ap (λ (l : Option Label). given_word wall l ∷ x.1) (sym s.0)
given_step wall ws x false h = some_step wall ws x h

given_label_found :
    (wall : ChineseWall) (given : ℕ) (ws : List Word) (x : Option Label × List Word) →
    given_label wall given ws ≡ Ok x → ws ≡ given_word wall x.0 ∷ x.1
unfolding given_label
given_label_found wall given ws x h = given_step wall ws x (eqb given 0) h

second_step : (v w : Word) (b t : Bool) → bytes_eq w v ≡ t →
    cond t (Ok true) (Err BadShape) ≡ Ok b → (b ≡ true) × (w ≡ v)
second_step v w b true e h = (sym (ok_is true b h), (bytes_eq-Decides w v).0 e)
second_step v w b false e h = absurd cc

either_step : (f : Bool → Word) (w : Word) (b t : Bool) → bytes_eq w (f false) ≡ t →
    cond t (Ok false) (cond (bytes_eq w (f true)) (Ok true) (Err BadShape)) ≡ Ok b → w ≡ f b
either_step f w b true e h = (bytes_eq-Decides w (f false)).0 e ∙ ap f (ok_is false b h)
either_step f w b false e h =
    let s = second_step (f true) w b (bytes_eq w (f true)) refl h in s.1 ∙ ap f (sym s.0)

pub barred_found : (ws : List Word) (x : Bool × List Word) → barred_at ws ≡ Ok x →
    ws ≡ passage_word x.0 ∷ x.1
barred_found ws x h = one_found (either_word (codes "passed") (codes "barred")) passage_word
    (λ w b e. either_step passage_word w b (bytes_eq w (codes "passed")) refl e) ws x h

abbrev ruled : Bool → Word
ruled b = rule_word (rule_of b)

rule_found : (ws : List Word) (x : Rule × List Word) → rule_at ws ≡ Ok x → ws ≡ rule_word x.0 ∷ x.1
rule_found ws x h =
    let a = bind_ok (word_at ws)
    (λ w. either_word (codes "star") (codes "simple") w.0 >>= λ b. Ok (rule_of b, w.1)) x h in
    let b = bind_ok (either_word (codes "star") (codes "simple") a.0.0) (λ b. Ok (rule_of b, a.0.1))
    x a.2 in
    let k : (rule_of b.0, a.0.1) ≡ x = ok_is (rule_of b.0, a.0.1) x b.2 in
    let w : a.0.0 ≡ ruled b.0 = either_step ruled a.0.0 b.0 (bytes_eq a.0.0 (codes "star")) refl b.1
    in
    word_found ws a.0 a.1 ∙ ap (λ w. w ∷ a.0.1) w
    ∙ ap (λ (p : Rule × List Word). rule_word p.0 ∷ p.1) k

pub given_found : (wall : ChineseWall) (ws : List Word) (x : Given × List Word) →
    given_at wall ws ≡ Ok x → ws ≡ given_words wall x.0.given x.0.label x.0.barred ++ x.1
unfolding given_at
given_found wall ws x h =
    let a = bind_ok (past_word (codes "gives") ws) (λ a. number_at 4294967295 a.1
    >>= λ n. past_word (codes "as") n.1
    >>= λ b. given_label wall n.0 b.1
    >>= λ label. barred_at label.1
    >>= λ barred. Ok (
      record {
        given = n.0;
        label = label.0;
        barred = barred.0;
      },
      barred.1,
    )) x h in
    let n = bind_ok (number_at 4294967295 a.0.1) (λ n. past_word (codes "as") n.1
    >>= λ b. given_label wall n.0 b.1
    >>= λ label. barred_at label.1
    >>= λ barred. Ok (
      record
          { given = n.0; label = label.0; barred = barred.0 },
      barred.1,
    )) x a.2 in
    let b = bind_ok (past_word (codes "as") n.0.1) (λ b. given_label wall n.0.0 b.1
    >>= λ label. barred_at label.1
    >>= λ barred. Ok (
      record { given = n.0.0; label = label.0; barred = barred.0 },
      barred.1,
    )) x n.2 in
    let l = bind_ok (given_label wall n.0.0 b.0.1) (λ label.
    barred_at label.1
    >>= λ barred.
    Ok (record { given = n.0.0; label = label.0; barred = barred.0 }, barred.1)) x
    b.2 in
    let p = bind_ok (barred_at l.0.1)
    (λ barred. Ok (record { given = n.0.0; label = l.0.0; barred = barred.0 }, barred.1)) x l.2
    in
    let made : Given = record { given = n.0.0; label = l.0.0; barred = p.0.0 } in
    let k : (made, p.0.1) ≡ x = ok_is (made, p.0.1) x p.2 in
    past_found (codes "gives") ws a.0 a.1
    ∙ ap (λ ws. codes "gives" ∷ ws) (number_at_found 4294967295 small32 a.0.1 n.0 n.1)
    ∙ ap (λ ws. codes "gives" ∷ decimal n.0.0 ∷ ws) (past_found (codes "as") n.0.1 b.0 b.1)
    ∙ ap (λ ws. codes "gives" ∷ decimal n.0.0 ∷ codes "as" ∷ ws)
    (given_label_found wall n.0.0 b.0.1 l.0 l.1)
    ∙ ap (λ ws. codes "gives" ∷ decimal n.0.0 ∷ codes "as" ∷ given_word wall l.0.0 ∷ ws)
    (barred_found l.0.1 p.0 p.1)
    ∙ ap (λ (x : Given × List Word). given_words wall x.0.given x.0.label x.0.barred ++ x.1) k

pub end_is : {A : Type 0} (ws : List Word) (x y : A) → ended ws x ≡ Ok y → (ws ≡ []) × (x ≡ y)
end_is [] x y h = (refl, ok_is x y h)
end_is (w ∷ ws) x y h = absurd cc

pub post_found : (wall : ChineseWall) (ws : List Word) (e : Entry) → post_at wall ws ≡ Ok e →
    codes "post" ∷ ws ≡ entry_words wall e
unfolding post_at post_words
post_found wall ws e h =
    let p = bind_ok (process_at wall ws) (λ p. number_at 4294967295 p.1
    >>= λ c. statement_at c.1
    >>= λ s. given_at wall s.1
    >>= λ g. ended g.1 (Posted p.0 c.0 (record {
      sig = s.0.0;
      own = s.0.1;
      given = g.0.given;
      label = g.0.label;
      barred = g.0.barred;
    }))) e h in
    let c = bind_ok (number_at 4294967295 p.0.1) (λ c. statement_at c.1
    >>= λ s. given_at wall s.1
    >>= λ g. ended g.1 (Posted p.0.0 c.0 (record {
      sig = s.0.0;
      own = s.0.1;
      given = g.0.given;
      label = g.0.label;
      barred = g.0.barred;
    }))) e p.2 in
    let s = bind_ok (statement_at c.0.1) (λ s. given_at wall s.1
    >>= λ g. ended g.1 (Posted p.0.0 c.0.0 (record {
      sig = s.0.0;
      own = s.0.1;
      given = g.0.given;
      label = g.0.label;
      barred = g.0.barred;
    }))) e c.2
    in
    let g = bind_ok (given_at wall s.0.1) (λ g. ended g.1 (Posted p.0.0 c.0.0
    (record {
      sig = s.0.0.0;
      own = s.0.0.1;
      given = g.0.given;
      label = g.0.label;
      barred = g.0.barred;
    }))) e s.2 in
    let sig = s.0.0.0 in
    let own = s.0.0.1 in
    let last = end_is g.0.1 (Posted p.0.0 c.0.0 (record {
      sig = sig;
      own = own;
      given = g.0.0.given;
      label = g.0.0.label;
      barred = g.0.0.barred;
    })) e g.2 in
    ap (λ ws. codes "post" ∷ ws) (process_found wall ws p.0 p.1)
    ∙ ap (λ ws. codes "post" ∷ decimal p.0.0 ∷ ws)
    (number_at_found 4294967295 small32 p.0.1 c.0 c.1)
    ∙ ap (λ ws. codes "post" ∷ decimal p.0.0 ∷ decimal c.0.0 ∷ ws)
    ((statement_found c.0.1 sig own s.0.1 s.1).words)
    ∙ ap (λ ws. codes "post" ∷ decimal p.0.0 ∷ decimal c.0.0 ∷ (statement_words sig own ++ ws))
    (given_found wall s.0.1 g.0 g.1
    ∙ ap (λ ws. given_words wall g.0.0.given g.0.0.label g.0.0.barred ++ ws) last.0
    ∙ append-nil (given_words wall g.0.0.given g.0.0.label g.0.0.barred))
    ∙ ap (entry_words wall) last.1

-- ---- verdicts

denied_found : (wall : ChineseWall) (ws : List Word) (x : Outcome × List Word) →
    denied_at wall ws ≡ Ok x → codes "denied" ∷ ws ≡ outcome_words wall x.0 ++ x.1
unfolding denied_at
denied_found wall ws x h =
    let r = bind_ok (rule_at ws) (λ rule. named_at wall rule.1
    >>= λ p. label_at wall p.1 >>= λ label. Ok (Denied rule.0 p.0 label.0, label.1)) x h in
    let p = bind_ok (named_at wall r.0.1)
    (λ p. label_at wall p.1 >>= λ label. Ok (Denied r.0.0 p.0 label.0, label.1)) x r.2 in
    let l = bind_ok (label_at wall p.0.1) (λ label. Ok (Denied r.0.0 p.0.0 label.0, label.1)) x p.2
    in
    let k : (Denied r.0.0 p.0.0 l.0.0, l.0.1) ≡ x = ok_is (Denied r.0.0 p.0.0 l.0.0, l.0.1) x l.2 in
    ap (λ ws. codes "denied" ∷ ws) (rule_found ws r.0 r.1)
    ∙ ap (λ ws. codes "denied" ∷ rule_word r.0.0 ∷ ws) (named_found wall r.0.1 p.0 p.1)
    ∙ ap (λ ws. codes "denied" ∷ rule_word r.0.0 ∷ name_at wall.process_names p.0.0 ∷ ws)
    (label_at_found wall p.0.1 l.0 l.1)
    ∙ ap (λ (x : Outcome × List Word). outcome_words wall x.0 ++ x.1) k

made_found : (wall : ChineseWall) (ws : List Word) (x : Outcome × List Word) → made_at ws ≡ Ok x →
    codes "made" ∷ ws ≡ outcome_words wall x.0 ++ x.1
unfolding made_at
made_found wall ws x h =
    let f = bind_ok (number_at 4294967295 ws)
    (λ first. number_at 4294967295 first.1 >>= λ number. Ok (Made first.0 number.0, number.1)) x
    h in
    let n = bind_ok (number_at 4294967295 f.0.1) (λ number. Ok (Made f.0.0 number.0, number.1)) x
    f.2 in
    let k : (Made f.0.0 n.0.0, n.0.1) ≡ x = ok_is (Made f.0.0 n.0.0, n.0.1) x n.2 in
    ap (λ ws. codes "made" ∷ ws) (number_at_found 4294967295 small32 ws f.0 f.1)
    ∙ ap (λ ws. codes "made" ∷ decimal f.0.0 ∷ ws)
    (number_at_found 4294967295 small32 f.0.1 n.0 n.1)
    ∙ ap (λ (x : Outcome × List Word). outcome_words wall x.0 ++ x.1) k

abbrev came_word : OutcomeWord → Word
came_word came.Granted = codes "granted"
came_word came.Denied = codes "denied"
came_word came.Made = codes "made"
came_word came.NoRoom = codes "noroom"

plain_found : (wall : ChineseWall) (o : Outcome) (word : Word) (ws : List Word)
    (x : Outcome × List Word) → outcome_words wall o ≡ word ∷ [] → done (o, ws) ≡ done x →
    word ∷ ws ≡ outcome_words wall x.0 ++ x.1
plain_found wall o word ws x e h = let k : (o, ws) ≡ x = ok_is (o, ws) x h in
    ap (λ vs. vs ++ ws) (sym e) ∙ ap (λ (x : Outcome × List Word). outcome_words wall x.0 ++ x.1) k

came_to_found : (wall : ChineseWall) (c : OutcomeWord) (ws : List Word) (x : Outcome × List Word) →
    came_to wall c ws ≡ Ok x → came_word c ∷ ws ≡ outcome_words wall x.0 ++ x.1
came_to_found wall came.Granted ws x h = plain_found wall Granted (codes "granted") ws x refl h
came_to_found wall came.Denied ws x h = denied_found wall ws x h
came_to_found wall came.Made ws x h = made_found wall ws x h
came_to_found wall came.NoRoom ws x h = plain_found wall NoRoom (codes "noroom") ws x refl h

-- the first of several words
module _ {A : Type 0} (name : A → Word) (w : Word) (a : A) where
  pub choice_last : (c : A) (t : Bool) → bytes_eq w (name c) ≡ t → cond t (Some c) None ≡ Some a →
      w ≡ name a
  choice_last c true e h = let k : c ≡ a = cc in (bytes_eq-Decides w (name c)).0 e ∙ ap name k
  choice_last c false e h = absurd cc

  pub choice : (c : A) (others : Option A) (t : Bool) → bytes_eq w (name c) ≡ t →
      (others ≡ Some a → w ≡ name a) → cond t (Some c) others ≡ Some a → w ≡ name a
  choice c others true e more h =
      let k : c ≡ a = cc in (bytes_eq-Decides w (name c)).0 e ∙ ap name k
  choice c others false e more h = more h

came_found : (w : Word) (c : OutcomeWord) → came_of w ≡ Some c → w ≡ came_word c
unfolding came_of
came_found w c h =
    choice came_word w c came.Granted _ (bytes_eq w (codes "granted")) refl
    (λ h. choice came_word w c came.Denied _ (bytes_eq w (codes "denied")) refl
    (λ h. choice came_word w c came.Made _ (bytes_eq w (codes "made")) refl
    (λ h. choice_last came_word w c came.NoRoom (bytes_eq w (codes "noroom")) refl h) h) h) h

outcome_found : (wall : ChineseWall) (ws : List Word) (x : Outcome × List Word) →
    outcome_at wall ws ≡ Ok x → ws ≡ outcome_words wall x.0 ++ x.1
unfolding outcome_at
outcome_found wall ws x h =
    let a = bind_ok (word_at ws) (λ w. some_or BadShape (came_of w.0) >>= λ c. came_to wall c w.1) x
    h in
    let c = bind_ok (some_or BadShape (came_of a.0.0)) (λ c. came_to wall c a.0.1) x a.2 in
    word_found ws a.0 a.1
    ∙ ap (λ w. w ∷ a.0.1) (came_found a.0.0 c.0 (some_ok BadShape (came_of a.0.0) c.0 c.1))
    ∙ came_to_found wall c.0 a.0.1 x c.2

pub verdict_found : (wall : ChineseWall) (ws : List Word) (e : Entry) → verdict_at wall ws ≡ Ok e →
    codes "verdict" ∷ ws ≡ entry_words wall e
unfolding verdict_at verdict_words
verdict_found wall ws e h =
    let c = bind_ok (number_at 4294967295 ws) (λ c. number_at 18446744073709551615 c.1
    >>= λ k. outcome_at wall k.1 >>= λ o. ended o.1 (Settled c.0 k.0 o.0)) e h in
    let k = bind_ok (number_at 18446744073709551615 c.0.1)
    (λ k. outcome_at wall k.1 >>= λ o. ended o.1 (Settled c.0.0 k.0 o.0)) e c.2 in
    let o = bind_ok (outcome_at wall k.0.1) (λ o. ended o.1 (Settled c.0.0 k.0.0 o.0)) e k.2 in
    let last = end_is o.0.1 (Settled c.0.0 k.0.0 o.0.0) e o.2 in
    ap (λ ws. codes "verdict" ∷ ws) (number_at_found 4294967295 small32 ws c.0 c.1)
    ∙ ap (λ ws. codes "verdict" ∷ decimal c.0.0 ∷ ws)
    (number_at_found 18446744073709551615 small64 c.0.1 k.0 k.1)
    ∙ ap (λ ws. codes "verdict" ∷ decimal c.0.0 ∷ decimal k.0.0 ∷ ws)
    (outcome_found wall k.0.1 o.0 o.1 ∙ ap (λ ws. outcome_words wall o.0.0 ++ ws) last.0
    ∙ append-nil (outcome_words wall o.0.0))
    ∙ ap (entry_words wall) last.1

end_found : (ws : List Word) (n : ℕ) → end_at ws ≡ Ok n → codes "end" ∷ ws ≡ end_words n
unfolding end_at
end_found ws n h =
    let a = bind_ok (number_at 18446744073709551615 ws) (λ n. ended n.1 n.0) n h in
    let last = end_is a.0.1 a.0.0 n a.2 in
    ap (λ ws. codes "end" ∷ ws) (number_at_found 18446744073709551615 small64 ws a.0 a.1
    ∙ ap (λ ws. decimal a.0.0 ∷ ws) last.0) ∙ ap end_words last.1

-- ---- lines

-- the words of a line
abbrev pub line_words : ChineseWall → Line → List Word
line_words wall (Said e) = entry_words wall e
line_words wall (End n) = end_words n

abbrev verb_word : Verb → Word
verb_word verbs.Post = codes "post"
verb_word verbs.Verdict = codes "verdict"
verb_word verbs.End = codes "end"

book_verb_found : (w : Word) (v : Verb) → verb_of w ≡ Some v → w ≡ verb_word v
unfolding verb_of
book_verb_found w v h =
    choice verb_word w v verbs.Post _ (bytes_eq w (codes "post")) refl
    (λ h. choice verb_word w v verbs.Verdict _ (bytes_eq w (codes "verdict")) refl
    (λ h. choice_last verb_word w v verbs.End (bytes_eq w (codes "end")) refl h) h) h

behind_found : (wall : ChineseWall) (v : Verb) (ws : List Word) (l : Line) →
    line_behind wall v ws ≡ Ok l → verb_word v ∷ ws ≡ line_words wall l
behind_found wall verbs.Post ws l h =
    let e = bind_ok (post_at wall ws) (λ e. Ok (Said e)) l h in
    post_found wall ws e.0 e.1 ∙ ap (line_words wall) (ok_is (Said e.0) l e.2)
behind_found wall verbs.Verdict ws l h =
    let e = bind_ok (verdict_at wall ws) (λ e. Ok (Said e)) l h in
    verdict_found wall ws e.0 e.1 ∙ ap (line_words wall) (ok_is (Said e.0) l e.2)
behind_found wall verbs.End ws l h =
    let n = bind_ok (end_at ws) (λ n. Ok (End n)) l h in
    end_found ws n.0 n.1 ∙ ap (line_words wall) (ok_is (End n.0) l n.2)

pub line_found : (wall : ChineseWall) (ws : List Word) (l : Line) → line_in wall ws ≡ Ok l →
    ws ≡ line_words wall l
unfolding line_in
line_found wall ws l h =
    let a = bind_ok (word_at ws)
    (λ w. some_or BadVerb (verb_of w.0) >>= λ v. line_behind wall v w.1) l h in
    let v = bind_ok (some_or BadVerb (verb_of a.0.0)) (λ v. line_behind wall v a.0.1) l a.2 in
    word_found ws a.0 a.1
    ∙ ap (λ w. w ∷ a.0.1) (book_verb_found a.0.0 v.0 (some_ok BadVerb (verb_of a.0.0) v.0 v.1))
    ∙ behind_found wall v.0 a.0.1 l v.2
