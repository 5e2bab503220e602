-- An end, read by itself.
use Rattle.std.proofs.Common.{◌≡◌, ◌≢◌, ℕ, Bool, true, false, List, [], ◌∷◌, length, cond, ◌==◌}
use Rattle.std.proofs.Common.{Result, Ok, Err, Option, Some, None, refl, sym, ap, ◌∙◌, subst}
use Rattle.std.proofs.Common.{inl, inr}
use Rattle.std.specs.Prelude.{codes}
use Rattle.std.specs.Str.{bytes_eq}
use Rattle.std.proofs.lemmas.Bool.{cases_Bool}
use Rattle.std.proofs.lemmas.Slice.Eq.{bytes_eq-Decides}
use Rattle.wall_policy.specs.Policy.{ChineseWall}
use Rattle.run_model.specs.declared.entry.Entry.{Entry}
use Rattle.coll_text.specs.declared.fault.LineFault.{LineFault}
use Rattle.coll_text.specs.declared.fault.LineFault.TheVariants.{BadShape, BadVerb}
use Rattle.coll_text.specs.Numbers.{Word}
use Rattle.coll_text.specs.declared.fault.LineFault.TheVariants as faults
use Rattle.coll_text.specs.Reading.{◌>>=◌, Fails, some_or, word_at}
use Rattle.audit_book.specs.declared.line.Line.{Line}
use Rattle.audit_book.specs.declared.line.Line.TheVariants.{Said, End}
use Rattle.audit_book.specs.Lines.{verb_of, line_behind, line_in, end_at, post_at, verdict_at}
use Rattle.book_places.specs.Ends.{end_in}

abbrev pub failed : LineFault → Result ℕ LineFault
failed fault = Err fault

-- what is read does not fail
not_read : (fault : LineFault) (n : ℕ) → Fails fault (Ok n) →
    failed fault ≢ failed faults.NoMemory → ⊥
not_read faults.BadVerb n h other = absurd cc
not_read faults.BadShape n h other = absurd cc
not_read faults.BadField n h other = absurd cc
not_read faults.BadKind n h other = absurd cc
not_read faults.BadType n h other = absurd cc
not_read faults.UnknownOp n h other = absurd cc
not_read faults.BadLabel n h other = absurd cc
not_read faults.BadNumber n h other = absurd cc
not_read faults.OddPair n h other = absurd cc
not_read faults.NoMemory n h other = other refl

-- an entry is no end
no_entry : (r : Result Entry LineFault) (n : ℕ) → (r >>= λ entry. Ok (Said entry)) ≡ Ok (End n) → ⊥
no_entry (Ok entry) n h = absurd cc
no_entry (Err fault) n h = absurd cc

end_made : (r : Result ℕ LineFault) (n : ℕ) → (r >>= λ k. Ok (End k)) ≡ Ok (End n) → r ≡ Ok n
end_made (Ok k) n h = let same : k ≡ n = cc in ap (λ (j : ℕ). Ok j) same
end_made (Err fault) n h = absurd cc

-- what stands behind the first word of a line, and of an end
abbrev end_from : Result (Word × List Word) LineFault → Result ℕ LineFault
end_from r = r >>= λ w. cond (bytes_eq w.0 (codes "end")) (end_at w.1) (Err BadVerb)

abbrev word_if : Bool → Word → List Word → Result (Word × List Word) LineFault
word_if b w ws = cond b (Err BadShape) (Ok (w, ws))

no_verb : (w : Word) → bytes_eq w (codes "post") ≡ false → bytes_eq w (codes "verdict") ≡ false →
    bytes_eq w (codes "end") ≡ false → verb_of w ≡ None
unfolding verb_of
no_verb w a b c = rw (a, b, c) refl

-- a word that is equal to this one is this one
is_word : (w v : Word) → bytes_eq w v ≡ true → w ≡ v
is_word w v t = (bytes_eq-Decides w v).0 t

end_said : (ws : List Word) → end_in (codes "end" ∷ ws) ≡ end_at ws
unfolding end_in
end_said ws = refl

module _ (wall : ChineseWall) where
  post_said : (ws : List Word) →
      line_in wall (codes "post" ∷ ws) ≡ (post_at wall ws >>= λ entry. Ok (Said entry))
  unfolding line_in verb_of
  post_said ws = refl

  verdict_said : (ws : List Word) →
      line_in wall (codes "verdict" ∷ ws) ≡ (verdict_at wall ws >>= λ entry. Ok (Said entry))
  unfolding line_in verb_of
  verdict_said ws = refl

  end_line : (ws : List Word) →
      line_in wall (codes "end" ∷ ws) ≡ (end_at ws >>= λ n. Ok (End n))
  unfolding line_in verb_of
  end_line ws = refl

  other_said : (w : Word) (ws : List Word) (n : ℕ) → verb_of w ≡ None →
      line_in wall (w ∷ ws) ≡ Ok (End n) → ⊥
  unfolding line_in
  other_said w ws n none h = elim (cases_Bool (length w == 0)) [
    | inl t ↦
        let bad : Err BadShape ≡ Ok (End n) =
        sym (ap (λ b. word_if b w ws >>= λ v. some_or BadVerb (verb_of v.0)
        >>= λ verb. line_behind wall verb v.1) t) ∙ h in
        absurd cc
    | inr f ↦
        let bad : Err BadVerb ≡ Ok (End n) =
        sym (ap (λ b. word_if b w ws >>= λ v. some_or BadVerb (verb_of v.0)
        >>= λ verb. line_behind wall verb v.1) f
        ∙ ap (λ o. some_or BadVerb o >>= λ verb. line_behind wall verb ws) none) ∙ h in
        absurd cc
  ]

  -- with this word in its place
  with_word : (w v : Word) (ws : List Word) (n : ℕ) → bytes_eq w v ≡ true →
      line_in wall (w ∷ ws) ≡ Ok (End n) → line_in wall (v ∷ ws) ≡ Ok (End n)
  with_word w v ws n t h = ap (λ u. line_in wall (u ∷ ws)) (sym (is_word w v t)) ∙ h

  pub read_as_end : (ws : List Word) (n : ℕ) → line_in wall ws ≡ Ok (End n) → end_in ws ≡ Ok n
  unfolding line_in
  read_as_end [] n h = absurd cc
  read_as_end (w ∷ ws) n h = elim (cases_Bool (bytes_eq w (codes "end"))) [
    | inl t ↦
        ap (λ u. end_in (u ∷ ws)) (is_word w (codes "end") t) ∙ end_said ws
        ∙ end_made (end_at ws) n (sym (end_line ws) ∙ with_word w (codes "end") ws n t h)
    | inr c ↦ elim (cases_Bool (bytes_eq w (codes "post"))) [
      | inl t ↦ absurd (no_entry (post_at wall ws) n
          (sym (post_said ws) ∙ with_word w (codes "post") ws n t h))
      | inr a ↦ elim (cases_Bool (bytes_eq w (codes "verdict"))) [
        | inl t ↦ absurd (no_entry (verdict_at wall ws) n
            (sym (verdict_said ws) ∙ with_word w (codes "verdict") ws n t h))
        | inr b ↦ absurd (other_said w ws n (no_verb w a b c) h)
      ]
    ]
  ]

  pub end_is_read : (ws : List Word) (n : ℕ) → end_in ws ≡ Ok n → line_in wall ws ≡ Ok (End n)
  unfolding end_in
  end_is_read [] n h = absurd cc
  end_is_read (w ∷ ws) n h = elim (cases_Bool (bytes_eq w (codes "end"))) [
    | inl t ↦
        ap (λ u. line_in wall (u ∷ ws)) (is_word w (codes "end") t) ∙ end_line ws
        ∙ ap (λ r. r >>= λ k. Ok (End k))
        (sym (end_said ws) ∙ ap (λ u. end_in (u ∷ ws)) (sym (is_word w (codes "end") t)) ∙ h)
    | inr f ↦ elim (cases_Bool (length w == 0)) [
      | inl t ↦
          let bad : Err BadShape ≡ Ok n = sym (ap (λ b. end_from (word_if b w ws)) t) ∙ h in
          absurd cc
      | inr g ↦
          let bad : Err BadVerb ≡ Ok n =
          sym (ap (λ b. end_from (word_if b w ws)) g
          ∙ ap (λ b. cond b (end_at ws) (Err BadVerb)) f) ∙ h in
          absurd cc
    ]
  ]

  -- words that are no end are read as none
  pub no_end : (ws : List Word) (fault : LineFault) → Fails fault (end_in ws) →
      failed fault ≢ failed faults.NoMemory → (n : ℕ) → line_in wall ws ≡ Ok (End n) → ⊥
  no_end ws fault fails other n h =
      not_read fault n (subst (Fails fault) (read_as_end ws n h) fails) other
