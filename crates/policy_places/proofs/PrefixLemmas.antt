-- Where the lines of a text end, byte by byte.
use Rattle.std.proofs.Common.{◌≡◌, ◌≢◌, ℕ, zero, suc, ◌+◌, ◌-◌, ◌<◌, ◌≤◌, ◌==◌, List}
use Rattle.std.proofs.Common.{[], ◌∷◌, ◌++◌, length, take, drop, Some, refl, sym, ap, ◌∙◌, subst}
use Rattle.std.proofs.Common.{inl, inr, ◌⊎◌, arith, cond, slice_get, get_or, eq-eqb, ne_eqb}
use Rattle.std.proofs.Common.{append_assoc}
use Rattle.std.proofs.lemmas.List.{take_all, take_more, drop_more, length-append, append-nil}
use Rattle.std.proofs.lemmas.List.{drop_all}
use Rattle.std.proofs.lemmas.Option.{slice_get_within}
use Rattle.policy_places.specs.Prefixes.{prefix}
use Rattle.policy_places.specs.Ends.{AreEnds}

-- the lines that end within the first n bytes, and the line that goes on there
pub record AreEndsTo (text : List ℕ) (n : ℕ) (ends : List ℕ) : Type 0 where
  pub within : (k e : ℕ) → slice_get ends k ≡ Some e → e ≤ length text
  pub prefixes : (k e : ℕ) → slice_get ends k ≡ Some e → take e text ≡ prefix (k + 1) text
  pub goes_on : (m : ℕ) →
      prefix (length ends + suc m) text ≡ take n text ++ prefix (suc m) (drop n text)

pub none_to : (text : List ℕ) → AreEndsTo text 0 []
none_to text = record {
  within = λ k e at. absurd (no_end k e at);
  prefixes = λ k e at. absurd (no_end k e at);
  goes_on = λ m. let same : 0 + suc m ≡ suc m = omega arith in ap (λ j. prefix j text) same;
}
  where
    no_end : (k e : ℕ) → slice_get [] k ≡ Some e → ⊥
    no_end k e at = let low = slice_get_within [] k e at in omega arith

-- an end more
at_last : (ends : List ℕ) (last k e : ℕ) → slice_get (ends ++ last ∷ []) k ≡ Some e →
    (slice_get ends k ≡ Some e) ⊎ ((k ≡ length ends) × (last ≡ e))
at_last [] last zero e at = let same : last ≡ e = cc in inr (refl, same)
at_last [] last (suc k) e at = absurd cc
at_last (x ∷ xs) last zero e at = inl at
at_last (x ∷ xs) last (suc k) e at = elim (at_last xs last k e at) [
  | inl old ↦ inl old
  | inr new ↦ inr (ap suc new.0, new.1)
]

-- a byte more of the line
step : (text : List ℕ) (n m : ℕ) → n < length text →
    take n text ++ prefix (suc m) (drop n text)
    ≡ take n text ++ get_or text n 0 ∷ cond (get_or text n 0 == 10) (prefix m (drop (n + 1) text))
    (prefix (suc m) (drop (n + 1) text))
step text n m low = ap (λ (t : List ℕ). take n text ++ prefix (suc m) t) (drop_more text n 0 low)

more : (text rest : List ℕ) (n : ℕ) → n < length text →
    take n text ++ get_or text n 0 ∷ rest ≡ take (n + 1) text ++ rest
more text rest n low =
    sym (append_assoc (take n text) (get_or text n 0 ∷ []) rest)
    ∙ ap (λ (t : List ℕ). t ++ rest) (sym (take_more text n 0 low))

pub other_to : (text : List ℕ) (n : ℕ) (ends : List ℕ) → AreEndsTo text n ends → n < length text →
    get_or text n 0 ≢ 10 → AreEndsTo text (n + 1) ends
other_to text n ends so_far low other = record {
  within = so_far.within;
  prefixes = so_far.prefixes;
  goes_on = λ m. so_far.goes_on m ∙ step text n m low
      ∙ ap (λ b. take n text ++ get_or text n 0 ∷ cond b (prefix m (drop (n + 1) text))
      (prefix (suc m) (drop (n + 1) text))) (ne_eqb (get_or text n 0) 10 other)
      ∙ more text (prefix (suc m) (drop (n + 1) text)) n low;
}

pub line_to : (text : List ℕ) (n : ℕ) (ends : List ℕ) → AreEndsTo text n ends → n < length text →
    get_or text n 0 ≡ 10 → AreEndsTo text (n + 1) (ends ++ (n + 1) ∷ [])
line_to text n ends so_far low is =
    let long = length-append ends ((n + 1) ∷ []) in
    record {
      within = λ k e there. elim (at_last ends (n + 1) k e there) [
        | inl old ↦ so_far.within k e old
        | inr new ↦ let end = new.1 in omega (arith, end, low)
      ];
      prefixes = λ k e there. elim (at_last ends (n + 1) k e there) [
        | inl old ↦ so_far.prefixes k e old
        | inr new ↦
            let one : length ends + suc 0 ≡ k + 1 = omega (arith, new.0) in
            subst (λ q. take q text ≡ prefix (k + 1) text) new.1
            (subst (λ j. take (n + 1) text ≡ prefix j text) one
            (sym (so_far.goes_on 0 ∙ cut 0 ∙ append-nil (take (n + 1) text))))
      ];
      goes_on = λ m.
          let two : length (ends ++ (n + 1) ∷ []) + suc m ≡ length ends + suc (suc m) =
          omega (arith, long) in
          ap (λ j. prefix j text) two ∙ so_far.goes_on (suc m) ∙ cut (suc m);
    }
  where
    cut : (m : ℕ) → take n text ++ prefix (suc m) (drop n text)
        ≡ take (n + 1) text ++ prefix m (drop (n + 1) text)
    cut m = step text n m low
        ∙ ap (λ b. take n text ++ get_or text n 0 ∷ cond b (prefix m (drop (n + 1) text))
        (prefix (suc m) (drop (n + 1) text))) (eq-eqb (get_or text n 0) 10 is)
        ∙ more text (prefix m (drop (n + 1) text)) n low

prefix_none : (n : ℕ) → prefix n [] ≡ []
prefix_none zero = refl
prefix_none (suc n) = refl

pub end_to : (text : List ℕ) (n : ℕ) (ends : List ℕ) → AreEndsTo text n ends → length text ≤ n →
    AreEnds text (ends ++ length text ∷ [])
end_to text n ends so_far all =
    let long = length-append ends (length text ∷ []) in
    record {
      some = omega (arith, long);
      within = λ k e there. elim (at_last ends (length text) k e there) [
        | inl old ↦ so_far.within k e old
        | inr new ↦ let end = new.1 in omega (arith, end)
      ];
      prefixes = λ k e there. elim (at_last ends (length text) k e there) [
        | inl old ↦ so_far.prefixes k e old
        | inr new ↦
            let one : length ends + suc 0 ≡ k + 1 = omega (arith, new.0) in
            subst (λ q. take q text ≡ prefix (k + 1) text) new.1
            (take_all (length text) text (omega arith)
            ∙ sym (subst (λ j. prefix j text ≡ text) one (whole 0)))
      ];
      whole = λ m most.
          let behind : length ends + suc (m - suc (length ends)) ≡ m = omega (arith, long, most) in
          subst (λ j. prefix j text ≡ text) behind (whole (m - suc (length ends)));
    }
  where
    whole : (m : ℕ) → prefix (length ends + suc m) text ≡ text
    whole m = so_far.goes_on m
        ∙ ap (λ (t : List ℕ). take n text ++ prefix (suc m) t) (drop_all n text all)
        ∙ append-nil (take n text) ∙ take_all n text all
