-- Where the words of a line end, byte by byte.
use Rattle.std.proofs.Common.{◌≡◌, ◌≢◌, ℕ, zero, suc, ◌+◌, ◌<◌, ◌≤◌, ◌==◌, List}
use Rattle.std.proofs.Common.{[]}
use Rattle.std.proofs.Common.{◌∷◌, ◌++◌, length, take, Some, refl, sym, ap, ◌∙◌}
use Rattle.std.proofs.Common.{subst, inl, inr, arith, slice_get, get_or, eq-eqb, ne_eqb}
use Rattle.std.specs.Prelude.{count_by, sum_by}
use Rattle.std.proofs.Common.{◌⊎◌}
use Rattle.std.proofs.lemmas.List.{take_all, length-append, length-take}
use Rattle.std.proofs.lemmas.List.Splits.{length-slice_split}
use Rattle.std.proofs.lemmas.List.Sums.{count_by_more_yes, count_by_more_no}
use Rattle.std.proofs.lemmas.Option.{slice_get_within, get_or_from_slice_get}
use Rattle.coll_text.specs.Reading.{parts}
use Rattle.script_places.specs.Cuts.{IsCut, AreEnds}
use Rattle.script_places.specs.Places.{column_of}
use Rattle.script_places.proofs.CutLemmas.{cut_space, parts_long}

-- the spaces among the first n bytes, each of which ends a word
pub record AreEndsTo (line : List ℕ) (n : ℕ) (ends : List ℕ) : Type 0 where
  pub within : n ≤ length line
  pub count : length ends ≡ count_by (λ b. b == 32) (take n line)
  pub cuts : (k e : ℕ) → slice_get ends k ≡ Some e → IsCut line (k + 1) e

pub none_to : (line : List ℕ) → AreEndsTo line 0 []
none_to line = record {
  within = omega arith;
  count = refl;
  cuts = λ k e at. absurd (no_end k e at);
}
  where
    no_end : (k e : ℕ) → slice_get [] k ≡ Some e → ⊥
    no_end k e at = let low = slice_get_within [] k e at in omega arith

-- an end more
at_last : (ends : List ℕ) (last k e : ℕ) → slice_get (ends ++ last ∷ []) k ≡ Some e →
    (slice_get ends k ≡ Some e) ⊎ ((k ≡ length ends) × (last ≡ e))
at_last [] last zero e at = let same : last ≡ e = cc in inr (refl, same)
at_last [] last (suc k) e at = absurd cc
at_last (x ∷ xs) last zero e at = inl at
at_last (x ∷ xs) last (suc k) e at = elim (at_last xs last k e at) [
  | inl old ↦ inl old
  | inr new ↦ inr (ap suc new.0, new.1)
]

-- how many words the first n bytes have
words_to : (line : List ℕ) (n : ℕ) →
    length (parts 32 (take n line)) ≡ count_by (λ b. b == 32) (take n line) + 1
words_to line n = length-slice_split (λ b. b == 32) (take n line)

pub space_to : (line : List ℕ) (n : ℕ) (ends : List ℕ) → AreEndsTo line n ends → n < length line →
    slice_get line n ≡ Some 32 → AreEndsTo line (n + 1) (ends ++ n ∷ [])
space_to line n ends so_far low at =
    let read : get_or line n 0 ≡ 32 = get_or_from_slice_get line n 32 0 at in
    let more = count_by_more_yes (λ b. b == 32) line n 0 low
    (eq-eqb (get_or line n 0) 32 read) in
    let long = length-append ends (n ∷ []) in
    let words = words_to line n in
    record {
      within = omega arith;
      count = omega (arith, so_far.count, more, long);
      cuts = λ k e there. elim (at_last ends n k e there) [
        | inl old ↦ so_far.cuts k e old
        | inr new ↦
            let many : length (parts 32 (take n line)) ≡ k + 1 =
            omega (arith, words, so_far.count, new.0) in
            subst (λ m. IsCut line m e) many
            (subst (λ q. IsCut line (length (parts 32 (take n line))) q) new.1
            (cut_space line n at (omega arith)))
      ];
    }

pub other_to : (line : List ℕ) (n b : ℕ) (ends : List ℕ) → AreEndsTo line n ends → n < length line →
    slice_get line n ≡ Some b → b ≢ 32 → AreEndsTo line (n + 1) ends
other_to line n b ends so_far low at other =
    let read : get_or line n 0 ≡ b = get_or_from_slice_get line n b 0 at in
    let more = count_by_more_no (λ c. c == 32) line n 0 low
    (ne_eqb (get_or line n 0) 32 (λ same. other (sym read ∙ same))) in
    record {
      within = omega arith;
      count = omega (arith, so_far.count, more);
      cuts = so_far.cuts;
    }

pub end_to : (line : List ℕ) (n : ℕ) (ends : List ℕ) → AreEndsTo line n ends → length line ≤ n →
    AreEnds line (ends ++ length line ∷ [])
end_to line n ends so_far all =
    let whole : take n line ≡ line = take_all n line all in
    let words : length (parts 32 line) ≡ count_by (λ b. b == 32) (take n line) + 1 =
    ap (λ t. length (parts 32 t)) (sym whole) ∙ words_to line n in
    let long = length-append ends (length line ∷ []) in
    record {
      count = omega (arith, words, so_far.count, long);
      cuts = λ k e there. elim (at_last ends (length line) k e there) [
        | inl old ↦ so_far.cuts k e old
        | inr new ↦
            let many : length (parts 32 line) ≤ k + 1 = omega (arith, words, so_far.count, new.0) in
            subst (λ q. IsCut line (k + 1) q) new.1 (
              (let e = length line in omega arith),
              ap (λ t. parts 32 t) (take_all (length line) line (omega arith))
                  ∙ sym (take_all (k + 1) (parts 32 line) many),
            )
      ];
    }

---- columns

-- the column of the word behind the first so many
pub column_behind : (line : List ℕ) (n e : ℕ) → IsCut line n e → e + 2 ≡ column_of (parts 32 line) n
column_behind line n e cut =
    let long = parts_long (λ b. b == 32) (take e line) in
    let short = length-take e line in
    let same = ap (λ ws. sum_by (λ w. length w + 1) ws) cut.1 in
    let within = cut.0 in omega (arith, long, short, same)
