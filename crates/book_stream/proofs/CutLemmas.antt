-- Text that goes on is cut where it was, and behind that.
use Rattle.std.proofs.Common.{◌≡◌, ℕ, ◌<◌, Bool, true, false, cond, eqb, List, [], ◌∷◌, ◌++◌}
use Rattle.std.proofs.Common.{length, length-append, refl, sym, ap, ◌∙◌, arith}
use Rattle.std.specs.List.{onto_first}
use Rattle.std.proofs.lemmas.List.Splits.{length-slice_split}
use Rattle.coll_text.specs.Numbers.{Word}
use Rattle.coll_text.specs.Reading.{parts}
use Rattle.book_stream.specs.Cuts.{behind}

onto_behind : (c : ℕ) (line : Word) (later : List Word) →
    onto_first c (behind line later) ≡ behind (c ∷ line) later
onto_behind c line [] = refl
onto_behind c line (part ∷ later) = refl

behind_none : (later : List Word) → 0 < length later → behind [] later ≡ later
behind_none [] l = absurd (omega arith)
behind_none (part ∷ later) l = refl

-- the parts of what was there end with this line, and those of what goes on begin with it
abbrev GoesOn : (old new later : List Word) → Type 0
GoesOn old new later = (lines : List Word) (line : Word) → old ≡ lines ++ line ∷ [] →
    new ≡ lines ++ behind line later

one_more : (b : Bool) (c : ℕ) (old new later : List Word) → 0 < length old → GoesOn old new later →
    GoesOn (cond b ([] ∷ old) (onto_first c old)) (cond b ([] ∷ new) (onto_first c new)) later
one_more true c old new later some h [] line e =
    let none : length old ≡ 0 = let k : old ≡ [] = cc in ap length k in absurd (omega arith)
one_more true c old new later some h (l ∷ lines) line e =
    let first : [] ≡ l = cc in
    let rest : old ≡ lines ++ line ∷ [] = cc in
    let k = h lines line rest in cc
one_more false c [] new later some h lines line e = absurd (omega arith)
one_more false c (p ∷ old) new later some h [] line e =
    let first : c ∷ p ≡ line = cc in
    let rest : old ≡ [] = cc in
    ap (onto_first c) (h [] p (ap (λ l. p ∷ l) rest)) ∙ onto_behind c p later
    ∙ ap (λ l. behind l later) first
one_more false c (p ∷ old) new later some h (l ∷ lines) line e =
    let first : c ∷ p ≡ l = cc in
    let rest : old ≡ lines ++ line ∷ [] = cc in
    ap (onto_first c) (h (p ∷ lines) line (ap (λ k. p ∷ k) rest))
    ∙ ap (λ k. k ∷ (lines ++ behind line later)) first

pub parts_behind : (text more : List ℕ) (lines : List Word) (line : Word) →
    parts 10 text ≡ lines ++ line ∷ [] →
    parts 10 (text ++ more) ≡ lines ++ behind line (parts 10 more)
parts_behind [] more [] line e =
    let k : [] ≡ line = cc in
    let long : 0 < length (parts 10 more) = omega
    (arith, length-slice_split (λ b. eqb b 10) more) in
    sym (behind_none (parts 10 more) long) ∙ ap (λ l. behind l (parts 10 more)) k
parts_behind [] more (l ∷ lines) line e =
    let k : [] ≡ lines ++ line ∷ [] = cc in
    let long = ap length k in absurd (omega (arith, length-append lines (line ∷ [])))
parts_behind (c ∷ text) more lines line e =
    let long : 0 < length (parts 10 text) = omega
    (arith, length-slice_split (λ b. eqb b 10) text) in
    one_more (eqb c 10) c (parts 10 text) (parts 10 (text ++ more)) (parts 10 more) long
    (parts_behind text more) lines line e
