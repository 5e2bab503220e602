use Rattle.std.proofs.Common.{◌≡◌, ◌<◌, ◌^◌, ◌&&◌, ℕ, Bool, get_or, bit_and, not, ap, arith}
use Rattle.std.proofs.lemmas.Nat.{and_le_l}
use Rattle.std.specs.Int.{bit_not, w64}
use Rattle.wall_labels.specs.Rows.{is_missing, is_set}
use Rattle.wall_labels.proofs.RowLemmas.{lowest_is, none_before, none_more, none_at_all}
use Rattle.wall_labels.proofs.RowLemmas.{word_missing}
use Rattle.wall_labels.proofs.label_set.lowest_missing.Goals as goal

pub returns-then-word-ne0-clause-found : goal.returns-then-word-ne0-clause-found
returns-then-word-ne0-clause-found c =
    let P : ℕ → Bool = is_missing c.args.words.now c.args.other.now in
    let p = c.loop-place.place in
    let o : ℕ = get_or c.args.other.now p 0 in
    let w : ℕ = bit_and (get_or c.args.words.now p 0) (bit_not w64 o) in
    let small : o < 2 ^ 64 = omega arith in
    let here : get_or c.args.words.now p 0 < 2 ^ 64 = omega arith in
    let fits : w < 2 ^ 64 = omega (arith, and_le_l, here) in
    rw c.lowest.ensures (lowest_is P p w
    (λ k e. word_missing c.args.words.now c.args.other.now p k small e) (omega arith) fits)

pub returns-then-word-ne0-clause-lowest : goal.returns-then-word-ne0-clause-lowest
returns-then-word-ne0-clause-lowest c k lt =
    let P : ℕ → Bool = is_missing c.args.words.now c.args.other.now in
    let p = c.loop-place.place in
    let o : ℕ = get_or c.args.other.now p 0 in
    let w : ℕ = bit_and (get_or c.args.words.now p 0) (bit_not w64 o) in
    let small : o < 2 ^ 64 = omega arith in
    let here : get_or c.args.words.now p 0 < 2 ^ 64 = omega arith in
    let fits : w < 2 ^ 64 = omega (arith, and_le_l, here) in
    none_before P p w (λ n e. word_missing c.args.words.now c.args.other.now p n small e)
    (omega arith) fits c.loop-place.invariant k (omega arith)

pub loop-place-preserved : goal.loop-place-preserved
loop-place-preserved c =
    let P : ℕ → Bool = is_missing c.args.words.now c.args.other.now in
    let p = c.loop-place.place in
    let o : ℕ = get_or c.args.other.now p 0 in
    let w : ℕ = bit_and (get_or c.args.words.now p 0) (bit_not w64 o) in
    let small : o < 2 ^ 64 = omega arith in
    none_more P p w (λ k e. word_missing c.args.words.now c.args.other.now p k small e)
    (omega arith) c.loop-place.invariant

pub returns-clause-none : goal.returns-clause-none
returns-clause-none c =
    let P : ℕ → Bool = is_missing c.args.words.now c.args.other.now in
    let end : c.loop-place.place ≡ c.args.used = omega arith in
    none_at_all P c.args.used (λ k lt. c.loop-place.invariant k (omega arith))
    (λ k past. ap (λ b. b && not (is_set c.args.other.now k)) (c.requires.clear k past))
