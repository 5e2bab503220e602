use Rattle.std.proofs.Common.{◌≡◌, ◌<◌, ◌^◌, ℕ, Bool, get_or, bit_and, bit_or, arith}
use Rattle.std.proofs.lemmas.Nat.{and_le_l}
use Rattle.wall_labels.specs.Rows.{is_in_one}
use Rattle.wall_labels.proofs.RowLemmas.{lowest_is, none_before, none_more, none_at_all}
use Rattle.wall_labels.proofs.RowLemmas.{word_in_one}
use Rattle.wall_labels.proofs.label_set.lowest_shared.Goals as goal

pub returns-then-word-ne0-clause-found : goal.returns-then-word-ne0-clause-found
returns-then-word-ne0-clause-found c =
    let P : ℕ → Bool = is_in_one c.args.words.now c.args.left.now c.args.right.now in
    let p = c.loop-place.place in
    let w : ℕ = bit_and (get_or c.args.words.now p 0)
    (bit_or (get_or c.args.left.now p 0) (get_or c.args.right.now p 0)) in
    let here : get_or c.args.words.now p 0 < 2 ^ 64 = omega arith in
    let fits : w < 2 ^ 64 = omega (arith, and_le_l, here) in
    rw c.lowest.ensures (lowest_is P p w
    (word_in_one c.args.words.now c.args.left.now c.args.right.now p) (omega arith) fits)

pub returns-then-word-ne0-clause-lowest : goal.returns-then-word-ne0-clause-lowest
returns-then-word-ne0-clause-lowest c k lt =
    let P : ℕ → Bool = is_in_one c.args.words.now c.args.left.now c.args.right.now in
    let p = c.loop-place.place in
    let w : ℕ = bit_and (get_or c.args.words.now p 0)
    (bit_or (get_or c.args.left.now p 0) (get_or c.args.right.now p 0)) in
    let here : get_or c.args.words.now p 0 < 2 ^ 64 = omega arith in
    let fits : w < 2 ^ 64 = omega (arith, and_le_l, here) in
    none_before P p w (word_in_one c.args.words.now c.args.left.now c.args.right.now p)
    (omega arith) fits c.loop-place.invariant k (omega arith)

pub loop-place-preserved : goal.loop-place-preserved
loop-place-preserved c =
    let P : ℕ → Bool = is_in_one c.args.words.now c.args.left.now c.args.right.now in
    let p = c.loop-place.place in
    let w : ℕ = bit_and (get_or c.args.words.now p 0)
    (bit_or (get_or c.args.left.now p 0) (get_or c.args.right.now p 0)) in
    none_more P p w (word_in_one c.args.words.now c.args.left.now c.args.right.now p) (omega arith)
    c.loop-place.invariant

pub returns-clause-none : goal.returns-clause-none
returns-clause-none c =
    let P : ℕ → Bool = is_in_one c.args.words.now c.args.left.now c.args.right.now in
    let end : c.loop-place.place ≡ c.args.used = omega arith in
    none_at_all P c.args.used (λ k lt. c.loop-place.invariant k (omega arith)) c.requires.clear
