use Rattle.std.proofs.Common.{◌≡◌, ℕ, Bool, ◌&&◌, ap, arith}
use Rattle.wall_labels.specs.Rows.{is_set, differs}
use Rattle.wall_labels.proofs.RowLemmas.{lowest_is, none_before, none_more, none_at_all}
use Rattle.wall_labels.proofs.RowLemmas.{word_of_others}
use Rattle.wall_labels.proofs.label_set.lowest_other.Goals as goal

pub returns-then-word-ne0-clause-found : goal.returns-then-word-ne0-clause-found
returns-then-word-ne0-clause-found c =
    let P : ℕ → Bool = λ k. is_set c.args.words.now k && differs c.args.other.now k in
    let p = c.loop-place.place in
    let w = c.without-word.result in
    rw c.lowest.ensures (
    lowest_is P p w (λ k e.
    word_of_others c.args.words.now c.args.other.now p w k e (c.without-word.ensures k e))
    (omega arith) (omega arith)
    )

pub returns-then-word-ne0-clause-lowest : goal.returns-then-word-ne0-clause-lowest
returns-then-word-ne0-clause-lowest c k lt =
    let P : ℕ → Bool = λ k. is_set c.args.words.now k && differs c.args.other.now k in
    let p = c.loop-place.place in
    let w = c.without-word.result in
    none_before P p w (λ k e.
    word_of_others c.args.words.now c.args.other.now p w k e (c.without-word.ensures k e))
    (omega arith) (omega arith) c.loop-place.invariant k (
    omega arith
    )

pub loop-place-preserved : goal.loop-place-preserved
loop-place-preserved c =
    let P : ℕ → Bool = λ k. is_set c.args.words.now k && differs c.args.other.now k in
    let p = c.loop-place.place in
    let w = c.without-word.result in
    none_more P p w (λ k e.
    word_of_others c.args.words.now c.args.other.now p w k e (c.without-word.ensures k e))
    (omega arith) c.loop-place.invariant

pub returns-clause-none : goal.returns-clause-none
returns-clause-none c =
    let P : ℕ → Bool = λ k. is_set c.args.words.now k && differs c.args.other.now k in
    let end : c.loop-place.place ≡ c.args.used = omega arith in
    none_at_all P c.args.used (λ k lt. c.loop-place.invariant k (omega arith)) (
    λ k past. ap (λ b. b && differs c.args.other.now k) (c.requires.clear k past)
    )
