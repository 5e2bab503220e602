-- The calls of a run, counted by processes.
use Rattle.std.proofs.Common.{◌≡◌, ℕ, zero, suc, ◌+◌, ◌*◌, ◌<◌, ◌≤◌}
use Rattle.std.proofs.Common.{List, [], ◌∷◌, length, refl, sym, ap, subst, ◌∙◌, ⊎_elim, arith}
use Rattle.std.proofs.Math.Nat.{mul-suc, eq-or-lt_of_le}
use Rattle.std.proofs.lemmas.Bool.{cases_lt}
use Rattle.run_model.specs.Runs.{Entry}
use Rattle.hall_turn.specs.Runs.{calls_of}
use Rattle.hall_turn.proofs.HallTurnLemmas.{calls_of-own, calls_of-none, calls_grow}

pub sum_le : (a b c d : ℕ) → a ≤ b → c ≤ d → a + c ≤ b + d
sum_le a b c d h k = omega arith

pub both_le : (a b c : ℕ) → a ≤ b → b ≤ c → a ≤ c
both_le a b c h k = omega arith

-- so many calls each time, once more
pub times_more : (t n a c : ℕ) → a ≤ t * n → c ≤ t → a + c ≤ t * suc n
times_more t n a c h k = subst (λ x. a + c ≤ x) (sym (mul-suc t n)) (sum_le a (t * n) c t h k)

-- how many calls the first n processes have in a run
abbrev pub calls_below : (n : ℕ) → List Entry → ℕ
calls_below zero run = 0
calls_below (suc n) run = calls_below n run + length (calls_of n run)

below_keeps : (n : ℕ) (run : List Entry) (e : Entry) → calls_below n run ≤ calls_below n (e ∷ run)
below_keeps zero run e = omega arith
below_keeps (suc n) run e =
    sum_le (calls_below n run) (calls_below n (e ∷ run)) (length (calls_of n run))
    (length (calls_of n (e ∷ run))) (below_keeps n run e) (calls_grow n run e)

below_more : (n : ℕ) (run : List Entry) (e : Entry) → e.call.process < n
    → calls_below n run + 1 ≤ calls_below n (e ∷ run)
below_more zero run e lt = absurd (omega arith)
below_more (suc n) run e lt =
    let before = calls_below n run in
    let after = calls_below n (e ∷ run) in
    let old = length (calls_of n run) in
    let new = length (calls_of n (e ∷ run)) in
    let le : e.call.process ≤ n = omega arith in
    ⊎_elim
    (λ (is : e.call.process ≡ n).
    let keeps = below_keeps n run e in
    let own : new ≡ suc old = ap length (calls_of-own n run e is) in
    omega arith)
    (λ (low : e.call.process < n).
    let more = below_more n run e low in
    let keeps = calls_grow n run e in
    omega arith)
    (eq-or-lt_of_le le)

-- where no other process has a call, they have all
pub calls_whole : (n : ℕ) (run : List Entry) → ((p : ℕ) → n ≤ p → calls_of p run ≡ [])
    → length run ≤ calls_below n run
calls_whole n [] others = omega arith
calls_whole n (e ∷ run) others =
    let q = e.call.process in
    let rest = calls_whole n run
    (λ p le. calls_of-none p (e ∷ run) run (e ∷ [], refl) (others p le)) in
    ⊎_elim
    (λ (low : q < n). let more = below_more n run e low in omega arith)
    (λ (high : n ≤ q).
    let none : (e ∷ calls_of q run) ≡ [] = sym (calls_of-own q run e refl) ∙ others q high in
    absurd (cc))
    (cases_lt q n)
