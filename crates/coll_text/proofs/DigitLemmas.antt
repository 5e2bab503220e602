-- The value of digits grows with each digit.
use Rattle.std.proofs.Common.{◌≡◌, ℕ, ◌+◌, ◌-◌, ◌*◌, ◌<◌, ◌≤◌, leb, [], ◌∷◌, length, get_or, drop}
use Rattle.std.proofs.Common.{None, arith, sym, ap, ◌∙◌, refl}
use Rattle.std.proofs.lemmas.Bool.{lt-leb, and_right}
use Rattle.std.proofs.lemmas.List.{drop_more}
use Rattle.coll_text.specs.Numbers.{Word, is_number, value_after, number_within}

value_after-le : (bs : Word) (n : ℕ) → n ≤ value_after n bs
value_after-le [] n = omega arith
value_after-le (b ∷ bs) n = omega (arith, value_after-le bs (n * 10 + (b - 48)))

-- more than the most so far is more than the most in the end
pub overflows : (most v i : ℕ) (w : Word) → i < length w →
    value_after v (drop i w) ≡ value_after 0 w → most < v * 10 + (get_or w i 0 - 48) →
    None ≡ number_within most w
unfolding number_within
overflows most v i w lt so_far large =
    let next : ℕ = v * 10 + (get_or w i 0 - 48) in
    let e : value_after next (drop (i + 1) w) ≡ value_after 0 w = sym
    (ap (value_after v) (drop_more w i 0 lt)) ∙ so_far in
    let big : most < value_after 0 w = omega (arith, value_after-le (drop (i + 1) w) next, e) in
    rw (and_right (is_number w) (leb (value_after 0 w) most) (lt-leb (value_after 0 w) most big))
    refl
