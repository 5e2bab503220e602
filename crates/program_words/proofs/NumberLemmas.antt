-- What `parse` reads of digits, and what is no number of calls.
use Rattle.std.proofs.Common.{◌≡◌, ℕ, ◌<◌, ◌≤◌, true, List, length}
use Rattle.std.proofs.Common.{Result, Ok, Err, arith, rules, IfOk, IfErr}
use Rattle.std.specs.List.{list_all}
use Rattle.std.specs.Str.Parse.{ParsesUnsigned}
use Rattle.std.proofs.lemmas.Str.Parse.{IsNumeralModel, numerals_by_fold, parse_digits}
use Rattle.program_words.specs.Number.{is_digit, value_after}

own : IsNumeralModel (λ ds. list_all is_digit ds ≡ true) (value_after 0)
own = numerals_by_fold _ (search rules) value_after (search rules)

pub read_value : {E : Type 0} (bs : List ℕ) (r : Result ℕ E) → ParsesUnsigned 64 10 bs r →
    list_all is_digit bs ≡ true → IfOk r (λ n. n ≡ value_after 0 bs)
read_value {E = E} bs (Ok n) h digits = (parse_digits own {E = E} 64 bs (Ok n) h digits).1
read_value bs (Err e) h digits = tt

pub too_large : {E : Type 0} (bs : List ℕ) (r : Result ℕ E) → ParsesUnsigned 64 10 bs r →
    list_all is_digit bs ≡ true → 0 < length bs →
    IfErr r (λ e. 18446744073709551616 ≤ value_after 0 bs)
too_large bs (Ok n) h digits some = tt
too_large {E = E} bs (Err e) h digits some =
    let none : (value_after 0 bs < 18446744073709551616) → ⊥ =
    λ lt. parse_digits own {E = E} 64 bs (Err e) h digits (some, lt) in
    omega arith
