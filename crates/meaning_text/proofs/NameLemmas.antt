-- A name by its number.
use Rattle.std.proofs.Common.{◌≡◌, ℕ, List, [], Some, ap, slice_get}
use Rattle.std.specs.Prelude.{unwrap_or}
use Rattle.coll_text.specs.Numbers.{Word}
use Rattle.coll_text.specs.Words.{name_at}

pub name_is : (names : List Word) (n : ℕ) (w : Word) → slice_get names n ≡ Some w →
    name_at names n ≡ w
name_is names n w at = ap (λ o. unwrap_or o []) at
