-- What the tests of an option tell of it.
use Rattle.std.proofs.Common.{◌≡◌, true, false, Option, Some, None, refl}
use Rattle.std.specs.Prelude.{is_some, is_none}

pub is_none-None : {X : Type 0} (o : Option X) → is_none o ≡ true → o ≡ None
is_none-None None e = refl
is_none-None (Some x) e = absurd cc

pub is_some-Some : {X : Type 0} (o : Option X) → is_some o ≡ true → (x : X) × (o ≡ Some x)
is_some-Some (Some x) e = (x, refl)
is_some-Some None e = absurd cc

pub not_some-None : {X : Type 0} (o : Option X) → is_some o ≡ false → o ≡ None
not_some-None None e = refl
not_some-None (Some x) e = absurd cc
