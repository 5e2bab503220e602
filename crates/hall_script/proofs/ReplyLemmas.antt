-- Lists of numbers between brackets.
use Rattle.std.proofs.Common.{◌≡◌, List, [], ◌∷◌, ℤ, refl}
use Rattle.coll_text.specs.Writing.{enclosed_numbers}
use Rattle.hall_script.specs.Replies.{numbers_text}

pub list_text : (ns : List ℤ) → enclosed_numbers 91 ns 93 ≡ numbers_text ns
list_text [] = refl
list_text (n ∷ ns) = refl
