-- Lists by number of which only some are kept.
use Rattle.std.specs.Prelude.{◌≡◌, ℕ, ◌+◌, ◌*◌, ◌≤◌, ◌↔◌, ◌⊎◌, max, Bool, List, length, Contains}
use Rattle.std.specs.Prelude.{slice_set, count_by, refl}
use Rattle.std.specs.Coded.{Coded, code_by, coded×, coded_ℕ, coded_list}

-- A list by number, with the numbers that are kept, and with room for so many more. Nothing is left
-- of what stands at the others.
pub record Windowed (X : Type 0) : Type 0 where
  pub numbers : List ℕ
  pub list : List X
  pub room : ℕ

-- it is stored as the tuple of its fields
abbrev pub windowed_code : {X : Type 0} → Coded X → Coded (Windowed X)
windowed_code {X} code =
    code_by
    (List ℕ × (List X × ℕ))
    (coded× (coded_list coded_ℕ) (coded× (coded_list code) coded_ℕ))
    (λ w. (w.numbers, (w.list, w.room)))
    (λ p. record { numbers = p.0; list = p.1.0; room = p.1.1 })
    (λ _. refl)

module _ {X : Type 0} where
  -- what stands at this number is kept
  abbrev pub IsInWindow : Windowed X → (number : ℕ) → Type 0
  IsInWindow w number = Contains w.numbers number

  -- and is another thing
  abbrev pub with_thing : Windowed X → (number : ℕ) → X → Windowed X
  with_thing w number x = record w { list = slice_set w.list number x }

  -- how many are kept
  abbrev pub kept_in : Windowed X → ℕ
  kept_in w = length w.numbers

  -- something is left of half of those that are kept, at least
  abbrev pub HoldsHalf : (is_left : X → Bool) → Windowed X → Type 0
  HoldsHalf is_left w = kept_in w ≤ 2 * count_by is_left w.list

  -- how many it has memory for
  abbrev pub slots_of : Windowed X → ℕ
  slots_of w = kept_in w + w.room

  -- it has memory for twice as many, at least
  abbrev pub HasDoubled : (old new : Windowed X) → Type 0
  HasDoubled old new = 2 * slots_of old ≤ slots_of new

  -- it has memory for no more than before, or than twice what it keeps and four
  abbrev pub HasFewSlots : (old new : Windowed X) → Type 0
  HasFewSlots old new = slots_of new ≤ max (slots_of old) (2 * kept_in new + 4)

-- two keep the same by the same numbers
pub record KeepAlike {X : Type 0} (old new : Windowed X) : Type 0 where
  pub numbers : new.numbers ≡ old.numbers
  pub list : new.list ≡ old.list

-- it keeps this number, those that it kept, and no other
pub record HasReached {X : Type 0} (old new : Windowed X) (number : ℕ) : Type 0 where
  pub kept : (n : ℕ) → IsInWindow new n ↔ (IsInWindow old n ⊎ (n ≡ number))
  pub one : kept_in new ≤ kept_in old + 1
  pub end : length new.list ≡ max (length old.list) (number + 1)
