-- Things with their numbers, as a window keeps them, and the list by number that they stand for.
use Rattle.std.specs.Prelude.{◌≡◌, ◌≢◌, ℕ, zero, suc, ◌+◌, ◌≤◌, ◌<◌, ◌==◌, List, [], ◌∷◌, map, length}
use Rattle.std.specs.Prelude.{if◌then◌else◌, All, HoldsAt}
use Rattle.hall_core.specs.declared.slots.Slot.{Slot}

-- their numbers
abbrev pub numbers_of : {X : Type 0} → List (Slot X) → List ℕ
numbers_of slots = map (λ s. s.number) slots

-- Each number is above the one before; the first is no less than this, and all are below the end.
abbrev pub AreAscending : {X : Type 0} → (least : ℕ) → List (Slot X) → (end : ℕ) → Type 0
AreAscending least [] end = least ≤ end
AreAscending least (s ∷ slots) end = (least ≤ s.number) × AreAscending (s.number + 1) slots end

-- this number stands at this place
abbrev pub IsAt : {X : Type 0} → (number : ℕ) → List (Slot X) → (at : ℕ) → Type 0
IsAt number slots at = (at < length slots) × HoldsAt (λ s. s.number ≡ number) slots at

-- and at none
abbrev pub IsAbsent : {X : Type 0} → (number : ℕ) → List (Slot X) → Type 0
IsAbsent number slots = All (λ s. s.number ≢ number) slots

-- what has this number, and nothing where none has
abbrev pub thing_of : {X : Type 0} → (nothing : X) → List (Slot X) → (number : ℕ) → X
thing_of nothing [] number = nothing
thing_of nothing (s ∷ slots) number =
    if s.number == number then s.thing else thing_of nothing slots number

-- so many things by number, from this number on
abbrev pub by_number : {X : Type 0} → (ℕ → X) → (first count : ℕ) → List X
by_number f first zero = []
by_number f first (suc n) = f first ∷ by_number f (first + 1) n

-- the list up to this number, with nothing at each that they do not have
abbrev pub list_of : {X : Type 0} → (nothing : X) → List (Slot X) → (end : ℕ) → List X
list_of nothing slots end = by_number (thing_of nothing slots) 0 end
