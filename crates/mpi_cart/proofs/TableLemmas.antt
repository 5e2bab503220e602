-- A table of neighbours, entry by entry.
use Rattle.std.proofs.Common.{◌≡◌, ℕ, zero, suc, ◌+◌, ◌*◌, ◌/◌, ◌%◌, ◌<◌, ◌≤◌, List, [], ◌∷◌, ◌++◌}
use Rattle.std.proofs.Common.{length, get_or, ◌∙◌, ap, sym, refl, arith, Option, Some, None, IfSome}
use Rattle.std.proofs.Common.{⊎_elim, slice_get, subst, min}
use Rattle.std.proofs.Math.Nat.{mul-add-div_right, mul-add-mod_self_right, mod-eq_of_lt}
use Rattle.std.proofs.Math.Nat.{div-eq_of_lt}
use Rattle.std.proofs.lemmas.Nat.{div_below}
use Rattle.std.proofs.lemmas.List.{get_or_append_left, length-append}
use Rattle.std.proofs.Math.Seq.{get_or-append_seam}
use Rattle.std.proofs.lemmas.Option.{get_or_from_slice_get, slice_get_within}
use Rattle.std.proofs.lemmas.Bool.{cases_lt}
use Rattle.mpi_cart.specs.Grids.{Topology, volume, neighbour}
use Rattle.mpi_cart.specs.Laid.{IsTable}
use Rattle.mpi_cart.proofs.ShiftLemmas.{neighbours_are_opposite}
use Rattle.mpi_cart.proofs.StrideLemmas.{nobody_past_the_last_slot, neighbour_back}

abbrev pub entry : Topology → ℕ → Option ℕ
entry g k = neighbour g (k / (2 * length g.dims)) (k % (2 * length g.dims))

-- the first k entries are made
pub record Filled (g : Topology) (k : ℕ) (table : List (Option ℕ)) : Type 0 where
  pub long : length table ≡ k
  pub entries : (m : ℕ) → m < length table → get_or table m None ≡ entry g m

pub filled_none : (g : Topology) → Filled g 0 []
filled_none g = record { long = refl; entries = λ m h. absurd (omega arith) }

entry_more : (g : Topology) (table : List (Option ℕ)) (found : Option ℕ) → found
    ≡ entry g (length table) → ((m : ℕ) → m < length table → get_or table m None ≡ entry g m)
    → (m : ℕ) → m < length (table ++ found ∷ []) → get_or (table ++ found ∷ []) m None ≡ entry g m
entry_more g table found is old m h =
    ⊎_elim (λ low. get_or_append_left table (found ∷ []) None m low ∙ old m low)
    (λ high.
    let last : length table ≡ m = (let all = length-append table (found ∷ []) in omega arith) in
    subst (λ k. get_or (table ++ found ∷ []) k None
    ≡ entry g k) last (get_or-append_seam table found [] None ∙ is))
    (cases_lt m (length table))

pub filled_more : (g : Topology) (k : ℕ) (table made : List (Option ℕ)) (found : Option ℕ) → made
    ≡ table ++ found ∷ [] → found ≡ entry g k → Filled g k table → Filled g (k + 1) made
filled_more g k table made found e is w = subst (Filled g (k + 1)) (sym e) (record {
  long = (let all = length-append table (found ∷ []) in let long = w.long in omega arith);
  entries = entry_more g table found (is ∙ ap (entry g) (sym w.long)) w.entries;
})

pub filled_all : (g : Topology) (k : ℕ) (table : List (Option ℕ))
    → k ≡ min 65536 (volume g.dims * (2 * length g.dims)) → Filled g k table → IsTable g table
filled_all g k table all w = record { long = w.long ∙ all; entries = w.entries }

-- an entry's rank and slot
pub entry_rank : (k size slots : ℕ) → k < size * slots → (0 < slots) × (k / slots < size)
entry_rank k size zero h = absurd (let none : size * zero ≡ 0 = omega arith in omega arith)
entry_rank k size (suc slots) h = (omega arith, div_below k (suc slots) size (omega arith) h)

-- what the table tells of a rank and a slot
pub looked_up : (g : Topology) (table : List (Option ℕ)) (rank slot : ℕ) (found : Option ℕ)
    → IsTable g table → slot < 2 * length g.dims
    → slice_get table (rank * (2 * length g.dims) + slot) ≡ Some found → found
    ≡ neighbour g rank slot
looked_up g table rank slot found w h e =
    let some : 0 < 2 * length g.dims = omega arith in
    sym (get_or_from_slice_get table _ found None e)
    ∙ (w.entries (rank * (2 * length g.dims) + slot) (slice_get_within table _ found e)
    ∙ (λ i. neighbour g (turned some i) (rest some i)))
  where
    turned : 0 < 2 * length g.dims → (rank * (2 * length g.dims) + slot) / (2 * length g.dims)
        ≡ rank
    turned some =
        mul-add-div_right some rank slot ∙ (ap (λ q. rank + q) (div-eq_of_lt h) ∙ omega arith)

    rest : 0 < 2 * length g.dims → (rank * (2 * length g.dims) + slot) % (2 * length g.dims) ≡ slot
    rest some = mul-add-mod_self_right rank (2 * length g.dims) slot ∙ mod-eq_of_lt h

-- what is known of a neighbour that is one
pub neighbour_below : (g : Topology) (rank slot : ℕ) (o : Option ℕ) → rank < volume g.dims → o
    ≡ neighbour g rank slot → IfSome o (λ q. q < volume g.dims)
neighbour_below g rank slot None h e = tt
neighbour_below g rank slot (Some q) h e = (neighbours_are_opposite g rank slot q h (sym e)).0

pub past_slots : (g : Topology) (rank slot : ℕ) → 2 * length g.dims ≤ slot → neighbour g rank slot
    ≡ None
past_slots g rank slot h = nobody_past_the_last_slot g rank slot h

pub ruleset table_entries = (looked_up, past_slots)

pub ruleset known_neighbours = (neighbour_below, neighbour_back)

-- a grid without dimensions has no entries
pub entries_need_dimensions : (g : Topology) (table : List (Option ℕ)) → IsTable g table
    → 0 < length table → 0 < length g.dims
entries_need_dimensions g table w h =
    (let long = w.long in some_slots (volume g.dims) (length g.dims) (omega arith))
  where
    some_slots : (v n : ℕ) → 0 < v * (2 * n) → 0 < n
    some_slots v zero h = absurd (let none : v * (2 * zero) ≡ 0 = omega arith in omega arith)
    some_slots v (suc n) h = omega arith
