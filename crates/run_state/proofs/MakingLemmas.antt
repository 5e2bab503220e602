-- What the bodies of the constructors come to.
use Rattle.std.proofs.Common.{◌≡◌, ℕ, zero, suc, ◌+◌, ◌<◌, ◌≤◌, List, [], ◌∷◌, ◌++◌, length, refl}
use Rattle.std.proofs.Common.{sym, ap, ◌∙◌, subst, arith, Bool, true, false, Option, Some, None}
use Rattle.std.proofs.Common.{slice_get, map, drop, replicate, cond, ◌&&◌, ◌||◌}
use Rattle.std.proofs.Common.{append_assoc, length-append}
use Rattle.std.proofs.lemmas.Bool.{cond-true, cond-false, leb-true}
use Rattle.std.proofs.lemmas.List.{length-replicate, append-nil, length-map}
use Rattle.std.specs.Prelude.{◌==◌, nat_le, Result, Ok, Err, IfOk, unwrap_or}
use Rattle.std.specs.List.{list_all}
use Rattle.mpi_group.specs.Groups.{members_at}
use Rattle.mpi_cart.specs.Grids.{Topology}
use Rattle.mpi_comm.specs.Comms.{group_at, dup_groups, subset_groups, fits, constructor_fault}
use Rattle.mpi_comm.specs.declared.table.TheConstants.{COMMUNICATOR_LIMIT}
use Rattle.mpi_comm.specs.declared.fault.CommFault.{CommFault}
use Rattle.mpi_comm.specs.declared.fault.CommFault.TheVariants as faults
use Rattle.coll_routes.specs.declared.roll.Shape.{Shape}
use Rattle.coll_routes.specs.Fit.{IsSizedGrid}
use Rattle.run_model.specs.Comms.{Comm, with_grid, shape_of}
use Rattle.run_model.specs.declared.outcome.Outcome.{Outcome}
use Rattle.run_model.specs.declared.outcome.Outcome.TheVariants.{Made, NoRoom}
use Rattle.run_state.specs.Laid.{with_shapes, AreLaid, laid}
use Rattle.run_state.specs.Making.{Makes}
use Rattle.run_state.proofs.LaidLemmas.{some_at, laid_length, laid_append, AreSized, laid_within}
use Rattle.run_state.proofs.LaidLemmas.{laid_group, laid_sized, makes_some}
use Rattle.run_state.proofs.LaidLemmas.{makes_none, fits_is, no_room_is, dropped_prefix}

-- ## shapes that are entered one by one

turn_suc : (grid : Option Topology) (gs : List (List ℕ)) (n : ℕ) → n < length gs →
    laid grid (drop n gs)
    ≡ record { size = length (group_at gs n); grid = grid } ∷ laid grid (drop (suc n) gs)
turn_suc grid [] n lt = absurd (omega (arith, lt))
turn_suc grid (g ∷ gs) zero lt = refl
turn_suc grid (g ∷ gs) (suc n) lt = turn_suc grid gs n (omega (arith, lt))

one_more : (n : ℕ) → suc n ≡ n + 1
one_more n = omega arith

pub laid_turn : (grid : Option Topology) (gs : List (List ℕ)) (n : ℕ) → n < length gs →
    laid grid (drop n gs)
    ≡ record { size = length (group_at gs n); grid = grid } ∷ laid grid (drop (n + 1) gs)
laid_turn grid gs n lt = turn_suc grid gs n lt
    ∙ ap (λ m. record { size = length (group_at gs n); grid = grid } ∷ laid grid (drop m gs))
    (one_more n)

pub laid_end : (grid : Option Topology) (gs : List (List ℕ)) (n : ℕ) → length gs ≤ n →
    laid grid (drop n gs) ≡ []
laid_end grid [] zero le = refl
laid_end grid [] (suc n) le = refl
laid_end grid (g ∷ gs) zero le = absurd (omega (arith, le))
laid_end grid (g ∷ gs) (suc n) le = laid_end grid gs n (omega (arith, le))

-- one more was entered of those that are still to be
pub entered_more :
    (grid : Option Topology) (gs : List (List ℕ)) (n : ℕ) (shapes all : List Shape) (size : ℕ) →
    n < length gs → size ≡ length (group_at gs n) → shapes ++ laid grid (drop n gs) ≡ all →
    (shapes ++ record { size = size; grid = grid } ∷ []) ++ laid grid (drop (n + 1) gs) ≡ all
entered_more grid gs n shapes all size lt is e =
    append_assoc shapes (record { size = size; grid = grid } ∷ []) (laid grid (drop (n + 1) gs))
    ∙ (ap (λ k. shapes ++ record { size = k; grid = grid } ∷ laid grid (drop (n + 1) gs)) is
    ∙ (ap (λ xs. shapes ++ xs) (sym (laid_turn grid gs n lt)) ∙ e))

pub entered_last : (grid : Option Topology) (gs : List (List ℕ)) (n : ℕ) (shapes all : List Shape) →
    length gs ≤ n → shapes ++ laid grid (drop n gs) ≡ all → shapes ≡ all
entered_last grid gs n shapes all le e =
    sym (append-nil shapes) ∙ (ap (λ xs. shapes ++ xs) (sym (laid_end grid gs n le)) ∙ e)

-- each of so many equal ones is that one
pub is_copy : {A : Type 0} (xs : List A) (x : A) (ys : List A) (n : ℕ) (g : A) →
    xs ++ x ∷ ys ≡ replicate n g → x ≡ g
is_copy [] x ys zero g e = absurd (cc)
is_copy [] x ys (suc n) g e = cc
is_copy (a ∷ xs) x ys zero g e = absurd (cc)
is_copy (a ∷ xs) x ys (suc n) g e =
    (let rest : xs ++ x ∷ ys ≡ replicate n g = cc in is_copy xs x ys n g rest)

-- ## room

one_fits : (b : Bool) → (b || (1 == 0)) ≡ true → b ≡ true
one_fits true e = refl
one_fits false e = e

pub room_for_one : (n : ℕ) → fits n 1 ≡ true → n + 1 ≤ COMMUNICATOR_LIMIT
room_for_one n e =
    leb-true (n + 1) COMMUNICATOR_LIMIT (one_fits (nat_le (n + 1) COMMUNICATOR_LIMIT) e)

-- ## lists

pub copies_are : {A : Type 0} (xs : List A) (n : ℕ) (g : A) → xs ≡ replicate n g →
    xs ≡ replicate (length xs) g
copies_are xs n g e = e ∙ ap (λ k. replicate k g) (sym (ap length e ∙ length-replicate n g))

pub all_at : {A : Type 0} (xs : List A) (f : A → List ℕ) (v : ℕ) →
    list_all (λ x. length (f x) == v) xs ≡ list_all (λ list. length list == v) (map f xs)
all_at [] f v = refl
all_at (x ∷ xs) f v = ap (λ b. (length (f x) == v) && b) (all_at xs f v)

pub length_groups : {A : Type 0} (xs : List A) (f : A → List ℕ) (members : List ℕ) →
    length (subset_groups (map f xs) members) ≡ length xs
length_groups xs f members =
    length-map (map f xs) (λ ranks. members_at members ranks) ∙ length-map xs f

-- ## what is answered

pub if_true : (b : Bool) (fault : CommFault) → b ≡ true → cond b None (Some fault) ≡ None
if_true b fault e = cond-true b None (Some fault) e

pub if_false : (b : Bool) (fault : CommFault) → b ≡ false → cond b (Some fault) None ≡ None
if_false b fault e = cond-false b (Some fault) None e

-- the same communicators by another name
pub also_makes : {E : Type 0} (result : Result Outcome E) (new other : Comm → List Comm)
    (old after : List Comm) (c : ℕ) →
    ((found : Comm) → slice_get old c ≡ Some found → new found ≡ other found) →
    IfOk result (λ outcome.
    (found : Comm) → slice_get old c ≡ Some found → Makes (new found) old after outcome) →
    IfOk result (λ outcome.
    (found : Comm) → slice_get old c ≡ Some found → Makes (other found) old after outcome)
also_makes (Err e) new other old after c same makes = tt
also_makes (Ok outcome) new other old after c same makes =
    λ found at. subst (λ cs. Makes cs old after outcome) (same found at) (makes found at)

-- ## groups added to the table, and shapes beside them

module _ (gs : List (List ℕ)) (ss : List Shape) (h : AreLaid gs ss) where
  -- there is a shape for each group that was there
  pub fewer : (new after : List (List ℕ)) (before : List Shape) → before ≡ ss → after ≡ gs ++ new →
      length before + length new ≡ length after
  fewer new after before kept grown =
      let long = laid_length gs ss h in
      let all = ap length grown ∙ length-append gs new in
      let same = ap length kept in
      omega arith

  -- all those that were added have been entered
  pub all_entered :
      (grid : Option Topology) (new after : List (List ℕ)) (before shapes : List Shape) →
      before ≡ ss → after ≡ gs ++ new → shapes ≡ before ++ laid grid (drop (length before) after) →
      shapes ≡ ss ++ laid grid new
  all_entered grid new after before shapes same grown entered =
      entered ∙ ((λ i. same i ++ laid grid (drop (length (same i)) (grown i)))
      ∙ ap (λ xs. ss ++ laid grid xs)
      (dropped_prefix gs new (length ss) (sym (laid_length gs ss h))))

  pub now_laid : (grid : Option Topology) (new after : List (List ℕ)) (shapes : List Shape) →
      AreSized grid new → after ≡ gs ++ new → shapes ≡ ss ++ laid grid new → AreLaid after shapes
  now_laid grid new after shapes sized grown entered =
      subst (λ x. AreLaid x shapes) (sym grown)
      (subst (λ y. AreLaid (gs ++ new) y) (sym entered) (laid_append gs new ss grid h sized))

-- a communicator, by what is seen of it
module _ (gs : List (List ℕ)) (ss : List Shape) (table : List Comm)
    (view : with_shapes gs ss ≡ table) (h : AreLaid gs ss) (c : ℕ) (lt : c < length table) where
  low : c < length gs
  low = laid_within gs ss table view h c lt

  -- what holds of the communicator holds of its group
  pub at_group : (P : List ℕ → Type 0) →
      ((found : Comm) → slice_get table c ≡ Some found → P found.members) → P (group_at gs c)
  at_group P each =
      let there = some_at table c lt in
      subst P (sym (laid_group gs ss table view h c there.0 there.1)) (each there.0 there.1)

  module _ (found : Comm) (at : slice_get table c ≡ Some found) where
    members : group_at gs c ≡ found.members
    members = laid_group gs ss table view h c found at

    -- its shape, entered for its duplicate
    pub copy_entered : (before after : List Shape) (shape : Shape) → before ≡ ss →
        shape ≡ shape_of found → after ≡ before ++ shape ∷ [] →
        after ≡ ss ++ laid found.grid (dup_groups (group_at gs c))
    copy_entered before after shape same copy entered =
        let own : shape ≡ record { size = length (group_at gs c); grid = found.grid } = copy
        ∙ ap (λ (ms : List ℕ). record { size = length ms; grid = found.grid }) (sym members) in
        entered ∙ (λ i. same i ++ own i ∷ [])

    -- a duplicate is as large as the grid
    pub copy_sized : AreSized found.grid (dup_groups (group_at gs c))
    copy_sized = (
      subst (λ (ms : List ℕ). IsSizedGrid (length ms) found.grid) (sym members)
          (laid_sized gs ss table view h c found at),
      tt,
    )

  module _ (own : Option CommFault) (groups : List ℕ → List (List ℕ))
      (grid : Comm → Option Topology) where
    abbrev new : List (List ℕ)
    new = groups (group_at gs c)

    -- the same of what is seen
    seen_made : (found : Comm) (after : List Comm) (outcome : Outcome) →
        slice_get table c ≡ Some found →
        Makes (with_grid (grid found) new) (with_shapes gs ss) after outcome →
        Makes (with_grid (grid found) (groups found.members)) table after outcome
    seen_made found after outcome at makes =
        subst (λ ms. Makes (with_grid (grid found) (groups ms)) table after outcome)
        (members found at)
        (subst (λ old. Makes (with_grid (grid found) new) old after outcome) view makes)

    pub makes_these :
        (after : List (List ℕ)) (shapes : List Shape) (outcome : Outcome) (found : Comm) →
        constructor_fault gs c own new ≡ None → after ≡ gs ++ new →
        shapes ≡ ss ++ laid (grid found) new → outcome ≡ Made (length gs) (length new) →
        slice_get table c ≡ Some found →
        Makes (with_grid (grid found) (groups found.members)) table (with_shapes after shapes)
        outcome
    makes_these after shapes outcome found none grown entered told at =
        let is = makes_some gs new ss (grid found) h (fits_is gs new c own low none) in
        seen_made found (with_shapes after shapes) outcome at (record {
          grown = (λ i. with_shapes (grown i) (entered i)) ∙ is.grown;
          told = told ∙ is.told;
        })

    -- the answer to want of room
    pub makes_nothing : {E : Type 0} (result : Result Outcome E) (after : List (List ℕ))
        (shapes : List Shape) (fault : CommFault) →
        own ≡ None → fault ≡ unwrap_or (constructor_fault gs c own new) faults.NoMemory →
        after ≡ gs → shapes ≡ ss →
        IfOk result (λ outcome. (fault ≡ faults.NoRoom) × (outcome ≡ NoRoom)) →
        IfOk result (λ outcome. (found : Comm) → slice_get table c ≡ Some found →
        Makes (with_grid (grid found) (groups found.members)) table (with_shapes after shapes)
        outcome)
    makes_nothing (Err e) after shapes fault none refused same kept told = tt
    makes_nothing (Ok outcome) after shapes fault none refused same kept told = λ found at.
        let is = makes_none gs new ss (grid found) h
        (no_room_is gs new c own none low (sym told.0 ∙ refused)) in
        seen_made found (with_shapes after shapes) outcome at (record {
          grown = (λ i. with_shapes (same i) (kept i)) ∙ is.grown;
          told = told.1 ∙ is.told;
        })
