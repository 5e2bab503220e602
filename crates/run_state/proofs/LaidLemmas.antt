-- Groups and shapes that stand side by side, and what a constructor adds to both.
use Rattle.std.proofs.Common.{◌≡◌, ℕ, zero, suc, ◌<◌, List, [], ◌∷◌, ◌++◌, length, refl, sym, ap}
use Rattle.std.proofs.Common.{◌∙◌, subst, arith, Bool, true, false, Option, Some, None, slice_get}
use Rattle.std.proofs.Common.{drop, cond, get_or, ◌≤◌, ⊎_elim}
use Rattle.std.specs.Prelude.{◌==◌, nat_lt, unwrap_or, filter_map}
use Rattle.std.specs.List.{list_all}
use Rattle.std.proofs.lemmas.Bool.{cond-true, cond-false, and_parts, lt-ltb}
use Rattle.std.proofs.lemmas.List.{append-nil, length-map}
use Rattle.std.proofs.lemmas.Option.{slice_get_cases}
use Rattle.mpi_group.specs.Groups.{members_at, are_ranks}
use Rattle.mpi_cart.specs.Grids.{Topology, volume}
use Rattle.mpi_comm.specs.Comms.{group_at, fits, is_subgroup, subset_groups, constructor_fault}
use Rattle.mpi_comm.specs.declared.fault.CommFault.{CommFault}
use Rattle.mpi_comm.specs.declared.fault.CommFault.TheVariants as faults
use Rattle.coll_routes.specs.declared.roll.Shape.{Shape}
use Rattle.coll_routes.specs.Fit.{IsSized, IsSizedGrid}
use Rattle.run_model.specs.Comms.{Comm, with_grid, shape_of}
use Rattle.run_model.specs.declared.outcome.Outcome.TheVariants.{Made, NoRoom}
use Rattle.run_model.proofs.RunModelLemmas.{length_members_at}
use Rattle.run_state.specs.Laid.{with_shapes, AreLaid, IsShape, laid}
use Rattle.run_state.specs.Making.{Makes, is_left}

-- a communicator that is there
pub some_at : (table : List Comm) (c : ℕ) → c < length table →
    (found : Comm) × (slice_get table c ≡ Some found)
some_at table c lt = ⊎_elim
    (λ (there : (x : Comm) × (c < length table) × (slice_get table c ≡ Some x)
    × (get_or table c x ≡ x)). (there.0, there.2))
    (λ (past : (length table ≤ c) × (slice_get table c ≡ None)).
    let low = past.0 in absurd (omega (arith, lt, low)))
    (slice_get_cases table c).1

pub laid_length : (gs : List (List ℕ)) (ss : List Shape) → AreLaid gs ss → length gs ≡ length ss
laid_length [] [] h = refl
laid_length [] (s ∷ ss) h = absurd h
laid_length (g ∷ gs) [] h = absurd h
laid_length (g ∷ gs) (s ∷ ss) h = ap suc (laid_length gs ss h.1)

pub joined_length : (gs : List (List ℕ)) (ss : List Shape) → AreLaid gs ss →
    length (with_shapes gs ss) ≡ length gs
joined_length [] ss h = refl
joined_length (g ∷ gs) [] h = absurd h
joined_length (g ∷ gs) (s ∷ ss) h = ap suc (joined_length gs ss h.1)

-- a communicator, in the two lists
pub record IsIn (gs : List (List ℕ)) (ss : List Shape) (c : ℕ) (comm : Comm) : Type 0 where
  pub shape : Shape
  pub group : slice_get gs c ≡ Some comm.members
  pub at : slice_get ss c ≡ Some shape
  pub is : IsShape comm.members shape
  pub grid : shape.grid ≡ comm.grid

pub is_in : (gs : List (List ℕ)) (ss : List Shape) (c : ℕ) (comm : Comm) → AreLaid gs ss →
    slice_get (with_shapes gs ss) c ≡ Some comm → IsIn gs ss c comm
is_in [] ss c comm h e = absurd (cc)
is_in (g ∷ gs) [] c comm h e = absurd h
is_in (g ∷ gs) (s ∷ ss) zero comm h e =
    let same : record { members = g; grid = s.grid } ≡ comm = cc in
    record {
      shape = s;
      group = ap (λ (k : Comm). Some k.members) same;
      at = refl;
      is = subst (λ ms. IsShape ms s) (ap (λ (k : Comm). k.members) same) h.0;
      grid = ap (λ (k : Comm). k.grid) same;
    }
is_in (g ∷ gs) (s ∷ ss) (suc c) comm h e =
    let rest = is_in gs ss c comm h.1 e in
    record { shape = rest.shape; group = rest.group; at = rest.at; is = rest.is; grid = rest.grid }

-- the shape of a communicator is that beside its group
pub shape_there : (gs : List (List ℕ)) (ss : List Shape) (c : ℕ) (comm : Comm) →
    (h : IsIn gs ss c comm) → h.shape ≡ shape_of comm
shape_there gs ss c comm h = λ i. record { size = h.is.size i; grid = h.grid i }

pub group_there : (gs : List (List ℕ)) (c : ℕ) (members : List ℕ) → slice_get gs c ≡ Some members →
    group_at gs c ≡ members
group_there gs c members e = ap (λ o. unwrap_or o []) e

-- ## what is added

pub joined_append : (gs new : List (List ℕ)) (ss : List Shape) (grid : Option Topology) →
    AreLaid gs ss →
    with_shapes (gs ++ new) (ss ++ laid grid new) ≡ with_shapes gs ss ++ with_grid grid new
joined_append [] new [] grid h = all new
  where
    all : (xs : List (List ℕ)) → with_shapes xs (laid grid xs) ≡ with_grid grid xs
    all [] = refl
    all (x ∷ xs) = ap (λ rest. record { members = x; grid = grid } ∷ rest) (all xs)
joined_append [] new (s ∷ ss) grid h = absurd h
joined_append (g ∷ gs) new [] grid h = absurd h
joined_append (g ∷ gs) new (s ∷ ss) grid h =
    ap (λ rest. record { members = g; grid = s.grid } ∷ rest) (joined_append gs new ss grid h.1)

-- each group is as large as the grid
abbrev pub AreSized : Option Topology → List (List ℕ) → Type 0
AreSized grid [] = Unit {0}
AreSized grid (g ∷ gs) = IsSizedGrid (length g) grid × AreSized grid gs

pub laid_append : (gs new : List (List ℕ)) (ss : List Shape) (grid : Option Topology) →
    AreLaid gs ss → AreSized grid new → AreLaid (gs ++ new) (ss ++ laid grid new)
laid_append [] new [] grid h sized = all new sized
  where
    all : (xs : List (List ℕ)) → AreSized grid xs → AreLaid xs (laid grid xs)
    all [] sized = tt
    all (x ∷ xs) sized = (record { size = refl; sized = sized.0 }, all xs sized.1)
laid_append [] new (s ∷ ss) grid h sized = absurd h
laid_append (g ∷ gs) new [] grid h sized = absurd h
laid_append (g ∷ gs) new (s ∷ ss) grid h sized = (h.0, laid_append gs new ss grid h.1 sized)

pub plain_sized : (new : List (List ℕ)) → AreSized None new
plain_sized [] = tt
plain_sized (g ∷ gs) = (tt, plain_sized gs)

pub dropped_prefix : {A : Type 0} (xs ys : List A) (n : ℕ) → n ≡ length xs → drop n (xs ++ ys) ≡ ys
dropped_prefix [] ys zero e = refl
dropped_prefix [] ys (suc n) e = absurd (omega (arith, e))
dropped_prefix (x ∷ xs) ys zero e = absurd (omega (arith, e))
dropped_prefix (x ∷ xs) ys (suc n) e = dropped_prefix xs ys n (omega (arith, e))

pub length_with_grid : (grid : Option Topology) (groups : List (List ℕ)) →
    length (with_grid grid groups) ≡ length groups
length_with_grid grid groups =
    length-map groups (λ members. record { members = members; grid = grid })

-- the outcome of a constructor, whose groups fit or don't
pub makes_some : (gs new : List (List ℕ)) (ss : List Shape) (grid : Option Topology) →
    AreLaid gs ss → fits (length gs) (length new) ≡ true →
    Makes (with_grid grid new) (with_shapes gs ss) (with_shapes (gs ++ new) (ss ++ laid grid new))
    (Made (length gs) (length new))
makes_some gs new ss grid h fit =
    let size = length_with_grid grid new in
    let count = joined_length gs ss h in
    let holds : fits (length (with_shapes gs ss)) (length (with_grid grid new)) ≡ true =
    (λ i. fits (count i) (size i)) ∙ fit in
    record {
      grown = joined_append gs new ss grid h
          ∙ ap (λ more. with_shapes gs ss ++ more) (sym (cond-true
          (fits (length (with_shapes gs ss)) (length (with_grid grid new)))
          (with_grid grid new) [] holds));
      told = (λ i. Made (sym count i) (sym size i))
          ∙ sym (cond-true (fits (length (with_shapes gs ss)) (length (with_grid grid new)))
          (Made (length (with_shapes gs ss)) (length (with_grid grid new))) NoRoom holds);
    }

pub makes_none : (gs new : List (List ℕ)) (ss : List Shape) (grid : Option Topology) →
    AreLaid gs ss → fits (length gs) (length new) ≡ false →
    Makes (with_grid grid new) (with_shapes gs ss) (with_shapes gs ss) NoRoom
makes_none gs new ss grid h full =
    let size = length_with_grid grid new in
    let count = joined_length gs ss h in
    let holds : fits (length (with_shapes gs ss)) (length (with_grid grid new)) ≡ false =
    (λ i. fits (count i) (size i)) ∙ full in
    record {
      grown = sym (append-nil (with_shapes gs ss))
          ∙ ap (λ more. with_shapes gs ss ++ more) (sym (cond-false
          (fits (length (with_shapes gs ss)) (length (with_grid grid new)))
          (with_grid grid new) [] holds));
      told = sym (cond-false (fits (length (with_shapes gs ss)) (length (with_grid grid new)))
          (Made (length (with_shapes gs ss)) (length (with_grid grid new))) NoRoom holds);
    }

-- ## faults

room_fault : (gs new : List (List ℕ)) (c : ℕ) → c < length gs →
    constructor_fault gs c None new ≡ cond (fits (length gs) (length new)) None (Some faults.NoRoom)
room_fault gs new c lt = cond-true (nat_lt c (length gs))
    (cond (fits (length gs) (length new)) None (Some faults.NoRoom)) (Some faults.NoSuchComm)
    (lt-ltb c (length gs) lt)

-- a constructor without a fault of its own meets no other than these
pub only_left : (gs new : List (List ℕ)) (c : ℕ) (own : Option CommFault) → own ≡ None →
    c < length gs → is_left (unwrap_or (constructor_fault gs c own new) faults.NoMemory) ≡ true
only_left gs new c own none lt =
    ap (λ o. is_left (unwrap_or (constructor_fault gs c o new) faults.NoMemory)) none
    ∙ (ap (λ o. is_left (unwrap_or o faults.NoMemory)) (room_fault gs new c lt)
    ∙ by (fits (length gs) (length new)))
  where
    by : (b : Bool) → is_left (unwrap_or (cond b None (Some faults.NoRoom)) faults.NoMemory) ≡ true
    by true = refl
    by false = refl

pub fits_is : (gs new : List (List ℕ)) (c : ℕ) (own : Option CommFault) → c < length gs →
    constructor_fault gs c own new ≡ None → fits (length gs) (length new) ≡ true
fits_is gs new c (Some f) lt e = absurd (cc)
fits_is gs new c None lt e =
    by (fits (length gs) (length new)) refl (sym (room_fault gs new c lt) ∙ e)
  where
    by : (b : Bool) → fits (length gs) (length new) ≡ b → cond b None (Some faults.NoRoom) ≡ None →
        fits (length gs) (length new) ≡ true
    by true is f = is
    by false is f = absurd (cc)

pub no_room_is : (gs new : List (List ℕ)) (c : ℕ) (own : Option CommFault) → own ≡ None →
    c < length gs → faults.NoRoom ≡ unwrap_or (constructor_fault gs c own new) faults.NoMemory →
    fits (length gs) (length new) ≡ false
no_room_is gs new c own none lt e =
    by (fits (length gs) (length new)) refl (e
    ∙ (ap (λ o. unwrap_or (constructor_fault gs c o new) faults.NoMemory) none
    ∙ ap (λ o. unwrap_or o faults.NoMemory) (room_fault gs new c lt)))
  where
    by : (b : Bool) → fits (length gs) (length new) ≡ b →
        faults.NoRoom ≡ unwrap_or (cond b None (Some faults.NoRoom)) faults.NoMemory →
        fits (length gs) (length new) ≡ false
    by true is f = absurd (cc)
    by false is f = is

-- ## lists of ranks

-- groups of so many ranks each are as large as a grid of so many cells
pub parts_sized : (g : Topology) (members : List ℕ) (lists : List (List ℕ)) →
    list_all (is_subgroup (length members)) lists ≡ true →
    list_all (λ list. length list == volume g.dims) lists ≡ true →
    AreSized (Some g) (subset_groups lists members)
parts_sized g members [] subs sizes = tt
parts_sized g members (list ∷ lists) subs sizes =
    let sub = and_parts (is_subgroup (length members) list)
    (list_all (is_subgroup (length members)) lists) subs in
    let size = and_parts (length list == volume g.dims)
    (list_all (λ l. length l == volume g.dims) lists) sizes in
    let ranks = and_parts (are_ranks (length members) list)
    (Rattle.mpi_group.specs.Groups.is_distinct list) sub.0 in (
      sym (length_members_at members list ranks.0
          ∙ Rattle.std.proofs.lemmas.Bool.eqb-true (length list) (volume g.dims) size.0),
      parts_sized g members lists sub.1 size.1,
    )

-- ## what is kept, by what is seen of it

module _ (gs : List (List ℕ)) (ss : List Shape) (table : List Comm)
    (view : with_shapes gs ss ≡ table) (h : AreLaid gs ss) where
  pub laid_within : (c : ℕ) → c < length table → c < length gs
  laid_within c lt = subst (λ n. c < n) (sym (ap length view) ∙ joined_length gs ss h) lt

  pub laid_beside : (c : ℕ) → c < length table → c < length ss
  laid_beside c lt = subst (λ n. c < n) (laid_length gs ss h) (laid_within c lt)

  pub laid_count : length gs ≡ length table
  laid_count = sym (joined_length gs ss h) ∙ ap length view

  found_in : (c : ℕ) (found : Comm) → slice_get table c ≡ Some found → IsIn gs ss c found
  found_in c found e = is_in gs ss c found h (ap (λ xs. slice_get xs c) view ∙ e)

  pub laid_group : (c : ℕ) (found : Comm) → slice_get table c ≡ Some found →
      group_at gs c ≡ found.members
  laid_group c found e = group_there gs c found.members (found_in c found e).group

  pub laid_sized : (c : ℕ) (found : Comm) → slice_get table c ≡ Some found →
      IsSized (shape_of found)
  laid_sized c found e =
      let it = found_in c found e in
      subst IsSized (shape_there gs ss c found it) it.is.sized

  pub laid_shape : (c : ℕ) (found : Comm) (shape : Shape) → slice_get ss c ≡ Some shape →
      slice_get table c ≡ Some found → shape ≡ shape_of found
  laid_shape c found shape at e =
      let it = found_in c found e in
      let same : Some shape ≡ Some it.shape = sym at ∙ it.at in
      let is : shape ≡ it.shape = cc in
      is ∙ shape_there gs ss c found it
