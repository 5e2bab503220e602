-- What is so of all communicators that posts make: no member stands twice, and a grid has a place
-- for each.
use Rattle.std.proofs.Common.{◌≡◌, ℕ, zero, suc, ◌+◌, ◌<◌, ◌≤◌, List, [], ◌∷◌, ◌++◌, length, map}
use Rattle.std.proofs.Common.{refl, sym, ap, ◌∙◌, subst, arith, inl, inr, ◌⊎◌, ⊎_elim, Bool, true}
use Rattle.std.proofs.Common.{false, Option, Some, None, slice_get, cond, eqb-true, nat_lt, lt-ltb}
use Rattle.std.proofs.Common.{ltb-true}
use Rattle.std.specs.Prelude.{filter, filter_map, All, is_some, ◌==◌}
use Rattle.std.specs.List.{range_with_len, items_where_true}
use Rattle.std.proofs.lemmas.Bool.{cases_Bool, cond-true, cond-false, false≢true, and_parts}
use Rattle.std.proofs.lemmas.Bool.{and_from, cases_lt}
use Rattle.std.proofs.lemmas.Option.{slice_get_within}
use Rattle.std.proofs.lemmas.List.FromFn.{get_or-range_with_len}
use Rattle.wall_labels.specs.declared.ids.TheConstants.{PROCESS_LIMIT}
use Rattle.wall_policy.specs.Policy.{ChineseWall, IsPolicy}
use Rattle.mpi_group.specs.Groups.{IsGroup, is_distinct, are_ranks, members_at}
use Rattle.mpi_group.specs.Groups.{ranks_fault}
use Rattle.mpi_group.proofs.MpiGroupLemmas.{IsGroup-members_at, is_distinct-filter}
use Rattle.mpi_comm.specs.Comms.{dup_groups, create_groups, subset_groups}
use Rattle.mpi_comm.specs.Splits.{split_groups, colours_of, ranks_for}
use Rattle.mpi_comm.proofs.MpiCommLemmas.{is_distinct-range_with_len, is_subgroup-ranks_for}
use Rattle.mpi_cart.specs.Grids.{Topology, cells, coords, volume, below, same_list, dropped, kept}
use Rattle.mpi_cart.specs.Laws.{IsCell}
use Rattle.mpi_cart.specs.Faults.{first_fault, keep_fault, are_bad_dims}
use Rattle.mpi_cart.specs.declared.fault.GridFault.TheVariants.{BadDims, TooLarge}
use Rattle.mpi_group.specs.declared.fault.GroupFault.TheVariants.{BadRank, RepeatedRank}
use Rattle.mpi_cart.proofs.MpiCartLemmas.{length-cells, cell_has_digits, digits_in_range, digits}
use Rattle.coll_routes.specs.declared.signature.Signature.{Signature}
use Rattle.coll_routes.specs.declared.signature.Signature.TheVariants.{Dup, Split, Create}
use Rattle.coll_routes.specs.declared.signature.Signature.TheVariants.{CartCreate, CartSub}
use Rattle.coll_routes.specs.declared.statement.Stated.{Stated}
use Rattle.coll_routes.specs.declared.roll.Roll.{Roll}
use Rattle.coll_routes.specs.Fit.{IsSized, IsSizedGrid}
use Rattle.coll_routes.specs.Faults.{bad_dims, not_subgroup, is_ill_kept}
use Rattle.run_model.specs.Comms.{Comm, processes, world, shape_of, with_grid, asks, ranks_apart}
use Rattle.run_model.specs.Comms.{grid_parts, subgrids, new_comms_by, comm_in}
use Rattle.run_model.proofs.SizeLemmas.{length_ranks_apart}

---- Items of lists.

pub at_map : {X Y : Type 0} (f : X → Y) (xs : List X) (i : ℕ) (y : Y) →
    slice_get (map f xs) i ≡ Some y → (x : X) × (slice_get xs i ≡ Some x) × (y ≡ f x)
at_map f [] i y e = absurd (cc)
at_map f (x ∷ xs) zero y e = (x, refl, cc)
at_map f (x ∷ xs) (suc i) y e = at_map f xs i y e

pub at_one : {X : Type 0} (x : X) (i : ℕ) (y : X) → slice_get (x ∷ []) i ≡ Some y → y ≡ x
at_one x zero y e = cc
at_one x (suc i) y e = absurd (cc)

pub at_either : {X : Type 0} (xs ys : List X) (i : ℕ) (y : X) → slice_get (xs ++ ys) i ≡ Some y →
    (slice_get xs i ≡ Some y) ⊎ ((k : ℕ) × (slice_get ys k ≡ Some y))
at_either [] ys i y e = inr (i, e)
at_either (x ∷ xs) ys zero y e = inl e
at_either (x ∷ xs) ys (suc i) y e = at_either xs ys i y e

pub at_prefix : {X : Type 0} (xs ys : List X) (i : ℕ) (y : X) → slice_get xs i ≡ Some y →
    slice_get (xs ++ ys) i ≡ Some y
at_prefix [] ys i y e = absurd (cc)
at_prefix (x ∷ xs) ys zero y e = e
at_prefix (x ∷ xs) ys (suc i) y e = at_prefix xs ys i y e

---- Ranks of members.

---- Groups by ranks.

some_at : (members : List ℕ) (r : ℕ) → r < length members → (m : ℕ) × (slice_get members r ≡ Some m)
some_at [] r h = absurd (omega arith)
some_at (m ∷ members) zero h = (m, refl)
some_at (m ∷ members) (suc r) h = some_at members r (omega arith)

pub length_members_at : (members ranks : List ℕ) → are_ranks (length members) ranks ≡ true →
    length (members_at members ranks) ≡ length ranks
unfolding members_at
length_members_at members [] h = refl
length_members_at members (r ∷ ranks) h =
    let parts = and_parts (nat_lt r (length members)) (are_ranks (length members) ranks) h in
    let m = some_at members r (ltb-true r (length members) parts.0) in
    ap (λ (o : Option ℕ).
    length (Rattle.std.specs.List.cons_option o (filter_map (slice_get members) ranks))) m.1
    ∙ ap suc (length_members_at members ranks parts.1)

are_ranks-range : (n a m : ℕ) → a + m ≤ n → are_ranks n (range_with_len a m) ≡ true
are_ranks-range n a zero h = refl
are_ranks-range n a (suc m) h = and_from (nat_lt a n) (are_ranks n (range_with_len (a + 1) m))
    (lt-ltb a n (omega arith)) (are_ranks-range n (a + 1) m (omega arith))

are_ranks-filter : (n : ℕ) (keep : ℕ → Bool) (ranks : List ℕ) → are_ranks n ranks ≡ true →
    are_ranks n (filter keep ranks) ≡ true
are_ranks-filter n keep [] h = refl
are_ranks-filter n keep (r ∷ ranks) h =
    let parts = and_parts (nat_lt r n) (are_ranks n ranks) h in
    ⊎_elim
    (λ t. ap (are_ranks n) (cond-true (keep r) (r ∷ filter keep ranks) (filter keep ranks) t)
    ∙ and_from (nat_lt r n) (are_ranks n (filter keep ranks)) parts.0
    (are_ranks-filter n keep ranks parts.1))
    (λ f. ap (are_ranks n) (cond-false (keep r) (r ∷ filter keep ranks) (filter keep ranks) f)
    ∙ are_ranks-filter n keep ranks parts.1)
    (cases_Bool (keep r))

length_range : (a n : ℕ) → length (range_with_len a n) ≡ n
length_range a zero = refl
length_range a (suc n) = ap suc (length_range (a + 1) n)

all_range : (a n limit : ℕ) → a + n ≤ limit → All (λ p. p < limit) (range_with_len a n)
all_range a n limit h k d low =
    let within : k < n = (let all = length_range a n in omega arith) in
    let is = get_or-range_with_len a n k d within in
    omega arith

---- Communicators.

pub record IsComm (comm : Comm) : Type 0 where
  pub group : IsGroup comm.members
  pub sized : IsSized (shape_of comm)

-- each communicator of a table
abbrev pub AreComms : List Comm → Type 0
AreComms table = (c : ℕ) (comm : Comm) → slice_get table c ≡ Some comm → IsComm comm

pub no_comms : AreComms []
no_comms c comm e = absurd (cc)

pub both_comms : (xs ys : List Comm) → AreComms xs → AreComms ys → AreComms (xs ++ ys)
both_comms xs ys one other c comm e = ⊎_elim (λ old. one c comm old)
    (λ (new : (k : ℕ) × (slice_get ys k ≡ Some comm)). other new.0 comm new.1)
    (at_either xs ys c comm e)

-- communicators without a grid
bare_comms : (groups : List (List ℕ)) →
    ((i : ℕ) (members : List ℕ) → slice_get groups i ≡ Some members → IsGroup members) →
    AreComms (with_grid None groups)
bare_comms groups each c comm e =
    let at = at_map (λ (members : List ℕ). record { members = members; grid = None }) groups c comm
    e in
    subst IsComm (sym at.2) (record { group = each c at.0 at.1; sized = tt })

-- communicators of one grid
grid_comms : (g : Topology) (groups : List (List ℕ)) → ((i : ℕ) (members : List ℕ) →
    slice_get groups i ≡ Some members → IsGroup members × (length members ≡ volume g.dims))
    → AreComms (with_grid (Some g) groups)
grid_comms g groups each c comm e =
    let at = at_map (λ (members : List ℕ). record { members = members; grid = Some g }) groups c
    comm e in
    let is = each c at.0 at.1 in
    subst IsComm (sym at.2) (record { group = is.0; sized = sym is.1 })

pub world_is : (wall : ChineseWall) → IsPolicy wall → IsComm (world wall)
world_is wall policy = record {
  group = record {
    distinct =
        is_distinct-range_with_len 0 (processes wall);
    below =
        all_range 0 (processes wall) PROCESS_LIMIT
        (let few = policy.few_processes in omega arith);
  };
  sized = tt;
}

-- the roll of a constructor on a communicator, whose dimensions and ranks have no fault
module _ (comm : Comm) (is : IsComm comm) (sig : Signature) (stated : List (Option Stated)) where
  abbrev pub of_comm : Roll
  of_comm = record { members = comm.members; shape = shape_of comm; sig = sig; stated = stated }

  dup_comms : AreComms (with_grid comm.grid (dup_groups comm.members))
  dup_comms c made e =
      subst IsComm (sym (at_one (record { members = comm.members; grid = comm.grid }) c made e)) is

  split_comms : AreComms (with_grid None (split_groups (asks of_comm) comm.members))
  unfolding split_groups
  split_comms = bare_comms (split_groups (asks of_comm) comm.members) (λ i members e.
      let at = at_map (λ colour. members_at comm.members (ranks_for colour (asks of_comm)))
      (colours_of (asks of_comm)) i members e in
      let distinct = (and_parts (are_ranks (length (asks of_comm)) (ranks_for at.0 (asks of_comm)))
      (is_distinct (ranks_for at.0 (asks of_comm)))
      (is_subgroup-ranks_for at.0 (asks of_comm))).1 in
      subst IsGroup (sym at.2)
      (IsGroup-members_at comm.members (ranks_for at.0 (asks of_comm)) is.group distinct))

  create_comms : (ranks : List ℕ) → is_distinct ranks ≡ true →
      AreComms (with_grid None (create_groups ranks comm.members))
  create_comms [] distinct = no_comms
  create_comms (r ∷ ranks) distinct =
      bare_comms (members_at comm.members (r ∷ ranks) ∷ []) (λ i members e.
      subst IsGroup (sym (at_one (members_at comm.members (r ∷ ranks)) i members e))
      (IsGroup-members_at comm.members (r ∷ ranks) is.group distinct))

  cart_comms : (dims : List ℕ) (periods : List Bool) → volume dims ≤ length comm.members →
      AreComms (with_grid (Some (record { dims = dims; periods = periods }))
      (subset_groups (below (volume dims) ∷ []) comm.members))
  cart_comms dims periods small = grid_comms (record { dims = dims; periods = periods })
      (subset_groups (below (volume dims) ∷ []) comm.members) (λ i members e.
      let same = sym (at_one (members_at comm.members (below (volume dims))) i members e) in
      subst (λ m. IsGroup m × (length m ≡ volume dims)) same (
        IsGroup-members_at comm.members (below (volume dims)) is.group
            (is_distinct-range_with_len 0 (volume dims)),
        length_members_at comm.members (below (volume dims))
            (are_ranks-range (length comm.members) 0 (volume dims) (omega (arith, small)))
            ∙ length_range 0 (volume dims),
      ))

  sub_comms : (keep : List Bool) (g : Topology) → volume g.dims ≡ length comm.members →
      length keep ≡ length g.dims → AreComms (subgrids (Some g) keep comm.members)
  sub_comms keep g size long =
      grid_comms (kept keep g) (subset_groups (grid_parts g keep) comm.members) (λ i members e.
      let at = at_map (λ ranks. members_at comm.members ranks) (grid_parts g keep) i members e in
      let part = at_map (λ apart. ranks_apart g keep apart) (cells (dropped keep g.dims)) i at.0
      at.1 in
      let low : i < volume (dropped keep g.dims) = (let within = slice_get_within
      (cells (dropped keep g.dims)) i part.0 part.1 in
      let all = length-cells (dropped keep g.dims) in omega arith) in
      let digits_are : part.0 ≡ digits (dropped keep g.dims) i =
      (let both = sym part.1 ∙ cell_has_digits (dropped keep g.dims) i low in cc) in
      let cell : IsCell (dropped keep g.dims) part.0 = subst (IsCell (dropped keep g.dims))
      (sym digits_are) (digits_in_range (dropped keep g.dims) i low) in
      let number : length at.0 ≡ volume (items_where_true keep g.dims) = ap length part.2 ∙
      length_ranks_apart g keep part.0 long cell in
      let within : are_ranks (length comm.members) at.0 ≡ true = ap
      (are_ranks (length comm.members)) part.2 ∙ are_ranks-filter (length comm.members)
      (λ r. same_list (dropped keep (coords g r)) part.0) (below (volume g.dims))
      (are_ranks-range (length comm.members) 0 (volume g.dims) (omega (arith, size))) in
      let distinct : is_distinct at.0 ≡ true = ap is_distinct part.2 ∙ is_distinct-filter
      (λ r. same_list (dropped keep (coords g r)) part.0) (below (volume g.dims))
      (is_distinct-range_with_len 0 (volume g.dims)) in
      subst (λ m. IsGroup m × (length m ≡ volume (items_where_true keep g.dims))) (sym at.2) (
        IsGroup-members_at comm.members at.0 is.group distinct,
        length_members_at comm.members at.0 within ∙ number,
      ))

---- The communicators that instances make.

refused_dims : (dims : List ℕ) (periods : List Bool) (size : ℕ) →
    is_some (first_fault dims periods size) ≡ false → volume dims ≤ size
refused_dims dims periods size none = ⊎_elim
    (λ t. absurd (false≢true (sym none
    ∙ ap is_some (cond-true (are_bad_dims dims periods) (Some BadDims)
    (cond (nat_lt size (volume dims)) (Some TooLarge) None) t))))
    (λ f. ⊎_elim
    (λ t. absurd (false≢true (sym none
    ∙ ap is_some (cond-false (are_bad_dims dims periods) (Some BadDims)
    (cond (nat_lt size (volume dims)) (Some TooLarge) None) f
    ∙ cond-true (nat_lt size (volume dims)) (Some TooLarge) None t))))
    (λ g. ⊎_elim
    (λ (low : size < volume dims). absurd (false≢true (sym g ∙ lt-ltb size (volume dims) low)))
    (λ (high : volume dims ≤ size). high) (cases_lt size (volume dims)))
    (cases_Bool (nat_lt size (volume dims))))
    (cases_Bool (are_bad_dims dims periods))

refused_keep : (keep : List Bool) (dims : List ℕ) → is_some (keep_fault keep dims) ≡ false →
    length keep ≡ length dims
refused_keep keep dims none = ⊎_elim
    (λ t. eqb-true (length keep) (length dims) t)
    (λ f. absurd (false≢true (sym none
    ∙ ap is_some (cond-false (length keep == length dims) None (Some BadDims) f))))
    (cases_Bool (length keep == length dims))

refused_ranks : (size : ℕ) (ranks : List ℕ) → is_some (ranks_fault size ranks) ≡ false →
    (are_ranks size ranks ≡ true) × (is_distinct ranks ≡ true)
refused_ranks size ranks none = ⊎_elim
    (λ t. ⊎_elim (λ d. (t, d))
    (λ f. absurd (false≢true (sym none
    ∙ ap is_some (cond-true (are_ranks size ranks)
    (cond (is_distinct ranks) None (Some RepeatedRank)) (Some BadRank) t
    ∙ cond-false (is_distinct ranks) None (Some RepeatedRank) f))))
    (cases_Bool (is_distinct ranks)))
    (λ f. absurd (false≢true (sym none
    ∙ ap is_some (cond-false (are_ranks size ranks)
    (cond (is_distinct ranks) None (Some RepeatedRank)) (Some BadRank) f))))
    (cases_Bool (are_ranks size ranks))

sub_comms_in : (comm : Comm) (is : IsComm comm) (keep : List Bool) (stated : List (Option Stated))
    (o : Option Topology) → comm.grid ≡ o → is_ill_kept keep o ≡ false →
    AreComms (subgrids o keep comm.members)
sub_comms_in comm is keep stated None e none = no_comms
sub_comms_in comm is keep stated (Some g) e none =
    sub_comms comm is (CartSub keep) stated keep g
    (subst (IsSizedGrid (length comm.members)) e is.sized) (refused_keep keep g.dims none)

pub new_are_comms : (comm : Comm) → IsComm comm →
    (sig : Signature) (stated : List (Option Stated)) → not_subgroup (shape_of comm) sig ≡ false →
    bad_dims (shape_of comm) sig ≡ false → (roll : Roll) →
    roll ≡ record { members = comm.members; shape = shape_of comm; sig = sig; stated = stated } →
    AreComms (new_comms_by sig (comm_in roll) (asks roll))
unfolding new_comms_by not_subgroup bad_dims
new_are_comms comm is Dup stated ranks dims roll e = subst
    (λ (r : Roll). AreComms (with_grid r.shape.grid (dup_groups r.members))) (sym e)
    (dup_comms comm is Dup stated)
new_are_comms comm is Split stated ranks dims roll e = subst
    (λ (r : Roll). AreComms (with_grid None (split_groups (asks r) r.members))) (sym e)
    (split_comms comm is Split stated)
new_are_comms comm is (Create rs) stated ranks dims roll e =
    subst (λ (r : Roll). AreComms (with_grid None (create_groups rs r.members))) (sym e)
    (create_comms comm is (Create rs) stated rs (refused_ranks (length comm.members) rs ranks).1)
new_are_comms comm is (CartCreate ds ps) stated ranks dims roll e =
    subst (λ (r : Roll). AreComms (with_grid (Some (record { dims = ds; periods = ps }))
    (subset_groups (below (volume ds) ∷ []) r.members))) (sym e)
    (cart_comms comm is (CartCreate ds ps) stated ds ps
    (refused_dims ds ps (length comm.members) dims))
new_are_comms comm is (CartSub keep) stated ranks dims roll e =
    subst (λ (r : Roll). AreComms (subgrids r.shape.grid keep r.members)) (sym e)
    (sub_comms_in comm is keep stated comm.grid refl dims)
new_are_comms comm is sig stated ranks dims roll e = no_comms
