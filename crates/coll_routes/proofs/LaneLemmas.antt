-- Pieces: they lie in what their rank gave, and cover their lanes.
use Rattle.std.proofs.Common.{◌≡◌, ℕ, ◌+◌, ◌*◌, ◌<◌, ◌≤◌, List, [], ◌∷◌, length, take}
use Rattle.std.proofs.Common.{sum, get_or, ◌∙◌, ap, sym, refl, arith, Bool, true, false, not, ◌&&◌}
use Rattle.std.proofs.Common.{◌||◌, cond, Some, None, nat_le, nat_lt, nat_eq, ⊎_elim}
use Rattle.std.specs.Prelude.{unwrap_or}
use Rattle.std.specs.List.{list_any}
use Rattle.std.proofs.lemmas.Bool.{eqb-true, le-leb, lt-ltb, ltb-true, ltb-false, and_from}
use Rattle.std.proofs.lemmas.Bool.{and_parts, cases_Bool, leb-true, le-ltb}
use Rattle.mpi_elems.specs.declared.elem_type.ElemType.{ElemType}
use Rattle.mpi_cart.specs.Grids.{below}
use Rattle.coll_routes.specs.declared.signature.Signature.{Signature}
use Rattle.coll_routes.specs.declared.signature.Signature.TheVariants.{Scatter, Scatterv, Alltoall}
use Rattle.coll_routes.specs.declared.signature.Signature.TheVariants.{Alltoallv, ReduceScatter}
use Rattle.coll_routes.specs.declared.signature.Signature.TheVariants.{ReduceScatterBlock}
use Rattle.coll_routes.specs.declared.signature.Signature.TheVariants.{NeighborAlltoall}
use Rattle.coll_routes.specs.declared.signature.Signature.TheVariants.{NeighborAlltoallv}
use Rattle.coll_routes.specs.declared.statement.Own.{Own}
use Rattle.coll_routes.specs.declared.statement.Own.TheVariants.{Plain, Counts, Split as SplitBy}
use Rattle.coll_routes.specs.declared.statement.Stated.{Stated}
use Rattle.coll_routes.specs.declared.roll.Shape.{Shape}
use Rattle.coll_routes.specs.declared.roll.Roll.{Roll}
use Rattle.coll_routes.specs.declared.fault.ShapeFault.{ShapeFault}
use Rattle.coll_routes.specs.declared.fault.ShapeFault.TheVariants.{NoTopology, BadRoot, BadOp}
use Rattle.coll_routes.specs.declared.fault.ShapeFault.TheVariants.{BadCount, BadColour}
use Rattle.coll_routes.specs.declared.fault.ShapeFault.TheVariants.{NotSubgroup, BadDims}
use Rattle.coll_routes.specs.declared.fault.Asked.TheVariants.{Exactly, SumOfCounts}
use Rattle.coll_routes.specs.Signatures.{elem_type, count}
use Rattle.coll_routes.specs.Rolls.{in_block, counts_in, own_counts_in, stated_by, given, slots}
use Rattle.coll_routes.specs.Lanes.{sizes_by}
use Rattle.coll_routes.specs.Faults.{shape_fault, is_met, gives, asked, first_that, bad_count}
use Rattle.coll_routes.specs.Faults.{bad_root, bad_op, bad_colour, not_subgroup, bad_dims}
use Rattle.coll_routes.specs.Faults.{no_topology, is_listed, is_of_type, is_above_limit}
use Rattle.coll_routes.specs.Faults.{is_asked_above_limit, stated_type}
use Rattle.coll_routes.specs.Fit.{IsFit}
use Rattle.coll_routes.proofs.AnyLemmas.{any_at, any_none}
use Rattle.coll_routes.proofs.BlockLemmas.{even_whole, sum_prefix, size_more, empty_block}
use Rattle.coll_routes.proofs.FitLemmas.{no_fault, given_is}

-- the tests of a post with no fault fail
fourth_of : (z a b c d e f : Bool) (y p q r s t u : ShapeFault) →
    first_that ((z, y) ∷ (a, p) ∷ (b, q) ∷ (c, r) ∷ (d, s) ∷ (e, t) ∷ (f, u) ∷ []) ≡ None →
    c ≡ false
fourth_of true a b c d e f y p q r s t u h = absurd (cc)
fourth_of false true b c d e f y p q r s t u h = absurd (cc)
fourth_of false false true c d e f y p q r s t u h = absurd (cc)
fourth_of false false false true d e f y p q r s t u h = absurd (cc)
fourth_of false false false false d e f y p q r s t u h = refl

pub count_is_good :
    (shape : Shape) (i : ℕ) (sig : Signature) (own : Own) (ty : ElemType) (given : ℕ) →
    shape_fault shape i sig own ty given ≡ None → bad_count shape i sig own ty given ≡ false
unfolding shape_fault
count_is_good shape i sig own ty given h = fourth_of (no_topology shape sig) (bad_root shape sig)
    (bad_op sig) (bad_count shape i sig own ty given) (bad_colour own) (not_subgroup shape sig)
    (bad_dims shape sig) NoTopology BadRoot BadOp BadCount BadColour NotSubgroup BadDims h

second_of : (z a b c d e f : Bool) (y p q r s t u : ShapeFault) →
    first_that ((z, y) ∷ (a, p) ∷ (b, q) ∷ (c, r) ∷ (d, s) ∷ (e, t) ∷ (f, u) ∷ []) ≡ None →
    a ≡ false
second_of true a b c d e f y p q r s t u h = absurd (cc)
second_of false true b c d e f y p q r s t u h = absurd (cc)
second_of false false b c d e f y p q r s t u h = refl

pub root_is_good :
    (shape : Shape) (i : ℕ) (sig : Signature) (own : Own) (ty : ElemType) (given : ℕ) →
    shape_fault shape i sig own ty given ≡ None → bad_root shape sig ≡ false
unfolding shape_fault
root_is_good shape i sig own ty given h = second_of (no_topology shape sig) (bad_root shape sig)
    (bad_op sig) (bad_count shape i sig own ty given) (bad_colour own) (not_subgroup shape sig)
    (bad_dims shape sig) NoTopology BadRoot BadOp BadCount BadColour NotSubgroup BadDims h

last_of : (a b c d e f : Bool) → (not a || b || c || d || not e || not f) ≡ false → f ≡ true
last_of false b c d e f h = absurd (cc)
last_of true true c d e f h = absurd (cc)
last_of true false true d e f h = absurd (cc)
last_of true false false true e f h = absurd (cc)
last_of true false false false false f h = absurd (cc)
last_of true false false false true false h = absurd (cc)
last_of true false false false true true h = refl

few_of : (a b c d e f : Bool) → (not a || b || c || d || not e || not f) ≡ false → b ≡ false
few_of false b c d e f h = absurd (cc)
few_of true true c d e f h = absurd (cc)
few_of true false c d e f h = refl

-- what is asked of the rank is met
pub met : (shape : Shape) (i : ℕ) (sig : Signature) (own : Own) (ty : ElemType) (given : ℕ) →
    bad_count shape i sig own ty given ≡ false →
    is_met (asked shape sig) (gives sig i) own given ≡ true
unfolding bad_count
met shape i sig own ty given h = last_of (is_of_type (elem_type sig) ty) (is_above_limit given)
    (is_above_limit (unwrap_or (count sig) 0)) (is_asked_above_limit (asked shape sig))
    (is_listed shape sig) (is_met (asked shape sig) (gives sig i) own given) h

exactly : (n : ℕ) (giving : Bool) (own : Own) (given : ℕ) →
    is_met (Exactly n) giving own given ≡ true → giving ≡ true → n ≡ given
exactly n true Plain given h g = sym (eqb-true given n h)
exactly n false Plain given h g = absurd (cc)
exactly n giving (Counts counts) given h g = absurd (cc)
exactly n giving (SplitBy colour key) given h g = absurd (cc)

by_counts : (n : ℕ) (giving : Bool) (own : Own) (given : ℕ) →
    is_met (SumOfCounts n) giving own given ≡ true → sum (counts_in own) ≡ given
by_counts n giving (Counts counts) given h = sym (eqb-true given (sum counts)
    (and_parts (nat_eq (length counts) (cond giving n 0)) (nat_eq given (sum counts)) h).1)
by_counts n giving Plain given h = absurd (cc)
by_counts n giving (SplitBy colour key) given h = absurd (cc)

-- the blocks of a rank that gives are of what it gave
sum_fits : (sig : Signature) (shape : Shape) (i : ℕ) (own : Own) (given : ℕ) →
    is_met (asked shape sig) (gives sig i) own given ≡ true → gives sig i ≡ true →
    sum (sizes_by sig shape (counts_in own)) ≤ given
unfolding asked gives sizes_by
sum_fits (Scatter r ty n) shape i own given m g =
    (let all = even_whole shape.size n in
    let same = exactly (shape.size * n) (nat_eq i r) own given m g in omega arith)
sum_fits (Scatterv r ty) shape i own given m g =
    (let same = by_counts shape.size (nat_eq i r) own given m in omega arith)
sum_fits (Alltoall ty n) shape i own given m g =
    (let all = even_whole shape.size n in
    let same = exactly (shape.size * n) true own given m g in omega arith)
sum_fits (Alltoallv ty) shape i own given m g =
    (let same = by_counts shape.size true own given m in omega arith)
sum_fits (ReduceScatter op ty sizes) shape i own given m g =
    (let same = exactly (sum sizes) true own given m g in omega arith)
sum_fits (ReduceScatterBlock op ty n) shape i own given m g =
    (let all = even_whole shape.size n in
    let same = exactly (shape.size * n) true own given m g in omega arith)
sum_fits (NeighborAlltoall ty n) shape i own given m g =
    (let all = even_whole (slots shape) n in
    let same = exactly (slots shape * n) true own given m g in omega arith)
sum_fits (NeighborAlltoallv ty) shape i own given m g =
    (let same = by_counts (slots shape) true own given m in omega arith)
sum_fits other shape i own given m g = omega arith

-- a piece without elements covers none
pub empty_piece : (start len x : ℕ) → len ≤ 0 → false ≡ (nat_le start x && nat_lt x (start + len))
empty_piece start len x none = ⊎_elim
    (λ e. let from = leb-true start x e in
    sym (ap (λ b. b && nat_lt x (start + len)) e ∙ le-ltb x (start + len) (omega arith)))
    (λ e. ap (λ b. b && nat_lt x (start + len)) (sym e))
    (cases_Bool (nat_le start x))

-- what a rank of a fit roll states is as asked
pub as_asked : (roll : Roll) (i : ℕ) (s : Stated) → IsFit roll → stated_by roll i ≡ Some s →
    is_met (asked roll.shape roll.sig) (gives roll.sig i) s.own s.given ≡ true
as_asked roll i s fit said = met roll.shape i roll.sig s.own (stated_type roll.sig) s.given
    (count_is_good roll.shape i roll.sig s.own (stated_type roll.sig) s.given
    (no_fault roll i s fit said))

module _ (roll : Roll) (i : ℕ) (s : Stated) (fit : IsFit roll) (said : stated_by roll i ≡ Some s)
    (giving : gives roll.sig i ≡ true) where
  abbrev stated_sizes : List ℕ
  stated_sizes = sizes_by roll.sig roll.shape (counts_in s.own)

  abbrev sizes : List ℕ
  sizes = sizes_by roll.sig roll.shape (own_counts_in (stated_by roll i))

  sizes_are : stated_sizes ≡ sizes
  sizes_are = ap (λ o. sizes_by roll.sig roll.shape (own_counts_in o)) (sym said)

  pub sizes_fit : sum stated_sizes ≤ s.given
  sizes_fit = sum_fits roll.sig roll.shape i s.own s.given (as_asked roll i s fit said) giving

  -- (a post gives at most 65,536 elements)
  pub sizes_small : sum stated_sizes < 4294967296
  unfolding bad_count
  sizes_small =
      let limit = few_of (is_of_type (elem_type roll.sig) (stated_type roll.sig))
      (is_above_limit s.given) (is_above_limit (unwrap_or (count roll.sig) 0))
      (is_asked_above_limit (asked roll.shape roll.sig)) (is_listed roll.shape roll.sig)
      (is_met (asked roll.shape roll.sig) (gives roll.sig i) s.own s.given)
      (count_is_good roll.shape i roll.sig s.own (stated_type roll.sig) s.given
      (no_fault roll i s fit said)) in
      let few = ltb-false 65536 s.given limit in
      let fits = sizes_fit in
      omega arith

  pub block_within : (b end : ℕ) → end ≡ sum (take (b + 1) stated_sizes) → end ≤ given roll i
  block_within b end to =
      let same = given_is roll i s said in
      let prefix = sum_prefix stated_sizes (b + 1) in
      let fits = sizes_fit in
      omega arith

  -- whether there is an element
  pub any_block : (b : ℕ) → nat_lt 0 (get_or stated_sizes b 0)
      ≡ list_any (λ x. in_block sizes b x) (below (given roll i))
  any_block b =
      let same = given_is roll i s said in
      let fits = sizes_fit in
      let prefix = sum_prefix stated_sizes (b + 1) in
      let more = size_more stated_sizes b in
      ⊎_elim
      (λ some.
      let filled = ltb-true 0 (get_or stated_sizes b 0) some in
      some
      ∙ (sym (any_at (λ x. in_block stated_sizes b x) 0 (given roll i)
      (sum (take b stated_sizes)) (omega arith) (omega arith)
      (and_from (nat_le (sum (take b stated_sizes)) (sum (take b stated_sizes)))
      (nat_lt (sum (take b stated_sizes)) (sum (take (b + 1) stated_sizes)))
      (le-leb (sum (take b stated_sizes)) (sum (take b stated_sizes)) (omega arith))
      (lt-ltb (sum (take b stated_sizes)) (sum (take (b + 1) stated_sizes)) (omega arith))))
      ∙ ap (λ ns. list_any (λ x. in_block ns b x) (below (given roll i))) sizes_are))
      (λ none.
      let empty = ltb-false 0 (get_or stated_sizes b 0) none in
      none
      ∙ (sym (any_none (λ x. in_block stated_sizes b x) 0 (given roll i)
      (λ x h. empty_block stated_sizes b x (omega arith)))
      ∙ ap (λ ns. list_any (λ x. in_block ns b x) (below (given roll i))) sizes_are))
      (cases_Bool (nat_lt 0 (get_or stated_sizes b 0)))
