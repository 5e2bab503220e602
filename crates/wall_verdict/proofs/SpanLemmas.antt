-- Which ranks reach a receiver, and which reach two receivers alike.
use Rattle.std.proofs.Common.{◌≡◌, ℕ, ◌+◌, ◌*◌, ◌<◌, ◌≤◌, Bool, true, false, ◌&&◌, cond, List}
use Rattle.std.proofs.Common.{Some, None, get_or, take, sum, replicate, refl, sym, ap, ◌∙◌}
use Rattle.std.proofs.Common.{subst, arith, inl, inr, ◌⊎◌, ⊎_elim, nat_eq, nat_lt, nat_le, ne_eqb}
use Rattle.std.proofs.Common.{eq-eqb, eqb-true, ltb-true, lt-ltb}
use Rattle.std.specs.Prelude.{not, ◌==◌}
use Rattle.std.specs.List.{list_any}
use Rattle.std.proofs.lemmas.Bool.{cases_Bool, false≢true, ltb-false, le-leb, leb-true, and_from}
use Rattle.mpi_cart.specs.Grids.{below}
use Rattle.mpi_elems.specs.declared.elem_type.ElemType.{ElemType}
use Rattle.wall_labels.specs.declared.op.Op.{Op}
use Rattle.coll_routes.specs.declared.signature.Signature.{Signature}
use Rattle.coll_routes.specs.declared.signature.Signature.TheVariants.{Barrier, Bcast, Gather}
use Rattle.coll_routes.specs.declared.signature.Signature.TheVariants.{Gatherv, Scatter, Scatterv}
use Rattle.coll_routes.specs.declared.signature.Signature.TheVariants.{Allgather, Allgatherv}
use Rattle.coll_routes.specs.declared.signature.Signature.TheVariants.{Alltoall, Alltoallv, Reduce}
use Rattle.coll_routes.specs.declared.signature.Signature.TheVariants.{Allreduce, ReduceScatter}
use Rattle.coll_routes.specs.declared.signature.Signature.TheVariants.{ReduceScatterBlock, Scan}
use Rattle.coll_routes.specs.declared.signature.Signature.TheVariants.{Exscan, NeighborAllgather}
use Rattle.coll_routes.specs.declared.signature.Signature.TheVariants.{NeighborAllgatherv}
use Rattle.coll_routes.specs.declared.signature.Signature.TheVariants.{NeighborAlltoall}
use Rattle.coll_routes.specs.declared.signature.Signature.TheVariants.{NeighborAlltoallv, Dup}
use Rattle.coll_routes.specs.declared.signature.Signature.TheVariants.{Split, Create, CartCreate}
use Rattle.coll_routes.specs.declared.signature.Signature.TheVariants.{CartSub}
use Rattle.coll_routes.specs.declared.statement.Own.{Own}
use Rattle.coll_routes.specs.declared.statement.Stated.{Stated}
use Rattle.coll_routes.specs.declared.roll.Shape.{Shape}
use Rattle.coll_routes.specs.declared.roll.Roll.{Roll}
use Rattle.coll_routes.specs.Signatures.{is_neighbourly}
use Rattle.coll_routes.specs.Rolls.{goes_by, in_block, counts_in, own_counts_in, stated_by, given}
use Rattle.coll_routes.specs.Rolls.{goes, places, sends, routed, label_of}
use Rattle.coll_routes.specs.Lanes.{sends_by, place_by}
use Rattle.coll_routes.specs.declared.statement.Own.TheVariants.{Plain, Counts, Split as SplitBy}
use Rattle.coll_routes.specs.Faults.{is_met, asked, gives, stated_type}
use Rattle.coll_routes.specs.Fit.{IsFit}
use Rattle.coll_routes.proofs.CollRoutesLemmas.{any_at, any_none, empty_block, size_more}
use Rattle.coll_routes.proofs.CollRoutesLemmas.{size_inside, sum_prefix, even_whole, count_is_good}
use Rattle.coll_routes.proofs.CollRoutesLemmas.{met, is_there, no_fault, sends_is, by_place}
use Rattle.coll_routes.proofs.CollRoutesLemmas.{stated_there}
use Rattle.wall_verdict.specs.Charges.{contribution, dataset_in}
use Rattle.wall_verdict.specs.Inflows.{from_root, past_root, all_at, start_of, end_of, is_alike}

---- Nothing comes from a rank outside.

abbrev pub IsOutside : (start end i : ℕ) → Type 0
IsOutside start end i = (i < start) ⊎ (end ≤ i)

not_root : (r size i : ℕ) → i < size → IsOutside (from_root r size) (past_root r size) i →
    nat_eq i r ≡ false
not_root r size i h out = ⊎_elim
    (λ t.
    apart (ltb-true r size t) (subst (λ b. IsOutside (cond b r 0) (cond b (r + 1) 0) i) t out))
    (λ f. let high : size ≤ r = ltb-false r size f in ne_eqb i r (λ same. absurd (omega arith)))
    (cases_Bool (nat_lt r size))
  where
    apart : r < size → IsOutside r (r + 1) i → nat_eq i r ≡ false
    apart low (inl lt) = ne_eqb i r (λ same. absurd (omega arith))
    apart low (inr le) = ne_eqb i r (λ same. absurd (omega arith))

not_to_root : (j r size i : ℕ) → i < size → IsOutside 0 (all_at r size j) i → nat_eq j r ≡ false
not_to_root j r size i h (inl lt) = absurd (omega arith)
not_to_root j r size i h (inr le) = ⊎_elim
    (λ t. let past : size ≤ i = subst (λ b. cond b size 0 ≤ i) t le in absurd (omega arith))
    (λ f. f)
    (cases_Bool (nat_eq j r))

nobody : {X : Type 0} (size i : ℕ) → i < size → IsOutside 0 size i → X
nobody size i h (inl lt) = absurd (omega arith)
nobody size i h (inr le) = absurd (omega arith)

no_lt : (a b : ℕ) → b ≤ a → nat_lt a b ≡ false
no_lt a b h = ⊎_elim (λ t. let low = ltb-true a b t in absurd (omega arith)) (λ f. f)
    (cases_Bool (nat_lt a b))

no_le : (a b : ℕ) → b < a → nat_le a b ≡ false
no_le a b h = ⊎_elim (λ t. let low : a ≤ b = leb-true a b t in absurd (omega arith)) (λ f. f)
    (cases_Bool (nat_le a b))

no_block : (sizes : List ℕ) (j size i x : ℕ) → i < size →
    IsOutside 0 (cond (nat_lt 0 (get_or sizes j 0)) size 0) i → in_block sizes j x ≡ false
no_block sizes j size i x h (inl lt) = absurd (omega arith)
no_block sizes j size i x h (inr le) = ⊎_elim
    (λ t. let past : size ≤ i = subst (λ b. cond b size 0 ≤ i) t le in absurd (omega arith))
    (λ f.
    let none : get_or sizes j 0 ≤ 0 = ltb-false 0 (get_or sizes j 0) f in
    empty_block sizes j x (omega (arith, size_more sizes j)))
    (cases_Bool (nat_lt 0 (get_or sizes j 0)))

and_no : (a b : Bool) → b ≡ false → (a && b) ≡ false
and_no true b h = h
and_no false b h = refl

no_own : (a b c : Bool) → b ≡ true → (a && not b && c) ≡ false
no_own true b c own = ap (λ o. true && not o && c) own
no_own false b c own = refl

goes_outside : (sig : Signature) (shape : Shape) (counts : List ℕ) (i x j t : ℕ) → i < shape.size
    → IsOutside (start_of sig shape.size) (end_of sig shape.size j) i →
    goes_by sig shape counts i x j t ≡ false
unfolding goes_by start_of end_of
goes_outside Barrier shape counts i x j t h out = refl
goes_outside (Bcast r ty n) shape counts i x j t h out = ⊎_elim
    (λ own. no_own (nat_eq i r) (nat_eq j r) (nat_eq t 0) own)
    (λ other.
    let away : IsOutside (from_root r shape.size) (past_root r shape.size) i =
    subst (λ b. IsOutside (from_root r shape.size)
    (cond b (from_root r shape.size) (past_root r shape.size)) i) other out in
    rw (not_root r shape.size i h away) refl)
    (cases_Bool (nat_eq j r))
goes_outside (Gather r ty n) shape counts i x j t h out =
    rw (not_to_root j r shape.size i h out) refl
goes_outside (Gatherv r ty) shape counts i x j t h out =
    rw (not_to_root j r shape.size i h out) refl
goes_outside (Scatter r ty n) shape counts i x j t h out = rw (not_root r shape.size i h out) refl
goes_outside (Scatterv r ty) shape counts i x j t h out = rw (not_root r shape.size i h out) refl
goes_outside (Allgather ty n) shape counts i x j t h out = nobody shape.size i h out
goes_outside (Allgatherv ty) shape counts i x j t h out = nobody shape.size i h out
goes_outside (Alltoall ty n) shape counts i x j t h out = nobody shape.size i h out
goes_outside (Alltoallv ty) shape counts i x j t h out = nobody shape.size i h out
goes_outside (Reduce r op ty n) shape counts i x j t h out =
    rw (not_to_root j r shape.size i h out) refl
goes_outside (Allreduce op ty n) shape counts i x j t h out = nobody shape.size i h out
goes_outside (ReduceScatter op ty sizes) shape counts i x j t h out =
    and_no (nat_eq t 0) (in_block sizes j x) (no_block sizes j shape.size i x h out)
goes_outside (ReduceScatterBlock op ty n) shape counts i x j t h out = nobody shape.size i h out
goes_outside (Scan op ty n) shape counts i x j t h (inl lt) = absurd (omega arith)
goes_outside (Scan op ty n) shape counts i x j t h (inr le) = rw (no_le i j (omega arith)) refl
goes_outside (Exscan op ty n) shape counts i x j t h (inl lt) = absurd (omega arith)
goes_outside (Exscan op ty n) shape counts i x j t h (inr le) = rw (no_lt i j le) refl
goes_outside (NeighborAllgather ty n) shape counts i x j t h out = nobody shape.size i h out
goes_outside (NeighborAllgatherv ty) shape counts i x j t h out = nobody shape.size i h out
goes_outside (NeighborAlltoall ty n) shape counts i x j t h out = nobody shape.size i h out
goes_outside (NeighborAlltoallv ty) shape counts i x j t h out = nobody shape.size i h out
goes_outside Dup shape counts i x j t h out = refl
goes_outside Split shape counts i x j t h out = refl
goes_outside (Create ranks) shape counts i x j t h out = refl
goes_outside (CartCreate dims periods) shape counts i x j t h out = refl
goes_outside (CartSub keep) shape counts i x j t h out = refl

routed_outside : (roll : Roll) (i j : ℕ) → i < roll.shape.size →
    IsOutside (start_of roll.sig roll.shape.size) (end_of roll.sig roll.shape.size j) i →
    routed roll i j ≡ false
unfolding routed
routed_outside roll i j h out =
    any_none (λ t. sends roll i j t) 0 (places roll j) (λ t lt.
    any_none (λ x. goes roll i x j t) 0 (given roll i) (λ x below_given.
    goes_outside roll.sig roll.shape (own_counts_in (stated_by roll i)) i x j t h out))

pub nothing_outside : (roll : Roll) (i j : ℕ) → i < roll.shape.size →
    IsOutside (start_of roll.sig roll.shape.size) (end_of roll.sig roll.shape.size j) i →
    contribution roll i j ≡ None
nothing_outside roll i j h out =
    ap (λ b. cond b (dataset_in (label_of roll i)) None) (routed_outside roll i j h out)

---- A rank reaches two receivers alike.

-- some element lies in a block, of those that are all that was given, exactly where the block has
-- one
block_sends : (sizes : List ℕ) (given b : ℕ) → sum sizes ≡ given →
    list_any (λ x. in_block sizes b x) (below given) ≡ nat_lt 0 (get_or sizes b 0)
block_sends sizes given b whole =
    let more : sum (take (b + 1) sizes) ≡ sum (take b sizes) + get_or sizes b 0 = size_more sizes b
    in
    let prefix = sum_prefix sizes (b + 1) in
    ⊎_elim
    (λ some.
    let filled : 0 < get_or sizes b 0 = ltb-true 0 (get_or sizes b 0) some in
    any_at (λ x. in_block sizes b x) 0 given (sum (take b sizes)) (omega arith) (omega arith) (
    and_from (nat_le (sum (take b sizes)) (sum (take b sizes)))
    (nat_lt (sum (take b sizes)) (sum (take (b + 1) sizes)))
    (le-leb (sum (take b sizes)) (sum (take b sizes)) (omega arith))
    (lt-ltb (sum (take b sizes)) (sum (take (b + 1) sizes)) (omega arith))
    ) ∙ sym some)
    (λ none.
    let empty : get_or sizes b 0 ≡ 0 =
    (let low = ltb-false 0 (get_or sizes b 0) none in omega arith) in
    any_none (λ x. in_block sizes b x) 0 given (λ x h. empty_block sizes b x (omega arith))
    ∙ sym none)
    (cases_Bool (nat_lt 0 (get_or sizes b 0)))

-- a rank that gives a block to each gives all of them
module _ (shape : Shape) (i given : ℕ) where
  to_each : (ty : ElemType) (n : ℕ) (own : Own) →
      is_met (asked shape (Alltoall ty n)) (gives (Alltoall ty n) i) own given ≡ true →
      shape.size * n ≡ given
  unfolding asked gives
  to_each ty n Plain h = sym (eqb-true given (shape.size * n) h)
  to_each ty n (Counts counts) h = absurd (false≢true h)
  to_each ty n (SplitBy colour key) h = absurd (false≢true h)

  from_the_root : (r : ℕ) (ty : ElemType) (n : ℕ) (own : Own) → (i == r) ≡ true →
      is_met (asked shape (Scatter r ty n)) (gives (Scatter r ty n) i) own given ≡ true →
      shape.size * n ≡ given
  unfolding asked gives
  from_the_root r ty n Plain root h =
      sym (eqb-true given (cond (i == r) (shape.size * n) 0) h
      ∙ ap (λ b. cond b (shape.size * n) 0) root)
  from_the_root r ty n (Counts counts) root h = absurd (false≢true h)
  from_the_root r ty n (SplitBy colour key) root h = absurd (false≢true h)

  to_fold : (op : Op) (ty : ElemType) (n : ℕ) (own : Own) →
      is_met (asked shape (ReduceScatterBlock op ty n)) (gives (ReduceScatterBlock op ty n) i) own
      given ≡ true → shape.size * n ≡ given
  unfolding asked gives
  to_fold op ty n Plain h = sym (eqb-true given (shape.size * n) h)
  to_fold op ty n (Counts counts) h = absurd (false≢true h)
  to_fold op ty n (SplitBy colour key) h = absurd (false≢true h)

  to_parts : (op : Op) (ty : ElemType) (sizes : List ℕ) (own : Own) →
      is_met (asked shape (ReduceScatter op ty sizes)) (gives (ReduceScatter op ty sizes) i) own
      given ≡ true → sum sizes ≡ given
  unfolding asked gives
  to_parts op ty sizes Plain h = sym (eqb-true given (sum sizes) h)
  to_parts op ty sizes (Counts counts) h = absurd (false≢true h)
  to_parts op ty sizes (SplitBy colour key) h = absurd (false≢true h)

pub alike_is_plain : (sig : Signature) → is_alike sig ≡ true → is_neighbourly sig ≡ false
unfolding is_alike is_neighbourly
alike_is_plain Barrier e = refl
alike_is_plain (Bcast r ty n) e = refl
alike_is_plain (Gather r ty n) e = refl
alike_is_plain (Gatherv r ty) e = refl
alike_is_plain (Scatter r ty n) e = refl
alike_is_plain (Scatterv r ty) e = refl
alike_is_plain (Allgather ty n) e = refl
alike_is_plain (Allgatherv ty) e = refl
alike_is_plain (Alltoall ty n) e = refl
alike_is_plain (Alltoallv ty) e = refl
alike_is_plain (Reduce r op ty n) e = refl
alike_is_plain (Allreduce op ty n) e = refl
alike_is_plain (ReduceScatter op ty sizes) e = refl
alike_is_plain (ReduceScatterBlock op ty n) e = refl
alike_is_plain (Scan op ty n) e = refl
alike_is_plain (Exscan op ty n) e = refl
alike_is_plain (NeighborAllgather ty n) e = absurd (false≢true e)
alike_is_plain (NeighborAllgatherv ty) e = absurd (false≢true e)
alike_is_plain (NeighborAlltoall ty n) e = absurd (false≢true e)
alike_is_plain (NeighborAlltoallv ty) e = absurd (false≢true e)
alike_is_plain Dup e = refl
alike_is_plain Split e = refl
alike_is_plain (Create ranks) e = refl
alike_is_plain (CartCreate dims periods) e = refl
alike_is_plain (CartSub keep) e = refl

even_alike : (size n j k : ℕ) → j < size → k < size →
    nat_lt 0 (get_or (replicate size n) j 0) ≡ nat_lt 0 (get_or (replicate size n) k 0)
even_alike size n j k hj hk =
    ap (λ s. nat_lt 0 s) (size_inside size n j hj ∙ sym (size_inside size n k hk))

filled_below : (sizes : List ℕ) (j size i : ℕ) → i < cond (nat_lt 0 (get_or sizes j 0)) size 0 →
    nat_lt 0 (get_or sizes j 0) ≡ true
filled_below sizes j size i low = ⊎_elim
    (λ t. t)
    (λ f. let none : i < 0 = subst (λ b. i < cond b size 0) f low in absurd (omega arith))
    (cases_Bool (nat_lt 0 (get_or sizes j 0)))

-- who gets what the root gives is another rank
other_root : (r j size i : ℕ) → (i == r) ≡ true →
    i < cond (j == r) (from_root r size) (past_root r size) → (j == r) ≡ false
other_root r j size i root low = ⊎_elim
    (λ t.
    let is : i ≡ r = eqb-true i r root in
    let below_root : i < from_root r size =
    subst (λ b. i < cond b (from_root r size) (past_root r size)) t low in
    absurd (omega (arith, is, below_root, at_most (nat_lt r size) r)))
    (λ f. f)
    (cases_Bool (j == r))
  where
    at_most : (b : Bool) (n : ℕ) → cond b n 0 ≤ n
    at_most true n = omega arith
    at_most false n = omega arith

is_root : (r j size i : ℕ) → i < all_at r size j → j ≡ r
is_root r j size i low = ⊎_elim
    (λ t. eqb-true j r t)
    (λ f. let none : i < 0 = subst (λ b. i < cond b size 0) f low in absurd (omega arith))
    (cases_Bool (nat_eq j r))

module _ (shape : Shape) (own : Own) (counts : List ℕ) (given i j k : ℕ) (hj : j < shape.size)
    (hk : k < shape.size) where
  even : (n : ℕ) → shape.size * n ≡ given →
      list_any (λ x. in_block (replicate shape.size n) j x) (below given)
      ≡ list_any (λ x. in_block (replicate shape.size n) k x) (below given)
  even n whole =
      let all : sum (replicate shape.size n) ≡ given = even_whole shape.size n ∙ whole in
      block_sends (replicate shape.size n) given j all ∙ even_alike shape.size n j k hj hk
      ∙ sym (block_sends (replicate shape.size n) given k all)

  one_root : (r : ℕ) → i < all_at r shape.size j → i < all_at r shape.size k → j ≡ k
  one_root r low high = is_root r j shape.size i low ∙ sym (is_root r k shape.size i high)

  sends_alike : (sig : Signature) → is_met (asked shape sig) (gives sig i) own given ≡ true →
      is_alike sig ≡ true
      → i < end_of sig shape.size j → i < end_of sig shape.size k
      →
      sends_by sig shape counts given i j (place_by sig i)
      ≡ sends_by sig shape counts given i k (place_by sig i)
  unfolding is_alike end_of sends_by goes_by place_by
  sends_alike (Allgather ty n) m e low high = refl
  sends_alike (Allgatherv ty) m e low high = refl
  sends_alike (Alltoall ty n) m e low high =
      let same : nat_eq i i ≡ true = eq-eqb i i refl in
      ap (λ b. list_any (λ x. b && in_block (replicate shape.size n) j x) (below given)) same
      ∙ even n (to_each shape i given ty n own m)
      ∙ sym
      (ap (λ b. list_any (λ x. b && in_block (replicate shape.size n) k x) (below given)) same)
  sends_alike (Allreduce op ty n) m e low high = refl
  sends_alike (ReduceScatter op ty sizes) m e low high =
      let all = to_parts shape i given op ty sizes own m in
      block_sends sizes given j all ∙ filled_below sizes j shape.size i low
      ∙ sym (block_sends sizes given k all ∙ filled_below sizes k shape.size i high)
  sends_alike (ReduceScatterBlock op ty n) m e low high =
      even n (to_fold shape i given op ty n own m)
  sends_alike (Scan op ty n) m e low high =
      ap (λ b. list_any (λ (x : ℕ). b && true) (below given))
      (le-leb i j (omega arith) ∙ sym (le-leb i k (omega arith)))
  sends_alike (Exscan op ty n) m e low high =
      ap (λ b. list_any (λ (x : ℕ). b && true) (below given))
      (lt-ltb i j low ∙ sym (lt-ltb i k high))
  sends_alike Barrier m e low high = absurd (false≢true e)
  sends_alike (Bcast r ty n) m e low high = ⊎_elim
      (λ root.
      let one = other_root r j shape.size i root low in
      let two = other_root r k shape.size i root high in
      ap (λ b. list_any (λ (x : ℕ). (i == r) && not b && true) (below given)) (one ∙ sym two))
      (λ other. ap (λ b. list_any (λ (x : ℕ). b && not (j == r) && true) (below given)) other
      ∙ sym (ap (λ b. list_any (λ (x : ℕ). b && not (k == r) && true) (below given)) other))
      (cases_Bool (i == r))
  sends_alike (Gather r ty n) m e low high =
      ap (λ (t : ℕ). sends_by (Gather r ty n) shape counts given i t (place_by (Gather r ty n) i))
      (one_root r low high)
  sends_alike (Gatherv r ty) m e low high =
      ap (λ (t : ℕ). sends_by (Gatherv r ty) shape counts given i t (place_by (Gatherv r ty) i))
      (one_root r low high)
  sends_alike (Scatter r ty n) m e low high =
      let into : ℕ → ℕ → Bool = (λ l x. in_block (replicate shape.size n) l x) in ⊎_elim
      (λ root. ap (λ b. list_any (λ x. b && true && into j x) (below given)) root
      ∙ even n (from_the_root shape i given r ty n own root m)
      ∙ sym (ap (λ b. list_any (λ x. b && true && into k x) (below given)) root))
      (λ other. ap (λ b. list_any (λ x. b && true && into j x) (below given)) other
      ∙ sym (ap (λ b. list_any (λ x. b && true && into k x) (below given)) other))
      (cases_Bool (i == r))
  sends_alike (Scatterv r ty) m e low high = absurd (false≢true e)
  sends_alike (Alltoallv ty) m e low high = absurd (false≢true e)
  sends_alike (Reduce r op ty n) m e low high =
      ap (λ (t : ℕ).
      sends_by (Reduce r op ty n) shape counts given i t (place_by (Reduce r op ty n) i))
      (one_root r low high)
  sends_alike (NeighborAllgather ty n) m e low high = absurd (false≢true e)
  sends_alike (NeighborAllgatherv ty) m e low high = absurd (false≢true e)
  sends_alike (NeighborAlltoall ty n) m e low high = absurd (false≢true e)
  sends_alike (NeighborAlltoallv ty) m e low high = absurd (false≢true e)
  sends_alike Dup m e low high = absurd (false≢true e)
  sends_alike Split m e low high = absurd (false≢true e)
  sends_alike (Create ranks) m e low high = absurd (false≢true e)
  sends_alike (CartCreate dims periods) m e low high = absurd (false≢true e)
  sends_alike (CartSub keep) m e low high = absurd (false≢true e)

module _ (roll : Roll) (fit : IsFit roll) (i : ℕ) (h : i < roll.shape.size)
    (plain : is_neighbourly roll.sig ≡ false) (s : Stated) (is : stated_by roll i ≡ Some s) where
  routed_by : (j : ℕ) →
      routed roll i j
      ≡ sends_by roll.sig roll.shape (counts_in s.own) s.given i j (place_by roll.sig i)
  routed_by j = sym (by_place roll i j plain h) ∙ sends_is roll i j (place_by roll.sig i) s is

  asked_is_met : is_met (asked roll.shape roll.sig) (gives roll.sig i) s.own s.given ≡ true
  asked_is_met =
      let ty = stated_type roll.sig in
      met roll.shape i roll.sig s.own ty s.given
      (count_is_good roll.shape i roll.sig s.own ty s.given (no_fault roll i s fit is))

pub comes_alike : (roll : Roll) (i j k : ℕ) → IsFit roll → is_alike roll.sig ≡ true →
    i < roll.shape.size → j < roll.shape.size → k < roll.shape.size
    → i < end_of roll.sig roll.shape.size j → i < end_of roll.sig roll.shape.size k →
    contribution roll i j ≡ contribution roll i k
comes_alike roll i j k fit alike h hj hk low high =
    let found = stated_there (stated_by roll i) (is_there roll i fit h) in
    let plain = alike_is_plain roll.sig alike in
    ap (λ b. cond b (dataset_in (label_of roll i)) None) (
    routed_by roll fit i h plain found.0 found.1 j
    ∙ sends_alike roll.shape found.0.own (counts_in found.0.own) found.0.given i j k hj hk roll.sig
    (asked_is_met roll fit i h plain found.0 found.1) alike low high
    ∙ sym (routed_by roll fit i h plain found.0 found.1 k)
    )

---- The ends.

cond_within : (b : Bool) (size : ℕ) → cond b size 0 ≤ size
cond_within true size = omega arith
cond_within false size = omega arith

all_within : (r size j : ℕ) → all_at r size j ≤ size
all_within r size j = cond_within (nat_eq j r) size

past_within : (r size : ℕ) → past_root r size ≤ size
past_within r size = ⊎_elim
    (λ t. let low : r < size = ltb-true r size t in
    subst (λ b. cond b (r + 1) 0 ≤ size) (sym t) (omega arith))
    (λ f. subst (λ b. cond b (r + 1) 0 ≤ size) (sym f) (omega arith))
    (cases_Bool (nat_lt r size))

root_within : (r size : ℕ) → from_root r size ≤ past_root r size
root_within r size = at (nat_lt r size)
  where
    at : (b : Bool) → cond b r 0 ≤ cond b (r + 1) 0
    at true = omega arith
    at false = omega arith

other_within : (b : Bool) (r size : ℕ) → cond b (from_root r size) (past_root r size) ≤ size
other_within true r size = omega (arith, root_within r size, past_within r size)
other_within false r size = past_within r size

from_within : (b : Bool) (r size : ℕ) →
    from_root r size ≤ cond b (from_root r size) (past_root r size)
from_within true r size = omega arith
from_within false r size = root_within r size

pub end_within : (sig : Signature) (size j : ℕ) → j < size → end_of sig size j ≤ size
unfolding end_of
end_within Barrier size j h = omega arith
end_within (Bcast r ty n) size j h = other_within (nat_eq j r) r size
end_within (Gather r ty n) size j h = all_within r size j
end_within (Gatherv r ty) size j h = all_within r size j
end_within (Scatter r ty n) size j h = past_within r size
end_within (Scatterv r ty) size j h = past_within r size
end_within (Allgather ty n) size j h = omega arith
end_within (Allgatherv ty) size j h = omega arith
end_within (Alltoall ty n) size j h = omega arith
end_within (Alltoallv ty) size j h = omega arith
end_within (Reduce r op ty n) size j h = all_within r size j
end_within (Allreduce op ty n) size j h = omega arith
end_within (ReduceScatter op ty sizes) size j h = cond_within (nat_lt 0 (get_or sizes j 0)) size
end_within (ReduceScatterBlock op ty n) size j h = omega arith
end_within (Scan op ty n) size j h = omega arith
end_within (Exscan op ty n) size j h = omega arith
end_within (NeighborAllgather ty n) size j h = omega arith
end_within (NeighborAllgatherv ty) size j h = omega arith
end_within (NeighborAlltoall ty n) size j h = omega arith
end_within (NeighborAlltoallv ty) size j h = omega arith
end_within Dup size j h = omega arith
end_within Split size j h = omega arith
end_within (Create ranks) size j h = omega arith
end_within (CartCreate dims periods) size j h = omega arith
end_within (CartSub keep) size j h = omega arith

pub start_within : (sig : Signature) (size j : ℕ) → start_of sig size ≤ end_of sig size j
unfolding start_of end_of
start_within Barrier size j = omega arith
start_within (Bcast r ty n) size j = from_within (nat_eq j r) r size
start_within (Gather r ty n) size j = omega arith
start_within (Gatherv r ty) size j = omega arith
start_within (Scatter r ty n) size j = root_within r size
start_within (Scatterv r ty) size j = root_within r size
start_within (Allgather ty n) size j = omega arith
start_within (Allgatherv ty) size j = omega arith
start_within (Alltoall ty n) size j = omega arith
start_within (Alltoallv ty) size j = omega arith
start_within (Reduce r op ty n) size j = omega arith
start_within (Allreduce op ty n) size j = omega arith
start_within (ReduceScatter op ty sizes) size j = omega arith
start_within (ReduceScatterBlock op ty n) size j = omega arith
start_within (Scan op ty n) size j = omega arith
start_within (Exscan op ty n) size j = omega arith
start_within (NeighborAllgather ty n) size j = omega arith
start_within (NeighborAllgatherv ty) size j = omega arith
start_within (NeighborAlltoall ty n) size j = omega arith
start_within (NeighborAlltoallv ty) size j = omega arith
start_within Dup size j = omega arith
start_within Split size j = omega arith
start_within (Create ranks) size j = omega arith
start_within (CartCreate dims periods) size j = omega arith
start_within (CartSub keep) size j = omega arith
