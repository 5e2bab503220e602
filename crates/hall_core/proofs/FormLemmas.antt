-- What a posting without a fault is: few elements, and in form for the book.
use Rattle.std.proofs.Common.{◌≡◌, ℕ, ◌<◌, ◌≤◌, Bool, true, false, not, ◌||◌, refl, sym, ◌∙◌}
use Rattle.std.proofs.Common.{⊎_elim, lt-ltb}
use Rattle.std.specs.Prelude.{unwrap_or}
use Rattle.std.proofs.lemmas.Bool.{false≢true, cases_lt}
use Rattle.mpi_elems.specs.declared.elem_type.ElemType.{ElemType}
use Rattle.coll_routes.specs.declared.signature.Signature.{Signature}
use Rattle.coll_routes.specs.declared.signature.Signature.TheVariants.{Barrier, Bcast, Gather}
use Rattle.coll_routes.specs.declared.signature.Signature.TheVariants.{Gatherv, Scatter, Scatterv}
use Rattle.coll_routes.specs.declared.signature.Signature.TheVariants.{Allgather, Allgatherv}
use Rattle.coll_routes.specs.declared.signature.Signature.TheVariants.{Alltoall, Alltoallv, Reduce}
use Rattle.coll_routes.specs.declared.signature.Signature.TheVariants.{Allreduce, ReduceScatter}
use Rattle.coll_routes.specs.declared.signature.Signature.TheVariants.{ReduceScatterBlock, Scan}
use Rattle.coll_routes.specs.declared.signature.Signature.TheVariants.{Exscan, NeighborAllgather}
use Rattle.coll_routes.specs.declared.signature.Signature.TheVariants.{NeighborAllgatherv}
use Rattle.coll_routes.specs.declared.signature.Signature.TheVariants.{NeighborAlltoall}
use Rattle.coll_routes.specs.declared.signature.Signature.TheVariants.{NeighborAlltoallv, Dup}
use Rattle.coll_routes.specs.declared.signature.Signature.TheVariants.{Split, Create, CartCreate}
use Rattle.coll_routes.specs.declared.signature.Signature.TheVariants.{CartSub}
use Rattle.coll_routes.specs.declared.statement.Own.{Own}
use Rattle.coll_routes.specs.declared.statement.Own.TheVariants.{Plain, Counts, Split as SplitBy}
use Rattle.coll_routes.specs.declared.roll.Shape.{Shape}
use Rattle.coll_routes.specs.Signatures.{elem_type, count, kind}
use Rattle.coll_routes.specs.Faults.{asked, gives, is_met, is_of_type, is_above_limit}
use Rattle.coll_routes.specs.Faults.{is_asked_above_limit, is_listed, bad_count}
use Rattle.run_model.specs.EntryForms.{is_formed}

-- ## the tests on elements and counts

not_second : (a b c d e f : Bool) → (a || b || c || d || e || f) ≡ false → b ≡ false
not_second a false c d e f h = refl
not_second false true c d e f h = absurd (false≢true (sym h))
not_second true true c d e f h = absurd (false≢true (sym h))

not_last : (a b c d e f : Bool) → (a || b || c || d || e || f) ≡ false → f ≡ false
not_last a b c d e false h = refl
not_last true b c d e true h = absurd (false≢true (sym h))
not_last false true c d e true h = absurd (false≢true (sym h))
not_last false false true d e true h = absurd (false≢true (sym h))
not_last false false false true e true h = absurd (false≢true (sym h))
not_last false false false false true true h = absurd (false≢true (sym h))
not_last false false false false false true h = absurd (false≢true (sym h))

not_not : (b : Bool) → not b ≡ false → b ≡ true
not_not true h = refl
not_not false h = absurd (false≢true (sym h))

module _ (shape : Shape) (rank : ℕ) (sig : Signature) (own : Own) (ty : ElemType) (given : ℕ)
    (free : bad_count shape rank sig own ty given ≡ false) where
  below_limit : is_above_limit given ≡ false
  unfolding bad_count
  below_limit = not_second (not (is_of_type (elem_type sig) ty)) (is_above_limit given)
      (is_above_limit (unwrap_or (count sig) 0)) (is_asked_above_limit (asked shape sig))
      (not (is_listed shape sig)) (not (is_met (asked shape sig) (gives sig rank) own given)) free

  pub few_given : given ≤ 65536
  few_given = ⊎_elim
      (λ (high : 65536 < given). absurd (false≢true (sym below_limit ∙ lt-ltb 65536 given high)))
      (λ (low : given ≤ 65536). low) (cases_lt 65536 given)

  pub met : is_met (asked shape sig) (gives sig rank) own given ≡ true
  unfolding bad_count
  met = not_not (is_met (asked shape sig) (gives sig rank) own given)
      (not_last (not (is_of_type (elem_type sig) ty)) (is_above_limit given)
      (is_above_limit (unwrap_or (count sig) 0)) (is_asked_above_limit (asked shape sig))
      (not (is_listed shape sig)) (not (is_met (asked shape sig) (gives sig rank) own given))
      free)

-- ## what a member states for itself

pub formed : (shape : Shape) (sig : Signature) (b : Bool) (own : Own) (given : ℕ) →
    is_met (asked shape sig) b own given ≡ true → is_formed sig own ≡ true
unfolding asked is_formed kind
formed shape Barrier b Plain given h = refl
formed shape Barrier b (Counts list) given h = absurd (false≢true h)
formed shape Barrier b (SplitBy colour key) given h = absurd (false≢true h)
formed shape (Bcast r ty n) b Plain given h = refl
formed shape (Bcast r ty n) b (Counts list) given h = absurd (false≢true h)
formed shape (Bcast r ty n) b (SplitBy colour key) given h = absurd (false≢true h)
formed shape (Gather r ty n) b Plain given h = refl
formed shape (Gather r ty n) b (Counts list) given h = absurd (false≢true h)
formed shape (Gather r ty n) b (SplitBy colour key) given h = absurd (false≢true h)
formed shape (Gatherv r ty) b Plain given h = refl
formed shape (Gatherv r ty) b (Counts list) given h = absurd (false≢true h)
formed shape (Gatherv r ty) b (SplitBy colour key) given h = absurd (false≢true h)
formed shape (Scatter r ty n) b Plain given h = refl
formed shape (Scatter r ty n) b (Counts list) given h = absurd (false≢true h)
formed shape (Scatter r ty n) b (SplitBy colour key) given h = absurd (false≢true h)
formed shape (Scatterv r ty) b Plain given h = absurd (false≢true h)
formed shape (Scatterv r ty) b (Counts list) given h = refl
formed shape (Scatterv r ty) b (SplitBy colour key) given h = absurd (false≢true h)
formed shape (Allgather ty n) b Plain given h = refl
formed shape (Allgather ty n) b (Counts list) given h = absurd (false≢true h)
formed shape (Allgather ty n) b (SplitBy colour key) given h = absurd (false≢true h)
formed shape (Allgatherv ty) b Plain given h = refl
formed shape (Allgatherv ty) b (Counts list) given h = absurd (false≢true h)
formed shape (Allgatherv ty) b (SplitBy colour key) given h = absurd (false≢true h)
formed shape (Alltoall ty n) b Plain given h = refl
formed shape (Alltoall ty n) b (Counts list) given h = absurd (false≢true h)
formed shape (Alltoall ty n) b (SplitBy colour key) given h = absurd (false≢true h)
formed shape (Alltoallv ty) b Plain given h = absurd (false≢true h)
formed shape (Alltoallv ty) b (Counts list) given h = refl
formed shape (Alltoallv ty) b (SplitBy colour key) given h = absurd (false≢true h)
formed shape (Reduce r op ty n) b Plain given h = refl
formed shape (Reduce r op ty n) b (Counts list) given h = absurd (false≢true h)
formed shape (Reduce r op ty n) b (SplitBy colour key) given h = absurd (false≢true h)
formed shape (Allreduce op ty n) b Plain given h = refl
formed shape (Allreduce op ty n) b (Counts list) given h = absurd (false≢true h)
formed shape (Allreduce op ty n) b (SplitBy colour key) given h = absurd (false≢true h)
formed shape (ReduceScatter op ty counts) b Plain given h = refl
formed shape (ReduceScatter op ty counts) b (Counts list) given h = absurd (false≢true h)
formed shape (ReduceScatter op ty counts) b (SplitBy colour key) given h = absurd (false≢true h)
formed shape (ReduceScatterBlock op ty n) b Plain given h = refl
formed shape (ReduceScatterBlock op ty n) b (Counts list) given h = absurd (false≢true h)
formed shape (ReduceScatterBlock op ty n) b (SplitBy colour key) given h = absurd (false≢true h)
formed shape (Scan op ty n) b Plain given h = refl
formed shape (Scan op ty n) b (Counts list) given h = absurd (false≢true h)
formed shape (Scan op ty n) b (SplitBy colour key) given h = absurd (false≢true h)
formed shape (Exscan op ty n) b Plain given h = refl
formed shape (Exscan op ty n) b (Counts list) given h = absurd (false≢true h)
formed shape (Exscan op ty n) b (SplitBy colour key) given h = absurd (false≢true h)
formed shape (NeighborAllgather ty n) b Plain given h = refl
formed shape (NeighborAllgather ty n) b (Counts list) given h = absurd (false≢true h)
formed shape (NeighborAllgather ty n) b (SplitBy colour key) given h = absurd (false≢true h)
formed shape (NeighborAllgatherv ty) b Plain given h = refl
formed shape (NeighborAllgatherv ty) b (Counts list) given h = absurd (false≢true h)
formed shape (NeighborAllgatherv ty) b (SplitBy colour key) given h = absurd (false≢true h)
formed shape (NeighborAlltoall ty n) b Plain given h = refl
formed shape (NeighborAlltoall ty n) b (Counts list) given h = absurd (false≢true h)
formed shape (NeighborAlltoall ty n) b (SplitBy colour key) given h = absurd (false≢true h)
formed shape (NeighborAlltoallv ty) b Plain given h = absurd (false≢true h)
formed shape (NeighborAlltoallv ty) b (Counts list) given h = refl
formed shape (NeighborAlltoallv ty) b (SplitBy colour key) given h = absurd (false≢true h)
formed shape Dup b Plain given h = refl
formed shape Dup b (Counts list) given h = absurd (false≢true h)
formed shape Dup b (SplitBy colour key) given h = absurd (false≢true h)
formed shape Split b Plain given h = absurd (false≢true h)
formed shape Split b (Counts list) given h = absurd (false≢true h)
formed shape Split b (SplitBy colour key) given h = refl
formed shape (Create ranks) b Plain given h = refl
formed shape (Create ranks) b (Counts list) given h = absurd (false≢true h)
formed shape (Create ranks) b (SplitBy colour key) given h = absurd (false≢true h)
formed shape (CartCreate dims periods) b Plain given h = refl
formed shape (CartCreate dims periods) b (Counts list) given h = absurd (false≢true h)
formed shape (CartCreate dims periods) b (SplitBy colour key) given h = absurd (false≢true h)
formed shape (CartSub keep) b Plain given h = refl
formed shape (CartSub keep) b (Counts list) given h = absurd (false≢true h)
formed shape (CartSub keep) b (SplitBy colour key) given h = absurd (false≢true h)
