-- What the constructors have to do with one another: their faults, and what they make, kind by
-- kind.
use Rattle.std.proofs.Common.{◌≡◌, ℕ, ◌+◌, List, [], ◌++◌, length, refl, sym, ap, ◌∙◌, Bool, true}
use Rattle.std.proofs.Common.{false, not, ◌||◌, Option, Some, None, cond, is_none}
use Rattle.std.specs.Prelude.{◌==◌, nat_le}
use Rattle.std.proofs.lemmas.Bool.{false≢true, cond-true}
use Rattle.std.proofs.lemmas.List.{append-nil}
use Rattle.mpi_comm.specs.declared.table.TheConstants.{COMMUNICATOR_LIMIT}
use Rattle.mpi_comm.specs.declared.values.Ask.{Ask}
use Rattle.mpi_comm.specs.Comms.{fits, is_subgroup, dup_groups}
use Rattle.mpi_comm.specs.Splits.{has_bad_colour}
use Rattle.mpi_cart.specs.declared.fault.GridFault.{GridFault}
use Rattle.mpi_cart.specs.Faults.{first_fault}
use Rattle.coll_routes.specs.declared.signature.Signature.{Signature}
use Rattle.coll_routes.specs.declared.signature.Signature.TheVariants.{Barrier, Bcast, Gather}
use Rattle.coll_routes.specs.declared.signature.Signature.TheVariants.{Gatherv, Scatter, Scatterv}
use Rattle.coll_routes.specs.declared.signature.Signature.TheVariants.{Allgather, Allgatherv}
use Rattle.coll_routes.specs.declared.signature.Signature.TheVariants.{Alltoall, Alltoallv, Reduce}
use Rattle.coll_routes.specs.declared.signature.Signature.TheVariants.{Allreduce, ReduceScatter}
use Rattle.coll_routes.specs.declared.signature.Signature.TheVariants.{ReduceScatterBlock, Scan}
use Rattle.coll_routes.specs.declared.signature.Signature.TheVariants.{Exscan, NeighborAllgather}
use Rattle.coll_routes.specs.declared.signature.Signature.TheVariants.{NeighborAllgatherv}
use Rattle.coll_routes.specs.declared.signature.Signature.TheVariants.{NeighborAlltoall}
use Rattle.coll_routes.specs.declared.signature.Signature.TheVariants.{NeighborAlltoallv, Dup}
use Rattle.coll_routes.specs.declared.signature.Signature.TheVariants.{Split, Create, CartCreate}
use Rattle.coll_routes.specs.declared.signature.Signature.TheVariants.{CartSub}
use Rattle.run_model.specs.Comms.{Comm, with_grid, new_comms_by, if_fit}
use Rattle.run_model.specs.Posts.{constructor_outcome}
use Rattle.run_model.specs.declared.outcome.Outcome.TheVariants.{Made, NoRoom}
use Rattle.run_state.specs.Making.{Makes, is_faultless, is_kept}

-- ## no fault of its own

not_true : (b : Bool) → not b ≡ true → b ≡ false
not_true true e = absurd (false≢true e)
not_true false e = refl

no_fault : (fault : Option GridFault) → is_none fault ≡ true → fault ≡ None
no_fault None e = refl
no_fault (Some fault) e = absurd (false≢true e)

pub split_colours : (sig : Signature) (found : Comm) (asks : List Ask) → sig ≡ Split →
    is_faultless sig found asks ≡ true → has_bad_colour asks ≡ false
unfolding is_faultless
split_colours sig found asks is faultless =
    not_true (has_bad_colour asks) (ap (λ s. is_faultless s found asks) (sym is) ∙ faultless)

pub create_ranks : (sig : Signature) (found : Comm) (asks : List Ask) (ranks : List ℕ) →
    sig ≡ Create ranks → is_faultless sig found asks ≡ true →
    is_subgroup (length found.members) ranks ≡ true
unfolding is_faultless
create_ranks sig found asks ranks is faultless =
    ap (λ s. is_faultless s found asks) (sym is) ∙ faultless

pub grid_dims :
    (sig : Signature) (found : Comm) (asks : List Ask) (dims : List ℕ) (periods : List Bool) →
    sig ≡ CartCreate dims periods → is_faultless sig found asks ≡ true →
    first_fault dims periods (length found.members) ≡ None
unfolding is_faultless
grid_dims sig found asks dims periods is faultless = no_fault
    (first_fault dims periods (length found.members))
    (ap (λ s. is_faultless s found asks) (sym is) ∙ faultless)

pub cut_keep : (sig : Signature) (found : Comm) (asks : List Ask) (keep : List Bool) →
    sig ≡ CartSub keep → is_faultless sig found asks ≡ true → is_kept keep found.grid ≡ true
unfolding is_faultless
cut_keep sig found asks keep is faultless = ap (λ s. is_faultless s found asks) (sym is) ∙ faultless

-- ## what is made

pub made_by_dup : (sig : Signature) (found : Comm) (asks : List Ask) → sig ≡ Dup →
    with_grid found.grid (dup_groups found.members) ≡ new_comms_by sig found asks
unfolding new_comms_by
made_by_dup sig found asks is = ap (λ s. new_comms_by s found asks) (sym is)

-- other kinds make none
pub others_make_none : (sig : Signature) (found : Comm) (asks : List Ask) → (sig ≡ Dup → ⊥) →
    (sig ≡ Split → ⊥) → ((ranks : List ℕ) → sig ≡ Create ranks → ⊥) →
    ((dims : List ℕ) (periods : List Bool) → sig ≡ CartCreate dims periods → ⊥) →
    ((keep : List Bool) → sig ≡ CartSub keep → ⊥) → new_comms_by sig found asks ≡ []
unfolding new_comms_by
others_make_none Barrier found asks d s k g p = refl
others_make_none (Bcast r ty n) found asks d s k g p = refl
others_make_none (Gather r ty n) found asks d s k g p = refl
others_make_none (Gatherv r ty) found asks d s k g p = refl
others_make_none (Scatter r ty n) found asks d s k g p = refl
others_make_none (Scatterv r ty) found asks d s k g p = refl
others_make_none (Allgather ty n) found asks d s k g p = refl
others_make_none (Allgatherv ty) found asks d s k g p = refl
others_make_none (Alltoall ty n) found asks d s k g p = refl
others_make_none (Alltoallv ty) found asks d s k g p = refl
others_make_none (Reduce r op ty n) found asks d s k g p = refl
others_make_none (Allreduce op ty n) found asks d s k g p = refl
others_make_none (ReduceScatter op ty ns) found asks d s k g p = refl
others_make_none (ReduceScatterBlock op ty n) found asks d s k g p = refl
others_make_none (Scan op ty n) found asks d s k g p = refl
others_make_none (Exscan op ty n) found asks d s k g p = refl
others_make_none (NeighborAllgather ty n) found asks d s k g p = refl
others_make_none (NeighborAllgatherv ty) found asks d s k g p = refl
others_make_none (NeighborAlltoall ty n) found asks d s k g p = refl
others_make_none (NeighborAlltoallv ty) found asks d s k g p = refl
others_make_none Dup found asks d s k g p = absurd (d refl)
others_make_none Split found asks d s k g p = absurd (s refl)
others_make_none (Create ranks) found asks d s k g p = absurd (k ranks refl)
others_make_none (CartCreate dims periods) found asks d s k g p = absurd (g dims periods refl)
others_make_none (CartSub keep) found asks d s k g p = absurd (p keep refl)

either : (b : Bool) → (b || (0 == 0)) ≡ true
either true = refl
either false = refl

none_fit : (n : ℕ) → if_fit n [] ≡ []
none_fit n = by (fits n 0)
  where
    nil : List Comm
    nil = []

    by : (b : Bool) → cond b nil nil ≡ nil
    by true = refl
    by false = refl

-- making none changes nothing
pub nothing_made : (table new : List Comm) (count : ℕ) → new ≡ [] → count ≡ length table →
    Makes new table table (Made count 0)
nothing_made table new count none is =
    let before = length table in
    record {
      grown = sym (append-nil table)
          ∙ ap (λ more. table ++ more) (sym (ap (λ cs. if_fit before cs) none ∙ none_fit before));
      told = ap (λ n. Made n 0) is
          ∙ (sym (cond-true (fits before 0) (Made before 0) NoRoom
          (either (nat_le (before + 0) COMMUNICATOR_LIMIT)))
          ∙ ap (λ cs. constructor_outcome before cs) (sym none));
    }
