-- Worked policies of a later day, by computation.
use Rattle.std.proofs.Common.{◌≡◌, ℕ, false, List, [], take, refl, sym, ap}
use Rattle.std.proofs.Common.{◌∙◌, ◌<◌, subst, inr, arith, slice_index_or, zero, suc, Some}
use Rattle.std.proofs.Common.{slice_get, true}
use Rattle.std.proofs.lemmas.Bool.{false≢true}
use Rattle.wall_policy.specs.Names.{is_in}
use Rattle.wall_policy.specs.Rivals.{are_rivals}
use Rattle.wall_rules.specs.Least.{least}
use Rattle.wall_rules.specs.Rules.{first_rival, first_other}
use Rattle.mpi_elems.specs.Operations.{is_allowed}
use Rattle.mpi_group.specs.Groups.{members_at}
use Rattle.mpi_cart.specs.Grids.{cells, neighbour}
use Rattle.mpi_comm.specs.Splits.{colours_of, ranks_for, split_groups}
use Rattle.coll_routes.specs.Signatures.{kind, root, reduction, elem_type, count, numbers, flags}
use Rattle.coll_routes.specs.Signatures.{is_constructor, is_neighbourly, same_signature}
use Rattle.coll_routes.specs.Rolls.{goes_by, places_by, routed}
use Rattle.coll_routes.specs.Faults.{asked, gives, no_topology, is_listed, bad_count, not_subgroup}
use Rattle.coll_routes.specs.Faults.{bad_dims, shape_fault}
use Rattle.wall_verdict.specs.Charges.{sanitised}
use Rattle.wall_verdict.specs.Verdicts.{verdict}
use Rattle.run_model.specs.Comms.{new_comms_by}
use Rattle.run_model.specs.Posts.{filled, histories}
use Rattle.run_model.specs.Refusals.{fault}
use Rattle.run_model.specs.Books.{posts_in}
use Rattle.run_model.specs.BookRows.{banks_and_oil}
use Rattle.run_model.specs.Chains.{IsChain, GrewFrom}
use Rattle.run_model.specs.ChainRows.{alpha_for_n0, one_book}
use Rattle.run_model.specs.Holding.{Holds}
use Rattle.run_model.specs.Years.{BeginsWithNothing, CameToHold, HadOnce}
use Rattle.wall_policy.specs.Growth.{KeepsProcess, KeepsDataset, HasGrown, renumbered}
use Rattle.run_model.specs.YearRows.{banks_lowered, beta_moved, home_removed, n0_renamed}
use Rattle.run_model.specs.YearRows.{gamma_joined, gamma_behind}
use Rattle.run_model.proofs.ChainRowProofs.{grown_is_chain}
use Rattle.run_model.proofs.HoldingLemmas.{history_is_held}
use Rattle.run_model.proofs.YearLemmas.{held_then}

pub lowered : IsChain one_book banks_lowered
lowered = (
  tt,
  grown_is_chain.1,
  record {
    grew = record {
      datasets = (_, refl);
      classes = (_, refl);
      processes = (_, refl);
      homes = (_, refl);
    };
    held = grown_is_chain.2.held;
  },
)

pub moved : IsChain one_book beta_moved → ⊥
moved chain = let is = chain.2.grew.classes.1 in absurd cc

pub homeless : IsChain one_book home_removed → ⊥
homeless chain = let is = chain.2.grew.homes.1 in absurd cc

pub renamed : IsChain one_book n0_renamed → ⊥
renamed chain =
    let is : 110 ≡ 109 =
    ap (λ names. slice_index_or (slice_index_or names 3 []) 0 0) chain.2.grew.processes.1 in
    absurd (omega (arith, is))

pub nothing : BeginsWithNothing one_book banks_lowered
nothing p d = refl

-- before its own post, the fourth, n0 does not hold alpha
not_yet : (n : ℕ) → histories banks_and_oil (posts_in (take n alpha_for_n0)) 3 0 ≡ false →
    ¬ (Holds banks_and_oil (posts_in (take n alpha_for_n0)) 3 0)
not_yet n none held =
    false≢true (sym none ∙ held_then banks_and_oil alpha_for_n0 grown_is_chain.1 3 0 (omega arith)
    n held)

pub came : CameToHold banks_and_oil alpha_for_n0 4 3 0
unfolding is_allowed are_rivals least first_rival first_other members_at cells neighbour colours_of
    ranks_for split_groups kind root reduction elem_type count numbers flags is_constructor
    is_neighbourly same_signature goes_by places_by routed asked gives no_topology is_listed
    bad_count not_subgroup bad_dims shape_fault sanitised verdict new_comms_by filled fault
came = record {
  counted = omega arith;
  within = omega arith;
  before = not_yet 3 refl;
  after = history_is_held banks_and_oil (posts_in (take 4 alpha_for_n0)) 3 0 refl;
}

-- and it comes by no entry once more
pub once_only : ¬ (CameToHold banks_and_oil alpha_for_n0 5 3 0)
once_only later = later.before came.after

pub had : HadOnce one_book 3 0
had = inr (inr (4, came))

---- A firm that joins.

same_process : (p : ℕ) → p < 4 → KeepsProcess banks_and_oil gamma_joined p
same_process zero low = record { name = refl; home = refl }
same_process (suc zero) low = record { name = refl; home = refl }
same_process (suc (suc zero)) low = record { name = refl; home = refl }
same_process (suc (suc (suc zero))) low = record { name = refl; home = refl }
same_process (suc (suc (suc (suc p)))) low = absurd (omega (arith, low))

some_is : {X : Type 0} (x y : X) → Some x ≡ Some y → x ≡ y
some_is x y e = cc

same_dataset : (d : ℕ) (name : List ℕ) →
    slice_get banks_and_oil.dataset_names d ≡ Some name →
    KeepsDataset banks_and_oil gamma_joined name
same_dataset zero name at =
    subst (KeepsDataset banks_and_oil gamma_joined) (some_is _ _ at) refl
same_dataset (suc zero) name at =
    subst (KeepsDataset banks_and_oil gamma_joined) (some_is _ _ at) refl
same_dataset (suc (suc zero)) name at =
    subst (KeepsDataset banks_and_oil gamma_joined) (some_is _ _ at) refl
same_dataset (suc (suc (suc zero))) name at =
    subst (KeepsDataset banks_and_oil gamma_joined) (some_is _ _ at) refl
same_dataset (suc (suc (suc (suc d)))) name at = absurd cc

same_class : (c : ℕ) (name : List ℕ) → slice_get banks_and_oil.class_names c ≡ Some name →
    is_in gamma_joined.class_names name ≡ true
same_class zero name at =
    subst (λ n. is_in gamma_joined.class_names n ≡ true) (some_is _ _ at) refl
same_class (suc zero) name at =
    subst (λ n. is_in gamma_joined.class_names n ≡ true) (some_is _ _ at) refl
same_class (suc (suc c)) name at = absurd cc

pub grown : HasGrown banks_and_oil gamma_joined
grown = record { processes = same_process; classes = same_class; datasets = same_dataset }

pub not_by_number : ¬ (GrewFrom banks_and_oil gamma_joined)
not_by_number grew =
    let is : 0 ≡ 1 = ap (λ cs. slice_index_or cs 1 0) grew.classes.1 in
    absurd (omega (arith, is))

pub anew : renumbered banks_and_oil gamma_joined ≡ gamma_behind
anew = refl

pub grew : GrewFrom banks_and_oil gamma_behind
grew = record {
  datasets = (_, refl);
  classes = (_, refl);
  processes = (_, refl);
  homes = (_, refl);
}
