-- A worked chain of books, by computation.
use Rattle.std.proofs.Common.{◌≡◌, ℕ, zero, suc, ◌<◌, Bool, true, false, ◌&&◌, nat_eq}
use Rattle.std.proofs.Common.{List, [], ◌∷◌, Option, Some, None, slice_get, refl, sym, ◌∙◌}
use Rattle.std.proofs.Common.{arith}
use Rattle.std.specs.Prelude.{◌||◌}
use Rattle.std.proofs.lemmas.Bool.{false≢true, ne_eqb}
use Rattle.wall_policy.specs.Policy.{has_pair}
use Rattle.wall_rules.specs.Histories.{ArePairsOf}
use Rattle.wall_policy.specs.Rivals.{are_rivals}
use Rattle.wall_rules.specs.Least.{least}
use Rattle.wall_rules.specs.Rules.{first_rival, first_other}
use Rattle.mpi_elems.specs.Operations.{is_allowed}
use Rattle.mpi_group.specs.Groups.{members_at, rank_in}
use Rattle.mpi_cart.specs.Grids.{cells, neighbour}
use Rattle.mpi_comm.specs.Splits.{colours_of, ranks_for, split_groups}
use Rattle.coll_routes.specs.declared.roll.Roll.{Roll}
use Rattle.coll_routes.specs.Signatures.{kind, root, reduction, elem_type, count, numbers, flags}
use Rattle.coll_routes.specs.Signatures.{is_constructor, is_neighbourly, same_signature}
use Rattle.coll_routes.specs.Rolls.{goes_by, places_by, routed}
use Rattle.coll_routes.specs.Faults.{asked, gives, no_topology, is_listed, bad_count, not_subgroup}
use Rattle.coll_routes.specs.Faults.{bad_dims, shape_fault}
use Rattle.wall_verdict.specs.Charges.{sanitised}
use Rattle.wall_verdict.specs.Grants.{charged_at}
use Rattle.wall_verdict.specs.Verdicts.{verdict}
use Rattle.wall_rules.specs.declared.rule.Rule.TheVariants.{Simple}
use Rattle.run_model.specs.declared.outcome.Outcome.TheVariants.{Granted, Denied}
use Rattle.run_model.specs.declared.entry.Entry.TheVariants.{Settled}
use Rattle.run_model.specs.Comms.{new_comms_by, world}
use Rattle.run_model.specs.Posts.{filled, histories, instance}
use Rattle.run_model.specs.Refusals.{fault}
use Rattle.run_model.specs.Books.{IsSound, IsFirstBad, posts_in}
use Rattle.run_model.specs.BookRows.{banks_and_oil}
use Rattle.run_model.specs.Chains.{IsPolicyAfter, IsChain}
use Rattle.run_model.specs.ChainRows.{alpha_for_n0, one_book, banks_after, banks_grown, beta}
use Rattle.run_model.specs.ChainRows.{beta_for_n0}
use Rattle.run_model.proofs.BookLemmas.{begins_given}
use Rattle.mpi_group.proofs.MpiGroupLemmas.{rank_is}
use Rattle.run_model.proofs.HoldingLemmas.{history_is_held}
use Rattle.run_model.proofs.AfterLemmas.{is_policy_after}

abbrev pairs : List (ℕ × ℕ)
pairs = (0, 0) ∷ (1, 1) ∷ (2, 2) ∷ (3, 0) ∷ []

first_is_sound : IsSound banks_and_oil alpha_for_n0
unfolding is_allowed are_rivals least first_rival first_other members_at cells neighbour colours_of
    ranks_for split_groups kind root reduction elem_type count numbers flags is_constructor
    is_neighbourly same_signature goes_by places_by routed asked gives no_topology is_listed
    bad_count not_subgroup bad_dims shape_fault sanitised verdict new_comms_by filled fault
first_is_sound = record {
  posts = (
    (
      (
        (tt, record { accepted = refl; label = refl; word = refl }),
        record { accepted = refl; label = refl; word = refl },
      ),
      record { accepted = refl; label = refl; word = refl },
    ),
    record { accepted = refl; label = refl; word = refl },
  );
  given = refl;
}

-- ## who has had access to what after the first book

by_home : (b : Bool) → (b || false) ≡ (((((b || false) || false) || false) || false) || false)
by_home true = refl
by_home false = refl

by_writing : (b : Bool) → (b || false) ≡ (((((b || b) || false) || false) || false) || false)
by_writing true = refl
by_writing false = refl

abbrev the_instance : Roll
the_instance = instance (world banks_and_oil) 0 0 (posts_in alpha_for_n0)

-- what is charged to the member of a rank, if there is one
abbrev charged_as : Option ℕ → (d : ℕ) → Bool
charged_as rank d = charged_at banks_and_oil the_instance rank d

-- a number behind those of all processes has no pair, and has had access to nothing
module _ (q d : ℕ) where
  abbrev p : ℕ
  p = suc (suc (suc (suc q)))

  other : (k : ℕ) → k < 4 → nat_eq k p ≡ false
  other k low = ne_eqb k p (λ e. absurd (omega (arith, e, low)))

  other' : (k : ℕ) → k < 4 → nat_eq p k ≡ false
  other' k low = ne_eqb p k (λ e. absurd (omega (arith, e, low)))

  no_pair : has_pair pairs p d ≡ false
  no_pair = λ i. (other 0 (omega arith) i && nat_eq 0 d)
      || ((other 1 (omega arith) i && nat_eq 1 d) || ((other 2 (omega arith) i && nat_eq 2 d)
      || ((other 3 (omega arith) i && nat_eq 0 d) || false)))

  among : (j : ℕ) → slice_get (0 ∷ 1 ∷ 2 ∷ 3 ∷ []) j ≡ Some p → ⊥
  among zero e = let same : 0 ≡ p = cc in absurd (omega (arith, same))
  among (suc zero) e = let same : 1 ≡ p = cc in absurd (omega (arith, same))
  among (suc (suc zero)) e = let same : 2 ≡ p = cc in absurd (omega (arith, same))
  among (suc (suc (suc zero))) e = let same : 3 ≡ p = cc in absurd (omega (arith, same))
  among (suc (suc (suc (suc j)))) e = absurd (cc)

  no_rank : rank_in (0 ∷ 1 ∷ 2 ∷ 3 ∷ []) p ≡ None
  no_rank = go (rank_in (0 ∷ 1 ∷ 2 ∷ 3 ∷ []) p) refl
    where
      go : (o : Option ℕ) → rank_in (0 ∷ 1 ∷ 2 ∷ 3 ∷ []) p ≡ o → o ≡ None
      go None e = refl
      go (Some j) e = absurd (among j (rank_is (0 ∷ 1 ∷ 2 ∷ 3 ∷ []) p j e).0)

  no_access : histories banks_and_oil (posts_in alpha_for_n0) p d ≡ false
  unfolding is_allowed are_rivals least first_rival first_other members_at cells neighbour
      colours_of ranks_for split_groups kind root reduction elem_type count numbers flags
      is_constructor is_neighbourly same_signature goes_by places_by routed asked gives no_topology
      is_listed bad_count not_subgroup bad_dims shape_fault sanitised verdict new_comms_by filled
      fault
  no_access = λ i.
      (((((other' 0 (omega arith) i && true) && nat_eq 0 d)
      || ((other' 1 (omega arith) i && true) && false))
      || ((other' 2 (omega arith) i && true) && false))
      || ((other' 3 (omega arith) i && true) && false))
      || charged_as (no_rank i) d

are_pairs : ArePairsOf (histories banks_and_oil (posts_in alpha_for_n0)) pairs
unfolding is_allowed are_rivals least first_rival first_other members_at cells neighbour colours_of
    ranks_for split_groups kind root reduction elem_type count numbers flags is_constructor
    is_neighbourly same_signature goes_by places_by routed asked gives no_topology is_listed
    bad_count not_subgroup bad_dims shape_fault sanitised verdict new_comms_by filled fault
are_pairs zero d = by_writing (nat_eq 0 d)
are_pairs (suc zero) d = by_home (nat_eq 1 d)
are_pairs (suc (suc zero)) d = by_home (nat_eq 2 d)
are_pairs (suc (suc (suc zero))) d = refl
are_pairs (suc (suc (suc (suc q)))) d = no_pair q d ∙ sym (no_access q d)

after_first : IsPolicyAfter banks_and_oil (posts_in alpha_for_n0) banks_after
after_first =
    is_policy_after banks_and_oil (posts_in alpha_for_n0) pairs first_is_sound.posts are_pairs

pub one_is_chain : IsChain one_book banks_after
one_is_chain = (tt, first_is_sound, after_first)

pub grown_is_chain : IsChain one_book banks_grown
grown_is_chain = (
  tt,
  first_is_sound,
  record {
    grew = record {
      datasets = (_, refl);
      classes = (_, refl);
      processes = ([], refl);
      homes = ([], refl);
    };
    held = after_first.held;
  },
)

pub forgotten_is_none : IsChain one_book banks_and_oil → ⊥
unfolding is_allowed are_rivals least first_rival first_other members_at cells neighbour colours_of
    ranks_for split_groups kind root reduction elem_type count numbers flags is_constructor
    is_neighbourly same_signature goes_by places_by routed asked gives no_topology is_listed
    bad_count not_subgroup bad_dims shape_fault sanitised verdict new_comms_by filled fault
forgotten_is_none chain =
    let before = (chain.2.held 3 0 (omega arith)).1
    (history_is_held banks_and_oil (posts_in alpha_for_n0) 3 0 refl) in
    false≢true before

pub denied_after : IsSound banks_after (beta_for_n0 (Denied Simple 3 beta))
unfolding is_allowed are_rivals least first_rival first_other members_at cells neighbour colours_of
    ranks_for split_groups kind root reduction elem_type count numbers flags is_constructor
    is_neighbourly same_signature goes_by places_by routed asked gives no_topology is_listed
    bad_count not_subgroup bad_dims shape_fault sanitised verdict new_comms_by filled fault
denied_after = record {
  posts = (
    (
      (
        (tt, record { accepted = refl; label = refl; word = refl }),
        record { accepted = refl; label = refl; word = refl },
      ),
      record { accepted = refl; label = refl; word = refl },
    ),
    record { accepted = refl; label = refl; word = refl },
  );
  given = refl;
}

pub granted_is_bad : IsFirstBad banks_after (beta_for_n0 Granted) 5
unfolding is_allowed are_rivals least first_rival first_other members_at cells neighbour colours_of
    ranks_for split_groups kind root reduction elem_type count numbers flags is_constructor
    is_neighbourly same_signature goes_by places_by routed asked gives no_topology is_listed
    bad_count not_subgroup bad_dims shape_fault sanitised verdict new_comms_by filled fault
granted_is_bad = record {
  counted = omega arith;
  within = omega arith;
  before = (Settled 0 0 (Denied Simple 3 beta) ∷ [], denied_after);
  wrong = λ _ h.
      let g = begins_given banks_after (beta_for_n0 Granted) h in let e = g.given in absurd (cc);
  missing = λ e. absurd (omega (arith, e));
}

pub granted_alone : IsSound banks_and_oil (beta_for_n0 Granted)
unfolding is_allowed are_rivals least first_rival first_other members_at cells neighbour colours_of
    ranks_for split_groups kind root reduction elem_type count numbers flags is_constructor
    is_neighbourly same_signature goes_by places_by routed asked gives no_topology is_listed
    bad_count not_subgroup bad_dims shape_fault sanitised verdict new_comms_by filled fault
granted_alone = record {
  posts = (
    (
      (
        (tt, record { accepted = refl; label = refl; word = refl }),
        record { accepted = refl; label = refl; word = refl },
      ),
      record { accepted = refl; label = refl; word = refl },
    ),
    record { accepted = refl; label = refl; word = refl },
  );
  given = refl;
}
