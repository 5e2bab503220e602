-- Worked books, by computation.
use Rattle.std.proofs.Common.{[], ◌∷◌, refl, arith, take}
use Rattle.std.proofs.lemmas.Bool.{false≢true}
use Rattle.wall_policy.specs.Rivals.{are_rivals}
use Rattle.wall_rules.specs.Least.{least}
use Rattle.wall_rules.specs.Rules.{first_rival, first_other}
use Rattle.mpi_elems.specs.Operations.{is_allowed}
use Rattle.mpi_group.specs.Groups.{members_at}
use Rattle.mpi_cart.specs.Grids.{cells, neighbour}
use Rattle.mpi_comm.specs.Splits.{colours_of, ranks_for, split_groups}
use Rattle.coll_routes.specs.Signatures.{kind, root, reduction, elem_type, count, numbers, flags}
use Rattle.coll_routes.specs.Signatures.{is_constructor, is_neighbourly, same_signature}
use Rattle.coll_routes.specs.Rolls.{goes_by, places_by, routed}
use Rattle.coll_routes.specs.Faults.{asked, gives, no_topology, is_listed, bad_count, not_subgroup}
use Rattle.coll_routes.specs.Faults.{bad_dims, shape_fault}
use Rattle.wall_verdict.specs.Charges.{sanitised}
use Rattle.wall_verdict.specs.Verdicts.{verdict}
use Rattle.wall_rules.specs.declared.rule.Rule.TheVariants.{Simple}
use Rattle.run_model.specs.declared.outcome.Outcome.TheVariants.{Denied, Made}
use Rattle.run_model.specs.declared.entry.Entry.TheVariants.{Settled}
use Rattle.run_model.specs.Comms.{new_comms_by}
use Rattle.run_model.specs.Posts.{filled}
use Rattle.run_model.specs.Refusals.{fault}
use Rattle.run_model.specs.Books.{IsSound, IsFirstBad}
use Rattle.run_model.specs.BookRows.{alpha, banks_and_oil, four_of_a_bank, denied_broadcast}
use Rattle.run_model.specs.BookRows.{granted_broadcast, split_into_two, split_into_one}
use Rattle.run_model.specs.BookRows.{split_without_outcome, barred_gather, passed_gather}
use Rattle.run_model.specs.BookRows.{rows_of_a_grid, sum_of_four}
use Rattle.run_model.proofs.BookLemmas.{begins_given}

pub denial_is_sound : IsSound banks_and_oil denied_broadcast
unfolding is_allowed are_rivals least first_rival first_other members_at cells neighbour colours_of
    ranks_for split_groups kind root reduction elem_type count numbers flags is_constructor
    is_neighbourly same_signature goes_by places_by routed asked gives no_topology is_listed
    bad_count not_subgroup bad_dims shape_fault sanitised verdict new_comms_by filled fault
denial_is_sound = record {
  posts = (
    (
      (
        (tt, record { accepted = refl; label = refl; word = refl }),
        record { accepted = refl; label = refl; word = refl },
      ),
      record { accepted = refl; label = refl; word = refl },
    ),
    record { accepted = refl; label = refl; word = refl },
  );
  given = refl;
}

pub split_is_sound : IsSound four_of_a_bank split_into_two
unfolding is_allowed are_rivals least first_rival first_other members_at cells neighbour colours_of
    ranks_for split_groups kind root reduction elem_type count numbers flags is_constructor
    is_neighbourly same_signature goes_by places_by routed asked gives no_topology is_listed
    bad_count not_subgroup bad_dims shape_fault sanitised verdict new_comms_by filled fault
split_is_sound = record {
  posts = (
    (
      (
        (tt, record { accepted = refl; label = refl; word = refl }),
        record { accepted = refl; label = refl; word = refl },
      ),
      record { accepted = refl; label = refl; word = refl },
    ),
    record { accepted = refl; label = refl; word = refl },
  );
  given = refl;
}

pub gather_is_sound : IsSound banks_and_oil barred_gather
unfolding is_allowed are_rivals least first_rival first_other members_at cells neighbour colours_of
    ranks_for split_groups kind root reduction elem_type count numbers flags is_constructor
    is_neighbourly same_signature goes_by places_by routed asked gives no_topology is_listed
    bad_count not_subgroup bad_dims shape_fault sanitised verdict new_comms_by filled fault
gather_is_sound = record {
  posts = (
    (
      (
        (tt, record { accepted = refl; label = refl; word = refl }),
        record { accepted = refl; label = refl; word = refl },
      ),
      record { accepted = refl; label = refl; word = refl },
    ),
    record { accepted = refl; label = refl; word = refl },
  );
  given = refl;
}

pub grid_is_sound : IsSound four_of_a_bank rows_of_a_grid
unfolding is_allowed are_rivals least first_rival first_other members_at cells neighbour colours_of
    ranks_for split_groups kind root reduction elem_type count numbers flags is_constructor
    is_neighbourly same_signature goes_by places_by routed asked gives no_topology is_listed
    bad_count not_subgroup bad_dims shape_fault sanitised verdict new_comms_by filled fault
grid_is_sound = record {
  posts = (
    (
      (
        (
          (
            (
              (
                (
                  (
                    (tt, record { accepted = refl; label = refl; word = refl }),
                    record { accepted = refl; label = refl; word = refl },
                  ),
                  record { accepted = refl; label = refl; word = refl },
                ),
                record { accepted = refl; label = refl; word = refl },
              ),
              record { accepted = refl; label = refl; word = refl },
            ),
            record { accepted = refl; label = refl; word = refl },
          ),
          record { accepted = refl; label = refl; word = refl },
        ),
        record { accepted = refl; label = refl; word = refl },
      ),
      record { accepted = refl; label = refl; word = refl },
    ),
    record { accepted = refl; label = refl; word = refl },
  );
  given = refl;
}

pub sum_is_sound : IsSound banks_and_oil sum_of_four
unfolding is_allowed are_rivals least first_rival first_other members_at cells neighbour colours_of
    ranks_for split_groups kind root reduction elem_type count numbers flags is_constructor
    is_neighbourly same_signature goes_by places_by routed asked gives no_topology is_listed
    bad_count not_subgroup bad_dims shape_fault sanitised verdict new_comms_by filled fault
sum_is_sound = record {
  posts = (
    (
      (
        (
          (tt, record { accepted = refl; label = refl; word = refl }),
          record { accepted = refl; label = refl; word = refl },
        ),
        record { accepted = refl; label = refl; word = refl },
      ),
      record { accepted = refl; label = refl; word = refl },
    ),
    record { accepted = refl; label = refl; word = refl },
  );
  given = refl;
}

-- the first four entries begin a sound book, and the fifth is another than their posts give
pub grant_is_bad : IsFirstBad banks_and_oil granted_broadcast 5
unfolding is_allowed are_rivals least first_rival first_other members_at cells neighbour colours_of
    ranks_for split_groups kind root reduction elem_type count numbers flags is_constructor
    is_neighbourly same_signature goes_by places_by routed asked gives no_topology is_listed
    bad_count not_subgroup bad_dims shape_fault sanitised verdict new_comms_by filled fault
grant_is_bad = record {
  counted = omega arith;
  within = omega arith;
  before = (Settled 0 0 (Denied Simple 1 alpha) ∷ [], denial_is_sound);
  wrong = λ _ h.
      let g = begins_given banks_and_oil granted_broadcast h in let e = g.given in absurd (cc);
  missing = λ e. absurd (omega (arith, e));
}

-- the first four entries begin a sound book, and the fifth is another than their posts give
pub one_is_bad : IsFirstBad four_of_a_bank split_into_one 5
unfolding is_allowed are_rivals least first_rival first_other members_at cells neighbour colours_of
    ranks_for split_groups kind root reduction elem_type count numbers flags is_constructor
    is_neighbourly same_signature goes_by places_by routed asked gives no_topology is_listed
    bad_count not_subgroup bad_dims shape_fault sanitised verdict new_comms_by filled fault
one_is_bad = record {
  counted = omega arith;
  within = omega arith;
  before = (Settled 0 0 (Made 1 2) ∷ [], split_is_sound);
  wrong =
      λ _ h. let g = begins_given four_of_a_bank split_into_one h in let e = g.given in absurd (cc);
  missing = λ e. absurd (omega (arith, e));
}

-- all entries are right, but the last post's outcome is missing
pub outcome_is_missing : IsFirstBad four_of_a_bank split_without_outcome 5
unfolding is_allowed are_rivals least first_rival first_other members_at cells neighbour colours_of
    ranks_for split_groups kind root reduction elem_type count numbers flags is_constructor
    is_neighbourly same_signature goes_by places_by routed asked gives no_topology is_listed
    bad_count not_subgroup bad_dims shape_fault sanitised verdict new_comms_by filled fault
outcome_is_missing = record {
  counted = omega arith;
  within = omega arith;
  before = (Settled 0 0 (Made 1 2) ∷ [], split_is_sound);
  wrong = λ low. absurd (omega (arith, low));
  missing = λ _ sound. let e = sound.given in absurd (cc);
}

pub ruleset splits = (split_is_sound, one_is_bad, outcome_is_missing)

pub pass_is_bad : IsFirstBad banks_and_oil passed_gather 1
unfolding is_allowed are_rivals least first_rival first_other members_at cells neighbour colours_of
    ranks_for split_groups kind root reduction elem_type count numbers flags is_constructor
    is_neighbourly same_signature goes_by places_by routed asked gives no_topology is_listed
    bad_count not_subgroup bad_dims shape_fault sanitised verdict new_comms_by filled fault
pass_is_bad = record {
  counted = omega arith;
  within = omega arith;
  before = ([], record { posts = tt; given = refl });
  wrong = λ _ h.
      let g = begins_given banks_and_oil (take 1 passed_gather) h in false≢true g.posts.1.word;
  missing = λ e. absurd (omega (arith, e));
}
