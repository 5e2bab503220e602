-- The worked lists, by computation.
use Rattle.std.proofs.Common.{◌≡◌, ap, List, [], ◌∷◌, pos, negsuc, reverse, arith, refl, sym, ◌∙◌}
use Rattle.std.proofs.Common.{inl, ⊎_elim, inr, true, false}
use Rattle.std.proofs.lemmas.Bool.{false≢true}
use Rattle.std.specs.Int.{int_wrap}
use Rattle.wall_policy.specs.Rivals.{are_rivals}
use Rattle.wall_rules.specs.Least.{least}
use Rattle.wall_rules.specs.Rules.{first_rival, first_other}
use Rattle.mpi_elems.specs.Elements.{elements_of, pairs_of, numbers_of, combine}
use Rattle.mpi_elems.specs.Operations.{is_allowed}
use Rattle.mpi_elems.specs.Numbers.{is_number_of}
use Rattle.mpi_group.specs.Groups.{members_at}
use Rattle.mpi_comm.specs.Splits.{colours_of, ranks_for, split_groups}
use Rattle.mpi_cart.specs.Grids.{cells, rank_named, shifted, neighbour}
use Rattle.coll_routes.specs.Rolls.{goes_by, places_by, routed, is_missing}
use Rattle.coll_routes.specs.Signatures.{kind, root, reduction, elem_type, count, numbers, flags}
use Rattle.coll_routes.specs.Signatures.{is_constructor, is_neighbourly, same_signature}
use Rattle.coll_routes.specs.Faults.{shape_fault, is_listed, bad_count, not_subgroup, bad_dims}
use Rattle.coll_routes.specs.Faults.{asked, gives, no_topology}
use Rattle.coll_values.specs.Values.{sent, folded_at, blocks, value}
use Rattle.wall_verdict.specs.Charges.{sanitised}
use Rattle.wall_verdict.specs.Verdicts.{verdict}
use Rattle.run_model.specs.Comms.{new_comms_by}
use Rattle.run_model.specs.Posts.{filled}
use Rattle.run_model.specs.Refusals.{fault}
use Rattle.wall_labels.specs.declared.label.Label.TheVariants.{Public}
use Rattle.coll_values.specs.declared.delivery.Block.TheVariants.{Numbers}
use Rattle.wall_rules.specs.declared.rule.Rule.TheVariants.{Simple}
use Rattle.run_model.specs.declared.reply.Reply.TheVariants.{Posted, Barred, Delivered, Denied}
use Rattle.run_model.specs.declared.reply.Reply.TheVariants.{Refused}
use Rattle.run_model.specs.declared.refusal.Refusal.TheVariants.{NoMemory}
use Rattle.run_model.specs.declared.call.Call.{Call}
use Rattle.run_model.specs.declared.reply.Reply.{Reply}
use Rattle.run_model.specs.Runs.{Entry}
use Rattle.run_model.specs.Replies.{reply, Legal}
use Rattle.wall_policy.specs.Policy.{ChineseWall}
use Rattle.run_model.specs.Holding.{Holds}
use Rattle.run_model.specs.PostLaws.{IsWhatIsHeld}
use Rattle.run_model.specs.Posts.{histories}
use Rattle.run_model.specs.RunRows.{LegalList, listed_posts, banks_and_oil, four_of_alpha, alpha}
use Rattle.run_model.specs.RunRows.{denied_broadcast, barred_gather, relayed_broadcast, four_rivals}
use Rattle.run_model.specs.RunRows.{sanitised_sum, split_by_colours, neighbours_of_a_grid}
use Rattle.run_model.specs.RunRows.{parts_of_a_grid, refused_calls, wrapped_reductions}
use Rattle.run_model.specs.RunRows.{short_of_memory, neighbours_of_oneself, ties_and_prefixes}
use Rattle.run_model.specs.RunRows.{told_of_denial, posted_after_denial}
use Rattle.run_model.proofs.RunLemmas.{holding_is_history_in_runs}

-- what is opened to work out a reply
unfoldable pub opened : Unit {0}
unfolding are_rivals least first_rival first_other elements_of pairs_of numbers_of combine
    is_allowed is_number_of members_at colours_of ranks_for split_groups cells rank_named shifted
    neighbour goes_by places_by routed is_missing kind root reduction elem_type count numbers flags
    is_constructor is_neighbourly same_signature shape_fault is_listed bad_count not_subgroup
    bad_dims asked gives no_topology sent folded_at blocks value sanitised verdict new_comms_by
    filled fault reply int_wrap
opened = tt

-- the same calls, each with the reply that is due
abbrev with_due : ChineseWall → Call → List Entry → List Entry
with_due wall call run = record { call = call; reply = reply wall run call } ∷ run

abbrev pub due : ChineseWall → List Entry → List Entry
due wall [] = []
due wall (e ∷ run) = with_due wall e.call (due wall run)

due_replies : (wall : ChineseWall) (run : List Entry) → due wall run ≡ run → Legal wall run
due_replies wall [] e = tt
due_replies wall (e ∷ run) same =
    let rest : due wall run ≡ run = cc in
    let last : reply wall (due wall run) e.call ≡ e.reply = ap last_reply same in
    (due_replies wall run rest, inl (sym last ∙ ap (λ r. reply wall r e.call) rest))
  where
    last_reply : List Entry → Reply
    last_reply [] = e.reply
    last_reply (f ∷ _) = f.reply

-- a list is legal if each of its replies is the one that is due
pub due_is_legal : (wall : ChineseWall) (entries : List Entry) →
    due wall (reverse entries) ≡ reverse entries → LegalList wall entries
due_is_legal wall entries same = due_replies wall (reverse entries) same

pub denied_broadcast_is_legal : LegalList banks_and_oil denied_broadcast
unfolding opened
denied_broadcast_is_legal = (
  (
    (
      (
        (
          (((((tt, inl refl), inl refl), inl refl), inl refl), inl refl),
          inl refl,
        ),
        inl refl,
      ),
      inl refl,
    ),
    inl refl,
  ),
  inl refl,
)

pub barred_gather_is_legal : LegalList banks_and_oil barred_gather
unfolding opened
barred_gather_is_legal = (
  (
    (
      (((((tt, inl refl), inl refl), inl refl), inl refl), inl refl),
      inl refl,
    ),
    inl refl,
  ),
  inl refl,
)

pub relayed_broadcast_is_legal : LegalList banks_and_oil relayed_broadcast
unfolding opened
relayed_broadcast_is_legal = (
  (
    (
      (
        (
          (
            (
              (
                (
                  (
                    (
                      (
                        (
                          (
                            (
                              (
                                (
                                  (
                                    (
                                      (
                                        (
                                          (
                                            (
                                              (((tt, inl refl), inl refl), inl refl),
                                              inl refl,
                                            ),
                                            inl refl,
                                          ),
                                          inl refl,
                                        ),
                                        inl refl,
                                      ),
                                      inl refl,
                                    ),
                                    inl refl,
                                  ),
                                  inl refl,
                                ),
                                inl refl,
                              ),
                              inl refl,
                            ),
                            inl refl,
                          ),
                          inl refl,
                        ),
                        inl refl,
                      ),
                      inl refl,
                    ),
                    inl refl,
                  ),
                  inl refl,
                ),
                inl refl,
              ),
              inl refl,
            ),
            inl refl,
          ),
          inl refl,
        ),
        inl refl,
      ),
      inl refl,
    ),
    inl refl,
  ),
  inl refl,
)

pub four_rivals_is_legal : LegalList banks_and_oil four_rivals
unfolding opened
four_rivals_is_legal = (
  (
    ((((((tt, inl refl), inl refl), inl refl), inl refl), inl refl), inl refl),
    inl refl,
  ),
  inl refl,
)

pub sanitised_sum_is_legal : LegalList banks_and_oil sanitised_sum
unfolding opened
sanitised_sum_is_legal = (
  (
    (
      (
        (((((tt, inl refl), inl refl), inl refl), inl refl), inl refl),
        inl refl,
      ),
      inl refl,
    ),
    inl refl,
  ),
  inl refl,
)

pub split_by_colours_is_legal : LegalList four_of_alpha split_by_colours
unfolding opened
split_by_colours_is_legal = (
  (
    (
      (((((tt, inl refl), inl refl), inl refl), inl refl), inl refl),
      inl refl,
    ),
    inl refl,
  ),
  inl refl,
)

pub neighbours_of_a_grid_is_legal : LegalList four_of_alpha neighbours_of_a_grid
unfolding opened
neighbours_of_a_grid_is_legal = (
  (
    (
      (
        (
          (
            (
              (
                ((((tt, inl refl), inl refl), inl refl), inl refl),
                inl refl,
              ),
              inl refl,
            ),
            inl refl,
          ),
          inl refl,
        ),
        inl refl,
      ),
      inl refl,
    ),
    inl refl,
  ),
  inl refl,
)

pub parts_of_a_grid_is_legal : LegalList four_of_alpha parts_of_a_grid
unfolding opened
parts_of_a_grid_is_legal = (
  (
    (
      (
        (
          (
            (
              (
                (
                  (
                    (
                      (
                        (
                          (
                            (
                              (
                                (
                                  (
                                    (
                                      ((((tt, inl refl), inl refl), inl refl), inl refl),
                                      inl refl,
                                    ),
                                    inl refl,
                                  ),
                                  inl refl,
                                ),
                                inl refl,
                              ),
                              inl refl,
                            ),
                            inl refl,
                          ),
                          inl refl,
                        ),
                        inl refl,
                      ),
                      inl refl,
                    ),
                    inl refl,
                  ),
                  inl refl,
                ),
                inl refl,
              ),
              inl refl,
            ),
            inl refl,
          ),
          inl refl,
        ),
        inl refl,
      ),
      inl refl,
    ),
    inl refl,
  ),
  inl refl,
)

pub refused_calls_is_legal : LegalList four_of_alpha refused_calls
unfolding opened
refused_calls_is_legal = (
  (
    (
      (
        (
          (
            (
              (
                (
                  (
                    (
                      (
                        (
                          (
                            (
                              ((((tt, inl refl), inl refl), inl refl), inl refl),
                              inl refl,
                            ),
                            inl refl,
                          ),
                          inl refl,
                        ),
                        inl refl,
                      ),
                      inl refl,
                    ),
                    inl refl,
                  ),
                  inl refl,
                ),
                inl refl,
              ),
              inl refl,
            ),
            inl refl,
          ),
          inl refl,
        ),
        inl refl,
      ),
      inl refl,
    ),
    inl refl,
  ),
  inl refl,
)

pub wrapped_reductions_is_legal : LegalList four_of_alpha wrapped_reductions
unfolding opened
wrapped_reductions_is_legal = (
  (
    (
      (
        (
          (
            (
              (
                (
                  (
                    (
                      (
                        (
                          (
                            (
                              (
                                (
                                  (
                                    (
                                      (
                                        (
                                          (((tt, inl refl), inl refl), inl refl),
                                          inl refl,
                                        ),
                                        inl refl,
                                      ),
                                      inl refl,
                                    ),
                                    inl refl,
                                  ),
                                  inl refl,
                                ),
                                inl refl,
                              ),
                              inl refl,
                            ),
                            inl refl,
                          ),
                          inl refl,
                        ),
                        inl refl,
                      ),
                      inl refl,
                    ),
                    inl refl,
                  ),
                  inl refl,
                ),
                inl refl,
              ),
              inl refl,
            ),
            inl refl,
          ),
          inl refl,
        ),
        inl refl,
      ),
      inl refl,
    ),
    inl refl,
  ),
  inl refl,
)

pub short_of_memory_is_legal : LegalList four_of_alpha short_of_memory
unfolding opened
short_of_memory_is_legal = (
  (
    (
      (
        ((((tt, inr (refl, refl)), inl refl), inl refl), inl refl),
        inl refl,
      ),
      inr (refl, refl),
    ),
    inl refl,
  ),
  inl refl,
)

pub neighbours_of_oneself_is_legal : LegalList four_of_alpha neighbours_of_oneself
unfolding opened
neighbours_of_oneself_is_legal = (
  (
    (
      (
        (
          (
            (
              (
                (
                  (
                    (
                      (
                        (
                          (
                            (
                              (
                                (
                                  (
                                    (
                                      (((tt, inl refl), inl refl), inl refl),
                                      inl refl,
                                    ),
                                    inl refl,
                                  ),
                                  inl refl,
                                ),
                                inl refl,
                              ),
                              inl refl,
                            ),
                            inl refl,
                          ),
                          inl refl,
                        ),
                        inl refl,
                      ),
                      inl refl,
                    ),
                    inl refl,
                  ),
                  inl refl,
                ),
                inl refl,
              ),
              inl refl,
            ),
            inl refl,
          ),
          inl refl,
        ),
        inl refl,
      ),
      inl refl,
    ),
    inl refl,
  ),
  inl refl,
)

pub ties_and_prefixes_is_legal : LegalList four_of_alpha ties_and_prefixes
unfolding opened
ties_and_prefixes_is_legal = (
  (
    (
      (
        (
          (
            (
              (
                (
                  (
                    (
                      (
                        ((((tt, inl refl), inl refl), inl refl), inl refl),
                        inl refl,
                      ),
                      inl refl,
                    ),
                    inl refl,
                  ),
                  inl refl,
                ),
                inl refl,
              ),
              inl refl,
            ),
            inl refl,
          ),
          inl refl,
        ),
        inl refl,
      ),
      inl refl,
    ),
    inl refl,
  ),
  inl refl,
)

-- ## what is held after the relay

broker_has_alpha : histories banks_and_oil (listed_posts relayed_broadcast) 3 0 ≡ true
unfolding opened
broker_has_alpha = refl

crude_has_alpha : histories banks_and_oil (listed_posts relayed_broadcast) 2 0 ≡ true
unfolding opened
crude_has_alpha = refl

beta_has_no_alpha : histories banks_and_oil (listed_posts relayed_broadcast) 1 0 ≡ false
unfolding opened
beta_has_no_alpha = refl

held : IsWhatIsHeld banks_and_oil (listed_posts relayed_broadcast)
    (histories banks_and_oil (listed_posts relayed_broadcast))
held = holding_is_history_in_runs banks_and_oil [] (reverse relayed_broadcast)
    relayed_broadcast_is_legal

pub broker_holds_alpha : Holds banks_and_oil (listed_posts relayed_broadcast) 3 0
broker_holds_alpha = (held 3 0 (omega arith)).0 broker_has_alpha

pub crude_holds_alpha : Holds banks_and_oil (listed_posts relayed_broadcast) 2 0
crude_holds_alpha = (held 2 0 (omega arith)).0 crude_has_alpha

pub beta_holds_no_alpha : Holds banks_and_oil (listed_posts relayed_broadcast) 1 0 → ⊥
beta_holds_no_alpha holds = false≢true (sym beta_has_no_alpha ∙ (held 1 0 (omega arith)).1 holds)

-- ## replies that are not due

pub denial_is_told : LegalList banks_and_oil (told_of_denial (Denied Simple 1 alpha))
unfolding opened
denial_is_told = (((((tt, inl refl), inl refl), inl refl), inl refl), inl refl)

pub delivery_is_not_legal :
    LegalList banks_and_oil (told_of_denial (Delivered (Numbers (pos 7 ∷ negsuc 0 ∷ []) ∷ [])))
    → ⊥
unfolding opened
delivery_is_not_legal h = ⊎_elim (λ e. absurd (cc e)) (λ e. absurd (let no = e.1 in cc)) h.1

pub want_is_not_legal : LegalList banks_and_oil (told_of_denial (Refused NoMemory)) → ⊥
unfolding opened
want_is_not_legal h = ⊎_elim (λ e. absurd (cc e)) (λ e. false≢true e.0) h.1

pub public_is_posted : LegalList banks_and_oil (posted_after_denial (Posted 1))
unfolding opened
public_is_posted = (
  (
    (
      ((((((tt, inl refl), inl refl), inl refl), inl refl), inl refl), inl refl),
      inl refl,
    ),
    inl refl,
  ),
  inl refl,
)

pub charge_is_not_legal : LegalList banks_and_oil (posted_after_denial (Barred 1 Public)) → ⊥
unfolding opened
charge_is_not_legal h = ⊎_elim (λ e. absurd (cc e)) (λ e. absurd (let no = e.1 in cc)) h.1
