-- Worked pairs of worlds, by computation.
use Rattle.std.proofs.Common.{◌≡◌, ℕ, List, [], ◌∷◌, length, pos, reverse, take, arith, refl}
use Rattle.std.proofs.Common.{sym, ap, ◌∙◌, inl, inr, ⊎_elim, Bool, true, false, not}
use Rattle.std.specs.List.{list_all}
use Rattle.std.proofs.lemmas.Bool.{false≢true, and_parts}
use Rattle.run_model.specs.declared.refusal.Refusal.TheVariants.{NoMemory}
use Rattle.run_model.specs.Holding.{Holds}
use Rattle.run_model.specs.Posts.{histories}
use Rattle.wall_policy.specs.Policy.{ChineseWall}
use Rattle.mpi_elems.specs.Contents.{Contents, elements}
use Rattle.coll_values.specs.Forms.{AreOfOneForm}
use Rattle.coll_values.specs.Laws.{ValuesAreOfRoutedRanks}
use Rattle.run_model.specs.declared.call.Posting.{Posting}
use Rattle.run_model.specs.declared.call.Act.{Act}
use Rattle.run_model.specs.declared.call.Act.TheVariants.{Post as ToPost, Take, Info as ToInfo}
use Rattle.run_model.specs.declared.call.Call.{Call}
use Rattle.run_model.specs.declared.reply.Reply.{Reply}
use Rattle.run_model.specs.declared.reply.Reply.TheVariants.{Refused}
use Rattle.run_model.specs.Runs.{Entry, posts}
use Rattle.run_model.specs.Replies.{Legal}
use Rattle.run_model.specs.RunRows.{banks_and_oil, five_groups, relayed, summed, two_offers}
use Rattle.run_model.specs.RunRows.{barred_allgather}
use Rattle.run_model.specs.Worlds.{SameActButForValues, SameCallButForValues, SameCallsButForValues}
use Rattle.run_model.specs.Worlds.{NobodyLacksMemory, SamePostingButForValues}
use Rattle.run_model.specs.Worlds.{SameValues, DifferOnlyIn, AreAlikeOutside, is_spared}
use Rattle.run_model.specs.WorldRows.{Worlds, Alike, LookAlike}
use Rattle.run_model.proofs.RunLemmas.{holding_is_history_in_runs}
use Rattle.run_model.proofs.RunRowProofs.{opened, relayed_broadcast_is_legal}
use Rattle.run_model.proofs.RunRowProofs.{sanitised_sum_is_legal}
use Rattle.run_model.proofs.OutsideLemmas.{who_holds_nothing_learns_nothing}

unfoldable pub is_want : Reply → Bool
is_want (Refused NoMemory) = true
is_want other = false

wanted : (a : Reply) → a ≡ Refused NoMemory → is_want a ≡ true
unfolding is_want
wanted a e = ap is_want e

pub none_wanted : (run : List Entry) → list_all (λ e. not (is_want e.reply)) run ≡ true →
    NobodyLacksMemory run
unfolding is_want
none_wanted [] h = tt
none_wanted (e ∷ run) h =
    let parts = and_parts (not (is_want e.reply)) (list_all (λ f. not (is_want f.reply)) run) h in
    (none_wanted run parts.1, λ is. false≢true (ap not (sym (wanted e.reply is)) ∙ parts.0))

pub same_act : (act : Act) → SameActButForValues act act
same_act (ToPost a) = record {
  comm = refl;
  sig = refl;
  own = refl;
  label = refl;
  elements =
      record { of_type = refl; number = refl };
}
same_act (Take r) = refl
same_act (ToInfo c) = refl

pub same_self : (call : Call) → SameCallButForValues call call
same_self call = record { process = refl; act = same_act call.act }

-- a run beside itself
same_run : (run : List Entry) → SameCallsButForValues run run
same_run [] = tt
same_run (e ∷ run) = (same_self e.call, same_run run)

same_values : (act : Act) → SameValues act act
same_values (ToPost a) = refl
same_values (Take r) = tt
same_values (ToInfo c) = tt

nothing_differs : (wall : ChineseWall) (d : ℕ) (run : List Entry) → DifferOnlyIn wall d run run
nothing_differs wall d [] = tt
nothing_differs wall d (e ∷ run) =
    (nothing_differs wall d run, inl (same_values e.call.act))

-- as many elements as another gives, of one type
number_changed : {a b : Posting} → a.comm ≡ b.comm → a.sig ≡ b.sig → a.own ≡ b.own →
    a.label ≡ b.label → AreOfOneForm a.elements b.elements → SamePostingButForValues a b
number_changed comm sig own label elements =
    record { comm = comm; sig = sig; own = own; label = label; elements = elements }

of_one_form : {a b : Contents} → a.elem_type ≡ b.elem_type →
    length (elements a) ≡ length (elements b) → AreOfOneForm a b
of_one_form of_type number = record { of_type = of_type; number = number }

-- ## five groups

groups_are_legal : Legal banks_and_oil (reverse five_groups)
unfolding opened
groups_are_legal = (
  (
    (
      (
        (
          (
            (
              (
                (
                  (
                    (
                      (
                        (
                          (
                            (
                              (((((tt, inl refl), inl refl), inl refl), inl refl), inl refl),
                              inl refl,
                            ),
                            inl refl,
                          ),
                          inl refl,
                        ),
                        inl refl,
                      ),
                      inl refl,
                    ),
                    inl refl,
                  ),
                  inl refl,
                ),
                inl refl,
              ),
              inl refl,
            ),
            inl refl,
          ),
          inl refl,
        ),
        inl refl,
      ),
      inl refl,
    ),
    inl refl,
  ),
  inl refl,
)

-- ## two relays

other_of_relays_is_legal : Legal banks_and_oil (reverse (relayed (pos 8)))
unfolding opened
other_of_relays_is_legal = (
  (
    (
      (
        (
          (
            (
              (
                (
                  (
                    (
                      (
                        (
                          (relayed_broadcast_is_legal.0.0.0.0.0.0.0.0.0.0.0.0.0.0, inl refl),
                          inl refl,
                        ),
                        inl refl,
                      ),
                      inl refl,
                    ),
                    inl refl,
                  ),
                  inl refl,
                ),
                inl refl,
              ),
              inl refl,
            ),
            inl refl,
          ),
          inl refl,
        ),
        inl refl,
      ),
      inl refl,
    ),
    inl refl,
  ),
  inl refl,
)

relays_differ_in_values : SameCallsButForValues
    (reverse (relayed (pos 7)))
    (reverse (relayed (pos 8)))
unfolding opened
relays_differ_in_values = (
  same_self _,
  (
    same_self _,
    (
      record { process = refl; act = number_changed refl refl refl refl (of_one_form refl refl) },
      (
        same_self _,
        (
          same_self _,
          (
            same_self _,
            (
              record {
                process = refl;
                act = number_changed refl refl refl refl (of_one_form refl refl);
              },
              (
                same_self _,
                (
                  same_self _,
                  (
                    record {
                      process = refl;
                      act = number_changed refl refl refl refl (of_one_form refl refl);
                    },
                    (
                      same_self _,
                      (
                        same_self _,
                        (
                          same_self _,
                          (
                            record {
                              process = refl;
                              act =
                                  number_changed refl refl refl refl
                                  (of_one_form refl refl);
                            },
                            same_run (reverse (take 12 (relayed (pos 7)))),
                          ),
                        ),
                      ),
                    ),
                  ),
                ),
              ),
            ),
          ),
        ),
      ),
    ),
  ),
)

one_of_relays_has_memory : NobodyLacksMemory (reverse (relayed (pos 7)))
unfolding is_want
one_of_relays_has_memory = none_wanted (reverse (relayed (pos 7))) refl

other_of_relays_has_memory : NobodyLacksMemory (reverse (relayed (pos 8)))
unfolding is_want
other_of_relays_has_memory = none_wanted (reverse (relayed (pos 8))) refl

two_relays_are_worlds : Worlds (relayed (pos 7)) (relayed (pos 8))
two_relays_are_worlds = record {
  first = relayed_broadcast_is_legal;
  second = other_of_relays_is_legal;
  first_memory = one_of_relays_has_memory;
  second_memory = other_of_relays_has_memory;
  calls = relays_differ_in_values;
}

-- n0 holds alpha when it posts as `public`
broker_has : histories banks_and_oil (posts (reverse (take 16 (relayed (pos 7))))) 3 0 ≡ true
unfolding opened
broker_has = refl

broker_holds : Holds banks_and_oil (posts (reverse (take 16 (relayed (pos 7))))) 3 0
broker_holds =
    (holding_is_history_in_runs banks_and_oil [] (reverse (take 16 (relayed (pos 7))))
    relayed_broadcast_is_legal.0.0.0.0.0.0.0.0.0.0 3 0 (omega arith)).0 broker_has

relays_differ_only_in : DifferOnlyIn banks_and_oil 0
    (reverse (relayed (pos 7)))
    (reverse (relayed (pos 8)))
unfolding opened
relays_differ_only_in = (
  (
    (
      (
        (
          (
            (
              (
                (
                  (
                    (
                      (
                        (
                          (
                            nothing_differs banks_and_oil 0 (reverse (take 12 (relayed (pos 7)))),
                            inr (inl refl),
                          ),
                          inl refl,
                        ),
                        inl tt,
                      ),
                      inl tt,
                    ),
                    inr (inr broker_holds),
                  ),
                  inl refl,
                ),
                inl tt,
              ),
              inr (inl refl),
            ),
            inl refl,
          ),
          inl tt,
        ),
        inl tt,
      ),
      inr (inl refl),
    ),
    inl refl,
  ),
  inl tt,
)

pub two_relays_are_alike : Alike 0 (relayed (pos 7)) (relayed (pos 8))
two_relays_are_alike = record { worlds = two_relays_are_worlds; values = relays_differ_only_in }

relays_leave_out : Holds banks_and_oil (posts (reverse (relayed (pos 7)))) 1 0 → ⊥
unfolding opened
relays_leave_out holds =
    false≢true ((holding_is_history_in_runs banks_and_oil [] (reverse (relayed (pos 7)))
    relayed_broadcast_is_legal 1 0 (omega arith)).1 holds)

pub two_relays_look_the_same : ValuesAreOfRoutedRanks →
    LookAlike 0 1 (relayed (pos 7)) (relayed (pos 8))
two_relays_look_the_same values =
    who_holds_nothing_learns_nothing values banks_and_oil
    (reverse (relayed (pos 7)))
    (reverse (relayed (pos 8))) 0 1 (omega arith)
    two_relays_are_alike relays_leave_out

-- ## two offers

one_of_offers_is_legal : Legal banks_and_oil (reverse (two_offers (pos 10)))
unfolding opened
one_of_offers_is_legal = (
  (
    ((((((groups_are_legal, inl refl), inl refl), inl refl), inl refl), inl refl), inl refl),
    inl refl,
  ),
  inl refl,
)

other_of_offers_is_legal : Legal banks_and_oil (reverse (two_offers (pos 99)))
unfolding opened
other_of_offers_is_legal = (
  (
    ((((((groups_are_legal, inl refl), inl refl), inl refl), inl refl), inl refl), inl refl),
    inl refl,
  ),
  inl refl,
)

offers_differ_in_values : SameCallsButForValues
    (reverse (two_offers (pos 10)))
    (reverse (two_offers (pos 99)))
unfolding opened
offers_differ_in_values = (
  same_self _,
  (
    same_self _,
    (
      same_self _,
      (
        same_self _,
        (
          same_self _,
          (
            same_self _,
            (
              same_self _,
              (
                record {
                  process = refl;
                  act = number_changed refl refl refl refl (of_one_form refl refl);
                },
                same_run (reverse five_groups),
              ),
            ),
          ),
        ),
      ),
    ),
  ),
)

one_of_offers_has_memory : NobodyLacksMemory (reverse (two_offers (pos 10)))
unfolding is_want
one_of_offers_has_memory = none_wanted (reverse (two_offers (pos 10))) refl

other_of_offers_has_memory : NobodyLacksMemory (reverse (two_offers (pos 99)))
unfolding is_want
other_of_offers_has_memory = none_wanted (reverse (two_offers (pos 99))) refl

two_offers_are_worlds : Worlds (two_offers (pos 10)) (two_offers (pos 99))
two_offers_are_worlds = record {
  first = one_of_offers_is_legal;
  second = other_of_offers_is_legal;
  first_memory = one_of_offers_has_memory;
  second_memory = other_of_offers_has_memory;
  calls = offers_differ_in_values;
}

offers_differ_only_in : DifferOnlyIn banks_and_oil 0
    (reverse (two_offers (pos 10)))
    (reverse (two_offers (pos 99)))
unfolding opened
offers_differ_only_in = (
  (
    (
      (
        (
          (
            ((nothing_differs banks_and_oil 0 (reverse five_groups), inr (inl refl)), inl refl),
            inl refl,
          ),
          inl refl,
        ),
        inl tt,
      ),
      inl tt,
    ),
    inl tt,
  ),
  inl tt,
)

pub two_offers_are_alike : Alike 0 (two_offers (pos 10)) (two_offers (pos 99))
two_offers_are_alike = record { worlds = two_offers_are_worlds; values = offers_differ_only_in }

offers_leave_out : Holds banks_and_oil (posts (reverse (two_offers (pos 10)))) 1 0 → ⊥
unfolding opened
offers_leave_out holds =
    false≢true ((holding_is_history_in_runs banks_and_oil [] (reverse (two_offers (pos 10)))
    one_of_offers_is_legal 1 0 (omega arith)).1 holds)

pub two_offers_look_the_same : ValuesAreOfRoutedRanks →
    LookAlike 0 1 (two_offers (pos 10)) (two_offers (pos 99))
two_offers_look_the_same values =
    who_holds_nothing_learns_nothing values banks_and_oil
    (reverse (two_offers (pos 10)))
    (reverse (two_offers (pos 99))) 0 1 (omega arith)
    two_offers_are_alike offers_leave_out

-- ## two sums

other_of_sums_is_legal : Legal banks_and_oil (reverse (summed (pos 6) (pos 7) (pos 20)))
unfolding opened
other_of_sums_is_legal = (
  (
    (((((((tt, inl refl), inl refl), inl refl), inl refl), inl refl), inl refl), inl refl),
    inl refl,
  ),
  inl refl,
)

sums_differ_in_values : SameCallsButForValues
    (reverse (summed (pos 5) (pos 7) (pos 19)))
    (reverse (summed (pos 6) (pos 7) (pos 20)))
unfolding opened
sums_differ_in_values = (
  same_self _,
  (
    same_self _,
    (
      same_self _,
      (
        same_self _,
        (
          same_self _,
          (
            same_self _,
            (
              same_self _,
              (
                same_self _,
                (
                  record {
                    process = refl;
                    act = number_changed refl refl refl refl (of_one_form refl refl);
                  },
                  tt,
                ),
              ),
            ),
          ),
        ),
      ),
    ),
  ),
)

one_of_sums_has_memory : NobodyLacksMemory (reverse (summed (pos 5) (pos 7) (pos 19)))
unfolding is_want
one_of_sums_has_memory = none_wanted (reverse (summed (pos 5) (pos 7) (pos 19))) refl

other_of_sums_has_memory : NobodyLacksMemory (reverse (summed (pos 6) (pos 7) (pos 20)))
unfolding is_want
other_of_sums_has_memory = none_wanted (reverse (summed (pos 6) (pos 7) (pos 20))) refl

two_sums_are_worlds : Worlds (summed (pos 5) (pos 7) (pos 19)) (summed (pos 6) (pos 7) (pos 20))
two_sums_are_worlds = record {
  first = sanitised_sum_is_legal;
  second = other_of_sums_is_legal;
  first_memory = one_of_sums_has_memory;
  second_memory = other_of_sums_has_memory;
  calls = sums_differ_in_values;
}

sums_differ_only_in : DifferOnlyIn banks_and_oil 0
    (reverse (summed (pos 5) (pos 7) (pos 19)))
    (reverse (summed (pos 6) (pos 7) (pos 20)))
unfolding opened
sums_differ_only_in = (
  (
    (((((((tt, inr (inl refl)), inl refl), inl refl), inl refl), inl tt), inl tt), inl tt),
    inl tt,
  ),
  inl refl,
)

pub two_sums_are_alike : Alike 0 (summed (pos 5) (pos 7) (pos 19)) (summed (pos 6) (pos 7) (pos 20))
two_sums_are_alike = record { worlds = two_sums_are_worlds; values = sums_differ_only_in }

sums_leave_out : Holds banks_and_oil (posts (reverse (summed (pos 5) (pos 7) (pos 19)))) 1 0 → ⊥
unfolding opened
sums_leave_out holds =
    false≢true
    ((holding_is_history_in_runs banks_and_oil [] (reverse (summed (pos 5) (pos 7) (pos 19)))
    sanitised_sum_is_legal 1 0 (omega arith)).1 holds)

pub two_sums_look_the_same : ValuesAreOfRoutedRanks →
    LookAlike 0 1 (summed (pos 5) (pos 7) (pos 19)) (summed (pos 6) (pos 7) (pos 20))
two_sums_look_the_same values =
    who_holds_nothing_learns_nothing values banks_and_oil
    (reverse (summed (pos 5) (pos 7) (pos 19)))
    (reverse (summed (pos 6) (pos 7) (pos 20))) 0 1 (omega arith)
    two_sums_are_alike sums_leave_out

-- ## two barred posts

one_of_barred_posts_is_legal : Legal banks_and_oil (reverse (barred_allgather (pos 4)))
unfolding opened
one_of_barred_posts_is_legal = (
  (
    (
      (
        (
          (
            (
              (((((groups_are_legal, inl refl), inl refl), inl refl), inl refl), inl refl),
              inl refl,
            ),
            inl refl,
          ),
          inl refl,
        ),
        inl refl,
      ),
      inl refl,
    ),
    inl refl,
  ),
  inl refl,
)

other_of_barred_posts_is_legal : Legal banks_and_oil (reverse (barred_allgather (pos 8)))
unfolding opened
other_of_barred_posts_is_legal = (
  (
    (
      (
        (
          (
            (
              (((((groups_are_legal, inl refl), inl refl), inl refl), inl refl), inl refl),
              inl refl,
            ),
            inl refl,
          ),
          inl refl,
        ),
        inl refl,
      ),
      inl refl,
    ),
    inl refl,
  ),
  inl refl,
)

barred_posts_differ_in_values : SameCallsButForValues
    (reverse (barred_allgather (pos 4)))
    (reverse (barred_allgather (pos 8)))
unfolding opened
barred_posts_differ_in_values = (
  same_self _,
  (
    same_self _,
    (
      same_self _,
      (
        same_self _,
        (
          same_self _,
          (
            record {
              process = refl;
              act = number_changed refl refl refl refl (of_one_form refl refl);
            },
            (
              same_self _,
              (
                same_self _,
                (
                  same_self _,
                  (same_self _, (same_self _, (same_self _, same_run (reverse five_groups)))),
                ),
              ),
            ),
          ),
        ),
      ),
    ),
  ),
)

one_of_barred_posts_has_memory : NobodyLacksMemory (reverse (barred_allgather (pos 4)))
unfolding is_want
one_of_barred_posts_has_memory = none_wanted (reverse (barred_allgather (pos 4))) refl

other_of_barred_posts_has_memory : NobodyLacksMemory (reverse (barred_allgather (pos 8)))
unfolding is_want
other_of_barred_posts_has_memory = none_wanted (reverse (barred_allgather (pos 8))) refl

two_barred_posts_are_worlds : Worlds (barred_allgather (pos 4)) (barred_allgather (pos 8))
two_barred_posts_are_worlds = record {
  first = one_of_barred_posts_is_legal;
  second = other_of_barred_posts_is_legal;
  first_memory = one_of_barred_posts_has_memory;
  second_memory = other_of_barred_posts_has_memory;
  calls = barred_posts_differ_in_values;
}

barred_posts_differ_only_in : DifferOnlyIn banks_and_oil 2
    (reverse (barred_allgather (pos 4)))
    (reverse (barred_allgather (pos 8)))
unfolding opened
barred_posts_differ_only_in = (
  (
    (
      (
        (
          (
            (
              (
                (
                  (
                    ((nothing_differs banks_and_oil 2 (reverse five_groups), inl refl), inl refl),
                    inl refl,
                  ),
                  inl tt,
                ),
                inl tt,
              ),
              inl tt,
            ),
            inr (inl refl),
          ),
          inl refl,
        ),
        inl refl,
      ),
      inl tt,
    ),
    inl tt,
  ),
  inl tt,
)

pub two_barred_posts_are_alike : Alike 2 (barred_allgather (pos 4)) (barred_allgather (pos 8))
two_barred_posts_are_alike =
    record { worlds = two_barred_posts_are_worlds; values = barred_posts_differ_only_in }

barred_posts_leave_out : Holds banks_and_oil (posts (reverse (barred_allgather (pos 4)))) 0 2 → ⊥
unfolding opened
barred_posts_leave_out holds =
    false≢true ((holding_is_history_in_runs banks_and_oil [] (reverse (barred_allgather (pos 4)))
    one_of_barred_posts_is_legal 0 2 (omega arith)).1 holds)

pub two_barred_posts_look_the_same : ValuesAreOfRoutedRanks →
    LookAlike 2 0 (barred_allgather (pos 4)) (barred_allgather (pos 8))
two_barred_posts_look_the_same values =
    who_holds_nothing_learns_nothing values banks_and_oil
    (reverse (barred_allgather (pos 4)))
    (reverse (barred_allgather (pos 8))) 2 0 (omega arith)
    two_barred_posts_are_alike barred_posts_leave_out

-- ## two sums of another

other_of_others_sums_is_legal : Legal banks_and_oil (reverse (summed (pos 5) (pos 8) (pos 20)))
unfolding opened
other_of_others_sums_is_legal = (
  (
    (((((((tt, inl refl), inl refl), inl refl), inl refl), inl refl), inl refl), inl refl),
    inl refl,
  ),
  inl refl,
)

others_sums_differ_in_values : SameCallsButForValues
    (reverse (summed (pos 5) (pos 7) (pos 19)))
    (reverse (summed (pos 5) (pos 8) (pos 20)))
unfolding opened
others_sums_differ_in_values = (
  same_self _,
  (
    same_self _,
    (
      same_self _,
      (
        same_self _,
        (
          same_self _,
          (
            same_self _,
            (
              record {
                process = refl;
                act = number_changed refl refl refl refl (of_one_form refl refl);
              },
              (same_self _, (same_self _, tt)),
            ),
          ),
        ),
      ),
    ),
  ),
)

other_of_others_sums_has_memory : NobodyLacksMemory (reverse (summed (pos 5) (pos 8) (pos 20)))
unfolding is_want
other_of_others_sums_has_memory = none_wanted (reverse (summed (pos 5) (pos 8) (pos 20))) refl

pub two_sums_of_another_are_worlds :
    Worlds (summed (pos 5) (pos 7) (pos 19)) (summed (pos 5) (pos 8) (pos 20))
two_sums_of_another_are_worlds = record {
  first = sanitised_sum_is_legal;
  second = other_of_others_sums_is_legal;
  first_memory = one_of_sums_has_memory;
  second_memory = other_of_others_sums_has_memory;
  calls = others_sums_differ_in_values;
}

-- ## what is spared

pub sums_are_spared :
    is_spared banks_and_oil (posts (reverse (take 4 (summed (pos 5) (pos 7) (pos 19))))) 0 1
    (Take 0)
    ≡ true
unfolding opened
sums_are_spared = refl

-- ## two worlds that are not alike

third_holds_none : Holds banks_and_oil
    (posts (reverse (take 2 (summed (pos 5) (pos 7) (pos 19))))) 2 0 → ⊥
unfolding opened
third_holds_none holds =
    false≢true ((holding_is_history_in_runs banks_and_oil []
    (reverse (take 2 (summed (pos 5) (pos 7) (pos 19))))
    sanitised_sum_is_legal.0.0.0.0.0.0.0 2 0 (omega arith)).1 holds)

pub two_sums_of_another_are_unlike : AreAlikeOutside banks_and_oil 0
    (reverse (summed (pos 5) (pos 7) (pos 19)))
    (reverse (summed (pos 5) (pos 8) (pos 20))) → ⊥
unfolding opened
two_sums_of_another_are_unlike h = ⊎_elim
    (λ same. absurd (cc same))
    (λ may. ⊎_elim (λ label. absurd (cc label)) (λ holds. third_holds_none holds) may)
    h.values.0.0.0.0.0.0.1
