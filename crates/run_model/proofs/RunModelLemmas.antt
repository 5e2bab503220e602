-- What crates above may cite of the lemmas of this crate. Everything else in proofs/ is its own.
pub use Rattle.run_model.proofs.AfterLemmas.{can_be_held, is_policy_after, labels_at}
pub use Rattle.run_model.proofs.AfterLemmas.{labels_of_entries, member_known}
pub use Rattle.run_model.proofs.BookLemmas.{before_seam, begins_given, book_is_sound, no_bad_entry}
pub use Rattle.run_model.proofs.BookLemmas.{after_seam, posts_in-append, posts_in-book}
pub use Rattle.run_model.proofs.BookLemmas.{sound_books_keep_the_wall}
pub use Rattle.run_model.proofs.BufferLemmas.{after_but_for_room, instance_but_for_room}
pub use Rattle.run_model.proofs.BufferLemmas.{posts_but_for_room, proper_but_for_room}
pub use Rattle.run_model.proofs.BufferLemmas.{reply_but_for_room, same_value}
pub use Rattle.run_model.proofs.ChainLemmas.{chains_keep_the_wall, held_on}
pub use Rattle.run_model.proofs.CommLemmas.{length_members_at}
pub use Rattle.run_model.proofs.CountLemmas.{fault_spared, taken}
pub use Rattle.run_model.proofs.CountedLemmas.{accepted, comm_stays, comms_stay, no_fault_has}
pub use Rattle.run_model.proofs.CountedLemmas.{mapped_none, taken_accepted, taken_at}
pub use Rattle.run_model.proofs.EffectLemmas.{after_barred, after_nothing, after_outcome}
pub use Rattle.run_model.proofs.EffectLemmas.{after_posted, after_refused, entry_of, given_of}
pub use Rattle.run_model.proofs.FitLemmas.{filled_is_fit}
pub use Rattle.run_model.proofs.KnownLemmas.{book_named, outcome_named}
pub use Rattle.run_model.proofs.PostLawLemmas.{granted_is, grow, posts_keep_the_wall}
pub use Rattle.run_model.proofs.PostLemmas.{IsFilled, filled_is, kth_from, stated_at, stated_by}
pub use Rattle.run_model.proofs.PostLemmas.{get_prefix}
pub use Rattle.run_model.proofs.PostingLemmas.{posts_within}
pub use Rattle.run_model.proofs.ProperLemmas.{legal_proper, proper_step}
pub use Rattle.run_model.proofs.RequestLemmas.{request_member, request_new, requests_other}
pub use Rattle.run_model.proofs.RequestLemmas.{requests_own}
pub use Rattle.run_model.proofs.CountLemmas.{legal_posts_count}
pub use Rattle.run_model.proofs.RunLemmas.{book_grows, posts-append}
pub use Rattle.run_model.proofs.RunLemmas.{holding_is_history_in_runs}
pub use Rattle.run_model.proofs.RunLemmas.{nobody_holds_two_rivals_in_runs}
pub use Rattle.run_model.proofs.SettledLemmas.{IsSettled, comm_at_is, filled_at, instance_stays}
pub use Rattle.run_model.proofs.SettledLemmas.{kth_later, settled_from, settled_none, settled_now}
pub use Rattle.run_model.proofs.SettledLemmas.{not_full_before, settled_full, settled_other}
pub use Rattle.run_model.proofs.SettledLemmas.{lengths, settled_stays}
pub use Rattle.run_model.proofs.SizeLemmas.{length_ranks_apart}
pub use Rattle.run_model.proofs.TellLemmas.{verdict_makes_none}
pub use Rattle.run_model.proofs.WholeLemmas.{granted_whole}
pub use Rattle.run_model.proofs.WorldRowProofs.{is_want, none_wanted, same_act, same_self}
pub use Rattle.run_model.proofs.YearLemmas.{held_by_end, years_keep_the_wall}
