-- What crates above may cite of the lemmas of this crate. Everything else in proofs/ is its own.
pub use Rattle.coll_text.proofs.AgainLemmas.{positive, statement_again}
pub use Rattle.coll_text.proofs.CheckLemmas.{check_done, check_ends, check_goes_on, check_then}
pub use Rattle.coll_text.proofs.CheckLemmas.{is_said}
pub use Rattle.coll_text.proofs.EachLemmas.{carried, fails_before, fails_then}
pub use Rattle.coll_text.proofs.FoundLemmas.{bind_ok, done, ok_is, signed_found, some_ok}
pub use Rattle.coll_text.proofs.FoundLemmas.{statement_found, word_found}
pub use Rattle.coll_text.proofs.NumberLemmas.{decimal_is_number, form, number_is_decimal, own}
pub use Rattle.coll_text.proofs.NumberLemmas.{signed_is_read}
pub use Rattle.coll_text.proofs.SendLemmas.{Appends-none, moves_break, moves_end, moves_more}
pub use Rattle.coll_text.proofs.SendLemmas.{moves_stop, moves_then}
pub use Rattle.coll_text.proofs.SolidLemmas.{all_joint, decimal_solid, statement_solid}
pub use Rattle.coll_text.proofs.SpacedLemmas.{prefix_behind, join_cons}
pub use Rattle.coll_text.proofs.WordLemmas.{decimal_some, label_again, label_found, label_some}
pub use Rattle.coll_text.proofs.WordLemmas.{name_at_of, name_some, place_found}
