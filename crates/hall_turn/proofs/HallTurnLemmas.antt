-- What crates above may cite of the lemmas of this crate. Everything else in proofs/ is its own.
pub use Rattle.hall_turn.proofs.DealLemmas.{passes_length}
pub use Rattle.hall_turn.proofs.RunLemmas.{calls_of-none, calls_of-own, continues_length}
pub use Rattle.hall_turn.proofs.RunLemmas.{continues_more, continues_self, continues_trans}
pub use Rattle.hall_turn.proofs.TicketLemmas.{calls_grow}
