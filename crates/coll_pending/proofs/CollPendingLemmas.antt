-- What crates above may cite of the lemmas of this crate. Everything else in proofs/ is its own.
pub use Rattle.coll_pending.proofs.KeyLemmas.{at_push}
pub use Rattle.coll_pending.proofs.PendingLemmas.{stays_known}
pub use Rattle.coll_pending.proofs.RowLemmas.{begun_set, none_of}
pub use Rattle.coll_pending.proofs.SlotLemmas.{stated_none}
