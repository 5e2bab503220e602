-- What crates above may cite of the lemmas of this crate. Everything else in proofs/ is its own.
pub use Rattle.book_seal.proofs.KnownLemmas.{due_known}
