-- What crates above may cite of the lemmas of this crate. Everything else in proofs/ is its own.
pub use Rattle.live_book.proofs.WritingLemmas.{prefix_more, prefix_then}
