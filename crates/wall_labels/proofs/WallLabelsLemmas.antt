-- What crates above may cite of the lemmas of this crate. Everything else in proofs/ is its own.
pub use Rattle.wall_labels.proofs.KnownLemmas.{Appends-then}
pub use Rattle.wall_labels.proofs.OptionLemmas.{is_none-None, is_some-Some, not_some-None}
