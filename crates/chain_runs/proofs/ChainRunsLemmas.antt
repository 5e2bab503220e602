-- What crates above may cite of the lemmas of this crate. Everything else in proofs/ is its own.
pub use Rattle.chain_runs.proofs.ChainLemmas.{parted, newest_first, next_past}
