-- What crates above may cite of the lemmas of this crate. Everything else in proofs/ is its own.
pub use Rattle.run_state.proofs.SeenLemmas.{fault_is, place_is_count, place_is_small}
