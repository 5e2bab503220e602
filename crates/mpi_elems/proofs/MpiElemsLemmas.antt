-- What crates above may cite of the lemmas of this crate. Everything else in proofs/ is its own.
pub use Rattle.mpi_elems.proofs.ElementLemmas.{elements_of-nil}
pub use Rattle.mpi_elems.proofs.LoopLemmas.{slice_range-all}
