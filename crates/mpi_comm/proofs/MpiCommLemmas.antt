-- What crates above may cite of the lemmas of this crate. Everything else in proofs/ is its own.
pub use Rattle.mpi_comm.proofs.SplitLemmas.{is_distinct-range_with_len, is_subgroup-ranks_for}
