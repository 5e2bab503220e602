-- What crates above may cite of the lemmas of this crate. Everything else in proofs/ is its own.
pub use Rattle.mpi_cart.proofs.BelowLemmas.{any_more, below_more, count_more, range_more}
pub use Rattle.mpi_cart.proofs.CellLemmas.{cell_has_digits, digits_in_range, length-cells}
unfoldable pub use Rattle.mpi_cart.proofs.CellLemmas.{digits}
pub use Rattle.mpi_cart.proofs.GridLemmas.{place_passes, position-place_of}
pub use Rattle.mpi_cart.proofs.VolumeLemmas.{Kept, choices, kept_less, kept_more}
