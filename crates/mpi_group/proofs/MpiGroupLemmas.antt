-- What crates above may cite of the lemmas of this crate. Everything else in proofs/ is its own.
pub use Rattle.mpi_group.proofs.GroupLemmas.{IsGroup-members_at, is_distinct-filter}
pub use Rattle.mpi_group.proofs.GroupLemmas.{length_distinct, no_fault, one_place, rank_present}
pub use Rattle.mpi_group.proofs.GroupLemmas.{ranks_within, slice_get-member}
pub use Rattle.mpi_group.proofs.RankLemmas.{rank_is, ranked}
