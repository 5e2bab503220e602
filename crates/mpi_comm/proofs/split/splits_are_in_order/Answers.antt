use Rattle.std.specs.Ordering.{int_cmp, is_lt}
use Rattle.mpi_comm.specs.Splits.{goes_before}
use Rattle.mpi_comm.proofs.SortLemmas.{IsSortedBy-sorted_by, filter-sorted_by}
use Rattle.mpi_comm.proofs.SplitLemmas.{ascending_colours, ascending_places}
use Rattle.mpi_comm.proofs.split.splits_are_in_order.Goals as goal

pub returns-clause-places : goal.returns-clause-places
returns-clause-places c = IsSortedBy-sorted_by goes_before ascending_places

pub returns-clause-places_kept : goal.returns-clause-places_kept
returns-clause-places_kept c =
    λ places place. filter-sorted_by goes_before ascending_places place places

pub returns-clause-colours : goal.returns-clause-colours
returns-clause-colours c = IsSortedBy-sorted_by (λ a b. is_lt (int_cmp a b)) ascending_colours

pub returns-clause-colours_kept : goal.returns-clause-colours_kept
returns-clause-colours_kept c =
    λ colours colour. filter-sorted_by (λ a b. is_lt (int_cmp a b)) ascending_colours colour colours
