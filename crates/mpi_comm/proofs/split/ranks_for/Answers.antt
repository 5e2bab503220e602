use Rattle.std.proofs.Common.{◌≡◌, ap, ◌∙◌}
use Rattle.std.specs.Int.{w32}
use Rattle.std.proofs.lemmas.Int.{to_z-of_z}
use Rattle.mpi_comm.specs.Sorting.{sorted_by}
use Rattle.mpi_comm.specs.Splits.{asked, goes_before, ranks_for}
use Rattle.mpi_comm.proofs.SortLemmas.{sort_is}
use Rattle.mpi_comm.proofs.SplitLemmas.{ascending_places}
use Rattle.mpi_comm.proofs.split.ranks_for.Goals as goal

pub returns : goal.returns
unfolding ranks_for
returns c =
    let same = to_z-of_z w32 c.args.colour c.ranges.colour in
    let sorted : c.sort.new.self.items ≡ sorted_by goes_before c.in_ok-places.places.items =
    sort_is goes_before ascending_places c.in_ok-places.places.items c.sort.new.self.items
    c.in_ok-sort.ensures.sorted c.in_ok-sort.ensures.stable in
    let places : c.as_slice.result.now ≡ sorted_by goes_before (asked c.args.colour c.args.asks.now)
    =
    c.as_slice.ensures.value ∙ sorted
    ∙ ap (sorted_by goes_before) (rw same at c.in_ok-places.ensures) in
    rw places at c.ranks_of.ensures
