use Rattle.std.proofs.Common.{◌≡◌, ap, ◌∙◌}
use Rattle.std.specs.List.{dedup}
use Rattle.std.specs.Ordering.{int_cmp, int_eq, is_lt}
use Rattle.std.proofs.lemmas.List.Filters.{dedup_is}
use Rattle.mpi_comm.specs.Sorting.{sorted_by}
use Rattle.mpi_comm.specs.Splits.{colours_of}
use Rattle.mpi_comm.proofs.SortLemmas.{sort_is}
use Rattle.mpi_comm.proofs.SplitLemmas.{ascending_colours}
use Rattle.mpi_comm.proofs.split.colours_of.Goals as goal

pub returns : goal.returns
unfolding colours_of
returns c =
    let sorted : c.sort.new.self.items ≡ sorted_by (λ a b. is_lt (int_cmp a b))
    c.in_ok-colours.colours.items =
    sort_is (λ a b. is_lt (int_cmp a b)) ascending_colours c.in_ok-colours.colours.items
    c.sort.new.self.items c.in_ok-sort.ensures.sorted c.in_ok-sort.ensures.stable in
    dedup_is int_eq c.sort.new.self.items c.dedup.new.self.items c.dedup.ensures.filtered
    ∙ ap (dedup int_eq)
    (sorted ∙ ap (sorted_by (λ a b. is_lt (int_cmp a b))) c.in_ok-colours.ensures)
