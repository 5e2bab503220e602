-- What a poster states for itself alone. (MPI 4.1, sections 6.6, 6.8, 7.4.2 and 8.6.)
use Rattle.std.specs.Prelude.{Bool, true, false}
use Rattle.coll_routes.specs.declared.kind.Kind.{Kind}
use Rattle.coll_routes.specs.declared.kind.Kind.TheVariants as kinds
use Rattle.coll_routes.specs.declared.statement.Own.{Own}
use Rattle.coll_routes.specs.declared.statement.Own.TheVariants as owns

-- what the kind asks of it: counts where each member has its own, a colour and a key for a split,
-- else nothing
abbrev pub is_own_of : Kind → Own → Bool
is_own_of kinds.Scatterv (owns.Counts counts) = true
is_own_of kinds.Scatterv _ = false
is_own_of kinds.Alltoallv (owns.Counts counts) = true
is_own_of kinds.Alltoallv _ = false
is_own_of kinds.NeighborAlltoallv (owns.Counts counts) = true
is_own_of kinds.NeighborAlltoallv _ = false
is_own_of kinds.Split (owns.Split colour key) = true
is_own_of kinds.Split _ = false
is_own_of _ owns.Plain = true
is_own_of _ _ = false
