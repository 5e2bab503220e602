-- The worked outcomes of RoomRows, by computation.
use Rattle.std.proofs.Common.{refl}
use Rattle.coll_routes.specs.Signatures.{is_constructor}
use Rattle.run_model.specs.Comms.{new_comms_by}
use Rattle.run_model.specs.RoomRows.{LastIsMade, OneMoreHasNoRoom, NothingNeedsNoRoom}

pub last_is_made : LastIsMade
unfolding is_constructor new_comms_by
last_is_made wall has members shape stated = refl

pub one_more_has_no_room : OneMoreHasNoRoom
unfolding is_constructor new_comms_by
one_more_has_no_room wall has members shape stated = refl

pub nothing_needs_no_room : NothingNeedsNoRoom
unfolding is_constructor new_comms_by
nothing_needs_no_room wall has members shape stated = refl
