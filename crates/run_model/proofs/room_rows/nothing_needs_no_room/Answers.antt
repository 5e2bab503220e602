use Rattle.run_model.proofs.RoomRowProofs.{nothing_needs_no_room}
use Rattle.run_model.proofs.room_rows.nothing_needs_no_room.Goals as goal

pub returns : goal.returns
returns c = nothing_needs_no_room
