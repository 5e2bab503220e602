use Rattle.run_model.proofs.RoomRowProofs.{one_more_has_no_room}
use Rattle.run_model.proofs.room_rows.one_more_has_no_room.Goals as goal

pub returns : goal.returns
returns c = one_more_has_no_room
