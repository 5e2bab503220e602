use Rattle.run_model.proofs.RoomRowProofs.{last_is_made}
use Rattle.run_model.proofs.room_rows.last_is_made.Goals as goal

pub returns : goal.returns
returns c = last_is_made
