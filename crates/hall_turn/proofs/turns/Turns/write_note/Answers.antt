use Rattle.std.proofs.Common.{arith}
use Rattle.hall_turn.proofs.MoveLemmas.{splits_note}
use Rattle.hall_turn.proofs.turns.Turns.write_note.Goals as goal

pub split_seat-requires : goal.split_seat-requires
split_seat-requires g c =
    let t = c.args.self.now in
    let w = t.counts.0 in
    let s = c.args.seat.now in (
      c.requires.at,
      omega arith,
      splits_note g.M.Machine.stands t.table.shared.key.value s.id s.me.0 c.requires.out,
    )
