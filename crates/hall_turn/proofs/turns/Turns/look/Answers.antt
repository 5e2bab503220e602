use Rattle.std.proofs.Common.{arith}
use Rattle.hall_turn.proofs.KeepLemmas.{looks}
use Rattle.hall_turn.proofs.turns.Turns.look.Goals as goal

pub load-requires : goal.load-requires
load-requires g c =
    let t = c.args.self.now in
    let m = c.args.seat.now.me in
    let w = t.counts.0 in (
      c.requires.at,
      omega arith,
      looks g.M.Machine.stands t.table.shared.key.value t.table.shared.table_id.slots
          c.args.seat.now.id m.0 m.1 c.requires.parts c.requires.out,
    )
