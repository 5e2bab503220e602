use Rattle.std.proofs.Common.{arith}
use Rattle.hall_turn.proofs.KeepLemmas.{draws}
use Rattle.hall_turn.proofs.turns.Turns.draw.Goals as goal

pub fetch_add-requires : goal.fetch_add-requires
fetch_add-requires g c =
    let t = c.args.self.now in
    let m = c.args.seat.now.me in
    let w = t.counts.0 in
    let r = c.requires in (
      r.at,
      omega arith,
      draws g.M.Machine.stands t.table.shared.key.value
          t.table.shared.table_id.slots c.args.seat.now.id m.0 m.1 r.ticket r.out r.parts r.few,
    )
