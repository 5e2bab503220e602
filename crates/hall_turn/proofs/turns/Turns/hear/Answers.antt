use Rattle.std.proofs.Common.{arith}
use Rattle.hall_turn.proofs.MoveLemmas.{joins_note}
use Rattle.hall_turn.proofs.turns.Turns.hear.Goals as goal

pub join_seat-requires : goal.join_seat-requires
join_seat-requires g c =
    let t = c.args.self.now in
    let w = t.counts.0 in
    let s = c.args.seat.now in
    let n = c.args.note in
    let i = c.requires.note in (
      c.requires.at,
      c.requires.note_at,
      i.slots,
      omega arith,
      joins_note g.M.Machine.stands t.table.shared.key.value s.id s.me.0 n.id n.me.0
          c.requires.out i.out i.parts,
    )
