use Rattle.std.proofs.Common.{arith}
use Rattle.hall_turn.proofs.MoveLemmas.{splits_pass}
use Rattle.hall_turn.proofs.turns.Turns.make_pass.Goals as goal

pub split_seat-requires : goal.split_seat-requires
split_seat-requires g c =
    let t = c.args.self.now in
    let w = t.counts.0 in
    let r = c.requires.can in (
      c.requires.at,
      omega arith,
      splits_pass g.M.Machine.stands t.table.shared.key.value
          c.args.maker.now.id c.args.maker.now.me.0 r.makes r.more r.parts r.ticket r.out,
    )
