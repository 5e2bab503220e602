use Rattle.std.proofs.Common.{◌%◌, ◌+◌, ◌^◌, ℕ, List, Option, sym, subst, arith}
use mathlib.Core.Option.{none}
use Rattle.atomic_table.specs.Table.{Allows, step}
use Rattle.hall_turn.specs.Turns.{Ruled}
use Rattle.hall_turn.specs.Steps.{Serves}
use Rattle.hall_turn.proofs.KeepLemmas.{serves}
use Rattle.hall_turn.proofs.turns.Turns.serve.Goals as goal

pub fetch_add-requires : goal.fetch_add-requires
fetch_add-requires g c =
    let t = c.args.self.now in
    let m = c.args.seat.now.me in
    let w = t.counts.0 in
    let r = c.requires.ready in
    let n = t.table.shared.table_id.slots in
    let k = t.table.shared.key.value in
    let P : List (ℕ × Option g.row.M.Denot) → Type 0 = λ x. Allows (Ruled g.M.Machine.stands k) n
    c.args.seat.now.id (m.0, x) 0 (λ y. (y + 1) % 2 ^ 64) (Serves (step n 0 1 0 none) (m.0, x))
    in (
      c.requires.at,
      omega arith,
      subst P (sym r.held) (serves g.M.Machine.stands k n c.args.seat.now.id m.0 r.entry r.machine
          r.out r.said r.joined r.by r.legal r.stood),
    )
