use Rattle.std.proofs.Common.{◌≡◌, vec_len}
use Rattle.std.specs.List.{All}
use Rattle.hall_turn.proofs.GatherLemmas.{Gathers}
use Rattle.hall_turn.proofs.turns.Turns.gather.Given as goal

abbrev pub invariant-loop-pass : goal.invariant-loop-pass
invariant-loop-pass g l = record {
  at : l.seat.table_id ≡ l.self.table.shared.table_id;
  of : All (λ k. k.door.name ≡ l.self.table.shared.table_id) l.passes.items;
  gathers : Gathers l.fn.passes.items l.passes.items l.seat.me;
}

abbrev pub decreases-loop-pass : goal.decreases-loop-pass
decreases-loop-pass g l = vec_len l.passes
