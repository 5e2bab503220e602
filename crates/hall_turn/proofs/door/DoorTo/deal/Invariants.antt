use Rattle.std.proofs.Common.{◌≡◌, ◌≤◌, []}
use Rattle.std.specs.Prelude.{vec_capacity}
use Rattle.run_model.specs.Comms.{processes}
use Rattle.hall_turn.specs.Views.{maker}
use Rattle.hall_turn.specs.Answers.{new_passes}
use Rattle.hall_turn.proofs.door.DoorTo.deal.Given as goal

abbrev pub invariant-loop-process : goal.invariant-loop-process
invariant-loop-process g l = record {
  at : l.maker.table_id ≡ l.self.name;
  maker : l.maker.me ≡ (maker l.self.policy l.process, []);
  passes : l.passes.items ≡ new_passes l.self l.process;
  room : processes l.self.policy ≤ vec_capacity l.passes;
}
