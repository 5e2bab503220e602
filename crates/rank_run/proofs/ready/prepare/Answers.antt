use Rattle.std.proofs.Common.{ap, arith, List, length}
use Rattle.run_model.specs.Comms.{processes}
use Rattle.run_model.specs.declared.call.Act.{Act}
use Rattle.hall_turn.proofs.HallTurnLemmas.{passes_length}
use Rattle.rank_run.proofs.ready.prepare.Goals as goal

pub deal-jobs-requires-clause-number : goal.deal-jobs-requires-clause-number
deal-jobs-requires-clause-number c =
    let n = processes c.args.policy in
    let o = c.in-Ok-open.opened.1.ok in
    let p = c.into_vec.result.ok in
    let a =
    passes_length c.in-Ok-open.opened.0 n c.in-Ok-open.opened.1.items c.in-Ok-open.ensures.passes in
    let e = ap (λ (l : List (List Act)). length l) c.into_vec.ensures in
    let long = c.requires in
    let number = c.in-Ok.ensures.number in
    omega arith
