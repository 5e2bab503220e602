use Rattle.hall_core.specs.Halls.{StandsFor}
use Rattle.hall_script.specs.declared.teller.Teller.{Teller}
use Rattle.hall_script.specs.Scripts.{script_of}
use Rattle.hall_script.specs.Telling.{TellsRun}
use Rattle.hall_script.proofs.RunLemmas.{part_has_stopped}
use Rattle.hall_script.proofs.teller.answered_with_kept.Goals as goal

pub returns-in-Err-clause-stopped : goal.returns-in-Err-clause-stopped
returns-in-Err-clause-stopped g c =
    let wall = c.args.hall.policy in
    part_has_stopped (λ (t : Teller). t.hall) TellsRun StandsFor (λ t run tells. tells.stands) wall
    (g.W.Sink.contents c.args.sink.now) (g.W.Sink.contents c.answered.new.sink)
    (g.W.Sink.failures c.args.sink.now) (g.W.Sink.failures c.answered.new.sink)
    (script_of wall.dataset_names c.args.script.now) c.in-Err.fault
    (rw c.new.ensures.hall at c.in-Err.ensures.stopped)
