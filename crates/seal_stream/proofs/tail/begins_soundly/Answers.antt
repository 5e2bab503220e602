use Rattle.seal_stream.proofs.SealLemmas.{begins}
use Rattle.seal_stream.proofs.tail.begins_soundly.Goals as goal

pub returns : goal.returns
returns c = λ lines kept are h.
    begins c.args.policy.now c.processes.ensures.policy c.args.reading.now lines kept are h
    c.due_behind-due.result c.due_behind-due.ensures.due c.due_behind-due.ensures.spelled
