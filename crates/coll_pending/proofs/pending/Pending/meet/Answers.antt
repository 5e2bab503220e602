use Rattle.coll_pending.proofs.PendingLemmas.{waits_met}
use Rattle.coll_pending.proofs.pending.Pending.meet.Goals as goal

pub returns-in_default-clause-met : goal.returns-in_default-clause-met
returns-in_default-clause-met g c =
    waits_met c.args.self.now c.args.of.now c.args.sig.now c.args.meeting c.requires
    c.in_default.not-Opens c.in_default.not-Mismatch
