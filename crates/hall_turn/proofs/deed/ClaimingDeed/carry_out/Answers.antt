use Rattle.hall_core.specs.Claims.{claim_reply}
use Rattle.hall_turn.proofs.SettleLemmas.{take_tells}
use Rattle.hall_turn.proofs.deed.ClaimingDeed.carry_out.Goals as goal

pub returns-clause-settled : goal.returns-clause-settled
returns-clause-settled g c =
    take_tells g.M.Machine.stands c.args.machine.now c.args.self.process c.args.self.request
    (claim_reply c.claim.result)
