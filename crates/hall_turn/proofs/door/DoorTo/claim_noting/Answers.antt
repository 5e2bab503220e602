use Rattle.std.proofs.Common.{◌≡◌, ℕ, ap, sym, subst}
use Rattle.hall_core.specs.Claims.{claim_entry}
use Rattle.hall_turn.specs.Machines.{ClaimsAfter}
use Rattle.hall_turn.specs.Known.{Doorway, Known}
use Rattle.hall_turn.specs.Answers.{EntersAnd}
use Rattle.hall_turn.proofs.door.DoorTo.claim_noting.Goals as goal

pub returns-in-Some-clause-answered : goal.returns-in-Some-clause-answered
returns-in-Some-clause-answered g c =
    let now = c.args.pass.now in
    let after = c.carry_out.new.pass in
    let r = c.args.request in
    let claim = c.in-Some.claim in
    let by : c.pass.inside.process ≡ now.process = ap (λ (k : Known). k.process) c.pass.view_is in
    subst (λ (d : Doorway). EntersAnd now (claim_entry now.process r claim)
    (λ run. ClaimsAfter d.policy run now.process r claim) after) (sym c.requires.door)
    (subst (λ (p : ℕ). EntersAnd now (claim_entry p r claim)
    (λ run. ClaimsAfter c.args.self.now.policy run p r claim) after) by
    c.in-Some.ensures.enters)
