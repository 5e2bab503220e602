use Rattle.hall_script.specs.Devices.{used}
use Rattle.program_commands.proofs.EarlierLemmas.{both_cases, no_policy_alone, policy_alone}
use Rattle.program_commands.proofs.audit.audit_on.Goals as goal

pub returns : goal.returns
returns g c =
    let policy = used g.P.Source.failures g.P.Source.remaining c.args.policy.now
    c.audit_after.new.devices.0 in
    let ended = c.audit_after.ensures in (
      ended.0,
      both_cases (rw c.no_earlier.ensures at ended.1)
          (λ h. (no_policy_alone _ _ policy ended.0 h.0, h.1, h.2))
          (λ h. (h.0, policy_alone _ _ policy h.0 h.1, h.2)),
      ended.2,
      ended.3,
    )
