use Rattle.std.proofs.Common.{◌≡◌, ◌<◌, ℕ, true, false, Some, None, sym, ◌∙◌, arith}
use Rattle.wall_policy.specs.Policy.{home_of}
use Rattle.wall_verdict.specs.Charges.{is_that}
use Rattle.policy_meaning.proofs.HomeLemmas.{a_home, no_home, nobodys}
use Rattle.policy_meaning.proofs.due.is_a_home.Goals as goal

pub returns-then-eq-clause-test : goal.returns-then-eq-clause-test
returns-then-eq-clause-test c =
    let found : home_of c.args.policy.now c.loop-number.number ≡ Some c.args.dataset =
    grind arith in
    sym (a_home c.args.policy.now c.args.dataset c.loop-number.number
    c.processes-number-end.ensures.policy found)

pub loop-number-preserved : goal.loop-number-preserved
loop-number-preserved c =
    no_home c.args.policy.now c.args.dataset c.loop-number.number c.loop-number.invariant
    (λ home. grind arith)

pub returns-clause-none : goal.returns-clause-none
returns-clause-none c = λ none p home.
    nobodys c.args.policy.now c.args.dataset c.loop-number.number p
    c.processes-number-end.ensures.policy c.loop-number.invariant (omega arith) home
