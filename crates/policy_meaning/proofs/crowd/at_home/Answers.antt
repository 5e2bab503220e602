use Rattle.std.proofs.Common.{◌≡◌, Some, arith}
use Rattle.wall_policy.specs.Policy.{home_of}
use Rattle.wall_verdict.specs.Charges.{is_that}
use Rattle.wall_verdict.proofs.WallVerdictLemmas.{one_that}
use Rattle.policy_meaning.proofs.HomeLemmas.{is_no_other}
use Rattle.policy_meaning.proofs.BelowLemmas.{count_yes, count_no}
use Rattle.policy_meaning.proofs.crowd.at_home.Goals as goal
use Rattle.policy_meaning.proofs.crowd.at_home.Goals.{then-eq, else-eq}

pub loop-number-preserved : goal.loop-number-preserved
loop-number-preserved c =
    let few = c.loop-number.invariant.few in
    elim c.if-eq.branch [
      | then-eq w ↦
          let here : home_of c.args.policy.now c.loop-number.number ≡ Some c.args.dataset =
          grind arith in
          record {
            counted = rw w.count-is
                (count_yes (λ p. is_that (home_of c.args.policy.now p) c.args.dataset)
                c.loop-number.number c.loop-number.count c.loop-number.invariant.counted
                (one_that (home_of c.args.policy.now c.loop-number.number) c.args.dataset here));
            few = rw w.count-is (omega arith);
          }
      | else-eq w ↦ record {
        counted = rw w.count-is
            (count_no (λ p. is_that (home_of c.args.policy.now p) c.args.dataset)
            c.loop-number.number c.loop-number.count c.loop-number.invariant.counted
            (is_no_other (home_of c.args.policy.now c.loop-number.number) c.args.dataset
            (λ home. grind arith)));
        few = rw w.count-is (omega arith);
      }
    ]
