use Rattle.std.proofs.Common.{◌≡◌, true, false, subst, sym, ◌∙◌, arith}
use Rattle.policy_meaning.specs.Warnings.{is_a_home}
use Rattle.policy_meaning.proofs.BelowLemmas.{count_yes, count_no}
use Rattle.policy_meaning.proofs.due.homes.Goals as goal
use Rattle.policy_meaning.proofs.due.homes.Goals.{then-is_a_home, else-is_a_home}

pub loop-number-preserved : goal.loop-number-preserved
loop-number-preserved c =
    let same : c.unwrap.result ≡ c.loop-number.number = grind arith in
    let few = c.loop-number.invariant.few in
    elim c.if-is_a_home.branch [
      | then-is_a_home w ↦ record {
        counted = rw w.count-is
            (count_yes (is_a_home c.args.policy.now) c.loop-number.number c.loop-number.count
            c.loop-number.invariant.counted
            (subst (λ d. is_a_home c.args.policy.now d ≡ true) same
            (sym c.is_a_home.ensures.test ∙ w.if-is_a_home.true)));
        few = rw w.count-is (omega arith);
      }
      | else-is_a_home w ↦ record {
        counted = rw w.count-is
            (count_no (is_a_home c.args.policy.now) c.loop-number.number c.loop-number.count
            c.loop-number.invariant.counted
            (subst (λ d. is_a_home c.args.policy.now d ≡ false) same
            (sym c.is_a_home.ensures.test ∙ w.if-is_a_home.false)));
        few = rw w.count-is (omega arith);
      }
    ]
