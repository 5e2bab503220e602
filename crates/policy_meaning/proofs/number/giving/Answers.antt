use Rattle.std.proofs.Common.{◌≡◌, true, false, subst, sym, ap, ◌∙◌, arith}
use Rattle.std.specs.Prelude.{count_by}
use Rattle.wall_labels.specs.Limits.{class_limit}
use Rattle.mpi_cart.specs.Grids.{below}
use Rattle.policy_meaning.specs.Warnings.{has_home, giving}
use Rattle.policy_meaning.proofs.BelowLemmas.{count_yes, count_no}
use Rattle.policy_meaning.proofs.number.giving.Goals as goal
use Rattle.policy_meaning.proofs.number.giving.Goals.{then-has_home, else-has_home}

pub loop-number-preserved : goal.loop-number-preserved
loop-number-preserved c =
    let same : c.unwrap.result ≡ c.loop-number.number = grind arith in
    let few = c.loop-number.invariant.few in
    elim c.if-has_home.branch [
      | then-has_home w ↦ record {
        counted = rw w.count-is
            (count_yes (has_home c.args.policy.now) c.loop-number.number c.loop-number.count
            c.loop-number.invariant.counted
            (subst (λ d. has_home c.args.policy.now d ≡ true) same
            (sym c.has_home.ensures ∙ w.if-has_home.true)));
        few = rw w.count-is (omega arith);
      }
      | else-has_home w ↦ record {
        counted = rw w.count-is
            (count_no (has_home c.args.policy.now) c.loop-number.number c.loop-number.count
            c.loop-number.invariant.counted
            (subst (λ d. has_home c.args.policy.now d ≡ false) same
            (sym c.has_home.ensures ∙ w.if-has_home.false)));
        few = rw w.count-is (omega arith);
      }
    ]

pub returns-clause-number : goal.returns-clause-number
unfolding giving
returns-clause-number c =
    let past = c.loop-number-test.false in
    let few = c.loop-number.invariant.few in
    let at : c.loop-number.number ≡ class_limit = omega arith in
    c.loop-number.invariant.counted
    ∙ ap (λ n. count_by (has_home c.args.policy.now) (below n)) at
