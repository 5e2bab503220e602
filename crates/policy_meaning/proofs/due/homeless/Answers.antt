use Rattle.std.proofs.Common.{◌≡◌, true, false, subst, sym, ap, ◌∙◌, arith}
use Rattle.std.specs.Prelude.{is_none}
use Rattle.wall_policy.specs.Policy.{home_of}
use Rattle.policy_meaning.proofs.HomeLemmas.{none_is}
use Rattle.policy_meaning.proofs.BelowLemmas.{count_yes, count_no}
use Rattle.policy_meaning.proofs.due.homeless.Goals as goal
use Rattle.policy_meaning.proofs.due.homeless.Goals.{then-is_none, else-is_none}

pub loop-number-preserved : goal.loop-number-preserved
loop-number-preserved c =
    let same : c.unwrap.result ≡ c.loop-number.number = grind arith in
    let few = c.loop-number.invariant.few in
    let here : c.is_none.result ≡ is_none (home_of c.args.policy.now c.loop-number.number) =
    none_is c.home.result c.is_none.result c.is_none.ensures ∙ ap is_none c.home.ensures.home
    ∙ ap (λ p. is_none (home_of c.args.policy.now p)) same in
    elim c.if-is_none.branch [
      | then-is_none w ↦ record {
        counted = rw w.count-is
            (count_yes (λ p. is_none (home_of c.args.policy.now p)) c.loop-number.number
            c.loop-number.count c.loop-number.invariant.counted
            (sym here ∙ w.if-is_none.true));
        few = rw w.count-is (omega arith);
      }
      | else-is_none w ↦ record {
        counted = rw w.count-is
            (count_no (λ p. is_none (home_of c.args.policy.now p)) c.loop-number.number
            c.loop-number.count c.loop-number.invariant.counted
            (sym here ∙ w.if-is_none.false));
        few = rw w.count-is (omega arith);
      }
    ]
