use Rattle.std.proofs.Common.{◌≡◌, ◌<◌, true, false, sym, subst, ◌∙◌, arith, length}
use Rattle.policy_meaning.specs.Warnings.{is_home_of}
use Rattle.policy_meaning.proofs.BelowLemmas.{none_more, some_later}
use Rattle.policy_meaning.proofs.number.has_home.Goals as goal

pub returns-then-is_home_of : goal.returns-then-is_home_of
returns-then-is_home_of c =
    let number : c.unwrap.result ≡ c.loop-number.number = grind arith in
    let many = c.datasets-number-end.ensures.number in
    let low = c.loop-number-test.true in
    sym (some_later (is_home_of c.args.policy.now c.args.class) c.loop-number.number
    (length c.args.policy.now.dataset_names) (omega arith)
    (subst (λ d. is_home_of c.args.policy.now c.args.class d ≡ true) number
    (sym c.is_home_of.ensures ∙ c.if-is_home_of.true)))

pub loop-number-preserved : goal.loop-number-preserved
loop-number-preserved c =
    let number : c.unwrap.result ≡ c.loop-number.number = grind arith in
    none_more (is_home_of c.args.policy.now c.args.class) c.loop-number.number
    c.loop-number.invariant
    (subst (λ d. is_home_of c.args.policy.now c.args.class d ≡ false) number
    (sym c.is_home_of.ensures ∙ c.if-is_home_of.false))
