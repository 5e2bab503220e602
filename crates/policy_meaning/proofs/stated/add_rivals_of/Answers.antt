use Rattle.std.proofs.Common.{◌≡◌, ◌+◌, ◌*◌, ◌<◌, ◌≤◌, ℕ, Some, arith, subst, sym, ◌∙◌, false}
use Rattle.std.proofs.Common.{true}
use Rattle.std.proofs.lemmas.Bool.{false≢true}
use Rattle.policy_meaning.specs.declared.fact.Fact.TheVariants.{KeptApart}
use Rattle.policy_meaning.specs.Facts.{IsFact}
use Rattle.policy_meaning.proofs.FactLemmas.{add_fact, past_pairs, home_known}
use Rattle.policy_meaning.proofs.stated.add_rivals_of.Goals as goal
use Rattle.policy_meaning.proofs.stated.add_rivals_of.Goals.{then-are_kept_apart+in_ok-push}
use Rattle.policy_meaning.proofs.stated.add_rivals_of.Goals.{else-are_kept_apart}

pub loop-number-init : goal.loop-number-init
loop-number-init c =
    let end = c.processes-number-end.ensures in
    let known = c.requires.known in
    past_pairs c.args.policy.now c.args.list.now.items c.args.left 0 (c.args.left + 1)
    (1280 + 256 * c.args.left) (1280 + (256 * c.args.left + (c.number-number.result + 1)))
    end.policy c.requires.listed (omega arith) (omega arith) (omega arith) (omega arith)
    (omega arith)
    (λ q low high fact. let above = fact.0 in omega arith)

pub loop-number-preserved : goal.loop-number-preserved
loop-number-preserved c =
    let end = c.processes-number-end.ensures in
    let known = c.requires.known in
    let right : c.unwrap-right.result ≡ c.loop-number.number = grind arith in
    elim c.if-are_kept_apart.branch [
      | then-are_kept_apart+in_ok-push w ↦
          rw w.list-is (rw w.in_ok-push.ensures.items
          (add_fact c.args.policy.now c.loop-number.list.items
          (KeptApart c.args.left c.unwrap-right.result)
          (1280 + (256 * c.args.left + c.loop-number.number))
          (1280 + (256 * c.args.left + (c.loop-number.number + 1))) end.policy
          c.loop-number.invariant (
            (let above = c.loop-number.auto.number in omega arith),
            c.are_kept_apart.ensures.0 w.if-are_kept_apart.true,
          )
          (omega arith) (omega arith)))
      | else-are_kept_apart w ↦
          rw w.list-is
          (past_pairs c.args.policy.now c.loop-number.list.items c.args.left c.loop-number.number
          (c.loop-number.number + 1) (1280 + (256 * c.args.left + c.loop-number.number))
          (1280 + (256 * c.args.left + (c.loop-number.number + 1))) end.policy
          c.loop-number.invariant (omega arith) (omega arith) (omega arith) (omega arith)
          (omega arith)
          (λ q low high fact.
          let here : q ≡ c.unwrap-right.result = omega arith in
          let apart = subst (λ r. IsFact c.args.policy.now (KeptApart c.args.left r)) here fact in
          false≢true (sym w.if-are_kept_apart.false ∙ c.are_kept_apart.ensures.1 apart.1)))
    ]

pub returns : goal.returns
returns c =
    let end = c.processes-number-end.ensures in
    let known = c.requires.known in
    past_pairs c.args.policy.now c.loop-number.list.items c.args.left c.loop-number.number 256
    (1280 + (256 * c.args.left + c.loop-number.number)) (1280 + 256 * (c.args.left + 1)) end.policy
    c.loop-number.invariant (omega arith) (omega arith) (omega arith) (omega arith) (omega arith)
    (λ q low high fact.
    let one = home_known c.args.policy.now q fact.1.right end.policy fact.1.right_home in
    omega arith)
