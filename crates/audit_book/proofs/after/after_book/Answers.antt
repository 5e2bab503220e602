use Rattle.std.proofs.Common.{[], sym, ap, subst}
use Rattle.wall_policy.specs.Policy.{ChineseWall, with_held}
use Rattle.run_model.specs.Books.{posts_in}
use Rattle.run_model.specs.Chains.{IsPolicyAfter}
use Rattle.run_model.proofs.RunModelLemmas.{can_be_held, is_policy_after, labels_of_entries}
use Rattle.run_model.proofs.RunModelLemmas.{chains_keep_the_wall}
use Rattle.audit_book.proofs.after.after_book.Goals as goal

pub after-requires : goal.after-requires
after-requires c =
    can_be_held c.args.policy (posts_in c.args.book.now.list) c.in_ok-pairs.pairs.items
    c.in_ok-pairs.ensures.sound.posts c.in_ok-pairs.ensures.pairs c.processes.ensures.policy
    (labels_of_entries c.args.policy c.args.book.now.list c.requires)

pub returns-clause-rest : goal.returns-clause-rest
returns-clause-rest c = ap (λ (w : ChineseWall). with_held w []) c.after.ensures

pub returns-clause-after : goal.returns-clause-after
returns-clause-after c =
    subst (λ (w : ChineseWall). IsPolicyAfter c.args.policy (posts_in c.args.book.now.list) w)
    (sym c.after.ensures) (is_policy_after c.args.policy (posts_in c.args.book.now.list)
    c.in_ok-pairs.pairs.items c.in_ok-pairs.ensures.sound.posts c.in_ok-pairs.ensures.pairs)

pub returns-clause-chain : goal.returns-clause-chain
returns-clause-chain c = λ older chain. (
  chain,
  c.in_ok-pairs.ensures.sound,
  subst (λ (w : ChineseWall). IsPolicyAfter c.args.policy (posts_in c.args.book.now.list) w)
      (sym c.after.ensures) (is_policy_after c.args.policy (posts_in c.args.book.now.list)
      c.in_ok-pairs.pairs.items c.in_ok-pairs.ensures.sound.posts c.in_ok-pairs.ensures.pairs),
)

pub returns-clause-keeps : goal.returns-clause-keeps
returns-clause-keeps c = λ older chain.
    chains_keep_the_wall older c.args.policy c.args.book.now.list c.processes.ensures.policy chain
    c.in_ok-pairs.ensures.sound
