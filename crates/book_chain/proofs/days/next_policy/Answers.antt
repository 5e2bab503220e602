use Rattle.std.proofs.Common.{◌≡◌, List, [], ap, sym, subst, ◌∙◌}
use Rattle.wall_policy.specs.Policy.{ChineseWall, CanBeHeld, with_held}
use Rattle.run_model.specs.Chains.{IsChain}
use Rattle.book_chain.proofs.DayLemmas.{can_go_on, chain_goes_on}
use Rattle.book_chain.proofs.days.next_policy.Goals as goal

pub after-requires : goal.after-requires
after-requires c =
    let same : c.in-Ok-from_slice.held.items ≡ c.args.after.now.held =
    c.in-Ok-from_slice.ensures.items ∙ c.held.ensures.pairs in
    subst (CanBeHeld c.in-Ok.grown) (sym same)
    (can_go_on c.args.after.now c.in-Ok.grown c.processes.ensures.policy
    (ap (λ (w : ChineseWall). w.held) c.in-Ok.ensures.grown) c.in-Ok.ensures.grew)

pub returns-in-Ok-from_slice-clause-chain : goal.returns-in-Ok-from_slice-clause-chain
returns-in-Ok-from_slice-clause-chain c links chain =
    let same : c.in-Ok-from_slice.held.items ≡ c.args.after.now.held =
    c.in-Ok-from_slice.ensures.items ∙ c.held.ensures.pairs in
    subst (IsChain links) (sym (c.after.ensures ∙ ap (with_held c.in-Ok.grown) same))
    (chain_goes_on links c.args.after.now c.in-Ok.grown c.in-Ok.ensures.grew chain)
