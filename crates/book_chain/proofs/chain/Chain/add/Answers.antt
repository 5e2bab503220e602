use Rattle.std.proofs.Common.{List, ◌∷◌, sym, subst, arith}
use Rattle.wall_policy.specs.Policy.{ChineseWall, first_processes}
use Rattle.run_model.specs.Chains.{Link, NobodyEverHeldBoth}
use Rattle.book_chain.specs.Chain.{ChainValue, IsChainValue, IsHeldBelow, IsAdded, StandsFor}
use Rattle.book_chain.proofs.StandLemmas.{pairs_below, can_be_held, below_more, one_more, added}
use Rattle.book_chain.proofs.StandLemmas.{still_kept}
use Rattle.book_chain.proofs.chain.Chain.add.Goals as goal

-- what was held before was held by the processes under which the book is read
below : (c : goal.After-after) → IsHeldBelow c.in_ok-number.field-0.number c.self.inside.policy
below c =
    below_more c.self.inside.least c.in_ok-number.field-0.number c.self.inside.policy
    c.in_ok-number.ensures.number.from c.self.invariant.below

pub after-requires : goal.after-requires
after-requires c =
    can_be_held c.in_ok-number.field-0.number c.self.inside.policy c.args.book.now.list
    c.in_ok-number.field-0.pairs.items c.processes.ensures.policy
    (below_more c.self.inside.least c.in_ok-number.field-0.number c.self.inside.policy
    c.in_ok-number.ensures.number.from c.self.invariant.below)
    c.in_ok-number.ensures.held

pub invariant_of-result : goal.invariant_of-result
invariant_of-result c =
    let n = c.in_ok-number.field-0.number in
    let number = c.in_ok-number.ensures.number in
    subst (λ (w : ChineseWall). IsChainValue (record { wall = w; least = n })) (sym c.after.ensures)
    (record {
      some = omega (arith, number.from, c.self.invariant.some);
      few = number.to;
      below = pairs_below n c.self.inside.policy c.args.book.now.list
          c.in_ok-number.field-0.pairs.items c.processes.ensures.policy (below c)
          c.in_ok-number.ensures.held;
    })

pub returns-clause-added : goal.returns-clause-added
returns-clause-added c =
    let n = c.in_ok-number.field-0.number in
    let book = c.args.book.now.list in
    let was : ChainValue =
    record { wall = c.self.inside.policy; least = c.self.inside.least } in
    subst (λ (v : ChainValue). IsAdded v book (record { wall = c.after.result; least = n }))
    c.self.view_is
    (subst (λ (w : ChineseWall). IsAdded was book (record { wall = w; least = n }))
    (sym c.after.ensures)
    (added n was book c.in_ok-number.field-0.pairs.items c.in_ok-number.ensures.number
    c.in_ok-number.ensures.held))

pub returns-clause-stands : goal.returns-clause-stands
returns-clause-stands c =
    let n = c.in_ok-number.field-0.number in
    let book = c.args.book.now.list in
    let was : ChainValue =
    record { wall = c.self.inside.policy; least = c.self.inside.least } in
    subst (λ (v : ChainValue). (older : List Link) → StandsFor v older →
    StandsFor (record { wall = c.after.result; least = n })
    (record { wall = first_processes n v.wall; book = book } ∷ older)) c.self.view_is
    (λ older stands. subst (λ (w : ChineseWall). StandsFor (record { wall = w; least = n })
    (record { wall = first_processes n was.wall; book = book } ∷ older)) (sym c.after.ensures)
    (one_more n was book c.in_ok-number.field-0.pairs.items older
    c.in_ok-number.ensures.number.from (below c) c.in_ok-number.ensures.number.fits.sound
    c.in_ok-number.ensures.held stands))

pub returns-clause-keeps : goal.returns-clause-keeps
returns-clause-keeps c =
    let n = c.in_ok-number.field-0.number in
    let book = c.args.book.now.list in
    let number = c.in_ok-number.ensures.number in
    let was : ChainValue =
    record { wall = c.self.inside.policy; least = c.self.inside.least } in
    subst (λ (v : ChainValue). (older : List Link) → StandsFor v older →
    NobodyEverHeldBoth v.wall.classes
    (record { wall = first_processes n v.wall; book = book } ∷ older)) c.self.view_is
    (λ older stands. still_kept n was book older
    (omega (arith, number.from, c.self.invariant.some)) number.from c.processes.ensures.policy
    (below c) number.fits.sound stands)
