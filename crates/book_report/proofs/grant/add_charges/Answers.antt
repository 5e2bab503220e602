use Rattle.std.proofs.Common.{◌≡◌, true, sym, ◌∙◌, subst, below_more, arith}
use Rattle.std.proofs.lemmas.Bool.{false≢true}
use Rattle.wall_verdict.specs.Charges.{charged}
use Rattle.book_report.specs.Walk.{knows, AtRank}
use Rattle.book_report.proofs.KnownLemmas.{fresh_before}
use Rattle.book_report.proofs.grant.add_charges.Goals as goal

pub returns-then-is_empty : goal.returns-then-is_empty
returns-then-is_empty c = record {
  added = record { known = c.requires.known; grows = λ p d h. h };
  there = λ d charge. absurd (false≢true (sym (c.is_empty.ensures.empty c.if-is_empty.true d)
      ∙ (c.charged-charges.ensures d ∙ charge)));
}

pub loop-number-init : goal.loop-number-init
loop-number-init c = record {
  added = record { known = c.requires.known; grows = λ p d h. h };
  there = λ d low. absurd (omega arith);
}

pub add_charge-requires-clause-charge : goal.add_charge-requires-clause-charge
add_charge-requires-clause-charge c =
    sym (c.charged-charges.ensures c.in-Some.dataset)
    ∙ (sym c.contains.ensures.value ∙ c.if-not-contains.false)

pub add_charge-requires-clause-new : goal.add_charge-requires-clause-new
add_charge-requires-clause-new c = λ p at fresh.
    c.requires.new c.in-Some.dataset
    (sym (c.charged-charges.ensures c.in-Some.dataset)
    ∙ (sym c.contains.ensures.value ∙ c.if-not-contains.false)) p at
    (fresh_before c.args.known.now c.loop-number.known p c.in-Some.dataset
    c.loop-number.invariant.added.grows fresh)

pub loop-number-preserved-then-not-contains : goal.loop-number-preserved-then-not-contains
loop-number-preserved-then-not-contains c =
    let loop = c.loop-number.invariant in
    let it = c.args.instance.now in
    record {
      added = loop.added;
      there = below_more
          (λ d. charged it.place.policy.now it.roll.now c.args.to d ≡ true →
          AtRank it c.args.to (λ p. knows c.loop-number.known p d ≡ true))
          c.loop-number.number loop.there
          (subst (λ d. charged it.place.policy.now it.roll.now c.args.to d ≡ true →
          AtRank it c.args.to (λ p. knows c.loop-number.known p d ≡ true))
          c.in-Some.ensures.value
          (λ charge. absurd (false≢true (sym c.if-not-contains.true
          ∙ (c.contains.ensures.value
          ∙ (c.charged-charges.ensures c.in-Some.dataset ∙ charge))))));
    }

pub loop-number-preserved : goal.loop-number-preserved
loop-number-preserved c =
    let loop = c.loop-number.invariant in
    let more = c.in_ok-add_charge.ensures in
    let it = c.args.instance.now in
    record {
      added = record {
        known = more.added.known;
        grows = λ p d h. more.added.grows p d (loop.added.grows p d h);
      };
      there = below_more
          (λ d. charged it.place.policy.now it.roll.now c.args.to d ≡ true →
          AtRank it c.args.to (λ p. knows c.add_charge.new.known p d ≡ true))
          c.loop-number.number
          (λ d low charge p at. more.added.grows p d (loop.there d low charge p at))
          (subst (λ d. charged it.place.policy.now it.roll.now c.args.to d ≡ true →
          AtRank it c.args.to (λ p. knows c.add_charge.new.known p d ≡ true))
          c.in-Some.ensures.value (λ charge. more.there));
    }

pub returns : goal.returns
returns c = record {
  added = c.loop-number.invariant.added;
  there = λ d charge.
      let low = c.is_empty.ensures.members d (c.charged-charges.ensures d ∙ charge) in
      c.loop-number.invariant.there d (omega (arith, low)) charge;
}
