use Rattle.std.proofs.Common.{◌≡◌, true, below_more, arith}
use Rattle.book_report.specs.Walk.{knows, AtRank, OfCharges}
use Rattle.book_report.proofs.KnownLemmas.{fresh_before}
use Rattle.book_report.proofs.GrantLemmas.{charged_member, member_charged}
use Rattle.book_report.proofs.grant.add_grant.Goals as goal

pub loop-to-init : goal.loop-to-init
loop-to-init c = record {
  added = record { known = c.requires.known; grows = λ p d h. h };
  there = λ j low. absurd (omega arith);
}

pub add_charges-requires-clause-to : goal.add_charges-requires-clause-to
add_charges-requires-clause-to c =
    let members = c.requires.granted.fit.sound.members in
    let size = c.size-to-end.ensures.value in
    let low = c.loop-to-test.true in
    omega (arith, members, size, low)

pub add_charges-requires-clause-new : goal.add_charges-requires-clause-new
add_charges-requires-clause-new c = λ d charge p at fresh.
    let it = c.args.instance.now in
    c.requires.new p d
    (charged_member it.place.policy.now it.roll.now c.loop-to.to p d c.size-to-end.ensures.group
    at charge)
    (fresh_before c.args.known.now c.loop-to.known p d c.loop-to.invariant.added.grows fresh)

pub loop-to-preserved : goal.loop-to-preserved
loop-to-preserved c =
    let loop = c.loop-to.invariant in
    let more = c.in_ok-add_charges.ensures in
    let it = c.args.instance.now in
    record {
      added = record {
        known = more.added.known;
        grows = λ p d h. more.added.grows p d (loop.added.grows p d h);
      };
      there = below_more
          (λ j. OfCharges it j (λ d. AtRank it j (λ p. knows c.add_charges.new.known p d ≡ true)))
          c.loop-to.to
          (λ j low d charge p at. more.added.grows p d (loop.there j low d charge p at))
          more.there;
    }

pub returns : goal.returns
returns c = record {
  added = c.loop-to.invariant.added;
  there = λ p d charge.
      let it = c.args.instance.now in
      let one = member_charged it.place.policy.now it.roll.now p d charge in
      let low = one.1 in
      let size = c.size-to-end.ensures.value in
      c.loop-to.invariant.there one.0 (omega (arith, size, low)) d one.3 p one.2;
}
