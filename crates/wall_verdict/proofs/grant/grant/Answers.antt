use Rattle.std.proofs.Common.{◌≡◌, length, ◌∙◌, sym, ap, subst, refl, arith}
use Rattle.std.proofs.lemmas.Bool.{and_parts, false≢true}
use Rattle.std.specs.Prelude.{not, unwrap_or}
use Rattle.wall_rules.specs.Histories.{has}
use Rattle.wall_verdict.specs.Charges.{sanitised, contributed}
use Rattle.wall_verdict.specs.Inflows.{IsCollected}
use Rattle.wall_verdict.proofs.GrantLemmas.{under_none, under_all, under_more, under_kept}
use Rattle.wall_verdict.proofs.GrantLemmas.{may_enter}
use Rattle.wall_verdict.proofs.grant.grant.Goals.{then-not-has_all+in-Some}
use Rattle.wall_verdict.proofs.grant.grant.Goals.{then-not-has_all+in-None, else-not-has_all}
use Rattle.wall_verdict.proofs.grant.grant.Goals as goal

pub loop-to-init : goal.loop-to-init
loop-to-init c = record {
  pairs = under_none c.args.policy.now (has c.args.histories.now) c.args.roll.now;
  processes = refl;
  classes = refl;
  collected = c.requires.collected;
}

pub enter-requires : goal.enter-requires
enter-requires c =
    let classes : c.loop-to.histories.classes ≡ c.args.policy.now.classes =
    c.loop-to.invariant.classes ∙ c.requires.classes in
    rw classes (may_enter c.args.policy.now (has c.args.histories.now) c.args.roll.now
    c.size.ensures.group c.loop-to.to c.at-member.result c.at-member.ensures
    c.in-Some.datasets.now c.in-Some.ensures.some (has c.loop-to.histories)
    c.loop-to.invariant.pairs c.requires.apart)

pub loop-to-preserved : goal.loop-to-preserved
loop-to-preserved c =
    let wall = c.args.policy.now in
    let old = has c.args.histories.now in
    let roll = c.args.roll.now in
    let n = c.loop-to.to in
    let kept = under_kept wall old roll c.size.ensures.group n c.at-member.result
    c.at-member.ensures (has c.loop-to.histories) c.loop-to.invariant.pairs in
    elim c.if-not-has_all.branch [
      | then-not-has_all+in-Some w ↦ rw (w.histories-is, w.collected-is) (record {
        pairs = w.enter.ensures.pairs
            ∙ under_more wall old roll c.size.ensures.group n c.at-member.result
            c.at-member.ensures w.in-Some.datasets.now w.in-Some.ensures.some
            (has c.loop-to.histories) c.loop-to.invariant.pairs;
        processes = w.enter.ensures.processes ∙ c.loop-to.invariant.processes;
        classes = w.enter.ensures.classes ∙ c.loop-to.invariant.classes;
        collected = subst (λ classes. IsCollected classes roll
            (record { inflow = w.turn_to.new.self; labels = c.loop-to.collected.labels }))
            (sym w.enter.ensures.classes) (record {
              serves = w.turn_to.ensures.serves;
              labels = c.loop-to.invariant.collected.labels;
            });
      })
      | then-not-has_all+in-None w ↦ rw (w.histories-is, w.collected-is) (record {
        pairs = kept (λ d is. absurd (false≢true (sym (w.in-None.ensures.none refl d) ∙ is)));
        processes = c.loop-to.invariant.processes;
        classes = c.loop-to.invariant.classes;
        collected = record {
          serves = w.turn_to.ensures.serves;
          labels = c.loop-to.invariant.collected.labels;
        };
      })
      | else-not-has_all w ↦ rw (w.histories-is, w.collected-is) (record {
        pairs = kept (λ d is.
            ap (λ o. has c.loop-to.histories (unwrap_or o 0) d) (sym c.at-member.ensures)
            ∙ c.has_all.ensures w.if-not-has_all.false d
            (and_parts (not (sanitised wall roll n)) (contributed roll n d) is).1);
        processes = c.loop-to.invariant.processes;
        classes = c.loop-to.invariant.classes;
        collected = c.loop-to.invariant.collected;
      })
    ]

pub returns-clause-pairs : goal.returns-clause-pairs
returns-clause-pairs c =
    let members = c.requires.fit.sound.members in
    let done : c.loop-to.to ≡ length c.args.roll.now.members = omega (arith, members) in
    c.loop-to.invariant.pairs
    ∙ under_all c.args.policy.now (has c.args.histories.now) c.args.roll.now c.loop-to.to done
