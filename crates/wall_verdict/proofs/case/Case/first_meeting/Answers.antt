use Rattle.std.proofs.Common.{ℕ, ◌+◌, ap, ◌∙◌, refl, subst, sym}
use Rattle.std.specs.Ordering.{nat_cmp}
use Rattle.std.specs.FinSet.{contains, contains-empty}
use Rattle.wall_rules.specs.Histories.{has}
use Rattle.wall_rules.specs.Rules.{HoldsNoRivals, joined}
use Rattle.wall_rules.proofs.WallRulesLemmas.{no_rivals-empty}
use Rattle.wall_verdict.specs.Charges.{contribution}
use Rattle.wall_verdict.specs.Verdicts.{meets}
use Rattle.wall_verdict.proofs.BelowLemmas.{find_none_more}
use Rattle.wall_verdict.proofs.ChargeLemmas.{AreBrought, brought_more, brought_same}
use Rattle.wall_verdict.proofs.MeetLemmas.{meets_is, meets_none, stays_apart}
use Rattle.wall_verdict.proofs.case.Case.first_meeting.Goals.{in-Some+else-clashes, in-None}
use Rattle.wall_verdict.proofs.case.Case.first_meeting.Goals as goal

pub loop-from-init : goal.loop-from-init
loop-from-init c =
    let classes = c.args.self.now.histories.now.classes in
    let held = has c.args.self.now.histories.now c.at-receiver.result in
    record {
      brought = λ q. ap (λ s. contains s q) c.empty-held.ensures ∙ contains-empty nat_cmp q;
      apart = subst (λ s. HoldsNoRivals classes (joined held s)) (sym c.empty-held.ensures)
          (no_rivals-empty classes held (c.keep_apart.ensures c.at-receiver.result));
      none = refl;
    }

pub loop-from-preserved : goal.loop-from-preserved
loop-from-preserved c =
    let classes = c.args.self.now.histories.now.classes in
    let history = has c.args.self.now.histories.now in
    let roll = c.args.self.now.roll.now in
    let held = history c.at-receiver.result in
    let brings = λ (i : ℕ). contribution roll i c.args.to in
    let meeting = meets classes history roll c.args.to in
    elim c.match-contribution.branch [
      | in-Some+else-clashes w ↦
          let is = sym (w.held-is ∙ w.insert.ensures) in
          let clear = sym w.clashes.ensures ∙ w.if-clashes.false in
          record {
            brought = subst (λ s. AreBrought brings (c.loop-from.from + 1) s) is
                (brought_more brings c.loop-from.from w.in-Some.dataset c.loop-from.held
                (sym w.in-Some.ensures) c.loop-from.invariant.brought);
            apart = subst (λ s. HoldsNoRivals classes (joined held s)) is
                (stays_apart classes held c.loop-from.held w.in-Some.dataset
                c.loop-from.invariant.apart clear);
            none = find_none_more meeting c.loop-from.from c.loop-from.invariant.none
                (meets_is classes history roll c.args.to c.loop-from.from
                c.at-receiver.result w.in-Some.dataset c.loop-from.held
                c.at-receiver.ensures (sym w.in-Some.ensures) c.loop-from.invariant.brought
                ∙ clear);
          }
      | in-None w ↦
          let is = sym w.held-is in
          record {
            brought = subst (λ s. AreBrought brings (c.loop-from.from + 1) s) is
                (brought_same brings c.loop-from.from c.loop-from.held (sym w.in-None.ensures)
                c.loop-from.invariant.brought);
            apart =
                subst (λ s. HoldsNoRivals classes (joined held s)) is c.loop-from.invariant.apart;
            none = find_none_more meeting c.loop-from.from c.loop-from.invariant.none
                (meets_none classes history roll c.args.to c.loop-from.from
                (sym w.in-None.ensures));
          }
    ]
