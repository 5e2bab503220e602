use Rattle.std.proofs.Common.{ap, ◌∙◌, sym}
use Rattle.std.specs.Ordering.{nat_cmp}
use Rattle.std.specs.FinSet.{contains, contains-empty}
use Rattle.wall_verdict.proofs.MeetLemmas.{sanitised_charges_none}
use Rattle.wall_verdict.proofs.charge.charged.Goals as goal

pub returns-then-sanitised : goal.returns-then-sanitised
returns-then-sanitised c = λ d. ap (λ s. contains s d) c.empty.ensures
    ∙ (contains-empty nat_cmp d
    ∙ sym (sanitised_charges_none c.args.policy.now c.args.roll.now c.args.rank d
    (sym c.if-sanitised.ensures)))
