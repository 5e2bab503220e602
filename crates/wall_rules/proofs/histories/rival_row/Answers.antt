use Rattle.std.proofs.Common.{◌≡◌, ◌∙◌, sym, subst, length, arith, ap, ◌+◌}
use Rattle.std.specs.FinSet.{insert}
use Rattle.wall_policy.specs.Rivals.{are_rivals}
use Rattle.wall_rules.proofs.RivalRowLemmas.{IsRowBelow, row_empty, row_more, row_same, row_whole}
use Rattle.wall_rules.proofs.histories.rival_row.Goals.{then-is_rival+in-Some, else-is_rival}
use Rattle.wall_rules.proofs.histories.rival_row.Goals as goal

pub loop-number-init : goal.loop-number-init
loop-number-init c = subst (λ s. IsRowBelow c.args.classes.now c.args.dataset 0 s)
    (sym c.empty-row.ensures) (row_empty c.args.classes.now c.args.dataset)

pub loop-number-preserved : goal.loop-number-preserved
loop-number-preserved c =
    let classes = c.args.classes.now in
    let d = c.args.dataset in
    let n = c.loop-number.number in
    let at : are_rivals classes d n ≡ c.is_rival.result = ap (λ e. are_rivals classes e n)
    (sym c.number-in-loop-number.ensures.value) ∙ sym c.is_rival.ensures in
    elim c.if-is_rival.branch [
      | then-is_rival+in-Some w ↦
          subst (λ s. IsRowBelow classes d (n + 1) s) (sym (w.row-is ∙ w.insert.ensures)) (
          subst (λ e. IsRowBelow classes d (n + 1) (insert c.loop-number.row e))
          (sym w.in-Some.ensures.value) (
          row_more classes d n c.loop-number.row (at ∙ w.if-is_rival.true)
          c.loop-number.invariant))
      | else-is_rival w ↦
          subst (λ s. IsRowBelow classes d (n + 1) s) (sym w.row-is) (row_same classes d n
          c.loop-number.row (at ∙ w.if-is_rival.false) c.loop-number.invariant)
    ]

pub returns : goal.returns
returns c d =
    let all : c.loop-number.number ≡ length c.args.classes.now = omega arith in
    row_whole c.args.classes.now c.args.dataset c.loop-number.row (subst
    (λ n. IsRowBelow c.args.classes.now c.args.dataset n c.loop-number.row) all
    c.loop-number.invariant) d
