use Rattle.std.proofs.Common.{sym, ◌∙◌, arith}
use Rattle.std.specs.FinSet.{contains}
use Rattle.wall_labels.specs.Limits.{dataset_limit}
use Rattle.wall_labels.proofs.RowLemmas.{contains-set_of_row, held_below, read_bit}
use Rattle.wall_labels.proofs.label_set.LabelSet.contains.Goals as goal

pub returns : goal.returns
returns c = record {
  value =
      read_bit c.self.inside.words c.number-number.result
      ∙ sym (contains-set_of_row c.self.inside.words c.number-number.result)
      ∙ (λ i. contains (c.self.view_is i) (c.number-number.ensures.value i));
  members =
      held_below c.self.inside.words c.args.self.now c.self.view_is dataset_limit (omega arith);
}
