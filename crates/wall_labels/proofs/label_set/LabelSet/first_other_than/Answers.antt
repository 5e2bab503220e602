use Rattle.std.proofs.Common.{ℕ, sym, ◌∙◌, arith}
use Rattle.std.proofs.lemmas.Bool.{and_parts}
use Rattle.wall_labels.specs.Limits.{dataset_limit}
use Rattle.wall_labels.specs.Rows.{is_set, differs}
use Rattle.wall_labels.proofs.RowLemmas.{held, held_below, some_then, none_then}
use Rattle.wall_labels.proofs.RowLemmas.{differs_is, member_is_given}
use Rattle.wall_labels.proofs.label_set.LabelSet.first_other_than.Goals as goal

pub returns : goal.returns
returns c =
    let words = c.self.inside.words in
    let other = c.args.other in
    let result = c.lowest_other.result in
    let is_held = held words c.args.self.now c.self.view_is in
    let parts = λ (d : ℕ). and_parts (is_set words d) (differs other d) in
    record {
      found =
          some_then result _ _ (λ d is. let both = parts d is in
          (is_held d ∙ both.0, differs_is other d both.1)) c.lowest_other.ensures.found;
      lowest =
          some_then result _ _ (λ d first e lt has.
          member_is_given (is_set words e) other e (first e lt) (sym (is_held e) ∙ has))
          c.lowest_other.ensures.lowest;
      members = held_below words c.args.self.now c.self.view_is dataset_limit (omega arith);
      none = none_then result _ _
          (λ no e has. member_is_given (is_set words e) other e (no e) (sym (is_held e) ∙ has))
          c.lowest_other.ensures.none;
    }
