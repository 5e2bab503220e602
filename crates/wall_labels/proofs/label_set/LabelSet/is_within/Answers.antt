use Rattle.std.proofs.Common.{not, ap, sym, ◌∙◌}
use Rattle.std.proofs.lemmas.Bool.{false≢true, not-false}
use Rattle.wall_labels.specs.Rows.{is_set}
use Rattle.wall_labels.proofs.RowLemmas.{held, missing_is, none_missing, is_none_unless, none_is}
use Rattle.wall_labels.proofs.label_set.LabelSet.is_within.Goals as goal

pub returns : goal.returns
returns c =
    let words = c.self.inside.words in
    let others = c.other.inside.words in
    let s = held words c.args.self.now c.self.view_is in
    let o = held others c.args.other.now c.other.view_is in
    let found = c.lowest_missing.result in (
      λ is d has.
          o d
          ∙ none_missing (is_set words d) (is_set others d)
          (none_is found _ (c.is_none.ensures ∙ ap not is) c.lowest_missing.ensures.none d)
          (sym (s d) ∙ has),
      λ within.
          not-false c.is_none.result
          (sym c.is_none.ensures ∙ is_none_unless found _ c.lowest_missing.ensures.found (λ d is.
          let both = missing_is (is_set words d) (is_set others d) is in
          false≢true (sym both.1 ∙ (sym (o d) ∙ within d (s d ∙ both.0))))),
    )
