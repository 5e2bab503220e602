use Rattle.std.proofs.Common.{◌&&◌, ◌||◌, ℕ, ap, ◌∙◌, arith}
use Rattle.wall_labels.specs.Rows.{is_set, IsShared}
use Rattle.wall_labels.proofs.RowLemmas.{held, some_then, none_then, both_some, shared_is}
use Rattle.wall_labels.proofs.RowLemmas.{is_shared, and_false, members_in_one}
use Rattle.wall_labels.proofs.label_set.LabelSet.first_shared.Goals as goal

pub returns : goal.returns
returns c =
    let s = held c.self.inside.words c.args.self.now c.self.view_is in
    let l = held c.left.inside.words c.args.left.now c.left.view_is in
    let r = held c.right.inside.words c.args.right.now c.right.view_is in
    let found = c.lowest_shared.result in
    let words = λ (k : ℕ). members_in_one (s k) (l k) (r k) in
    record {
      lowest =
          both_some found (IsShared c.args.self.now c.args.left.now c.args.right.now) _ (
          some_then found _ _ (λ d is. shared_is _ _ _ (words d ∙ is)) c.lowest_shared.ensures.found
          ) (
          some_then found _ _ (λ d first e lt. is_shared _ _ _ (words e ∙ first e lt))
          c.lowest_shared.ensures.lowest
          );
      none = none_then found _ _ (λ none e. is_shared _ _ _ (words e ∙ none e))
          c.lowest_shared.ensures.none;
    }

pub lowest_shared-requires : goal.lowest_shared-requires
lowest_shared-requires c = record {
  within = let h = c.self.invariant.within in omega arith;
  clear = λ k past. ap (λ b. (is_set c.left.inside.words k || is_set c.right.inside.words k) && b)
      (c.self.invariant.clear k past) ∙ and_false _;
}
