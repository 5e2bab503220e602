use Rattle.std.proofs.Common.{ℕ, inl, sym, ◌∙◌, arith}
use Rattle.wall_labels.proofs.RowLemmas.{held, some_is, is_some_unless, shared_is, is_shared}
use Rattle.wall_labels.proofs.RowLemmas.{members_in_one, none_in_either, either_is}
use Rattle.wall_labels.proofs.label_set.LabelSet.meets.Goals as goal

pub lowest_shared-requires : goal.lowest_shared-requires
lowest_shared-requires c = record {
  within = let h = c.self.invariant.within in omega (arith, c.min-used.ensures);
  clear =
      none_in_either c.self.inside.words c.other.inside.words c.self.inside.used c.other.inside.used
      c.min-used.result c.min-used.ensures c.self.invariant c.other.invariant;
}

pub returns : goal.returns
returns c =
    let s = held c.self.inside.words c.args.self.now c.self.view_is in
    let o = held c.other.inside.words c.args.other.now c.other.view_is in
    let words = λ (k : ℕ). members_in_one (s k) (o k) (o k) in (
      λ is.
          let found = some_is c.lowest_shared.result _ (sym c.is_some.ensures ∙ is)
          c.lowest_shared.ensures.found in
          let both = shared_is _ _ _ (words found.0 ∙ found.1) in
          (found.0, both.0, either_is both.1),
      λ shared.
          c.is_some.ensures ∙ is_some_unless c.lowest_shared.result _ c.lowest_shared.ensures.none (
          λ no. is_shared _ _ _ (words shared.0 ∙ no shared.0) (shared.1, inl shared.2)
          ),
    )
