use Rattle.std.proofs.Common.{◌∙◌, ap, sym, Option}
use Rattle.wall_labels.specs.declared.op.Op.{Op}
use Rattle.coll_values.specs.Values.{sent, block_by}
use Rattle.coll_values.specs.Rooms.{size_of}
use Rattle.coll_values.proofs.FoldLemmas.{length_reduced}
use Rattle.coll_values.proofs.SourceLemmas.{size_there}
use Rattle.coll_values.proofs.sizes.size_at.Goals as goal

pub returns-in-Some : goal.returns-in-Some
returns-in-Some c =
    c.widest.ensures
    ∙ (sym (length_reduced c.in-Some.field-0 c.args.full.now.roll
    (λ i t. sent c.args.full.now i c.args.to t))
    ∙ ap (λ (o : Option Op). size_of (block_by o c.args.full.now.roll
    (λ i t. sent c.args.full.now i c.args.to t) c.args.to c.args.place))
    c.in-Some.ensures)

pub returns-in-Some-source : goal.returns-in-Some-source
returns-in-Some-source c =
    size_there c.args.full.now c.args.to c.args.place (sym c.in-None.ensures)
    c.in-Some-source.source c.requires.whole c.in-Some-source.ensures.from
    c.in-Some-source.ensures.comes c.in-Some-source.ensures.within
    c.in-Some-source.ensures.missing
