use Rattle.std.proofs.Common.{◌∙◌, ap, sym, arith, Option, List, ℤ}
use Rattle.wall_labels.specs.declared.op.Op.{Op}
use Rattle.coll_values.specs.declared.delivery.Block.TheVariants.{Numbers}
use Rattle.coll_values.specs.Values.{sent, block_by, block_of}
use Rattle.coll_values.specs.Rooms.{size_of}
use Rattle.coll_values.proofs.FoldLemmas.{length_reduced}
use Rattle.coll_values.proofs.SourceLemmas.{some_there, size_there}
use Rattle.coll_values.proofs.filling.fill_place.Goals as goal

pub fill_reduced-requires-clause-room : goal.fill_reduced-requires-clause-room
fill_reduced-requires-clause-room c =
    let wide = ap (λ (o : Option Op). size_of (block_by o c.args.full.now.roll
    (λ i t. sent c.args.full.now i c.args.to t) c.args.to c.args.place))
    (sym c.in-Some.ensures) ∙ length_reduced c.in-Some.op c.args.full.now.roll
    (λ i t. sent c.args.full.now i c.args.to t) in
    let enough = c.requires.room in
    omega arith

pub fill_copied-requires-clause-room : goal.fill_copied-requires-clause-room
fill_copied-requires-clause-room c =
    let size = size_there c.args.full.now c.args.to c.args.place (sym c.in-None.ensures)
    c.in-Some-source.source c.requires.whole c.in-Some-source.ensures.from
    c.in-Some-source.ensures.comes c.in-Some-source.ensures.within
    c.in-Some-source.ensures.missing in
    let enough = c.requires.room in
    omega arith

pub returns-in-Some-source : goal.returns-in-Some-source
returns-in-Some-source c =
    ap (λ (ns : List ℤ). Numbers ns) (c.from-in-Some-source.ensures ∙ c.fill_copied.ensures)
    ∙ ap block_of (sym (some_there c.args.full.now c.args.to c.args.place (sym c.in-None.ensures)
    c.in-Some-source.source c.requires.whole c.in-Some-source.ensures.from
    c.in-Some-source.ensures.comes c.in-Some-source.ensures.within
    c.in-Some-source.ensures.missing))
