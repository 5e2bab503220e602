use Rattle.std.proofs.Common.{◌∙◌, ap, sym, Some, ℤ, List}
use Rattle.coll_values.specs.declared.delivery.Block.TheVariants.{Numbers}
use Rattle.coll_values.proofs.SourceLemmas.{none_there, some_there}
use Rattle.coll_values.proofs.StretchLemmas.{block_at}
use Rattle.coll_values.proofs.stretch.stretch_at.Goals as goal

pub returns-in-Some-clause-block : goal.returns-in-Some-clause-block
returns-in-Some-clause-block c =
    block_at c.args.full.now c.args.rank c.args.place _ c.requires.place
    (some_there c.args.full.now c.args.rank c.args.place c.requires.copies c.in-Some.source
    c.requires.whole c.in-Some.ensures.from c.in-Some.ensures.comes c.in-Some.ensures.within
    c.in-Some.ensures.missing)
    ∙ ap (λ (ns : List ℤ). Some (Numbers ns)) (sym c.along.ensures.numbers)

pub returns-in-None-clause-block : goal.returns-in-None-clause-block
returns-in-None-clause-block c =
    block_at c.args.full.now c.args.rank c.args.place _ c.requires.place
    (none_there c.args.full.now c.args.rank c.args.place c.requires.copies
    c.in-None.ensures.missing)
