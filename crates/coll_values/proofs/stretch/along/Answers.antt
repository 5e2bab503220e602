use Rattle.std.proofs.Common.{◌≡◌, true, false}
use Rattle.mpi_elems.specs.Types.{is_pair}
use Rattle.coll_values.proofs.StretchLemmas.{single_is_along, pairs_are_along, single_numbers}
use Rattle.coll_values.proofs.StretchLemmas.{pairs_numbers}
use Rattle.coll_values.proofs.stretch.along.Goals as goal

pub returns-then-is_pair-clause-along : goal.returns-then-is_pair-clause-along
returns-then-is_pair-clause-along c =
    let e : is_pair c.get-part.result.now.elem_type ≡ true = cc in
    pairs_are_along c.args.full.now c.args.source.from c.get-part.result.now c.requires.whole
    c.requires.from c.get-part.ensures c.elem_type.ensures.fit c.args.source.piece.start
    c.args.source.piece.len c.requires.within e

pub returns-then-is_pair-clause-numbers : goal.returns-then-is_pair-clause-numbers
returns-then-is_pair-clause-numbers c =
    let e : is_pair c.get-part.result.now.elem_type ≡ true = cc in
    pairs_numbers c.args.full.now c.args.source.from c.get-part.result.now c.requires.whole
    c.requires.from c.get-part.ensures c.elem_type.ensures.fit c.args.source.piece.start
    c.args.source.piece.len c.requires.within e

pub returns-else-is_pair-clause-along : goal.returns-else-is_pair-clause-along
returns-else-is_pair-clause-along c =
    let e : is_pair c.get-part.result.now.elem_type ≡ false = cc in
    single_is_along c.args.full.now c.args.source.from c.get-part.result.now c.requires.whole
    c.requires.from c.get-part.ensures c.elem_type.ensures.fit c.args.source.piece.start
    c.args.source.piece.len c.requires.within e

pub returns-else-is_pair-clause-numbers : goal.returns-else-is_pair-clause-numbers
returns-else-is_pair-clause-numbers c =
    let e : is_pair c.get-part.result.now.elem_type ≡ false = cc in
    single_numbers c.args.full.now c.args.source.from c.get-part.result.now c.requires.whole
    c.requires.from c.get-part.ensures c.elem_type.ensures.fit c.args.source.piece.start
    c.args.source.piece.len c.requires.within e
