use Rattle.std.proofs.Common.{◌+◌, ap, arith, length, slice_range}
use Rattle.coll_values.specs.Instances.{elements_in}
use Rattle.coll_values.specs.Stretches.{elements_from}
use Rattle.coll_values.proofs.NumberLemmas.{no_elements, filled_by}
use Rattle.coll_values.proofs.SentLemmas.{type_of, part_has}
use Rattle.coll_values.proofs.filling.fill_copied.Goals as goal

pub append_range-requires-clause-one_type : goal.append_range-requires-clause-one_type
append_range-requires-clause-one_type c = type_of c.args.full.now c.args.source.from
    c.get-part.result.now c.args.line.now.elem_type c.requires.whole c.get-part.ensures
    c.requires.one_type

pub append_range-requires-clause-within : goal.append_range-requires-clause-within
append_range-requires-clause-within c =
    let has = part_has c.args.full.now c.args.source.from c.get-part.result.now c.requires.whole
    c.get-part.ensures in
    let within = c.requires.within in
    omega arith

pub append_range-requires-clause-room : goal.append_range-requires-clause-room
append_range-requires-clause-room c =
    let none = ap length (no_elements c.args.line.now c.requires.empty) in
    let enough = c.requires.room in
    omega arith

pub returns : goal.returns
returns c =
    filled_by c.args.line.now c.append_range.new.self
    (elements_from c.args.full.now c.args.source) _ c.requires.empty c.append_range.ensures.elements
    c.append_range.ensures.fit
    (ap (λ o. slice_range (elements_in o) c.args.source.piece.start
    (c.args.source.piece.start + c.args.source.piece.len)) c.get-part.ensures)
