use Rattle.std.proofs.Common.{◌∙◌, ap, map, length}
use Rattle.std.specs.Prelude.{unwrap_or}
use Rattle.mpi_elems.specs.declared.elem_type.ElemType.TheVariants.{Int8}
use Rattle.mpi_elems.specs.Contents.{Contents}
use Rattle.coll_values.specs.Rooms.{sizes}
use Rattle.coll_values.proofs.RoomLemmas.{lines_are, rooms_are, count_lines, some_place}
use Rattle.coll_values.proofs.filling.room.Goals as goal

pub returns-in_err-blocks-clause-memory : goal.returns-in_err-blocks-clause-memory
returns-in_err-blocks-clause-memory c =
    let o = c.in_ok-lines.lines.ok in
    λ _. some_place c.len.result _ (c.len.ensures
    ∙ (o.0
    ∙ (ap length c.in_ok-lines.ensures.made
    ∙ count_lines c.args.full.now c.args.rank c.unwrap_or-elem_type.result)))
    (λ z. let bad = c.in_err-blocks.ensures.succeeds z in absurd (cc))

pub room_of-requires-clause-lines : goal.room_of-requires-clause-lines
room_of-requires-clause-lines c = rw c.in_ok-lines.ensures.made
    (lines_are c.unwrap_or-elem_type.result (sizes c.args.full.now c.args.rank))

pub returns-clause-made : goal.returns-clause-made
returns-clause-made c =
    let kind = c.room_of.ensures.kind ∙
    (c.unwrap_or-elem_type.ensures ∙ ap (λ o. unwrap_or o Int8) c.elem_type.ensures) in
    let sizes = c.room_of.ensures.sizes ∙ (ap (map (λ (line : Contents). line.room))
    c.in_ok-lines.ensures.made
    ∙ rooms_are c.unwrap_or-elem_type.result (sizes c.args.full.now c.args.rank)) in
    let filled = c.room_of.ensures.filled ∙ c.in_ok-blocks.ensures.items in
    λ i. record { elem_type = kind i; sizes = sizes i; filled = filled i }
