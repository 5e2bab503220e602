use Rattle.std.proofs.Common.{[], ◌∷◌, ◌++◌, take, ap, ◌∙◌, append_assoc}
use Rattle.coll_values.specs.Stretches.{block_along}
use Rattle.coll_values.specs.Values.{value}
use Rattle.coll_text.proofs.CollTextLemmas.{prefix_behind}
use Rattle.hall_script.specs.Replies.{block_text, blocks_text}
use Rattle.hall_script.proofs.CopyLemmas.{block_more}
use Rattle.hall_script.proofs.copies.put_copies.Goals as goal

pub returns-in_err-put_stretch-clause-prefix : goal.returns-in_err-put_stretch-clause-prefix
returns-in_err-put_stretch-clause-prefix c =
    let old = c.args.line.now.items in
    let so_far = blocks_text (take c.loop-place.place (value c.args.full.now c.args.rank)) in
    prefix_behind old c.put.new.text.items c.put_stretch.new.line.items (so_far ++ 32 ∷ [])
    (c.in_ok-put.ensures.ok ∙ ap (λ t. t ++ 32 ∷ []) c.loop-place.invariant
    ∙ append_assoc old so_far (32 ∷ []))
    c.put_stretch.ensures.prefix

pub loop-place-preserved : goal.loop-place-preserved
loop-place-preserved c =
    let block = block_along c.args.full.now c.stretch_at.result in
    c.in_ok-put_stretch.ensures.ok
    ∙ (ap (λ t. t ++ block_text block) c.in_ok-put.ensures.ok
    ∙ block_more c.args.line.now.items c.loop-place.line.items
    (value c.args.full.now c.args.rank) c.loop-place.place block c.loop-place.invariant
    c.stretch_at.ensures.block)
