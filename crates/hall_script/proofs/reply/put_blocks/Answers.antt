use Rattle.std.proofs.Common.{[], ◌∷◌, ◌++◌, take, ap, ◌∙◌, append_assoc}
use Rattle.coll_text.proofs.CollTextLemmas.{prefix_behind}
use Rattle.hall_script.specs.Replies.{blocks_text}
use Rattle.hall_script.proofs.reply.put_blocks.Goals as goal

pub returns-in_err-put_block-clause-prefix : goal.returns-in_err-put_block-clause-prefix
returns-in_err-put_block-clause-prefix c =
    let old = c.args.line.now.items in
    let so_far = blocks_text (take c.loop-block.block-index c.args.blocks.now) in
    prefix_behind old c.put.new.text.items c.put_block.new.line.items (so_far ++ 32 ∷ [])
    (c.in_ok-put.ensures.ok ∙ ap (λ t. t ++ 32 ∷ []) c.loop-block.invariant
    ∙ append_assoc old so_far (32 ∷ []))
    c.put_block.ensures.prefix
