use Rattle.std.proofs.Common.{◌+◌, ap, ◌∙◌, arith}
use Rattle.seal_stream.specs.declared.reading.Stage.TheVariants as stages
use Rattle.seal_stream.proofs.ReadingLemmas.{at_stage, judged_at, entry_read, none_is}
use Rattle.seal_stream.proofs.reading.take_entry.Goals as goal

pub returns : goal.returns
returns c = λ said line same is lines kept h.
    let wall = c.args.policy.now in
    let old = c.args.reading.now in
    let few = c.requires.few in
    let number = h.number in
    entry_read wall old _ lines kept line h c.requires.stage
    (c.judge-reading.ensures.stage ∙ c.requires.stage) said is
    (ap (λ n. n + 1) c.judge-reading.ensures.number) few c.is_none.result (none_is _ _ c.is_none.ensures)
    (c.judge-reading.ensures.judged h.entries said lines kept line h.number
    (omega (arith, few, number))
    (at_stage wall old old lines kept line h stages.Entry c.requires.stage)
    (judged_at wall old old lines kept line h stages.Entry c.requires.stage) same)
