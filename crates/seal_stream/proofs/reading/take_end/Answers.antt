use Rattle.std.proofs.Common.{◌≡◌, refl, arith}
use Rattle.seal_stream.specs.declared.reading.Stage.TheVariants as stages
use Rattle.seal_stream.proofs.ReadingLemmas.{at_stage, judged_at, end_read, end_is, other_stops}
use Rattle.seal_stream.proofs.reading.take_end.Goals as goal

pub returns-then-number-reading-clause-stop : goal.returns-then-number-reading-clause-stop
returns-then-number-reading-clause-stop c = λ line said lines kept h.
    let old = c.args.reading.now in
    other_stops c.args.policy.now old old lines kept line h c.requires.stage
    c.args.number (λ same. let other = c.if-number-reading.true in omega (arith, other, same)) said

pub returns-clause-taken : goal.returns-clause-taken
returns-clause-taken c = λ line said lines kept h.
    let wall = c.args.policy.now in
    let old = c.args.reading.now in
    let other = c.if-number-reading.false in
    let same : c.args.number ≡ old.entries = omega (arith, other) in
    end_read wall old _ lines kept line h c.requires.stage refl refl refl c.args.number same said
    (c.fault_at_end-reading.ensures h.entries lines kept line h.number
    (at_stage wall old old lines kept line h stages.Entry c.requires.stage)
    (judged_at wall old old lines kept line h stages.Entry c.requires.stage)
    (end_is wall old old lines kept line h c.args.number same said))
