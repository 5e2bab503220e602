use Rattle.std.proofs.Common.{◌+◌, ◌-◌, ◌∙◌, arith}
use Rattle.check_text.proofs.WalkLemmas.{one_more, behind}
use Rattle.check_text.proofs.script.take_line.Goals as goal

pub loop-preserved : goal.loop-preserved
loop-preserved c =
    let low = c.loop.auto.counter in
    c.next_part.ensures.rest
    ∙ one_more c.args.lines.now c.loop.lines (c.loop.counter - (c.args.passed + 1))
    (c.loop.counter + 1 - (c.args.passed + 1)) c.loop.invariant (omega arith)

pub returns-clause-rest : goal.returns-clause-rest
returns-clause-rest c =
    let before = c.requires in
    let high = c.loop.auto.counter-end (omega arith) in
    let all = c.loop-test.false in
    c.next_part-2.ensures.rest
    ∙ one_more c.args.lines.now c.loop.lines (c.loop.counter - (c.args.passed + 1))
    (c.args.number - c.args.passed) c.loop.invariant (omega arith)

pub returns-clause-line : goal.returns-clause-line
returns-clause-line c =
    let before = c.requires in
    let high = c.loop.auto.counter-end (omega arith) in
    let all = c.loop-test.false in
    c.next_part-2.ensures.part
    ∙ behind c.args.lines.now c.loop.lines (c.loop.counter - (c.args.passed + 1))
    (c.args.number - c.args.passed) c.loop.invariant (omega arith)
