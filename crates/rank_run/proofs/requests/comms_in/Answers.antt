use Rattle.std.proofs.Common.{subst, take}
use Rattle.std.specs.List.{All}
use Rattle.std.proofs.lemmas.List.{take_all}
use Rattle.std.proofs.lemmas.List.Elements.{All-more, All-weaker}
use Rattle.rank_run.specs.Asked.{PostsBelow}
use Rattle.rank_run.proofs.AskedLemmas.{below_more}
use Rattle.rank_run.proofs.requests.comms_in.Goals as goal

pub loop-act-preserved : goal.loop-act-preserved
loop-act-preserved c =
    let i = c.loop-act.act-index in
    let all = c.args.script.now in
    let old = c.loop-act.comms in
    let new = c.raised-comms.result in
    let before = All-weaker (PostsBelow old) (PostsBelow new)
    (below_more old new c.raised-comms.ensures.keeps) (take i all) c.loop-act.invariant in
    All-more (PostsBelow new) all i c.act-item.result c.loop-act-test.true before
    (subst (PostsBelow new) c.act-item.is c.raised-comms.ensures.below)

pub returns : goal.returns
returns c =
    let all = c.args.script.now in
    subst (All (PostsBelow c.loop-act.comms))
    (take_all c.loop-act.act-index all c.loop-act-test.false)
    c.loop-act.invariant
