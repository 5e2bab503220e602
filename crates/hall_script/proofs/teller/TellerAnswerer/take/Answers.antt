use Rattle.std.proofs.Common.{◌++◌, Bool, ap, ◌∙◌}
use Rattle.wall_policy.specs.Policy.{ChineseWall}
use Rattle.coll_values.specs.Values.{value}
use Rattle.run_model.specs.declared.reply.Reply.TheVariants.{Delivered}
use Rattle.run_model.specs.Runs.{contributions}
use Rattle.hall_script.specs.Replies.{reply_line}
use Rattle.hall_script.specs.Telling.{delivery_if}
use Rattle.hall_script.proofs.TellingLemmas.{goes_of, shown, take_answered}
use Rattle.hall_script.proofs.teller.TellerAnswerer.take.Goals as goal

pub returns-in_ok-write_reply-in-Outcome-clause-answered :
    goal.returns-in_ok-write_reply-in-Outcome-clause-answered
returns-in_ok-write_reply-in-Outcome-clause-answered c =
    let old = c.args.self.now in
    let new = c.close.new.self in
    let before = c.args.text.now.items in
    let p = c.args.process in
    let r = c.args.request in
    let it = c.in-Outcome.it in
    let got = c.in-Outcome.reply in
    let found = c.in-Outcome.ensures.found in
    take_answered old new before c.write_reply-in-Outcome.new.bytes.items p r got
    c.close.ensures.wall
    (goes_of old.hall new.hall p r it got found.of (c.close.ensures.runs got found.due))
    (λ run tells. c.close.ensures.right old.hall.policy (contributions run) tells.right)
    (λ run tells. c.in_ok-write_reply-in-Outcome.ensures.ok
    ∙ ap (λ (w : ChineseWall). before ++ reply_line w got) c.policy-in-Outcome.ensures)

pub returns-else-not-branch-clause-answered : goal.returns-else-not-branch-clause-answered
returns-else-not-branch-clause-answered c =
    let old = c.args.self.now in
    let wall = old.hall.policy in
    let new = c.close-in-Granted.new.self in
    let before = c.args.text.now.items in
    let p = c.args.process in
    let r = c.args.request in
    let full = c.in-Granted.full.now in
    let rank = c.in-Granted.rank in
    let it = c.in-Granted.it in
    let found = c.in-Granted.ensures.found in
    let got = Delivered (value full rank) in
    take_answered old new before c.tell.new.text.items p r got
    c.close-in-Granted.ensures.wall
    (goes_of old.hall new.hall p r it got found.of
    (c.close-in-Granted.ensures.runs got found.due))
    (λ run tells. c.close-in-Granted.ensures.right wall (contributions run)
    (c.tell.ensures.right wall (contributions run) tells.right
    (shown wall run p r (it.comm, it.k) full rank (found.asked run tells.stands)
    (found.claimed run tells.stands))))
    (λ run tells. c.in_ok-tell-in-Granted.ensures.told wall (contributions run) tells.right
    (shown wall run p r (it.comm, it.k) full rank (found.asked run tells.stands)
    (found.claimed run tells.stands))
    ∙ (ap (λ (done : Bool). before
    ++ reply_line c.policy-policy.result.now (delivery_if done full rank)) c.if-not-branch.false
    ∙ ap (λ (w : ChineseWall). before ++ reply_line w got) c.policy-policy.ensures))
