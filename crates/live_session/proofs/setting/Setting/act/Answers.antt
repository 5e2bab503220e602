use Rattle.std.proofs.Common.{rules, ◌≡◌, ℕ, true, false, sym, subst}
use Rattle.std.specs.Prelude.{option_map}
use Rattle.hall_script.specs.declared.ask.Ask.TheVariants.{Act as ToAct}
use Rattle.live_session.specs.declared.acting.Came.{Came}
use Rattle.live_session.specs.Sessions.{Stood}
use Rattle.live_session.specs.Steps.{CameNamesKnown, CameTo, Counts, came_of, counting}
use Rattle.live_session.proofs.SessionLemmas.{at_door, came_known, spent_came, still_some}
use Rattle.live_session.proofs.SessionLemmas.{act_came, act_counts}
use Rattle.live_session.proofs.setting.Setting.act.Goals as goal

pub returns-then-not-may_call-clause-came : goal.returns-then-not-may_call-clause-came
returns-then-not-may_call-clause-came g c =
    let pass = c.args.pass.now in
    let were = option_map g.T.Receipt.covers c.args.caller.now.receipt in
    let no : c.may_call.result ≡ false = search rules in
    spent_came (Stood g.M.Machine.stands g.M.Machine.booked) c.args.self.now.most
    c.args.caller.now.calls pass (ToAct c.args.act) were were tt
    (at_door c.args.self.now.door.now pass pass.seen c.requires.door c.requires.legal)
    (c.may_call.ensures.over no) c.requires.counts

pub returns-clause-came : goal.returns-clause-came
returns-clause-came g c =
    let stood = Stood g.M.Machine.stands g.M.Machine.booked in
    let most = c.args.self.now.most in
    let calls = c.args.caller.now.calls in
    let pass = c.args.pass.now in
    let new = c.make-answer.new.pass in
    let answer = c.make-answer.result in
    let are = option_map g.T.Receipt.covers c.make-answer.new.receipt in
    let were = option_map g.T.Receipt.covers c.args.caller.now.receipt in
    rw c.came_of.ensures.receipt
    (subst (λ (it : Came). CameTo stood most pass (ToAct c.args.act) it were are
    (counting calls c.came_of.new.caller.calls) new)
    (sym (c.came_of.ensures.came are (still_some g.T.Receipt.covers c.make-answer.new.receipt
    c.is_some-is_booked.result c.is_some-is_booked.ensures)))
    (subst (λ (m : ℕ). CameTo stood most pass (ToAct c.args.act) (came_of answer are) were are
    (counting calls m) new) (sym c.came_of.ensures.calls)
    (act_came g.M.Machine.stands g.M.Machine.booked most calls pass new c.args.act answer
    were are c.make-answer.ensures.same
    (at_door c.args.self.now.door.now pass new.seen c.requires.door c.make-answer.ensures.legal)
    c.make-answer.ensures.answered c.make-answer.ensures.gives)))

pub returns-clause-counts : goal.returns-clause-counts
returns-clause-counts g c =
    let most = c.args.self.now.most in
    let calls = c.args.caller.now.calls in
    let pass = c.args.pass.now in
    let new = c.make-answer.new.pass in
    let answer = c.make-answer.result in
    let yes : c.may_call.result ≡ true = search rules in
    let within = (c.may_call.ensures.may yes).1 in
    subst (λ (m : ℕ). Counts most m new) (sym c.came_of.ensures.calls)
    (act_counts most calls pass new c.args.act answer c.make-answer.ensures.same
    (at_door c.args.self.now.door.now pass new.seen c.requires.door c.make-answer.ensures.legal)
    c.make-answer.ensures.answered c.requires.counts within)

pub returns-clause-named : goal.returns-clause-named
returns-clause-named g c =
    let wall = c.args.self.now.door.now.policy in
    let are = option_map g.T.Receipt.covers c.make-answer.new.receipt in
    subst (CameNamesKnown wall)
    (sym (c.came_of.ensures.came are (still_some g.T.Receipt.covers c.make-answer.new.receipt
    c.is_some-is_booked.result c.is_some-is_booked.ensures)))
    (came_known wall c.make-answer.result are c.make-answer.ensures.named)
