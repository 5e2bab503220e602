use Rattle.std.proofs.Common.{rules, ◌≡◌, ℕ, true, false, sym, subst}
use Rattle.std.specs.Prelude.{option_map}
use Rattle.hall_script.specs.declared.ask.Ask.TheVariants.{Wait}
use Rattle.live_session.specs.declared.acting.Came.{Came}
use Rattle.live_session.specs.Sessions.{Stood}
use Rattle.live_session.specs.Steps.{CameNamesKnown, CameTo, Counts, came_of, counting}
use Rattle.live_session.proofs.SessionLemmas.{at_door, came_known, spent_came, still_some}
use Rattle.live_session.proofs.SessionLemmas.{wait_came, wait_counts}
use Rattle.live_session.proofs.setting.Setting.wait_for.Goals as goal

pub returns-then-not-may_call-clause-came : goal.returns-then-not-may_call-clause-came
returns-then-not-may_call-clause-came g c =
    let pass = c.args.pass.now in
    let were = option_map g.T.Receipt.covers c.args.caller.now.receipt in
    let no : c.may_call.result ≡ false = search rules in
    spent_came (Stood g.M.Machine.stands g.M.Machine.booked) c.args.self.now.most
    c.args.caller.now.calls pass (Wait c.args.request) were were tt
    (at_door c.args.self.now.door.now pass pass.seen c.requires.door c.requires.legal)
    (c.may_call.ensures.over no) c.requires.counts

pub returns-clause-came : goal.returns-clause-came
returns-clause-came g c =
    let stood = Stood g.M.Machine.stands g.M.Machine.booked in
    let most = c.args.self.now.most in
    let calls = c.args.caller.now.calls in
    let pass = c.args.pass.now in
    let new = c.wait-answer.new.pass in
    let answer = c.wait-answer.result in
    let are = option_map g.T.Receipt.covers c.wait-answer.new.receipt in
    let were = option_map g.T.Receipt.covers c.args.caller.now.receipt in
    rw c.came_of.ensures.receipt
    (subst (λ (it : Came). CameTo stood most pass (Wait c.args.request) it were are
    (counting calls c.came_of.new.caller.calls) new)
    (sym (c.came_of.ensures.came are (still_some g.T.Receipt.covers c.wait-answer.new.receipt
    c.is_some-is_booked.result c.is_some-is_booked.ensures)))
    (subst (λ (m : ℕ). CameTo stood most pass (Wait c.args.request) (came_of answer are) were are
    (counting calls m) new) (sym c.came_of.ensures.calls)
    (wait_came stood most calls pass new c.args.request answer were are
    c.wait-answer.ensures.waited)))

pub returns-clause-counts : goal.returns-clause-counts
returns-clause-counts g c =
    let most = c.args.self.now.most in
    let calls = c.args.caller.now.calls in
    let pass = c.args.pass.now in
    let new = c.wait-answer.new.pass in
    let answer = c.wait-answer.result in
    let yes : c.may_call.result ≡ true = search rules in
    let within = (c.may_call.ensures.may yes).1 in
    subst (λ (m : ℕ). Counts most m new) (sym c.came_of.ensures.calls)
    (wait_counts (Stood g.M.Machine.stands g.M.Machine.booked) most calls pass new
    c.args.request answer (option_map g.T.Receipt.covers c.wait-answer.new.receipt)
    c.wait-answer.ensures.waited c.requires.counts within)

pub returns-clause-named : goal.returns-clause-named
returns-clause-named g c =
    let wall = c.args.self.now.door.now.policy in
    let are = option_map g.T.Receipt.covers c.wait-answer.new.receipt in
    subst (CameNamesKnown wall)
    (sym (c.came_of.ensures.came are (still_some g.T.Receipt.covers c.wait-answer.new.receipt
    c.is_some-is_booked.result c.is_some-is_booked.ensures)))
    (came_known wall c.wait-answer.result are c.wait-answer.ensures.named)
