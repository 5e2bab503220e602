use Rattle.std.proofs.Common.{◌∙◌, subst}
use Rattle.std.specs.Prelude.{option_map}
use Rattle.run_model.specs.declared.reply.Reply.{Reply}
use Rattle.hall_turn.specs.declared.answer.Answer.TheVariants.{Reply as Replied}
use Rattle.live_session.specs.Sessions.{Stood}
use Rattle.live_session.specs.Steps.{Waited}
use Rattle.live_session.proofs.SessionLemmas.{at_door, waited_once, waited_more, waited_still}
use Rattle.live_session.proofs.setting.Setting.wait.Goals as goal

pub returns-in_default : goal.returns-in_default
returns-in_default g c =
    let door = c.args.self.now.door.now in
    let pass = c.args.pass.now in
    let new = c.take.new.pass in
    let were = option_map g.T.Receipt.covers c.args.receipt.now in
    let are = option_map g.T.Receipt.covers c.take.new.receipt in
    let e = c.in_default.ensures in
    record {
      same = e.same;
      legal = e.legal;
      waited = waited_once g.M.Machine.stands g.M.Machine.booked pass new c.args.request
          (Replied _) were are e.same
          (at_door door pass new.seen c.requires.door e.legal) e.answered e.gives;
      named = e.named;
      keeps = e.keeps;
    }

pub loop-init : goal.loop-init
loop-init g c =
    let door = c.args.self.now.door.now in
    let pass = c.args.pass.now in
    let new = c.take.new.pass in
    let were = option_map g.T.Receipt.covers c.args.receipt.now in
    let are = option_map g.T.Receipt.covers c.take.new.receipt in
    let e = c.in-Reply-Pending.ensures in
    let stood = Stood g.M.Machine.stands g.M.Machine.booked in
    record {
      same = e.same;
      legal = e.legal;
      waited = subst (λ (r : Reply). Waited stood pass c.args.request (Replied r) are new)
          c.in-Reply-Pending.field-0-is
          (waited_once g.M.Machine.stands g.M.Machine.booked pass new c.args.request
          (Replied c.in-Reply-Pending.field-0) were are e.same
          (at_door door pass new.seen c.requires.door e.legal) e.answered e.gives);
      keeps = e.keeps;
    }

pub returns-in_default-take : goal.returns-in_default-take
returns-in_default-take g c =
    let door = c.args.self.now.door.now in
    let pass = c.args.pass.now in
    let mid = c.loop.pass in
    let new = c.take-in-loop.new.pass in
    let were = option_map g.T.Receipt.covers c.loop.receipt in
    let are = option_map g.T.Receipt.covers c.take-in-loop.new.receipt in
    let i = c.loop.invariant in
    let e = c.in_default-take.ensures in
    record {
      same = (e.same.0 ∙ i.same.0, e.same.1 ∙ i.same.1);
      legal = e.legal;
      waited = waited_more g.M.Machine.stands g.M.Machine.booked pass mid new c.args.request _
          were are i.waited e.same
          (at_door door mid new.seen (i.same.0 ∙ c.requires.door) e.legal) e.answered
          e.gives;
      named = e.named;
      keeps = e.keeps;
    }

pub returns-in-Exhausted-clause-waited : goal.returns-in-Exhausted-clause-waited
returns-in-Exhausted-clause-waited g c =
    let door = c.args.self.now.door.now in
    let mid = c.loop.pass in
    let new = c.take-in-loop.new.pass in
    let were = option_map g.T.Receipt.covers c.loop.receipt in
    let are = option_map g.T.Receipt.covers c.take-in-loop.new.receipt in
    let i = c.loop.invariant in
    let e = c.in-Exhausted.ensures in
    waited_still g.M.Machine.stands g.M.Machine.booked c.args.pass.now mid new c.args.request
    were are i.waited e.same
    (at_door door mid new.seen (i.same.0 ∙ c.requires.door) e.legal) e.answered e.gives

pub loop-preserved-else-not-sleeps_on-2 : goal.loop-preserved-else-not-sleeps_on-2
loop-preserved-else-not-sleeps_on-2 g c =
    let door = c.args.self.now.door.now in
    let pass = c.args.pass.now in
    let mid = c.loop.pass in
    let new = c.take-in-loop.new.pass in
    let were = option_map g.T.Receipt.covers c.loop.receipt in
    let are = option_map g.T.Receipt.covers c.take-in-loop.new.receipt in
    let i = c.loop.invariant in
    let e = c.in-Reply-Pending-take.ensures in
    let stood = Stood g.M.Machine.stands g.M.Machine.booked in
    record {
      same = (e.same.0 ∙ i.same.0, e.same.1 ∙ i.same.1);
      legal = e.legal;
      waited = subst (λ (r : Reply). Waited stood pass c.args.request (Replied r) are new)
          c.in-Reply-Pending-take.field-0-is
          (waited_more g.M.Machine.stands g.M.Machine.booked pass mid new c.args.request
          c.in-Reply-Pending-take.field-0 were are i.waited e.same
          (at_door door mid new.seen (i.same.0 ∙ c.requires.door) e.legal) e.answered
          e.gives);
      keeps = e.keeps;
    }

pub returns-then-not-sleeps_on-clause-waited : goal.returns-then-not-sleeps_on-clause-waited
returns-then-not-sleeps_on-clause-waited g c =
    let door = c.args.self.now.door.now in
    let pass = c.args.pass.now in
    let mid = c.loop.pass in
    let new = c.take-in-loop.new.pass in
    let were = option_map g.T.Receipt.covers c.loop.receipt in
    let are = option_map g.T.Receipt.covers c.take-in-loop.new.receipt in
    let i = c.loop.invariant in
    let e = c.in-Reply-Pending-take.ensures in
    let stood = Stood g.M.Machine.stands g.M.Machine.booked in
    subst (λ (r : Reply). Waited stood pass c.args.request (Replied r) are new)
    c.in-Reply-Pending-take.field-0-is
    (waited_more g.M.Machine.stands g.M.Machine.booked pass mid new c.args.request
    c.in-Reply-Pending-take.field-0 were are i.waited e.same
    (at_door door mid new.seen (i.same.0 ∙ c.requires.door) e.legal) e.answered e.gives)
