use Rattle.std.proofs.Common.{rules, ◌≡◌, ◌<◌, ◌∙◌, length, take, refl, ap, sym}
use Rattle.std.specs.Prelude.{option_map}
use Rattle.hall_turn.specs.Known.{Doorway}
use Rattle.live_session.proofs.SessionLemmas.{going_none, going_on, served_till_stop, served_to_end}
use Rattle.live_session.specs.Sessions.{Stood}
use Rattle.live_session.proofs.SessionLemmas.{took_none}
use Rattle.live_session.proofs.setting.Setting.hold.Goals as goal

pub loop-init : goal.loop-init
loop-init g c =
    let wall = c.args.self.now.policy.now in
    let pass = c.args.pass.now in
    let is : wall ≡ pass.door.policy =
    c.args.self.now.its ∙ ap (λ (d : Doorway). d.policy) (sym c.requires.door) in
    record {
      none = c.new-text.ensures.items;
      same = (refl, refl);
      legal = c.requires.legal;
      counts = c.requires.counts;
      keeps = c.requires.keeps;
      going = rw c.requires.unreceipted
          (going_none (Stood g.M.Machine.stands g.M.Machine.booked) c.args.self.now.most
          c.args.caller.now.calls g.S.Desk.failures g.S.Desk.remaining g.S.Desk.heard
          g.O.Sink.failures g.O.Sink.contents wall pass c.new-line.result c.args.source.now
          c.args.sink.now is c.requires.legal c.new-line.ensures);
    }

pub loop-preserved : goal.loop-preserved
loop-preserved g c =
    let i = c.loop.invariant in
    let covers = option_map g.T.Receipt.covers in
    let e = c.in-Ok-take_in.ensures in
    let t = e.takes i.going.line i.going.holds in
    record {
      none = e.none;
      same = (e.same.0 ∙ i.same.0, e.same.1 ∙ i.same.1);
      legal = e.legal;
      counts = e.counts;
      keeps = e.keeps;
      going = going_on (Stood g.M.Machine.stands g.M.Machine.booked) c.args.self.now.most
          c.args.caller.now.calls g.S.Desk.failures g.S.Desk.remaining g.S.Desk.heard g.O.Sink.failures
          g.O.Sink.contents
          c.args.self.now.policy.now c.args.pass.now c.loop.pass c.take_in.new.pass
          c.loop.lines.line c.take_in.new.lines.line c.args.source.now c.loop.source
          c.hear.new.self c.take_in.new.source c.args.sink.now c.loop.sink c.take_in.new.sink
          (covers c.loop.caller.receipt) (covers c.take_in.new.caller.receipt)
          c.loop.caller.calls c.take_in.new.caller.calls
          (take c.in-Ok.n c.hear.new.buffer) i.going
          c.in-Ok.ensures.went c.in-Ok.ensures.bytes.0 c.in-Ok.ensures.tells
          c.hear.ensures.shows e.unread t.0 t.1 t.2;
    }

pub returns-then-n-eq0-clause-serves : goal.returns-then-n-eq0-clause-serves
returns-then-n-eq0-clause-serves g c =
    let zero : c.in-Ok.n ≡ 0 = search rules in
    let room : 0 < length c.hear.new.buffer = search rules in
    served_to_end (Stood g.M.Machine.stands g.M.Machine.booked) c.args.self.now.most
    c.args.caller.now.calls g.S.Desk.failures g.S.Desk.remaining g.S.Desk.heard g.O.Sink.failures
    g.O.Sink.contents c.args.self.now.policy.now c.args.pass.now c.loop.pass c.loop.lines.line
    c.args.source.now c.loop.source c.hear.new.self c.args.sink.now c.loop.sink
    (option_map g.T.Receipt.covers c.loop.caller.receipt) c.loop.caller.calls
    (take c.in-Ok.n c.hear.new.buffer) (took_none c.in-Ok.n c.hear.new.buffer zero)
    c.loop.invariant.going c.loop.invariant.counts.within c.in-Ok.ensures.went c.in-Ok.ensures.bytes.0
    (c.in-Ok.ensures.bytes.1 zero room) c.in-Ok.ensures.tells c.hear.ensures.shows

pub returns-in-Err-take_in-clause-serves : goal.returns-in-Err-take_in-clause-serves
returns-in-Err-take_in-clause-serves g c =
    let i = c.loop.invariant in
    let covers = option_map g.T.Receipt.covers in
    served_till_stop (Stood g.M.Machine.stands g.M.Machine.booked) c.args.self.now.most
    c.args.caller.now.calls g.S.Desk.failures g.S.Desk.remaining g.S.Desk.heard g.O.Sink.failures
    g.O.Sink.contents
    c.args.self.now.policy.now c.args.pass.now c.loop.pass c.take_in.new.pass c.loop.lines.line
    c.args.source.now c.loop.source c.hear.new.self c.take_in.new.source c.args.sink.now
    c.loop.sink c.take_in.new.sink (covers c.loop.caller.receipt)
    (covers c.take_in.new.caller.receipt) c.loop.caller.calls c.take_in.new.caller.calls
    (take c.in-Ok.n c.hear.new.buffer) c.in-Err-take_in.end i.going
    c.in-Err-take_in.ensures.counts.within c.in-Ok.ensures.went
    c.in-Ok.ensures.bytes.0 c.in-Ok.ensures.tells c.hear.ensures.shows
    c.in-Err-take_in.ensures.unread
    (c.in-Err-take_in.ensures.takes i.going.line i.going.holds)
