use Rattle.std.proofs.Common.{◌≡◌, ◌∙◌, refl, ap, sym, subst}
use Rattle.wall_policy.specs.Policy.{ChineseWall}
use Rattle.run_model.specs.Replies.{Legal}
use Rattle.hall_turn.specs.Known.{Doorway}
use Rattle.live_session.specs.declared.ending.SessionEnd.TheVariants.{NoMemory}
use Rattle.live_session.specs.Sessions.{Stood}
use Rattle.live_session.specs.Sittings.{at}
use Rattle.live_session.proofs.SessionLemmas.{served_nothing, none_counts, within_none}
use Rattle.live_session.proofs.KeepLemmas.{keeps_none, keeps_same}
use Rattle.live_session.proofs.SittingLemmas.{follows_self, sat_none, sat_more, sat_last}
use Rattle.live_session.proofs.setting.Setting.serve.Goals as goal

pub loop-init : goal.loop-init
loop-init g c =
    let wall = c.args.self.now.policy.now in
    let pass = c.args.pass.now in
    let is : wall ≡ pass.door.policy =
    c.args.self.now.its ∙ ap (λ (d : Doorway). d.policy) (sym c.requires.door) in
    record {
      same = (refl, refl);
      legal = subst (λ (w : ChineseWall). Legal w pass.seen) (sym is) c.process.ensures.legal;
      counts = none_counts c.args.self.now.most 0 pass refl;
      keeps = keeps_same c.in-Ok-requests.requests c.new-seat.result.requests pass c.new-seat.ensures
          (keeps_none c.in-Ok-requests.requests pass c.requires.fresh
          c.in-Ok-requests.ensures.given c.in-Ok-requests.ensures.none
          c.in-Ok-requests.ensures.room);
      sat = sat_none (Stood g.M.Machine.stands g.M.Machine.booked) c.args.self.now.most
          g.S.Desk.failures g.S.Desk.remaining g.S.Desk.heard g.O.Sink.failures
          g.O.Sink.contents wall (at c.args.source.now c.args.sink.now pass);
    }

pub loop-preserved : goal.loop-preserved
loop-preserved g c =
    let i = c.loop.invariant in
    let e = c.hold-end.ensures in
    let n = c.hold-end.new in
    record {
      same = (e.same.0 ∙ i.same.0, e.same.1 ∙ i.same.1);
      legal = e.legal;
      counts = e.counts;
      keeps = keeps_same n.caller.seat.requests c.in-Some-go_on.next.requests n.pass
          c.in-Some-go_on.ensures.keeps e.keeps;
      sat = sat_more (Stood g.M.Machine.stands g.M.Machine.booked) c.args.self.now.most
          g.S.Desk.failures g.S.Desk.remaining g.S.Desk.heard g.O.Sink.failures
          g.O.Sink.contents c.args.self.now.policy.now
          (at c.args.source.now c.args.sink.now c.args.pass.now)
          (at c.loop.source c.loop.sink c.loop.pass) (at n.source n.sink n.pass)
          (at c.go_on.new.source n.sink n.pass) c.loop.calls
          (record { end = c.hold-end.result; calls = n.caller.calls }) i.sat e.serves
          c.in-Some-go_on.ensures.rests
          (record {
            fails_same = c.go_on.ensures.fails;
            heard_same = c.go_on.ensures.heard;
            sink_same = refl;
            pass_same = refl;
          });
    }

pub returns-in-None-go_on-clause-serves : goal.returns-in-None-go_on-clause-serves
returns-in-None-go_on-clause-serves g c =
    let i = c.loop.invariant in
    let e = c.hold-end.ensures in
    let n = c.hold-end.new in
    sat_last (Stood g.M.Machine.stands g.M.Machine.booked) c.args.self.now.most
    g.S.Desk.failures g.S.Desk.remaining g.S.Desk.heard g.O.Sink.failures
    g.O.Sink.contents c.args.self.now.policy.now
    (at c.args.source.now c.args.sink.now c.args.pass.now)
    (at c.loop.source c.loop.sink c.loop.pass) (at n.source n.sink n.pass)
    (at c.go_on.new.source n.sink n.pass) c.loop.calls
    (record { end = c.hold-end.result; calls = n.caller.calls }) i.sat e.serves
    (record {
      fails_same = c.go_on.ensures.fails;
      heard_same = c.go_on.ensures.heard;
      sink_same = refl;
      pass_same = refl;
    })

pub returns-in-Err-requests-clause-serves : goal.returns-in-Err-requests-clause-serves
returns-in-Err-requests-clause-serves g c =
    let wall = c.args.self.now.policy.now in
    let pass = c.args.pass.now in
    let is : wall ≡ pass.door.policy =
    c.args.self.now.its ∙ ap (λ (d : Doorway). d.policy) (sym c.requires.door) in
    let first = at c.args.source.now c.args.sink.now pass in
    let stood = Stood g.M.Machine.stands g.M.Machine.booked in
    rw c.from-end.ensures
    (sat_last stood c.args.self.now.most g.S.Desk.failures g.S.Desk.remaining g.S.Desk.heard
    g.O.Sink.failures g.O.Sink.contents wall first first first first 0
    (record { end = NoMemory; calls = 0 })
    (sat_none stood c.args.self.now.most g.S.Desk.failures g.S.Desk.remaining g.S.Desk.heard
    g.O.Sink.failures g.O.Sink.contents wall first)
    (served_nothing stood c.args.self.now.most 0
    g.S.Desk.failures g.S.Desk.remaining g.S.Desk.heard g.O.Sink.failures
    g.O.Sink.contents
    wall pass c.args.source.now c.args.sink.now is
    (subst (λ (w : ChineseWall). Legal w pass.seen) (sym is) c.process.ensures.legal)
    (within_none c.args.self.now.most))
    (follows_self g.S.Desk.failures g.S.Desk.heard first))
