use Rattle.std.proofs.Common.{◌∙◌, ◌∷◌, ◌++◌, List, length, refl, ap, sym, subst, arith, eqb}
use Rattle.std.specs.Prelude.{option_map}
use Rattle.std.proofs.lemmas.List.Splits.{length-slice_split}
use Rattle.coll_text.specs.Numbers.{Word}
use Rattle.coll_text.specs.Reading.{parts}
use Rattle.hall_script.specs.Devices.{used}
use Rattle.hall_turn.specs.Known.{Doorway}
use Rattle.live_session.specs.Sessions.{Stood}
use Rattle.live_session.specs.Steps.{SoFar, behind, counting, receipts, showing}
use Rattle.live_session.proofs.SessionLemmas.{so_far_none, goes_on, breaks_off, stops_here}
use Rattle.live_session.proofs.SessionLemmas.{unread_then}
use Rattle.live_session.proofs.setting.Setting.take_in.Goals as goal

pub unreachable-requires : goal.unreachable-requires
unreachable-requires g c =
    let none = ap length (sym c.new-parts.ensures ∙ c.in_default.ensures.0) in
    omega (arith, length-slice_split (λ b. eqb b 10) c.args.bytes.now)

pub returns-in-Err-clause-takes : goal.returns-in-Err-clause-takes
returns-in-Err-clause-takes g c =
    let wall = c.args.self.now.policy.now in
    let pass = c.args.pass.now in
    let sink = c.args.sink.now in
    let stood = Stood g.M.Machine.stands g.M.Machine.booked in
    let most = c.args.self.now.most in
    let first = c.args.caller.now.calls in
    let fails = g.O.Sink.failures in
    let holds = g.O.Sink.contents in
    let log = g.S.Desk.heard in
    let covers = option_map g.T.Receipt.covers in
    let last = covers c.args.caller.now.receipt in
    let source = c.args.source.now in
    λ start h. let text = behind start (parts 10 c.args.bytes.now) in
    rw c.from-in-Err.ensures
    (stops_here stood most fails holds wall pass pass text text (showing log source source last last)
    (used fails holds sink sink) (counting first first)
    (so_far_none stood most fails holds wall pass text (receipts log source last) sink first
    (c.args.self.now.its ∙ ap (λ (d : Doorway). d.policy) (sym c.requires.door))
    c.requires.legal))

pub loop-part-init : goal.loop-part-init
loop-part-init g c =
    let wall = c.args.self.now.policy.now in
    let pass = c.args.pass.now in
    let sink = c.args.sink.now in
    let stood = Stood g.M.Machine.stands g.M.Machine.booked in
    let most = c.args.self.now.most in
    let first = c.args.caller.now.calls in
    let fails = g.O.Sink.failures in
    let holds = g.O.Sink.contents in
    let log = g.S.Desk.heard in
    let covers = option_map g.T.Receipt.covers in
    let last = covers c.args.caller.now.receipt in
    let source = c.args.source.now in
    record {
      none = c.requires.none;
      same = (refl, refl);
      legal = c.requires.legal;
      unread = record { fails_same = refl; left_same = refl; reads_same = refl };
      so_far = λ start h. let text = behind start (parts 10 c.args.bytes.now) in (
        start ++ c.in-Some.first.now,
        c.in-Ok.ensures start h,
        subst (λ (l : List Word). SoFar stood most wall pass text l (showing log source source last last)
            (used fails holds sink sink) (counting first first) pass)
            (ap (behind start) (sym c.new-parts.ensures ∙ c.in-Some.ensures))
            (so_far_none stood most fails holds wall pass text (receipts log source last) sink first
            (c.args.self.now.its ∙ ap (λ (d : Doorway). d.policy) (sym c.requires.door))
            c.requires.legal),
      );
      counts = c.requires.counts;
      keeps = c.requires.keeps;
    }

pub returns-in-Err-answer_line-clause-takes : goal.returns-in-Err-answer_line-clause-takes
returns-in-Err-answer_line-clause-takes g c =
    let wall = c.args.self.now.policy.now in
    let pass = c.args.pass.now in
    let stood = Stood g.M.Machine.stands g.M.Machine.booked in
    let most = c.args.self.now.most in
    let first = c.args.caller.now.calls in
    let fails = g.O.Sink.failures in
    let holds = g.O.Sink.contents in
    let log = g.S.Desk.heard in
    let covers = option_map g.T.Receipt.covers in
    let last = covers c.args.caller.now.receipt in
    let source = c.args.source.now in
    λ start h. let text = behind start (parts 10 c.args.bytes.now) in
    let s = c.loop-part.invariant.so_far start h in
    breaks_off stood most fails holds wall pass c.loop-part.pass c.answer_line.new.pass text
    c.next_long-in-loop-part.new.self s.0 c.in-Some-next_long.part.now
    (receipts log source last) (receipts log c.loop-part.source (covers c.loop-part.caller.receipt))
    (receipts log c.answer_line.new.source (covers c.answer_line.new.caller.receipt))
    c.args.sink.now c.loop-part.sink c.answer_line.new.sink first c.loop-part.caller.calls
    c.answer_line.new.caller.calls c.in-Err-answer_line.end
    (subst (λ (l : List Word). SoFar stood most wall pass text (s.0 ∷ l)
    (showing log source c.loop-part.source last (covers c.loop-part.caller.receipt)) (used fails holds c.args.sink.now c.loop-part.sink)
    (counting first c.loop-part.caller.calls) c.loop-part.pass)
    c.in-Some-next_long.ensures s.2)
    (c.in-Err-answer_line.ensures.answers s.0 s.1)

-- what is so after the line at hand was answered
later_so_far : goal.loop-part-preserved
later_so_far g c =
    let wall = c.args.self.now.policy.now in
    let pass = c.args.pass.now in
    let stood = Stood g.M.Machine.stands g.M.Machine.booked in
    let most = c.args.self.now.most in
    let first = c.args.caller.now.calls in
    let fails = g.O.Sink.failures in
    let holds = g.O.Sink.contents in
    let log = g.S.Desk.heard in
    let covers = option_map g.T.Receipt.covers in
    let last = covers c.args.caller.now.receipt in
    let source = c.args.source.now in
    let i = c.loop-part.invariant in
    let e = c.in-Ok-answer_line.ensures in
    record {
      none = e.none;
      same = (e.same.0 ∙ i.same.0, e.same.1 ∙ i.same.1);
      legal = e.legal;
      unread = unread_then g.S.Desk.failures g.S.Desk.remaining log source c.loop-part.source
          c.answer_line.new.source i.unread e.unread;
      so_far = λ start h. let text = behind start (parts 10 c.args.bytes.now) in
          let s = i.so_far start h in
          let a = e.answers s.0 s.1 in (
            c.in-Some-next_long.part.now,
            c.in-Ok-begin.ensures,
            goes_on stood most fails holds wall pass c.loop-part.pass c.answer_line.new.pass text
                (c.in-Some-next_long.part.now ∷ c.next_long-in-loop-part.new.self) s.0
                (receipts log source last)
                (receipts log c.loop-part.source (covers c.loop-part.caller.receipt))
                (receipts log c.answer_line.new.source (covers c.answer_line.new.caller.receipt))
                c.args.sink.now c.loop-part.sink
                c.answer_line.new.sink first c.loop-part.caller.calls c.answer_line.new.caller.calls
                (subst (λ (l : List Word). SoFar stood most wall pass text (s.0 ∷ l)
                (showing log source c.loop-part.source last (covers c.loop-part.caller.receipt)) (used fails holds c.args.sink.now c.loop-part.sink)
                (counting first c.loop-part.caller.calls) c.loop-part.pass)
                c.in-Some-next_long.ensures s.2) a,
          );
      counts = e.counts;
      keeps = e.keeps;
    }

pub loop-part-preserved : goal.loop-part-preserved
loop-part-preserved g c = later_so_far g c

pub returns-in-Err-begin-clause-takes : goal.returns-in-Err-begin-clause-takes
returns-in-Err-begin-clause-takes g c =
    let wall = c.args.self.now.policy.now in
    let pass = c.args.pass.now in
    let stood = Stood g.M.Machine.stands g.M.Machine.booked in
    let most = c.args.self.now.most in
    let first = c.args.caller.now.calls in
    let fails = g.O.Sink.failures in
    let holds = g.O.Sink.contents in
    let log = g.S.Desk.heard in
    let covers = option_map g.T.Receipt.covers in
    let last = covers c.args.caller.now.receipt in
    let source = c.args.source.now in
    let e = c.in-Ok-answer_line.ensures in
    λ start h. let text = behind start (parts 10 c.args.bytes.now) in
    let s = c.loop-part.invariant.so_far start h in
    let a = e.answers s.0 s.1 in
    let rest = c.in-Some-next_long.part.now ∷ c.next_long-in-loop-part.new.self in
    rw c.from-in-Err-begin-2.ensures
    (stops_here stood most fails holds wall pass c.answer_line.new.pass text rest
    (showing log source c.answer_line.new.source last (covers c.answer_line.new.caller.receipt))
    (used fails holds c.args.sink.now c.answer_line.new.sink)
    (counting first c.answer_line.new.caller.calls)
    (goes_on stood most fails holds wall pass c.loop-part.pass c.answer_line.new.pass text rest s.0
    (receipts log source last) (receipts log c.loop-part.source (covers c.loop-part.caller.receipt))
    (receipts log c.answer_line.new.source (covers c.answer_line.new.caller.receipt))
    c.args.sink.now c.loop-part.sink c.answer_line.new.sink first c.loop-part.caller.calls
    c.answer_line.new.caller.calls
    (subst (λ (l : List Word). SoFar stood most wall pass text (s.0 ∷ l)
    (showing log source c.loop-part.source last (covers c.loop-part.caller.receipt)) (used fails holds c.args.sink.now c.loop-part.sink)
    (counting first c.loop-part.caller.calls) c.loop-part.pass)
    c.in-Some-next_long.ensures s.2) a))
