use denote.Exit.{unseen}
use denote.Param.Send.{Quiet-if}
use mir.Syntax.{of_param}
use Rattle.std.proofs.Common.{arith}
use Rattle.live_session.specs.Sessions.{Stood}
use Rattle.live_session.proofs.ServedLemmas.{served_long}
use Rattle.live_session.proofs.run.run_jobs.Goals as goal

-- The closure's clauses, and what the bounds on its types say of them.
pub scoped-served-requires : goal.scoped-served-requires
scoped-served-requires g c =
    let r = c.requires in
    let m = c.type_bounds.send-M in
    let s = c.type_bounds.send-S in
    let o = c.type_bounds.send-O in
    let t = c.type_bounds.send-T in
    let y = c.type_bounds.sync-R in
    record {
      at = λ a. (
        c.args.setting.now.its,
        (
          r.fresh,
          (
            r.room.handles,
            (
              r.room.ended,
              (
                record {
                  owned = m.owned;
                  leaving = λ k. Quiet-if (k (of_param 1)) unseen unseen (λ x w. tt) (λ x w. tt);
                },
                record {
                  owned = s.owned;
                  leaving = λ k. Quiet-if (k (of_param 2)) unseen unseen (λ x w. tt) (λ x w. tt);
                },
                record {
                  owned = o.owned;
                  leaving = λ k. Quiet-if (k (of_param 3)) unseen unseen (λ x w. tt) (λ x w. tt);
                },
                record {
                  owned = t.owned;
                  leaving = λ k. Quiet-if (k (of_param 4)) unseen unseen (λ x w. tt) (λ x w. tt);
                },
                record { shared = y.shared },
              ),
            ),
          ),
        ),
      );
    }

pub sort_out-requires-clause-passes : goal.sort_out-requires-clause-passes
sort_out-requires-clause-passes g c =
    let o = c.in-Ok.all.ok in
    let j = c.args.jobs.ok in
    let l = served_long (Stood g.M.Machine.stands g.M.Machine.booked)
    g.S.Desk.failures g.S.Desk.remaining g.S.Desk.heard g.O.Sink.failures
    g.O.Sink.contents
    c.args.jobs.items c.in-Ok.all.items c.in-Ok.ensures.1 in
    let fit = c.requires.room.passes.1 in
    (c.requires.room.passes.0, omega arith)

pub sort_out-requires-clause-sessions : goal.sort_out-requires-clause-sessions
sort_out-requires-clause-sessions g c =
    let o = c.in-Ok.all.ok in
    let j = c.args.jobs.ok in
    let l = served_long (Stood g.M.Machine.stands g.M.Machine.booked)
    g.S.Desk.failures g.S.Desk.remaining g.S.Desk.heard g.O.Sink.failures
    g.O.Sink.contents
    c.args.jobs.items c.in-Ok.all.items c.in-Ok.ensures.1 in
    let fit = c.requires.room.sessions.1 in
    (c.requires.room.sessions.0, omega arith)
