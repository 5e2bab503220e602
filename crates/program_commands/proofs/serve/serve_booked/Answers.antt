use Rattle.std.proofs.Common.{◌≡◌, ◌∙◌, Some, inl, inr, refl, subst, sym}
use Rattle.hall_script.specs.Devices.{used}
use Rattle.live_book.specs.Books.{SinkValue, StandsBehind, covered}
use Rattle.program_commands.specs.Serving.{WritesBook}
use Rattle.program_commands.specs.Replaying.{text_of}
use Rattle.program_commands.specs.Serving.{HaveEndedIn, IsUnserved}
use Rattle.program_commands.specs.declared.ending.Ending.{Ending}
use Rattle.program_commands.proofs.ServeLemmas.{let_go, unopened}
use Rattle.program_commands.proofs.serve.serve_booked.Goals as goal

pub returns-in-Ok-serve_all : goal.returns-in-Ok-serve_all
returns-in-Ok-serve_all g c =
    let wall = c.args.policy.now in
    let served = c.in-Ok-serve_all.served in
    let book = c.args.book in
    let new = c.finish-sink.result.0 in
    let ending = c.finish-sink.result.1 in
    let spoilt = g.B.Sink.failures in
    let kept = g.B.Sink.contents in
    let all = c.in-Ok-serve_all.ensures.served in (
      ending,
      inr (subst (λ (v : SinkValue). HaveEndedIn g.S.Desk.failures g.S.Desk.remaining
          g.S.Desk.heard g.O.Sink.failures g.O.Sink.contents (StandsBehind v) covered c.args.most
          wall c.args.peers.items served.sessions.items
          (λ run. (back : _) × (Some new ≡ Some back)
          × WritesBook (used spoilt kept book back) (text_of wall run) ending)) c.requires.begun (
            served.machine,
            all,
            (
              new,
              refl,
              c.finish-sink.ensures book wall all.run c.requires.begun all.stood,
            ),
          )),
      c.end-status.ensures.status,
      c.end-status.ensures.told,
    )

pub returns-in-Err-serve_all : goal.returns-in-Err-serve_all
returns-in-Err-serve_all g c = (
  c.serve_ending.result,
  inl (
    let_go g.B.Sink.failures g.B.Sink.contents c.args.policy.now c.args.peers.items
        (Some c.args.book) c.unserved-in-Err-serve_all.result.book c.in-Err-serve_all.fault
        c.serve_ending.result c.args.peers.len c.args.peers.ok.0 c.requires.peers
        c.in-Err-serve_all.ensures.bad_peers c.unserved-in-Err-serve_all.ensures.book
        c.serve_ending.ensures,
    c.unserved-in-Err-serve_all.ensures.sessions,
  ),
  c.unserved-in-Err-serve_all.ensures.status,
  c.unserved-in-Err-serve_all.ensures.told,
)

pub returns-in-Err : goal.returns-in-Err
returns-in-Err g c = (
  c.book_ending.result,
  inl (
    subst (λ (e : Ending). IsUnserved g.B.Sink.failures g.B.Sink.contents c.args.policy.now
        c.args.peers.items (Some c.args.book) c.unserved.result.book e) (sym c.book_ending.ensures)
        (unopened g.B.Sink.failures g.B.Sink.contents c.args.policy.now c.args.peers.items
        c.args.book c.in-Err.unopened.sink c.unserved.result.book c.in-Err.unopened.fault
        (sym c.args.peers.ok.0 ∙ c.requires.peers) c.unserved.ensures.book c.in-Err.ensures.begun),
    c.unserved.ensures.sessions,
  ),
  c.unserved.ensures.status,
  c.unserved.ensures.told,
)
