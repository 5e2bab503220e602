use Rattle.std.proofs.Common.{◌≡◌, ◌+◌, ℕ, List, Some, length, slice_get, sym, ap, ◌∙◌, subst}
use Rattle.std.proofs.Common.{refl, arith}
use Rattle.std.specs.Prelude.{Vec}
use Rattle.std.specs.Global.{Global}
use Rattle.std.proofs.lemmas.Option.{slice_get_read}
use Rattle.book_report.specs.declared.wait.Wait.{Wait}
use Rattle.book_report.specs.Turns.{AreWaitsOn}
use Rattle.book_report.proofs.WaitLemmas.{waits_more}
use Rattle.book_report.proofs.MeetingLemmas.{is_wait}
use Rattle.book_report.proofs.waits.add_member.Goals as goal

pub returns : goal.returns
returns c =
    let begun = c.args.begun.now in
    let meeting = begun.meeting in
    let turns = c.index-begun-rank.result in
    let posted = c.turn_at-posted.result in
    let many = c.requires.begun.meeting.turns.many in
    let low = c.requires.rank in
    let here : slice_get meeting.turns.now c.args.rank ≡ Some turns =
    slice_get_read meeting.turns.now (length meeting.turns.now) c.args.rank turns refl
    (omega (arith, many, low)) c.index-begun-rank.is in
    let kth : slice_get turns.items begun.k ≡ posted =
    ap (λ (v : Vec ℕ Global). slice_get v.items begun.k) c.index-begun-rank.is
    ∙ sym (c.turn_at-posted.ensures ∙ ap (λ (ts : List ℕ). slice_get ts begun.k)
    c.deref.ensures.value) in
    let it : Wait = record {
      comm = meeting.comm;
      k = begun.k;
      begun = begun.entry;
      rank = c.args.rank;
      process = c.at-process.result;
      posted = posted;
    } in
    subst (λ (ws : List Wait). AreWaitsOn meeting begun.k (c.args.rank + 1) ws)
    (sym c.in_ok-push.ensures.items)
    (waits_more meeting.policy.now meeting.book.now.list meeting.comm begun.k c.args.rank
    c.args.waits.now.items c.requires.waits it refl refl refl
    (is_wait begun c.requires.begun c.args.rank c.at-process.result c.at-process.ensures turns
    here posted kth))
