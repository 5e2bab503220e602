use Rattle.std.proofs.Common.{List, length, ap, inl, arith}
use Rattle.std.proofs.lemmas.Option.{slice_get_within}
use Rattle.run_model.specs.Comms.{Comm}
use Rattle.run_model.specs.Posts.{comms}
use Rattle.book_report.specs.Held.{posts_to}
use Rattle.book_report.proofs.MeetingLemmas.{comms_are}
use Rattle.book_report.proofs.report.Report.of.Goals as goal

pub into_report-requires-clause-waits : goal.into_report-requires-clause-waits
into_report-requires-clause-waits c =
    let wall = c.args.policy.now in
    let entries = c.args.book.now.list in
    let posts = posts_to entries (length entries) in
    let waits = c.in-Ok-waits_of.ensures in
    let same = ap (λ (cs : List Comm). length cs)
    (comms_are wall c.in-Ok.told.post_state posts c.in-Ok.ensures.come.stands) in
    record {
      right = waits.sound;
      all = λ d k j p w.
          let low = slice_get_within (comms wall posts) d w.comm w.there in
          waits.whole d k j p (inl (omega (arith, low, same))) w;
      once = waits.rising;
    }
