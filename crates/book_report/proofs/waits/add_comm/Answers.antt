use Rattle.std.proofs.Common.{List, slice_get, sym, ap, ◌∙◌, length}
use Rattle.run_model.specs.Comms.{Comm}
use Rattle.book_report.specs.Held.{posts_to}
use Rattle.book_report.proofs.TurnLemmas.{slice_here}
use Rattle.book_report.proofs.MeetingLemmas.{comms_are}
use Rattle.book_report.proofs.waits.add_comm.Goals as goal

pub add_instances-requires-clause-meeting : goal.add_instances-requires-clause-meeting
add_instances-requires-clause-meeting c =
    let end = c.args.end.now in
    let entries = end.book.now.list in
    let posts = posts_to entries (length entries) in
    let here = slice_here end.post_state.now.comms c.args.comm c.requires.there in
    record {
      comm = here.0;
      there = ap (λ (cs : List Comm). slice_get cs c.args.comm)
          (sym (comms_are end.policy.now end.post_state.now posts c.requires.end)) ∙ here.1;
      members = c.group-group.ensures here.0 here.1;
      turns = rw c.deref.ensures.value c.in_ok-turns.ensures;
    }
