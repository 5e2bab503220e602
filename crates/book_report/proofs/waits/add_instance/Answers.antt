use Rattle.book_report.proofs.MeetingLemmas.{instance_done, some_begun, some_lacking}
use Rattle.book_report.proofs.waits.add_instance.Goals as goal

pub returns-in_default : goal.returns-in_default
returns-in_default c = instance_done c.args.meeting.now c.requires.meeting c.args.k
    c.args.waits.now.items
    (λ j p w. some_begun c.args.meeting.now c.requires.meeting c.args.k j p w
    c.in_default.ensures.none) c.requires.waits

pub returns-then-not-lacks_one : goal.returns-then-not-lacks_one
returns-then-not-lacks_one c = instance_done c.args.meeting.now c.requires.meeting c.args.k
    c.args.waits.now.items
    (λ j p w. some_lacking c.args.meeting.now c.requires.meeting c.args.k j p w
    (c.lacks_one.ensures.none c.if-not-lacks_one.true)) c.requires.waits

pub add_members-requires-clause-begun : goal.add_members-requires-clause-begun
add_members-requires-clause-begun c = record {
  meeting = c.requires.meeting;
  turn = c.in-Some.ensures.turn;
  short = c.lacks_one.ensures.some c.if-not-lacks_one.false;
}
