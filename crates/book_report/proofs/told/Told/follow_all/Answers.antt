use Rattle.std.proofs.Common.{arith}
use Rattle.book_report.proofs.told.Told.follow_all.Goals as goal

pub follow-requires-clause-place : goal.follow-requires-clause-place
follow-requires-clause-place c =
    let many = c.len-at-end.ensures.value in
    let low = c.loop-at-test.true in
    record {
      sound = c.requires.sound;
      within = omega (arith, many, low);
      few = c.len-at-end.ensures.few;
    }
