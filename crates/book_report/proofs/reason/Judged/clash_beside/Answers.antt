use Rattle.std.proofs.Common.{◌+◌, arith}
use Rattle.wall_rules.specs.Histories.{has}
use Rattle.book_report.proofs.PartLemmas.{member_posted}
use Rattle.book_report.proofs.reason.Judged.clash_beside.Goals as goal

pub at-lower-requires : goal.at-lower-requires
at-lower-requires c =
    let low = c.beside-rank.ensures.below in
    let size = c.requires.from in
    let members = c.requires.judged.fit.sound.members in
    omega (arith, low, size, members)

pub part_of-given-requires-clause-posted : goal.part_of-given-requires-clause-posted
part_of-given-requires-clause-posted c =
    let low = c.beside-rank.ensures.below in
    let size = c.requires.from in
    let it = c.args.self.now.instance in
    member_posted it.place.policy.now it.place.book.now.list (it.place.at + 1) it.comm it.k
    it.roll.now (has c.args.self.now.histories.now) c.beside-rank.result c.at-lower.result
    c.requires.judged.filled c.requires.judged.fit (omega (arith, low, size)) c.at-lower.ensures

pub returns : goal.returns
returns c = λ p. record {
  rivals = c.rival_of-rival.ensures.rivals;
  source = (
    c.beside-rank.result,
    c.beside-rank.ensures.below,
    c.at-lower.ensures,
    record {
      routed = c.rival_of-rival.ensures.gives.0;
      label = c.rival_of-rival.ensures.gives.1;
      unsanitised = c.requires.beside.unsanitised;
    },
    c.part_of-given.ensures,
  );
}
