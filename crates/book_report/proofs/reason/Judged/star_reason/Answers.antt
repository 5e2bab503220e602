use Rattle.std.proofs.Common.{◌+◌, sym, subst}
use Rattle.wall_rules.specs.Histories.{has}
use Rattle.book_report.specs.Denials.{IsReason}
use Rattle.book_report.proofs.PartLemmas.{member_posted}
use Rattle.book_report.proofs.ReasonLemmas.{star_is}
use Rattle.book_report.proofs.reason.Judged.star_reason.Goals as goal

pub part_of-post-requires-clause-posted : goal.part_of-post-requires-clause-posted
part_of-post-requires-clause-posted c =
    let it = c.args.self.now.instance in
    let names = c.requires.denied.verdict in
    member_posted it.place.policy.now it.place.book.now.list (it.place.at + 1) it.comm it.k
    it.roll.now (has c.args.self.now.histories.now) names.rank c.args.process
    c.requires.denied.filled c.requires.denied.fit names.lowest.within names.is_member

pub returns : goal.returns
returns c =
    let it = c.args.self.now.instance in
    let wall = it.place.policy.now in
    let entries = it.place.book.now.list in
    let n = it.place.at + 1 in
    subst (IsReason wall entries (n + 1) it.comm it.k c.args.process) (sym c.star.ensures)
    (star_is wall (has c.args.self.now.histories.now) it.roll.now c.args.process c.args.label.now
    entries n it.comm it.k c.part_of-post.result c.requires.denied c.part_of-post.ensures)
