use Rattle.std.proofs.Common.{◌+◌, sym, subst, arith}
use Rattle.wall_rules.specs.Histories.{has}
use Rattle.book_report.specs.Denials.{IsReason}
use Rattle.book_report.proofs.OffenceLemmas.{found}
use Rattle.book_report.proofs.PartLemmas.{member_posted}
use Rattle.book_report.proofs.ReasonLemmas.{found_by, giver_there, simple_is}
use Rattle.book_report.proofs.reason.Judged.simple_reason.Goals as goal

pub dataset_of-dataset-requires : goal.dataset_of-dataset-requires
dataset_of-dataset-requires c =
    let it = c.args.self.now.instance in
    let wall = it.place.policy.now in
    let has_so = has c.args.self.now.histories.now in
    let roll = it.roll.now in
    let p = c.args.process in
    let label = c.args.label.now in
    let f = found wall has_so roll p label c.requires.denied.verdict.1 in
    (f.2, f.3.names)

pub rank_of-to-requires : goal.rank_of-to-requires
rank_of-to-requires c =
    let it = c.args.self.now.instance in
    let wall = it.place.policy.now in
    let has_so = has c.args.self.now.histories.now in
    let roll = it.roll.now in
    let p = c.args.process in
    let label = c.args.label.now in
    let f = found wall has_so roll p label c.requires.denied.verdict.1 in
    (f.0, f.3.receiver)

pub lowest_giver-from-requires-clause-fit : goal.lowest_giver-from-requires-clause-fit
lowest_giver-from-requires-clause-fit c = c.requires.denied.fit

pub lowest_giver-from-requires-clause-to : goal.lowest_giver-from-requires-clause-to
lowest_giver-from-requires-clause-to c =
    let it = c.args.self.now.instance in
    let wall = it.place.policy.now in
    let has_so = has c.args.self.now.histories.now in
    let roll = it.roll.now in
    let p = c.args.process in
    let label = c.args.label.now in
    (giver_there wall has_so roll p label c.requires.denied.verdict.1 c.rank_of-to.ensures.group
    c.dataset_of-dataset.result c.dataset_of-dataset.ensures c.rank_of-to.result
    c.rank_of-to.ensures.rank).0

pub lowest_giver-from-requires-clause-some : goal.lowest_giver-from-requires-clause-some
lowest_giver-from-requires-clause-some c =
    let it = c.args.self.now.instance in
    let wall = it.place.policy.now in
    let has_so = has c.args.self.now.histories.now in
    let roll = it.roll.now in
    let p = c.args.process in
    let label = c.args.label.now in
    (giver_there wall has_so roll p label c.requires.denied.verdict.1 c.rank_of-to.ensures.group
    c.dataset_of-dataset.result c.dataset_of-dataset.ensures c.rank_of-to.result
    c.rank_of-to.ensures.rank).1

pub at-other-requires : goal.at-other-requires
at-other-requires c =
    let members = c.requires.denied.fit.sound.members in
    let within = c.lowest_giver-from.ensures.within in
    omega (arith, members, within)

pub part_of-given-requires-clause-posted : goal.part_of-given-requires-clause-posted
part_of-given-requires-clause-posted c =
    let it = c.args.self.now.instance in
    member_posted it.place.policy.now it.place.book.now.list (it.place.at + 1) it.comm it.k
    it.roll.now (has c.args.self.now.histories.now) c.lowest_giver-from.result c.at-other.result
    c.requires.denied.filled c.requires.denied.fit c.lowest_giver-from.ensures.within
    c.at-other.ensures

pub clash_of-clash-requires-clause-judged : goal.clash_of-clash-requires-clause-judged
clash_of-clash-requires-clause-judged c = record {
  place = c.requires.place;
  classes = c.requires.classes;
  fit = c.requires.denied.fit;
  filled = c.requires.denied.filled;
}

pub clash_of-clash-requires-clause-to : goal.clash_of-clash-requires-clause-to
clash_of-clash-requires-clause-to c =
    let it = c.args.self.now.instance in
    let wall = it.place.policy.now in
    let has_so = has c.args.self.now.histories.now in
    let roll = it.roll.now in
    let p = c.args.process in
    let label = c.args.label.now in
    (giver_there wall has_so roll p label c.requires.denied.verdict.1 c.rank_of-to.ensures.group
    c.dataset_of-dataset.result c.dataset_of-dataset.ensures c.rank_of-to.result
    c.rank_of-to.ensures.rank).0

pub clash_of-clash-requires-clause-some : goal.clash_of-clash-requires-clause-some
clash_of-clash-requires-clause-some c =
    let it = c.args.self.now.instance in
    let wall = it.place.policy.now in
    let has_so = has c.args.self.now.histories.now in
    let roll = it.roll.now in
    let p = c.args.process in
    let label = c.args.label.now in
    (found_by wall has_so roll p label c.requires.denied.verdict.1 c.rank_of-to.ensures.group
    c.dataset_of-dataset.result c.dataset_of-dataset.ensures c.rank_of-to.result
    c.rank_of-to.ensures.rank c.lowest_giver-from.result c.lowest_giver-from.ensures.gives
    c.lowest_giver-from.ensures.lowest).beside

pub returns : goal.returns
returns c =
    let it = c.args.self.now.instance in
    let wall = it.place.policy.now in
    let has_so = has c.args.self.now.histories.now in
    let roll = it.roll.now in
    let p = c.args.process in
    let label = c.args.label.now in
    let entries = it.place.book.now.list in
    let n = it.place.at + 1 in
    let f = found_by wall has_so roll p label c.requires.denied.verdict.1
    c.rank_of-to.ensures.group c.dataset_of-dataset.result c.dataset_of-dataset.ensures
    c.rank_of-to.result c.rank_of-to.ensures.rank c.lowest_giver-from.result
    c.lowest_giver-from.ensures.gives c.lowest_giver-from.ensures.lowest in
    subst (IsReason wall entries (n + 1) it.comm it.k p) (sym c.simple.ensures)
    (simple_is wall has_so roll p label entries n it.comm it.k c.rank_of-to.result
    c.lowest_giver-from.result c.dataset_of-dataset.result c.at-other.result
    c.part_of-given.result c.clash_of-clash.result c.requires.denied f c.at-other.ensures
    c.part_of-given.ensures c.clash_of-clash.ensures)
