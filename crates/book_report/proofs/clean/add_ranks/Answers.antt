use Rattle.std.proofs.Common.{arith, ◌+◌}
use Rattle.book_report.proofs.SanitisedLemmas.{those_next}
use Rattle.book_report.proofs.CleanLemmas.{granted_ranks}
use Rattle.book_report.proofs.clean.add_ranks.Goals as goal

pub add_rank-requires-clause-rank : goal.add_rank-requires-clause-rank
add_rank-requires-clause-rank c =
    let members = c.requires.granted.fit.sound.members in
    let size = c.size-rank-end.ensures.value in
    let low = c.loop-rank-test.true in
    omega (arith, members, size, low)

pub returns : goal.returns
returns c =
    let it = c.args.instance.now in
    let size = c.size-rank-end.ensures.value in
    let high = c.loop-rank-test.false in
    those_next it.place.policy.now it.place.book.now.list (it.place.at + 1) c.loop-rank.rank
    c.loop-rank.those.items c.loop-rank.invariant
    (λ d l i p is.
    let low = granted_ranks it c.requires.granted d l i p is in omega (arith, low, size, high))
