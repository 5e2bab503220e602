use Rattle.std.proofs.Common.{◌≡◌, ◌+◌, List, false, sym, ◌∙◌, subst, refl}
use Rattle.wall_verdict.specs.Charges.{sanitised}
use Rattle.book_report.specs.declared.sanitised.Sanitised.{Sanitised}
use Rattle.book_report.specs.Sanitised.{IsSanitisedAt}
use Rattle.book_report.specs.Clean.{AreOfRanks}
use Rattle.book_report.proofs.SanitisedLemmas.{rank_same, rank_more}
use Rattle.book_report.proofs.CleanLemmas.{unsanitised_rank}
use Rattle.book_report.proofs.clean.add_rank.Goals as goal

pub returns-then-not-sanitised : goal.returns-then-not-sanitised
returns-then-not-sanitised c =
    let it = c.args.instance.now in
    let none : sanitised it.place.policy.now it.roll.now c.args.rank ≡ false =
    sym c.sanitised.ensures ∙ c.if-not-sanitised.true in
    rank_same it.place.policy.now it.place.book.now.list (it.place.at + 1) c.args.rank
    c.args.those.now.items c.requires.those
    (λ d k p is. unsanitised_rank it c.requires.granted c.args.rank none d k p is)

pub returns : goal.returns
returns c =
    let it = c.args.instance.now in
    let granted = c.requires.granted.grant in
    let row : Sanitised = record {
      entry = c.entry.result;
      comm = it.comm;
      k = it.k;
      rank = c.args.rank;
      process = c.at-process.result;
    } in
    let is : IsSanitisedAt it.place.policy.now it.place.book.now.list (it.place.at + 1) it.comm it.k
    c.args.rank c.at-process.result = record {
      x = granted.x;
      roll = it.roll.now;
      at = granted.at;
      comm = granted.comm;
      kth = granted.kth;
      grant = granted.grant;
      member = c.at-process.ensures;
      sanitised = sym c.sanitised.ensures ∙ c.if-not-sanitised.false;
    } in
    subst (λ (rows : List Sanitised). AreOfRanks it (c.args.rank + 1) rows)
    (sym c.in_ok-push.ensures.items)
    (rank_more it.place.policy.now it.place.book.now.list (it.place.at + 1) c.args.rank
    c.args.those.now.items c.requires.those row c.entry.ensures refl
    (subst (λ n. IsSanitisedAt it.place.policy.now it.place.book.now.list n it.comm it.k
    c.args.rank c.at-process.result) (sym c.entry.ensures) is))
