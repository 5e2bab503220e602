use Rattle.std.proofs.Common.{◌≡◌, ◌+◌, true, Some, sym, ◌∙◌, subst}
use Rattle.book_report.specs.declared.row.Way.TheVariants.{Delivered}
use Rattle.book_report.specs.Held.{IsRow}
use Rattle.book_report.specs.Walk.{AreKnown, knows, row_of}
use Rattle.book_report.proofs.KnownLemmas.{ok_then, ok_three}
use Rattle.book_report.proofs.GrantLemmas.{some_gives, delivered}
use Rattle.book_report.proofs.grant.add_charge.Goals as goal

pub unreachable-requires : goal.unreachable-requires
unreachable-requires c =
    let it = c.args.instance.now in
    some_gives it.place.policy.now it.roll.now c.args.to c.args.dataset c.requires.charge
    c.in_default.ensures.none

pub returns-clause-added : goal.returns-clause-added
returns-clause-added c = ok_three c.add.result _ _ _ _
    (λ room known grows.
    let it = c.args.instance.now in
    let wall = it.place.policy.now in
    let entries = it.place.book.now.list in
    let n = it.place.at + 1 in
    let d = c.args.dataset in
    let receiver = c.at-receiver.result in
    let way = Delivered it.comm it.k c.at-sender.result in
    record {
      known = record {
        room = room;
        rows = subst (λ m. AreKnown wall entries m c.add.new.self) c.entry.ensures
            (known wall entries
            (subst (λ m. AreKnown wall entries m c.args.known.now) (sym c.entry.ensures)
            c.requires.known.rows)
            (λ fresh. subst (λ m. IsRow wall entries (row_of receiver d m way))
            (sym c.entry.ensures)
            (delivered wall it.roll.now c.args.to d entries receiver n it.comm it.k
            c.in-Some.from c.at-sender.result c.requires.charge c.requires.granted.grant
            c.at-receiver.ensures c.at-sender.ensures c.in-Some.ensures.gives
            c.in-Some.ensures.lowest (c.requires.new receiver c.at-receiver.ensures fresh).0
            (c.requires.new receiver c.at-receiver.ensures fresh).1)));
      };
      grows = grows;
    })
    c.add.ensures.room c.add.ensures.known c.add.ensures.grows

pub returns-clause-there : goal.returns-clause-there
returns-clause-there c = ok_then c.add.result _ _
    (λ there p at.
    let both : Some c.at-receiver.result ≡ Some p = sym c.at-receiver.ensures ∙ at in
    let same : c.at-receiver.result ≡ p = cc in
    subst (λ q. knows c.add.new.self q c.args.dataset ≡ true) same there)
    c.add.ensures.there
