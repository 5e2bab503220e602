use Rattle.std.proofs.Common.{◌+◌, ◌≤◌, sym, subst, arith}
use Rattle.book_report.specs.declared.row.Way.TheVariants.{OwnPost}
use Rattle.book_report.specs.Held.{IsRow}
use Rattle.book_report.specs.Places.{post_in}
use Rattle.book_report.specs.Walk.{AreKnown, row_of}
use Rattle.book_report.proofs.KnownLemmas.{known_later}
use Rattle.book_report.proofs.WalkLemmas.{come_settled, own_is_row, covers_label}
use Rattle.book_report.proofs.BarLemmas.{bars_same, settled_is_no_bar}
use Rattle.book_report.proofs.SanitisedLemmas.{those_next, settled_sanitises_none}
use Rattle.book_report.proofs.DenialLemmas.{denials_same, settled_undenied}
use Rattle.book_report.proofs.told.Told.follow.Goals as goal

pub returns-in_default : goal.returns-in_default
returns-in_default c =
    let wall = c.args.place.now.policy.now in
    let entries = c.args.place.now.book.now.list in
    let n = c.args.place.now.at in
    let self = c.args.self.now in
    let it = c.in_default.ensures.told in
    let come = c.requires.come in
    record {
      come = come_settled wall entries n self.post_state self.known it.c it.k it.outcome it.entry
          come.come;
      bars = bars_same wall entries n self.bars.items
          (settled_is_no_bar wall entries n it.c it.k it.outcome it.entry) come.bars;
      sanitised = those_next wall entries (n + 1) 0 self.sanitised.items come.sanitised
          (λ d l i p is. absurd (settled_sanitises_none wall entries n it.c it.k it.outcome
          it.entry d l i p is));
      denials = denials_same wall entries n self.denials.items
          (settled_undenied wall entries n it.c it.k it.outcome it.entry) come.denials;
    }

pub add_entered-added-requires-clause-known : goal.add_entered-added-requires-clause-known
add_entered-added-requires-clause-known c =
    let wall = c.args.place.now.policy.now in
    let entries = c.args.place.now.book.now.list in
    let n = c.args.place.now.at in
    let x = post_in c.in-Some.posting in
    let old = c.args.self.now.known in
    let entry = c.entry.ensures in
    let come = c.requires.come.come in
    let later : n ≤ n + 1 = omega arith in
    record {
      room = c.in_ok-add_label.ensures.room;
      rows = subst (λ m. AreKnown wall entries m c.add_label.new.self) entry
          (c.in_ok-add_label.ensures.known wall entries
          (subst (λ m. AreKnown wall entries m old) (sym entry)
          (known_later wall entries n (n + 1) old later come.rows))
          (λ d own fresh. subst (λ m. IsRow wall entries (row_of x.process d m OwnPost))
          (sym entry)
          (own_is_row wall entries n x c.in-Some.ensures.post old d come.whole own fresh)));
    }

pub add_entered-added-requires-clause-covers : goal.add_entered-added-requires-clause-covers
add_entered-added-requires-clause-covers c =
    covers_label c.args.place.now.policy.now c.args.place.now.book.now.list c.args.place.now.at
    (post_in c.in-Some.posting) c.in-Some.ensures.post c.args.self.now.known
    c.add_label.new.self c.requires.come.come.whole c.in_ok-add_label.ensures.grows
    c.in_ok-add_label.ensures.there
