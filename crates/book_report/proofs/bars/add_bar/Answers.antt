use Rattle.std.proofs.Common.{◌+◌, refl, sym, ◌∙◌, subst}
use Rattle.std.proofs.lemmas.Bool.{false≢true}
use Rattle.wall_rules.specs.Rules.{IsLowest, IsHeldOther, PassesStar}
use Rattle.book_report.specs.declared.bar.Bar.{Bar}
use Rattle.book_report.specs.Bars.{AreBarsTo, IsBar}
use Rattle.book_report.specs.Places.{post_in}
use Rattle.book_report.proofs.BarLemmas.{bars_same, bars_more, is_bar, state_has}
use Rattle.book_report.proofs.BarLemmas.{passed_is_no_bar, unlabelled_passed, permitted_passed}
use Rattle.book_report.proofs.CountLemmas.{counts_at}
use Rattle.book_report.proofs.bars.add_bar.Goals as goal

pub returns-then-not-posting : goal.returns-then-not-posting
returns-then-not-posting c =
    let wall = c.args.place.now.policy.now in
    let entries = c.args.place.now.book.now.list in
    let n = c.args.place.now.at in
    bars_same wall entries n c.args.bars.now.items
    (passed_is_no_bar wall entries n (post_in c.args.posting.now) c.requires.here
    c.if-not-posting.true) c.requires.bars

pub returns-in_default : goal.returns-in_default
returns-in_default c =
    let wall = c.args.place.now.policy.now in
    let entries = c.args.place.now.book.now.list in
    let n = c.args.place.now.at in
    let x = post_in c.args.posting.now in
    let counts = counts_at wall entries n x c.requires.place.sound c.requires.here in
    absurd (false≢true (sym (unlabelled_passed wall entries n x counts c.in_default.is)
    ∙ c.if-not-posting.false))

pub returns-in_default-held_other : goal.returns-in_default-held_other
returns-in_default-held_other c =
    let wall = c.args.place.now.policy.now in
    let entries = c.args.place.now.book.now.list in
    let n = c.args.place.now.at in
    let x = post_in c.args.posting.now in
    let counts = counts_at wall entries n x c.requires.place.sound c.requires.here in
    let same = state_has wall entries n c.args.post_state.now c.histories.result.now
    c.histories.ensures.posts c.requires.stands in
    absurd (false≢true (sym (permitted_passed wall entries n x counts c.in-Some.label c.in-Some.is
    (subst (λ h. PassesStar (h x.process) c.in-Some.label) same
    c.in_default-held_other.ensures.none))
    ∙ c.if-not-posting.false))

pub returns : goal.returns
returns c =
    let wall = c.args.place.now.policy.now in
    let entries = c.args.place.now.book.now.list in
    let n = c.args.place.now.at in
    let x = post_in c.args.posting.now in
    let label = c.in-Some.label in
    let held = c.in-Some-held_other.held in
    let same = state_has wall entries n c.args.post_state.now c.histories.result.now
    c.histories.ensures.posts c.requires.stands in
    let lowest = subst (λ h. IsLowest (IsHeldOther (h x.process) label) held) same
    c.in-Some-held_other.ensures.lowest in
    let bar : Bar = record
    { entry = c.entry.result; process = x.process; label = label; held = held } in
    let sound = subst (λ m. IsBar wall entries (record
    { entry = m; process = x.process; label = label; held = held })) (sym c.entry.ensures)
    (is_bar wall entries n x.process x label held c.requires.here refl c.if-not-posting.false
    c.in-Some.is lowest) in
    subst (λ bs. AreBarsTo wall entries (n + 1) bs) (sym c.in_ok-push.ensures.items)
    (bars_more wall entries n c.args.bars.now.items bar c.entry.ensures sound c.requires.bars)
