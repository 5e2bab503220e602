use Rattle.std.proofs.Common.{◌≡◌, Some, sym, ap, ◌∙◌, subst, true}
use Rattle.wall_verdict.specs.Charges.{dataset_in}
use Rattle.book_report.specs.Walk.{knows}
use Rattle.book_report.proofs.KnownLemmas.{ok_then}
use Rattle.wall_verdict.proofs.WallVerdictLemmas.{label_is}
use Rattle.book_report.proofs.known.Known.add_label.Goals as goal

pub returns-in-None-clause-there : goal.returns-in-None-clause-there
returns-in-None-clause-there c = λ d own.
    let some : dataset_in c.args.stated.now.label ≡ Some d = ap dataset_in own.1 in
    let none = c.in-None.ensures in cc

pub returns-in-Some-clause-known : goal.returns-in-Some-clause-known
returns-in-Some-clause-known c = ok_then c.add.result _ _
    (λ known wall entries before is.
    known wall entries before (λ fresh.
    is c.in-Some.dataset (
      c.if-stated.false,
      label_is c.args.stated.now.label c.in-Some.dataset (sym c.in-Some.ensures),
    ) fresh))
    c.add.ensures.known

pub returns-in-Some-clause-there : goal.returns-in-Some-clause-there
returns-in-Some-clause-there c = ok_then c.add.result _ _
    (λ there d own.
    let same : Some c.in-Some.dataset ≡ Some d = c.in-Some.ensures ∙ ap dataset_in own.1 in
    let one : c.in-Some.dataset ≡ d = cc in
    subst (λ e. knows c.add.new.self c.args.process e ≡ true) one there)
    c.add.ensures.there
