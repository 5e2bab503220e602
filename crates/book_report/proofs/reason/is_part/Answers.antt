use Rattle.std.proofs.Common.{sym, ap, ◌∙◌}
use Rattle.run_model.specs.declared.entry.Entry.{Entry}
use Rattle.book_report.specs.Reasons.{is_part}
use Rattle.book_report.proofs.reason.is_part.Goals as goal

pub returns-in-Settled : goal.returns-in-Settled
returns-in-Settled c =
    sym (ap (λ (e : Entry). is_part e c.args.process c.args.comm) c.in-Settled.is)

pub returns-in-Posted : goal.returns-in-Posted
returns-in-Posted c = c.is_by.ensures
    ∙ sym (ap (λ (e : Entry). is_part e c.args.process c.args.comm) c.in-Posted.is)
