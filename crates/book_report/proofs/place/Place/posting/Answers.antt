use Rattle.std.proofs.Common.{ap, ◌∙◌, Some}
use Rattle.run_model.specs.declared.entry.Entry.{Entry}
use Rattle.book_report.proofs.place.Place.posting.Goals as goal

pub returns-in-Settled-clause-told : goal.returns-in-Settled-clause-told
returns-in-Settled-clause-told c = record {
  c = c.in-Settled.comm;
  k = c.in-Settled.k;
  outcome = c.in-Settled.outcome;
  entry = c.get.ensures.entry ∙ ap (λ (e : Entry). Some e) c.in-Settled.is;
}

pub returns-in-Posted-clause-post : goal.returns-in-Posted-clause-post
returns-in-Posted-clause-post c = c.get.ensures.entry ∙ ap (λ (e : Entry). Some e) c.in-Posted.is
