use Rattle.std.proofs.Common.{◌&&◌, ◌++◌, ◌∷◌, [], List, Some, cond, sym, ap, ◌∙◌, subst}
use Rattle.std.proofs.Common.{append_assoc}
use Rattle.std.specs.Prelude.{◌==◌}
use Rattle.mpi_elems.specs.Contents.{Contents}
use Rattle.run_model.specs.declared.entry.Entry.{Entry as BookEntry}
use Rattle.run_model.specs.declared.entry.Entry.TheVariants.{Posted as EntryPosted}
use Rattle.run_model.specs.declared.entry.Entry.TheVariants.{Settled as EntrySettled}
use Rattle.run_state.specs.declared.entered.Entered.{Entered}
use Rattle.hall_core.specs.Asking.{requests_of}
use Rattle.hall_core.specs.Halls.{settlement}
use Rattle.hall_core.specs.Invariant.{view_in}
use Rattle.hall_core.specs.Moves.{IsRecorded}
use Rattle.hall_core.proofs.records.Records.record.Goals as goal

pub returns-in-Waiting-clause-recorded : goal.returns-in-Waiting-clause-recorded
returns-in-Waiting-clause-recorded c =
    subst (λ (e : Entered Contents). IsRecorded (view_in c.args.self.now) (view_in c.note.new.self)
    c.args.member c.args.comm c.args.stated e)
    (sym c.in-Waiting.is)
    (record {
      policy = c.note.ensures.keeps.policy;
      asked = c.note.ensures.requests;
      settled = c.note.ensures.settled;
      book = c.note.ensures.book.list;
    })

pub returns-in-Settled-clause-recorded : goal.returns-in-Settled-clause-recorded
returns-in-Settled-clause-recorded c =
    subst (λ (e : Entered Contents). IsRecorded (view_in c.args.self.now)
    (view_in c.settle.new.self) c.args.member c.args.comm c.args.stated e)
    (sym c.in-Settled.is)
    (record {
      policy = c.settle.ensures.keeps.policy ∙ c.note-in-Settled.ensures.keeps.policy;
      asked = ap (λ r. requests_of r.items) c.settle.ensures.requests
          ∙ c.note-in-Settled.ensures.requests;
      settled = λ d j. c.settle.ensures.settled d j
          ∙ (λ i. cond (d == c.args.comm && j == c.in-Settled.k)
          (Some (settlement (c.new-full.ensures i) c.in-Settled.outcome))
          (c.note-in-Settled.ensures.settled d j i));
      book = c.settle.ensures.book.list
          ∙ (ap (λ (b : List BookEntry). b ++ EntrySettled c.args.comm c.in-Settled.k
          c.in-Settled.outcome ∷ []) c.note-in-Settled.ensures.book.list
          ∙ append_assoc c.args.self.now.book.list
          (EntryPosted c.args.member c.args.comm c.args.stated ∷ [])
          (EntrySettled c.args.comm c.in-Settled.k c.in-Settled.outcome ∷ []));
    })
