use Rattle.std.proofs.Common.{take, sym, subst}
use Rattle.audit_book.specs.Audits.{HasSeen}
use Rattle.audit_book.specs.Dues.{IsFaultWithin}
use Rattle.audit_book.proofs.AuditLemmas.{stops_within}
use Rattle.audit_book.proofs.StepLemmas.{take_more}
use Rattle.audit_book.proofs.watch.watch_entries.Goals as goal

pub step-requires-clause-under_way : goal.step-requires-clause-under_way
step-requires-clause-under_way g c =
    (take c.loop-at.at c.args.book.now.list, c.loop-at.invariant.seen)

pub returns-in-Err-step-clause-fault : goal.returns-in-Err-step-clause-fault
returns-in-Err-step-clause-fault g c =
    let before = take c.loop-at.at c.args.book.now.list in
    subst (IsFaultWithin c.args.policy.now c.args.book.now.list) (sym c.at.ensures)
    (stops_within c.args.policy.now c.loop-at.audit c.args.book.now.list c.loop-at.at
    c.get-entry.result.now c.in-Err-step.fault c.get-entry.ensures.entry c.len-at-end.ensures.few
    c.loop-at.invariant.seen (c.in-Err-step.ensures.fault before c.loop-at.invariant.seen).1)

pub loop-at-preserved : goal.loop-at-preserved
loop-at-preserved g c =
    let before = take c.loop-at.at c.args.book.now.list in
    let i = c.loop-at.invariant in
    let more = sym (take_more c.args.book.now.list c.loop-at.at c.get-entry.result.now
    c.get-entry.ensures.entry) in
    let on = c.in-Ok-step.ensures.step before i.seen in
    record {
      seen = subst (HasSeen c.args.policy.now c.step.new.self) more on.0;
      follows = subst (λ es. g.W.Watch.follows c.args.policy.now es c.see-seen.new.self) more
          (c.in-Ok-seen.ensures before on.0 on.1 i.follows);
    }
