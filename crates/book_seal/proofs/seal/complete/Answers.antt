use Rattle.std.proofs.Common.{ℕ, ◌+◌, sym, subst}
use Rattle.audit_book.specs.Dues.{IsDueBehind}
use Rattle.book_seal.specs.declared.fault.SealFault.TheVariants as faults
use Rattle.book_seal.specs.SealSteps.{IsUncompleted}
use Rattle.book_seal.proofs.KnownLemmas.{due_known}
use Rattle.book_seal.proofs.SealLemmas.{verdict_missed}
use Rattle.book_seal.proofs.seal.complete.Goals as goal

pub returns-then-is_ended-clause-fault : goal.returns-then-is_ended-clause-fault
returns-then-is_ended-clause-fault c =
    subst (λ (n : ℕ). IsUncompleted c.args.policy.now c.args.book.list c.args.is_ended
    (faults.BadEntry (n + 1))) (sym c.len-entries.ensures.value)
    (verdict_missed c.args.policy.now c.args.book.list c.args.is_ended c.len-entries.ensures.few
    c.in-Ok-Some.verdict
    (subst (IsDueBehind c.args.policy.now c.args.book.list) c.in-Ok-Some.field-0-is
    c.in-Ok-Some.ensures.due) c.if-is_ended.true)

pub entry_is_spelled-requires-clause-known : goal.entry_is_spelled-requires-clause-known
entry_is_spelled-requires-clause-known c =
    due_known c.args.policy.now c.args.book.list c.in-Ok-Some.verdict c.processes.ensures.policy
    c.requires
    (subst (IsDueBehind c.args.policy.now c.args.book.list) c.in-Ok-Some.field-0-is
    c.in-Ok-Some.ensures.due)
