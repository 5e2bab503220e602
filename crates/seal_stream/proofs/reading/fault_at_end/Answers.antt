use Rattle.std.proofs.Common.{◌+◌, ap, subst, arith}
use Rattle.std.specs.Option.{option_map}
use Rattle.audit_book.specs.Checks.{entry_of}
use Rattle.seal_stream.specs.declared.reading.Stage.TheVariants as stages
use Rattle.seal_stream.specs.Steps.{IsJudged}
use Rattle.seal_stream.proofs.JudgeLemmas.{spoilt_at_end, end_lacks}
use Rattle.seal_stream.proofs.reading.fault_at_end.Goals as goal

pub returns-in-Some : goal.returns-in-Some
returns-in-Some c = λ entries lines kept line number say judged end.
    spoilt_at_end c.args.policy.now lines kept line entries c.args.reading.now.audit
    c.in-Some.fault (subst (λ f. IsJudged c.args.policy.now stages.Entry c.args.reading.now.audit f
    lines kept entries) c.in-Some.is judged)

pub returns-in-Some-due : goal.returns-in-Some-due
returns-in-Some-due c = λ entries lines kept line number say judged end.
    let wall = c.args.policy.now in
    let audit = c.args.reading.now.audit in
    let few = c.requires in
    let u = subst (λ f. IsJudged wall stages.Entry audit f lines kept entries) c.in_default.is judged in
    end_lacks wall lines kept line entries say (omega (arith, few, number)) audit u _
    (entry_of c.in-Some-due.field-0) (ap (option_map entry_of) c.in-Some-due.is)
    (c.due.ensures wall entries u.seen) (c.args.reading.now.entries + 1)
    (ap (λ n. n + 1) number)
