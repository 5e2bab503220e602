use Rattle.std.proofs.Common.{sym, ap, ◌∙◌, subst}
use Rattle.std.specs.Str.{bytes_eq}
use Rattle.chain_file.specs.Reading.{by_said}
use Rattle.chain_file.specs.Steps.{Took}
use Rattle.chain_file.proofs.LineLemmas.{said_begun, said_ended, said_none, said_nothing}
use Rattle.chain_file.proofs.StepLemmas.{took_fault}
use Rattle.chain_file.proofs.walk.Walk.take.Goals as goal

pub returns-then-eq : goal.returns-then-eq
returns-then-eq c = λ chain read. subst (Took c.take_begun.new.self c.take_begun.result)
    (ap (by_said chain c.args.number) (sym (said_begun c.args.line.now c.in-Some.verb.now
    c.next.new.self (sym c.new-words.ensures ∙ c.in-Some.ensures)
    (ap (bytes_eq c.in-Some.verb.now) (sym c.as_slice.ensures) ∙ sym c.eq.ensures
    ∙ c.if-eq.true)))) (c.take_begun.ensures chain read)

pub returns-then-eq-2 : goal.returns-then-eq-2
returns-then-eq-2 c = λ chain read. subst (Took c.take_ended.new.self c.take_ended.result)
    (ap (by_said chain c.args.number) (sym (said_ended c.args.line.now c.in-Some.verb.now
    c.next.new.self (sym c.new-words.ensures ∙ c.in-Some.ensures)
    (ap (bytes_eq c.in-Some.verb.now) (sym c.as_slice.ensures) ∙ sym c.eq.ensures
    ∙ c.if-eq.false)
    (ap (bytes_eq c.in-Some.verb.now) (sym c.as_slice-in-Some.ensures) ∙ sym c.eq-in-Some.ensures
    ∙ c.if-eq-2.true)))) (c.take_ended.ensures chain read)

pub returns-in-None : goal.returns-in-None
returns-in-None c = λ chain read. took_fault _ _ _ (ap (by_said chain c.args.number)
    (said_nothing c.args.line.now (sym c.new-words.ensures ∙ c.in-None.ensures.0)))

pub returns-else-eq-2 : goal.returns-else-eq-2
returns-else-eq-2 c = λ chain read. took_fault _ _ _ (ap (by_said chain c.args.number)
    (said_none c.args.line.now c.in-Some.verb.now c.next.new.self
    (sym c.new-words.ensures ∙ c.in-Some.ensures)
    (ap (bytes_eq c.in-Some.verb.now) (sym c.as_slice.ensures) ∙ sym c.eq.ensures
    ∙ c.if-eq.false)
    (ap (bytes_eq c.in-Some.verb.now) (sym c.as_slice-in-Some.ensures) ∙ sym c.eq-in-Some.ensures
    ∙ c.if-eq-2.false)))
