use Rattle.std.proofs.Common.{◌≡◌, sym, ap, ◌∙◌, ◌∷◌, length, arith}
use Rattle.std.specs.Prelude.{codes}
use Rattle.std.proofs.lemmas.Result.{err_from_is_err_and}
use Rattle.chain_file.specs.declared.fault.ChainFault.TheVariants.{NoMemory}
use Rattle.chain_file.specs.Reading.{lines_in, no_runs}
use Rattle.chain_file.proofs.TextLemmas.{same_head}
use Rattle.chain_file.proofs.StepLemmas.{took_is, fault_is}
use Rattle.chain_file.proofs.FoundLemmas.{parts_few, text_lines, text_read, no_memory_said}
use Rattle.chain_file.proofs.read.read_chain.Goals as goal

pub take_lines-requires-clause-few : goal.take_lines-requires-clause-few
take_lines-requires-clause-few c =
    let one = ap length (sym c.new-lines.ensures ∙ c.in-Some.ensures) in
    let two = ap length c.in-Some-next_long.ensures in
    omega (arith, one, two, parts_few c.args.text.now)

pub returns-in_err-take_lines-clause-memory : goal.returns-in_err-take_lines-clause-memory
returns-in_err-take_lines-clause-memory c = λ none.
    let p = err_from_is_err_and c.from_residual.result c.from_residual.ensures.1 in
    let fault = c.in_err-take_lines.field-0.0 in
    let is : fault ≡ NoMemory = cc (p.1, p.2, none) in
    no_memory_said c.args.text.now c.in-Some.first.now c.in-Some-next_long.line.now
    c.next_long.new.self c.next_long-2.new.self (sym c.new-lines.ensures ∙ c.in-Some.ensures)
    c.in-Some-next_long.ensures
    (same_head c.in-Some.first.now c.as_slice.result.now (codes "chain 1") c.ne.result
    c.ne.ensures c.if-ne.false c.as_slice.ensures) fault
    (fault_is c.take_lines.new.walk fault
    (lines_in no_runs 2 (c.in-Some-next_long.line.now ∷ c.next_long-2.new.self))
    c.in_err-take_lines.ensures) is

pub returns-clause-text : goal.returns-clause-text
returns-clause-text c =
    let lines = c.in-Some-next_long.line.now ∷ c.next_long-2.new.self in
    let t = took_is c.take_lines.new.walk (lines_in no_runs 2 lines) c.in_ok-take_lines.ensures in
    text_read c.file_of.result t.0 c.args.text.now (c.file_of.ensures.file t.0 t.2)
    (text_lines c.args.text.now c.in-Some.first.now c.in-Some-next_long.line.now
    c.next_long.new.self c.next_long-2.new.self (sym c.new-lines.ensures ∙ c.in-Some.ensures)
    c.in-Some-next_long.ensures
    (same_head c.in-Some.first.now c.as_slice.result.now (codes "chain 1") c.ne.result
    c.ne.ensures c.if-ne.false c.as_slice.ensures) ∙ t.1)
