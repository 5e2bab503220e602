use Rattle.std.proofs.Common.{ap, sym, ◌∙◌, ◌∷◌, length, arith}
use Rattle.std.proofs.lemmas.Result.{err_from_is_err_and}
use Rattle.chain_file.specs.Reading.{lines_in, no_runs}
use Rattle.chain_file.proofs.StepLemmas.{reads_on, stops, ends_well, ends_cut, took_fault}
use Rattle.chain_file.proofs.read.take_lines.Goals as goal

pub returns-in_err-take : goal.returns-in_err-take
returns-in_err-take c =
    let total = lines_in no_runs 2 (c.args.first.now ∷ c.args.lines.now) in
    let at = c.loop-next.invariant.at in
    let p = err_from_is_err_and c.from_residual.result c.from_residual.ensures.1 in
    rw (p.1, p.2) (took_fault c.take.new.self c.in_err-take.field-0.0 total
    (stops c.loop-next.walk c.take.new.self c.loop-next.number c.loop-next.line.now
    c.in-Some.next.now c.loop-next.lines c.next_long.new.self total c.in-Some.ensures at
    c.in_err-take.field-0.0 (c.in_err-take.ensures at.chain at.read)))

pub loop-next-preserved : goal.loop-next-preserved
loop-next-preserved c =
    let total = lines_in no_runs 2 (c.args.first.now ∷ c.args.lines.now) in
    let at = c.loop-next.invariant.at in
    let split = ap length c.in-Some.ensures in record {
      few = omega (arith, split, c.loop-next.invariant.few);
      at = reads_on c.loop-next.walk c.take.new.self c.loop-next.number c.loop-next.line.now
          c.in-Some.next.now c.loop-next.lines c.next_long.new.self total c.in-Some.ensures at
          (c.in_ok-take.ensures at.chain at.read);
    }

pub returns-then-is_empty : goal.returns-then-is_empty
returns-then-is_empty c = ends_well c.loop-next.walk c.loop-next.number c.loop-next.line.now
    c.loop-next.lines (lines_in no_runs 2 (c.args.first.now ∷ c.args.lines.now))
    c.in_default.ensures.0 (sym c.is_empty.ensures ∙ c.if-is_empty.true) c.loop-next.invariant.at

pub returns-else-is_empty : goal.returns-else-is_empty
returns-else-is_empty c = ends_cut c.loop-next.walk c.loop-next.number c.loop-next.line.now
    c.loop-next.lines (lines_in no_runs 2 (c.args.first.now ∷ c.args.lines.now))
    c.in_default.ensures.0 (sym c.is_empty.ensures ∙ c.if-is_empty.false)
    c.loop-next.invariant.at
