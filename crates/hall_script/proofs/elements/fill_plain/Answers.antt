use Rattle.std.proofs.Common.{length, arith, ap, ◌∙◌}
use Rattle.std.proofs.lemmas.Result.{err_from_is_err_and}
use Rattle.hall_script.specs.Filling.{with_words}
use Rattle.hall_script.proofs.FillLemmas.{goes_on, stops, grows}
use Rattle.hall_script.proofs.elements.fill_plain.Goals as goal

pub loop-word-preserved : goal.loop-word-preserved
loop-word-preserved c =
    let more = grows c.loop-word.builder c.push_plain.new.builder c.in-Some.word.now
    c.in_ok-push_plain.ensures.word in
    record {
      so_far = goes_on c.loop-word.builder c.push_plain.new.builder c.in-Some.word.now
          c.loop-word.words c.next_plain.new.self (with_words c.args.builder.now c.args.line)
          c.in-Some.ensures.part c.in_ok-push_plain.ensures.word c.loop-word.invariant.so_far;
      kind = more.kind ∙ c.loop-word.invariant.kind;
      room = more.room ∙ c.loop-word.invariant.room;
      count = let split = ap length c.in-Some.ensures.part in
          omega (arith, split, more.count, c.loop-word.invariant.count);
      fewer = let split = ap length c.in-Some.ensures.part in
          omega (arith, split, c.loop-word.invariant.fewer);
    }

pub loop-word-preserved-in_default-narrow : goal.loop-word-preserved-in_default-narrow
loop-word-preserved-in_default-narrow c =
    let more = grows c.loop-word.builder c.push_wide.new.builder c.in-Some.word.now
    c.in_ok-push_wide.ensures.word in
    record {
      so_far = goes_on c.loop-word.builder c.push_wide.new.builder c.in-Some.word.now
          c.loop-word.words c.next_plain.new.self (with_words c.args.builder.now c.args.line)
          c.in-Some.ensures.part c.in_ok-push_wide.ensures.word c.loop-word.invariant.so_far;
      kind = more.kind ∙ c.loop-word.invariant.kind;
      room = more.room ∙ c.loop-word.invariant.room;
      count = let split = ap length c.in-Some.ensures.part in
          omega (arith, split, more.count, c.loop-word.invariant.count);
      fewer = let split = ap length c.in-Some.ensures.part in
          omega (arith, split, c.loop-word.invariant.fewer);
    }

pub returns-in_err-push_plain-clause-fault : goal.returns-in_err-push_plain-clause-fault
returns-in_err-push_plain-clause-fault c =
    let p = err_from_is_err_and c.from_residual-in_err-push_plain.result
    c.from_residual-in_err-push_plain.ensures.1 in
    rw (p.1, p.2) (stops c.in_err-push_plain.field-0.0 c.loop-word.builder c.in-Some.word.now
    c.loop-word.words c.next_plain.new.self (with_words c.args.builder.now c.args.line)
    c.in-Some.ensures.part c.in_err-push_plain.ensures.word c.loop-word.invariant.so_far)

pub returns-in_err-push_wide-clause-fault : goal.returns-in_err-push_wide-clause-fault
returns-in_err-push_wide-clause-fault c =
    let p = err_from_is_err_and c.from_residual.result c.from_residual.ensures.1 in
    rw (p.1, p.2) (stops c.in_err-push_wide.field-0.0 c.loop-word.builder c.in-Some.word.now
    c.loop-word.words c.next_plain.new.self (with_words c.args.builder.now c.args.line)
    c.in-Some.ensures.part c.in_err-push_wide.ensures.word c.loop-word.invariant.so_far)
