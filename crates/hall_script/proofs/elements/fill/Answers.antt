use Rattle.std.proofs.Common.{length, arith, ap, ◌∙◌, subst}
use Rattle.std.proofs.lemmas.Result.{err_from_is_err_and}
use Rattle.coll_text.specs.Reading.{Fails}
use Rattle.hall_script.specs.Filling.{with_words}
use Rattle.hall_script.proofs.FillLemmas.{goes_on, stops, is_done, grows}
use Rattle.hall_script.proofs.elements.fill.Goals as goal

pub loop-word-preserved : goal.loop-word-preserved
loop-word-preserved c =
    let more = grows c.loop-word.builder c.push_word.new.builder c.in-Some.word.now
    c.in_ok-push_word.ensures.word in
    let next = goes_on c.loop-word.builder c.push_word.new.builder c.in-Some.word.now
    c.loop-word.words c.next.new.self (with_words c.args.builder.now c.args.line)
    c.in-Some.ensures c.in_ok-push_word.ensures.word c.loop-word.invariant.so_far in
    let plain = c.in_ok-words-2.ensures in
    record {
      so_far = plain.filled ∙ next;
      kind = plain.kind ∙ more.kind ∙ c.loop-word.invariant.kind;
      room = plain.room ∙ more.room ∙ c.loop-word.invariant.room;
      count = let split = ap length c.in-Some.ensures in
          omega (arith, split, plain.count, more.count, c.loop-word.invariant.count);
    }

pub loop-word-smaller : goal.loop-word-smaller
loop-word-smaller c = let split = ap length c.in-Some.ensures in
    omega (arith, split, c.in_ok-words-2.ensures.fewer)

pub returns-in_err-push_word-clause-filled : goal.returns-in_err-push_word-clause-filled
returns-in_err-push_word-clause-filled c =
    let p = err_from_is_err_and c.from_residual-in_err-push_word.result
    c.from_residual-in_err-push_word.ensures.1 in
    rw (p.1, p.2) (stops c.in_err-push_word.field-0.0 c.loop-word.builder c.in-Some.word.now
    c.loop-word.words c.next.new.self (with_words c.args.builder.now c.args.line)
    c.in-Some.ensures c.in_err-push_word.ensures.word c.loop-word.invariant.so_far)

pub returns-in_err-words-2-clause-filled : goal.returns-in_err-words-2-clause-filled
returns-in_err-words-2-clause-filled c =
    let p = err_from_is_err_and c.from_residual-in_err-words-2.result
    c.from_residual-in_err-words-2.ensures.1 in
    let next = goes_on c.loop-word.builder c.push_word.new.builder c.in-Some.word.now
    c.loop-word.words c.next.new.self (with_words c.args.builder.now c.args.line)
    c.in-Some.ensures c.in_ok-push_word.ensures.word c.loop-word.invariant.so_far in
    rw (p.1, p.2) (subst (Fails c.in_err-words-2.field-0.0) next
    c.in_err-words-2.ensures.fault)

pub returns-clause-filled : goal.returns-clause-filled
returns-clause-filled c = is_done c.loop-word.builder c.loop-word.words
    (with_words c.args.builder.now c.args.line) c.in_default.ensures.0
    c.loop-word.invariant.so_far
