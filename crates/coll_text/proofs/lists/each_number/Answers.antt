use Rattle.std.proofs.Common.{◌≡◌, Ok, Err, ap, ◌∙◌}
use Rattle.std.proofs.lemmas.Result.{err_from_is_err_and}
use Rattle.coll_text.specs.declared.fault.LineFault.TheVariants.{NoMemory}
use Rattle.coll_text.specs.Reading.{Fails, each_of, parts}
use Rattle.coll_text.specs.Fields.{number_of}
use Rattle.coll_text.proofs.EachLemmas.{begins, reads_on, stops_at, all_kept, all_read, fails_then}
use Rattle.coll_text.proofs.lists.each_number.Goals as goal

pub loop-part-init : goal.loop-part-init
loop-part-init c = record {
  read = rw c.new-parts.ensures (begins number_of c.args.memory.now c.new-numbers.result.items
      (parts 44 c.args.word.now) c.new-numbers.ensures.items);
  stays = λ off. off;
}

pub returns-in_err-number-clause-kept : goal.returns-in_err-number-clause-kept
returns-in_err-number-clause-kept c =
    let p = err_from_is_err_and c.from_residual.result c.from_residual.ensures.1 in
    let fault : Fails c.in_err-number.field-0.0 (number_of c.in-Some.part.now)
    = rw c.in_err-number.was at c.in-Some.ensures.number in
    rw (p.1, p.2) (λ _. stops_at number_of c.loop-part.memory c.loop-part.numbers.items
    c.in-Some.part.now c.loop-part.parts c.next_listed.new.parts
    (each_of number_of (parts 44 c.args.word.now)) c.loop-part.invariant.read
    c.in_err-number.field-0.0 c.in-Some.ensures.part fault)

pub returns-in_err-number-clause-sound : goal.returns-in_err-number-clause-sound
returns-in_err-number-clause-sound c =
    let p = err_from_is_err_and c.from_residual.result c.from_residual.ensures.1 in
    let fault : Fails c.in_err-number.field-0.0 (number_of c.in-Some.part.now)
    = rw c.in_err-number.was at c.in-Some.ensures.number in
    let said = each_of number_of (parts 44 c.args.word.now) in
    rw (p.1, p.2) (fails_then c.in_err-number.field-0.0 said (λ x. Ok tt) (stops_at number_of
    c.loop-part.memory c.loop-part.numbers.items c.in-Some.part.now c.loop-part.parts
    c.next_listed.new.parts said c.loop-part.invariant.read c.in_err-number.field-0.0
    c.in-Some.ensures.part fault))

pub returns-in_err-number-clause-memory : goal.returns-in_err-number-clause-memory
returns-in_err-number-clause-memory c =
    let p = err_from_is_err_and c.from_residual.result c.from_residual.ensures.1 in
    rw (p.1, p.2) (λ k. c.in-Some.ensures.memory (c.in_err-number.was
    ∙ ap Err (let f : c.in_err-number.field-0.0 ≡ NoMemory = cc in f)))

pub loop-part-preserved : goal.loop-part-preserved
loop-part-preserved c =
    let number : number_of c.in-Some.part.now ≡ Ok c.in_ok-number.number
    = rw c.in_ok-number.was at c.in-Some.ensures.number in record {
      read = reads_on number_of c.loop-part.memory c.loop-part.numbers.items c.in-Some.part.now
          c.loop-part.parts c.next_listed.new.parts (each_of number_of (parts 44 c.args.word.now))
          c.loop-part.invariant.read c.keep_number.new.memory c.keep_number.new.numbers.items
          c.in_ok-number.number c.in-Some.ensures.part number c.keep_number.ensures.kept
          c.keep_number.ensures.stays;
      stays = λ off. c.loop-part.invariant.stays (c.keep_number.ensures.stays off);
    }

pub returns-clause-kept : goal.returns-clause-kept
returns-clause-kept c = λ off. rw c.from.ensures (all_kept number_of c.loop-part.memory
    c.loop-part.numbers.items c.loop-part.parts (each_of number_of (parts 44 c.args.word.now))
    c.in_default.ensures.part.0 c.loop-part.invariant.read off)

pub returns-clause-sound : goal.returns-clause-sound
returns-clause-sound c = all_read number_of c.loop-part.memory c.loop-part.numbers.items
    c.loop-part.parts (each_of number_of (parts 44 c.args.word.now))
    c.in_default.ensures.part.0 c.loop-part.invariant.read
