use Rattle.std.proofs.Common.{Ok}
use Rattle.std.proofs.lemmas.Result.{err_from_is_err_and}
use Rattle.coll_text.specs.Reading.{each_of, flag_of, parts}
use Rattle.coll_text.proofs.EachLemmas.{begins, reads_on, stops_at, all_kept, all_read, fails_then}
use Rattle.coll_text.proofs.lists.each_flag.Goals as goal

pub loop-part-init : goal.loop-part-init
loop-part-init c = record {
  read = rw c.new-parts.ensures (begins flag_of c.args.memory.now c.new-flags.result.items
      (parts 44 c.args.word.now) c.new-flags.ensures.items);
  stays = λ off. off;
}

pub returns-in_err-flag-clause-kept : goal.returns-in_err-flag-clause-kept
returns-in_err-flag-clause-kept c =
    let p = err_from_is_err_and c.from_residual.result c.from_residual.ensures.1 in
    rw (p.1, p.2) (λ _. stops_at flag_of c.loop-part.memory c.loop-part.flags.items
    c.in-Some.part.now c.loop-part.parts c.next.new.self
    (each_of flag_of (parts 44 c.args.word.now)) c.loop-part.invariant.read
    c.in_err-flag.field-0.0 c.in-Some.ensures c.in_err-flag.ensures.flag)

pub returns-in_err-flag-clause-sound : goal.returns-in_err-flag-clause-sound
returns-in_err-flag-clause-sound c =
    let p = err_from_is_err_and c.from_residual.result c.from_residual.ensures.1 in
    let said = each_of flag_of (parts 44 c.args.word.now) in
    rw (p.1, p.2) (fails_then c.in_err-flag.field-0.0 said (λ x. Ok tt) (stops_at flag_of
    c.loop-part.memory c.loop-part.flags.items c.in-Some.part.now c.loop-part.parts
    c.next.new.self said c.loop-part.invariant.read c.in_err-flag.field-0.0 c.in-Some.ensures
    c.in_err-flag.ensures.flag))

pub loop-part-preserved : goal.loop-part-preserved
loop-part-preserved c = record {
  read = reads_on flag_of c.loop-part.memory c.loop-part.flags.items c.in-Some.part.now
      c.loop-part.parts c.next.new.self (each_of flag_of (parts 44 c.args.word.now))
      c.loop-part.invariant.read c.keep_flag.new.memory c.keep_flag.new.flags.items
      c.in_ok-flag.flag c.in-Some.ensures c.in_ok-flag.ensures.flag c.keep_flag.ensures.kept
      c.keep_flag.ensures.stays;
  stays = λ off. c.loop-part.invariant.stays (c.keep_flag.ensures.stays off);
}

pub returns-clause-kept : goal.returns-clause-kept
returns-clause-kept c = λ off. rw c.from.ensures (all_kept flag_of c.loop-part.memory
    c.loop-part.flags.items c.loop-part.parts (each_of flag_of (parts 44 c.args.word.now))
    c.in_default.ensures.0 c.loop-part.invariant.read off)

pub returns-clause-sound : goal.returns-clause-sound
returns-clause-sound c = all_read flag_of c.loop-part.memory c.loop-part.flags.items
    c.loop-part.parts (each_of flag_of (parts 44 c.args.word.now)) c.in_default.ensures.0
    c.loop-part.invariant.read
