use Rattle.std.proofs.Common.{◌∙◌, refl, arith}
use Rattle.program_commands.proofs.RankLemmas.{ranks_none, ranks_step, ranks_fell_short}
use Rattle.program_commands.proofs.run.write_ranks.Goals as goal

pub loop-number-init : goal.loop-number-init
loop-number-init g c = record {
  within = omega arith;
  count = refl;
  written = ranks_none c.args.wall.now c.args.replies.now (g.O.Sink.contents c.args.out.now);
}

pub returns-in-Err-clause-broken : goal.returns-in-Err-clause-broken
returns-in-Err-clause-broken g c =
    let test = c.loop-number-test.true in
    let some = c.processes-number-end.ensures.number in
    let long = c.requires.long in
    ranks_fell_short g.O.Sink.failures g.O.Sink.contents c.args.wall.now c.args.replies.now
    c.loop-number.number c.in-Some.process c.of.result.now
    c.args.out.now c.loop-number.out c.write_process.new.out c.in-Err.fault
    c.in-Some.ensures.value c.of.ensures (omega arith) c.loop-number.invariant.count
    c.loop-number.invariant.written c.in-Err.ensures.broken

pub loop-number-preserved : goal.loop-number-preserved
loop-number-preserved g c =
    let test = c.loop-number-test.true in
    let some = c.processes-number-end.ensures.number in
    record {
      within = omega arith;
      count = c.in-Ok.ensures.written.0 ∙ c.loop-number.invariant.count;
      written = ranks_step c.args.wall.now c.args.replies.now c.loop-number.number c.in-Some.process
          c.of.result.now
          (g.O.Sink.contents c.args.out.now) (g.O.Sink.contents c.loop-number.out)
          (g.O.Sink.contents c.write_process.new.out)
          c.in-Some.ensures.value c.of.ensures c.loop-number.invariant.written
          c.in-Ok.ensures.written.1;
    }
