use Rattle.std.proofs.Common.{arith, ◌≢◌, length}
use Rattle.run_model.specs.Comms.{processes}
use Rattle.program_commands.specs.declared.ending.Ending.TheVariants.{BadArguments}
use Rattle.program_commands.proofs.ServeLemmas.{misfit}
use Rattle.program_commands.proofs.serve.serve_on.Goals as goal

pub returns-then-len-processes : goal.returns-then-len-processes
returns-then-len-processes g c =
    let long = c.args.peers.ok.0 in
    let asked = c.len.ensures in
    let count = c.processes.ensures.number in
    let differ = c.if-len-processes.true in
    let other : length c.args.peers.items ≢ processes c.args.policy.now = grind arith in (
      BadArguments,
      misfit g.S.Desk.failures g.S.Desk.remaining g.S.Desk.heard g.O.Sink.failures
          g.O.Sink.contents g.B.Sink.failures g.B.Sink.contents g.B.BookSink.lasting
          c.args.most c.args.policy.now c.args.peers.items c.args.book c.unserved.result.book
          c.unserved.result.sessions.items other c.unserved.ensures.book
          c.unserved.ensures.sessions,
      c.unserved.ensures.status,
      c.unserved.ensures.told,
    )
