use Rattle.seal_stream.proofs.ReadingLemmas.{ended_stops}
use Rattle.seal_stream.proofs.reading.Reading.take_line.Goals as goal

pub returns-in-Ended-clause-stop : goal.returns-in-Ended-clause-stop
returns-in-Ended-clause-stop c = λ lines kept h.
    ended_stops c.args.policy.now c.args.self.now c.args.self.now lines kept c.args.line.now h
    c.in-Ended.is
