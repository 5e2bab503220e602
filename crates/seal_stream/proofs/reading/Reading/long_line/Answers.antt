use Rattle.std.proofs.Common.{◌+◌, refl, arith}
use Rattle.seal_stream.specs.declared.reading.Stage.TheVariants as stages
use Rattle.seal_stream.proofs.ReadingLemmas.{long_behind}
use Rattle.seal_stream.proofs.reading.Reading.long_line.Goals as goal

pub returns-in-Header : goal.returns-in-Header
returns-in-Header c = λ line long lines kept h.
    long_behind c.args.policy.now c.args.self.now c.args.self.now lines kept line h stages.Header
    c.in-Header.is 1 refl long

pub returns-in-Entry : goal.returns-in-Entry
returns-in-Entry c = λ line long lines kept h.
    long_behind c.args.policy.now c.args.self.now c.args.self.now lines kept line h stages.Entry
    c.in-Entry.is (c.args.self.now.entries + 2) (omega arith) long

pub returns-in-Ended : goal.returns-in-Ended
returns-in-Ended c = λ line long lines kept h.
    long_behind c.args.policy.now c.args.self.now c.args.self.now lines kept line h stages.Ended
    c.in-Ended.is (c.args.self.now.entries + 3) (omega arith) long
