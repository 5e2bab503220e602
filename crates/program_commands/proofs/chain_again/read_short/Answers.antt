use Rattle.program_commands.proofs.ChainReportLemmas.{run_read_again, run_long, run_not_read_again}
use Rattle.program_commands.proofs.chain_again.read_short.Goals as goal

pub returns-clause-read : goal.returns-clause-read
returns-clause-read g c =
    run_read_again g.F.Reader.Source.failures g.F.Reader.Source.remaining g.F.FileSystem.is_at
    c.args.past.now _ c.as_ref.ensures.value c.args.run.now
    c.reader-policy.result c.read_behind_others-read.new.policy c.reader-book.result
    c.read_behind_others-read.new.book _ _
    c.reader-policy.ensures c.bytes.ensures.bytes c.reader-book.ensures c.bytes-2.ensures.bytes
    c.read_behind_others-read.result c.read_behind_others-read.ensures.under
    c.read_behind_others-read.ensures.book c.read_behind_others-read.ensures.sound

pub returns-clause-long : goal.returns-clause-long
returns-clause-long g c =
    run_long g.F.Reader.Source.failures g.F.Reader.Source.remaining g.F.FileSystem.is_at
    c.args.past.now _ c.as_ref.ensures.value c.args.run.now
    c.reader-policy.result c.read_behind_others-read.new.policy c.reader-book.result
    c.read_behind_others-read.new.book _ _
    c.reader-policy.ensures c.bytes.ensures.bytes c.reader-book.ensures c.bytes-2.ensures.bytes
    c.read_behind_others-read.result c.read_behind_others-read.ensures.long

pub returns-clause-fault : goal.returns-clause-fault
returns-clause-fault g c =
    run_not_read_again g.F.Reader.Source.failures g.F.Reader.Source.remaining g.F.FileSystem.is_at
    c.args.past.now _ c.as_ref.ensures.value c.args.run.now
    c.reader-policy.result c.read_behind_others-read.new.policy c.reader-book.result
    c.read_behind_others-read.new.book _ _
    c.reader-policy.ensures c.bytes.ensures.bytes c.reader-book.ensures c.bytes-2.ensures.bytes
    c.read_behind_others-read.result c.read_behind_others-read.ensures.fault
