use Rattle.book_stream.proofs.SourceLemmas.{header_cut, entry_cut, ended_says}
use Rattle.book_stream.proofs.stream.end.Goals as goal

pub returns-in-Header : goal.returns-in-Header
returns-in-Header c = λ text lines line stands clear cut.
    header_cut c.args.policy.now c.args.reader.now text lines line stands cut c.in-Header.is

pub returns-in-Entry : goal.returns-in-Entry
returns-in-Entry c = λ text lines line stands clear cut.
    entry_cut c.args.policy.now c.args.reader.now text lines line stands cut c.in-Entry.is

pub returns-in-Ended : goal.returns-in-Ended
returns-in-Ended c = λ text lines line stands clear cut.
    ended_says c.args.policy.now c.args.reader.now text lines line stands cut c.in-Ended.is clear
    c.judged.result (c.judged.ensures stands.read.entries stands.read.number stands.read.judged)
