use Rattle.std.proofs.Common.{sym, ◌∙◌}
use Rattle.book_stream.proofs.SourceLemmas.{ended_more}
use Rattle.book_stream.proofs.stream.see_end.Goals as goal

pub returns-else-is_empty-clause-more : goal.returns-else-is_empty-clause-more
returns-else-is_empty-clause-more c = λ text lines line stands cut.
    ended_more c.args.policy.now c.args.reader.now text lines line stands cut c.in-Ended.is
    (sym (c.is_empty.ensures line stands.holds) ∙ c.if-is_empty.false)
