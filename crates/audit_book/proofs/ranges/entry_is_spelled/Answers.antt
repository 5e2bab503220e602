use Rattle.audit_book.proofs.RangeLemmas.{post_is_spelled}
use Rattle.audit_book.proofs.ranges.entry_is_spelled.Goals as goal

pub returns-in-Posted : goal.returns-in-Posted
returns-in-Posted c =
    post_is_spelled c.args.policy.now c.args.entry.now c.in-Posted.process c.in-Posted.comm
    c.in-Posted.stated c.in-Posted.is c.requires.known c.requires.form
    c.number_fits.ensures c.number_fits-in-Posted.ensures c.statement_fits.ensures
