use Rattle.std.proofs.Common.{subst}
use Rattle.run_model.specs.Books.{posts_in}
use Rattle.audit_book.specs.Checks.{post_in, StopsAtPost}
use Rattle.audit_book.proofs.AuditLemmas.{few_posts, posted_stops, lacks_memory, posts_on}
use Rattle.audit_book.proofs.audit.post.Goals as goal

pub count-requires-clause-stands : goal.count-requires-clause-stands
count-requires-clause-stands c = few_posts c.args.policy.now c.args.audit.now
    c.requires.under_way.0 c.requires.under_way.1 c.requires.few

pub returns-in-Err-Wrong-clause-fault : goal.returns-in-Err-Wrong-clause-fault
returns-in-Err-Wrong-clause-fault c = λ entries seen.
    let it = c.args.posting.now in
    posted_stops c.args.policy.now c.args.audit.now entries seen c.requires.none it.process it.comm
    it.stated.now c.count.new.post_state c.in-Err-Wrong.ensures.unchanged
    (subst (StopsAtPost c.args.policy.now c.args.audit.now.post_state (post_in it))
    c.in-Err-Wrong.field-0-is c.in-Err-Wrong.ensures.stopped)

pub returns-in-Err-NoMemory-clause-fault : goal.returns-in-Err-NoMemory-clause-fault
returns-in-Err-NoMemory-clause-fault c = λ entries seen.
    let it = c.args.posting.now in
    lacks_memory c.args.policy.now c.args.audit.now entries seen c.requires.none it.process it.comm
    it.stated.now c.count.new.post_state c.in-Err-NoMemory.ensures.unchanged
    (subst (StopsAtPost c.args.policy.now c.args.audit.now.post_state (post_in it))
    c.in-Err-NoMemory.field-0-is c.in-Err-NoMemory.ensures.stopped)

pub returns-in-Ok-clause-step : goal.returns-in-Ok-clause-step
returns-in-Ok-clause-step c = λ entries seen.
    let it = c.args.posting.now in
    posts_on c.args.policy.now c.args.audit.now entries seen c.requires.none it.process it.comm
    it.stated.now c.count.new.post_state c.in-Ok.entered c.due_after-audit.result
    c.due_after-audit.ensures (c.in-Ok.ensures.counted (posts_in entries) seen.right.stood)
