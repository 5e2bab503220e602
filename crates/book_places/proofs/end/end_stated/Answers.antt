use Rattle.std.proofs.Common.{sym, ap, ◌∙◌, subst}
use Rattle.coll_text.specs.Reading.{Fails, parts}
use Rattle.book_places.specs.Ends.{end_in}
use Rattle.book_places.proofs.EndLemmas.{end_is_read, no_end}
use Rattle.book_places.proofs.end.end_stated.Goals as goal

pub returns-in-Ok-clause-some : goal.returns-in-Ok-clause-some
returns-in-Ok-clause-some c =
    end_is_read c.args.policy.now (parts 32 c.args.line.now) c.in-Ok.number
    (ap end_in (sym c.new.ensures) ∙ c.in-Ok.ensures.end)

pub returns-in-Err-clause-none : goal.returns-in-Err-clause-none
returns-in-Err-clause-none c = λ _.
    no_end c.args.policy.now (parts 32 c.args.line.now) c.in-Err.field-0
    (subst (λ ws. Fails c.in-Err.field-0 (end_in ws)) c.new.ensures c.in-Err.ensures.end)
    c.in-Err.ensures.memory
