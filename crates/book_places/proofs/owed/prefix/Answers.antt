use Rattle.std.proofs.Common.{◌≡◌, ◌+◌, ◌≤◌, [], ◌∷◌, ◌++◌, take, sym, ap, ◌∙◌, arith}
use Rattle.audit_book.proofs.AuditBookLemmas.{take_more}
use Rattle.book_places.proofs.owed.prefix.Goals as goal

pub loop-at-preserved : goal.loop-at-preserved
loop-at-preserved c =
    let room = c.push.ensures.room in
    let before = c.loop-at.invariant.1 in (
      c.push.ensures.added
          ∙ ap (λ es. es ++ c.in_ok-copy_of.field-0 ∷ []) c.loop-at.invariant.0
          ∙ ap (λ e. take c.loop-at.at c.args.book.now.list ++ e ∷ []) c.in_ok-copy_of.ensures
          ∙ sym (take_more c.args.book.now.list c.loop-at.at c.get.result.now
          c.get.ensures.entry),
      omega arith,
    )
