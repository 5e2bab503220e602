use Rattle.std.proofs.Common.{ℕ, List, ◌++◌, ap, ◌∙◌, append_assoc, codes}
use Rattle.audit_book.proofs.AuditBookLemmas.{ok_more}
use Rattle.book_places.proofs.text.put_other_word.Goals as goal

pub returns : goal.returns
returns c =
    let old = c.args.text.now.items in
    let prefix = codes "a post stands with another last word; due was: " in
    let word = c.passage_line.result.now in
    ok_more c.put-2.result _ _
    (λ done more. more ∙ ap (λ (t : List ℕ). t ++ word) c.in_ok-put.ensures.ok
    ∙ append_assoc old prefix word
    ∙ ap (λ (t : List ℕ). old ++ (prefix ++ t)) c.passage_line.ensures)
    c.put-2.ensures.ok
