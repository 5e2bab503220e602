use Rattle.std.proofs.Common.{ℕ, [], ◌∷◌, List, ◌++◌, length, ap, ◌∙◌, codes}
use Rattle.report_page.specs.declared.whole.TheConstants.{HEAD}
use Rattle.report_page.specs.Picture.{picture_text}
use Rattle.report_page.specs.Page.{tables_text}
use Rattle.report_page.proofs.PieceLemmas.{◌&◌, all_written}
use Rattle.report_page.proofs.whole.page_of.Goals as goal

pub returns : goal.returns
returns c =
    let wall = c.args.policy.now in
    let entries = c.args.book.now.list in
    let rows = c.args.found.now.rows.items in
    let sanitised = c.args.found.now.sanitised.items in
    let waits = c.args.found.now.waits.items in
    let bars = c.args.found.now.bars.items in
    let denials = c.args.found.now.denials.items in
    let begun = c.in_ok-put.ensures.ok
    ∙ ap (λ (t : List ℕ). t ++ HEAD.now) c.new-text.ensures.items in
    let drawn = c.in_ok-put_picture.ensures
    ∙ ap (λ (n : ℕ). c.put-4.new.text.items ++ picture_text wall n rows denials)
    c.len.ensures.value in
    all_written []
    (HEAD.now)
    c.put.new.text.items
    ((codes "<h1>What a book tells</h1>\n", c.put-2.new.text.items)
    ∷ (codes "<p>Entry N stands in line N + 1 of the book. ", c.put-3.new.text.items)
    ∷ (codes "What was held before the first entry is at entry 0.\n", c.put-4.new.text.items)
    ∷ (picture_text wall (length entries) rows denials, c.put_picture.new.text.items)
    ∷ (tables_text wall entries rows sanitised waits bars denials, c.put_tables.new.text.items)
    ∷ (codes "</html>\n", c.put-5.new.text.items) ∷ [])
    begun
    (c.in_ok-put-2.ensures.ok & c.in_ok-put-3.ensures.ok & c.in_ok-put-4.ensures.ok & drawn
    & c.in_ok-put_tables.ensures & c.in_ok-put-5.ensures.ok & tt)
