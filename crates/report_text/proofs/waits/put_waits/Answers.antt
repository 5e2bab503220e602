use Rattle.std.proofs.Common.{◌≡◌, List, ℕ, ◌++◌, codes, sym, ap, ◌∙◌, subst}
use Rattle.std.specs.Prelude.{OnOk}
use Rattle.std.specs.List.{flat_map}
use Rattle.std.proofs.lemmas.List.{append-nil}
use Rattle.report_text.specs.Waits.{wait_line}
use Rattle.report_text.proofs.WordLemmas.{behind}
use Rattle.report_text.proofs.TellLemmas.{none_told, all_told}
use Rattle.report_text.proofs.waits.put_waits.Goals as goal

pub returns-then-is_empty : goal.returns-then-is_empty
returns-then-is_empty c =
    let old = c.args.text.now.items in
    sym (append-nil old)
    ∙ ap (λ (t : List ℕ). old ++ t)
    (sym (none_told c.args.policy.now c.args.book.now.list c.args.waits.now
    (sym c.is_empty.ensures ∙ c.if-is_empty.true)))

pub returns : goal.returns
returns c =
    let old = c.args.text.now.items in
    subst (λ (t : List ℕ).
    OnOk c.put_wait_lines.result (c.put_wait_lines.new.text.items ≡ old ++ t))
    (sym (all_told c.args.policy.now c.args.book.now.list c.args.waits.now
    (sym c.is_empty.ensures ∙ c.if-is_empty.false)))
    (behind c.put_wait_lines.result old
    (codes "\nwhich instances wait, and for whom:\n") c.put.new.text.items
    (flat_map (wait_line c.args.policy.now c.args.book.now.list) c.args.waits.now)
    c.put_wait_lines.new.text.items c.in_ok-put.ensures.ok c.put_wait_lines.ensures)
