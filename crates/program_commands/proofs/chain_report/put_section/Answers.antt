use Rattle.std.proofs.Common.{◌≡◌, List, ℕ, ◌++◌, codes, sym, ◌∙◌, subst}
use Rattle.std.specs.Prelude.{OnOk}
use Rattle.program_commands.proofs.ChainGivenLemmas.{section_is, behind}
use Rattle.program_commands.proofs.chain_report.put_section.Goals as goal

pub returns : goal.returns
returns c =
    let old = c.args.text.now.items in
    let lines = c.args.lines.now in
    subst (λ (t : List ℕ).
    OnOk c.extend_from_slice.result (c.extend_from_slice.new.self.items ≡ old ++ t))
    (sym (section_is lines (sym c.is_empty.ensures ∙ c.if-is_empty.false)))
    (behind c.extend_from_slice.result old
    (codes "\nwhat earlier runs gave, and by which entry:\n") c.put.new.text.items lines
    c.extend_from_slice.new.self.items c.in_ok-put.ensures.ok c.extend_from_slice.ensures.items)
