use Rattle.std.proofs.Common.{codes}
use Rattle.std.specs.List.{flat_map}
use Rattle.report_text.specs.Sanitised.{sanitised_line}
use Rattle.report_text.proofs.WordLemmas.{behind}
use Rattle.report_text.proofs.sanitised.put_sanitised.Goals as goal

pub returns : goal.returns
returns c =
    behind c.put_sanitised_lines.result c.args.text.now.items
    (codes "\nwhose results were sanitised:\n") c.put.new.text.items
    (flat_map (sanitised_line c.args.policy.now c.args.book.now.list) c.args.those.now)
    c.put_sanitised_lines.new.text.items c.in_ok-put.ensures.ok c.put_sanitised_lines.ensures
