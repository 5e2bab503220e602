use Rattle.std.proofs.Common.{codes}
use Rattle.report_text.specs.Words.{numbered}
use Rattle.report_text.specs.Instances.{entry_line}
use Rattle.report_text.proofs.WordLemmas.{behind}
use Rattle.report_text.proofs.instances.put_instances.Goals as goal

pub returns : goal.returns
returns c =
    let entries = c.args.book.now.list in
    behind c.put_entries.result c.args.text.now.items (codes "\nhow each instance came out:\n")
    c.put.new.text.items (numbered (entry_line c.args.policy.now entries) 0 entries)
    c.put_entries.new.text.items c.in_ok-put.ensures.ok c.put_entries.ensures
