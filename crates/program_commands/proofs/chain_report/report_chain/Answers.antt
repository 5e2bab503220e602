use Rattle.program_commands.proofs.ChainReportLemmas.{unpaged_report}
use Rattle.program_commands.proofs.chain_report.report_chain.Goals as goal

pub returns-in-Some : goal.returns-in-Some
returns-in-Some g c = rw c.in-Some.is c.page_last.ensures

pub returns-in-None : goal.returns-in-None
returns-in-None g c =
    rw c.in-None.is (unpaged_report g.F.Reader.Source.failures g.F.Reader.Source.remaining
    g.F.FileSystem.is_at c.args.file.now _ _ _ c.report_last.ensures)
