use Rattle.std.proofs.Common.{inl, inr, refl, ap}
use Rattle.program_files.specs.Files.{failed_once}
use Rattle.program_commands.proofs.ProgramCommandsLemmas.{unpaged_report}
use Rattle.program_line.proofs.PerformLemmas.{at_path}
use Rattle.program_line.proofs.chain.report_last.Goals as goal

pub returns-in-Err : goal.returns-in-Err
returns-in-Err g c = (
  record {
    old = c.listed_at-chain.result;
    new = c.read_chain_file.new.source;
    at = at_path c.listed_at-chain.ensures.unopened c.listed_at-chain.ensures.path;
    begins = ap failed_once c.listed_at-chain.ensures.count;
  },
  inl (c.in-Err.none, c.in-Err.ensures.none, refl, c.tell_no_chain.ensures),
)

pub returns-in-Some : goal.returns-in-Some
returns-in-Some g c =
    rw c.in-Some.is (
      record {
        old = c.listed_at-chain.result;
        new = c.read_chain_file.new.source;
        at = at_path c.listed_at-chain.ensures.unopened c.listed_at-chain.ensures.path;
        begins = ap failed_once c.listed_at-chain.ensures.count;
      },
      inr (
        c.in-Ok.file,
        c.in-Ok.ensures.file,
        (
          record {
            old = c.unmade-page.result;
            new = c.report_chain.new.page.0;
            at = at_path c.unmade-page.ensures.unmade c.unmade-page.ensures.path;
            begins = c.unmade-page.ensures.count;
          },
          c.report_chain.ensures,
        ),
      ),
    )

pub returns : goal.returns
returns g c =
    rw c.in-None.is (
      record {
        old = c.listed_at-chain.result;
        new = c.read_chain_file.new.source;
        at = at_path c.listed_at-chain.ensures.unopened c.listed_at-chain.ensures.path;
        begins = ap failed_once c.listed_at-chain.ensures.count;
      },
      inr (
        c.in-Ok.file,
        c.in-Ok.ensures.file,
        (tt, unpaged_report _ _ _ _ _ _ _ c.report_chain-in-None.ensures),
      ),
    )
