use Rattle.std.proofs.Common.{inl, inr, refl, ap}
use Rattle.program_files.specs.Files.{failed_once}
use Rattle.program_line.proofs.PerformLemmas.{at_path}
use Rattle.program_line.proofs.chain.audit_chain_at.Goals as goal

pub returns-in-Err : goal.returns-in-Err
returns-in-Err g c = (
  record {
    old = c.listed_at-chain.result;
    new = c.read_chain_file.new.source;
    at = at_path c.listed_at-chain.ensures.unopened c.listed_at-chain.ensures.path;
    begins = ap failed_once c.listed_at-chain.ensures.count;
  },
  inl (c.in-Err.none, c.in-Err.ensures.none, refl, c.tell_no_chain.ensures),
)

pub returns : goal.returns
returns g c = (
  record {
    old = c.listed_at-chain.result;
    new = c.read_chain_file.new.source;
    at = at_path c.listed_at-chain.ensures.unopened c.listed_at-chain.ensures.path;
    begins = ap failed_once c.listed_at-chain.ensures.count;
  },
  inr (c.in-Ok.file, c.in-Ok.ensures.file, c.audit_chain-status.ensures),
)
