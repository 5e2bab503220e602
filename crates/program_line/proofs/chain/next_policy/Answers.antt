use Rattle.std.proofs.Common.{ap}
use Rattle.program_files.specs.Files.{failed_once}
use Rattle.program_line.proofs.PerformLemmas.{at_path}
use Rattle.program_line.proofs.chain.next_policy.Goals as goal

pub returns-in-Ok-clause-chained : goal.returns-in-Ok-clause-chained
returns-in-Ok-clause-chained g c = (
  record {
    old = c.listed_at-chain.result;
    new = c.chained_policy-chained.new.chain;
    at = at_path c.listed_at-chain.ensures.unopened c.listed_at-chain.ensures.path;
    begins = ap failed_once c.listed_at-chain.ensures.count;
  },
  c.in-Ok.field-0.file,
  c.in-Ok.field-0.next.digest,
  c.in-Ok.ensures.chained,
)

pub returns-in-Err-clause-none : goal.returns-in-Err-clause-none
returns-in-Err-clause-none g c = (
  record {
    old = c.listed_at-chain.result;
    new = c.chained_policy-chained.new.chain;
    at = at_path c.listed_at-chain.ensures.unopened c.listed_at-chain.ensures.path;
    begins = ap failed_once c.listed_at-chain.ensures.count;
  },
  c.in-Err.ensures.none,
)
