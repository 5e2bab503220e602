use Rattle.std.proofs.Common.{inr}
use Rattle.program_line.proofs.PerformLemmas.{at_path}
use Rattle.program_line.proofs.chain.chained_policy.Goals as goal

pub returns-in-Ok-next_on_chain-clause-chained : goal.returns-in-Ok-next_on_chain-clause-chained
returns-in-Ok-next_on_chain-clause-chained g c = (
  c.in-Ok.ensures.file,
  (
    record {
      old = c.unopened-policy.result;
      new = c.next_on_chain.new.policy;
      at = at_path c.unopened-policy.ensures.unopened c.unopened-policy.ensures.path;
      begins = c.unopened-policy.ensures.count;
    },
    c.in-Ok-next_on_chain.ensures.next,
  ),
)

pub returns-in-Err-next_on_chain-clause-none : goal.returns-in-Err-next_on_chain-clause-none
returns-in-Err-next_on_chain-clause-none g c = inr (
  c.in-Ok.file,
  c.in-Ok.ensures.file,
  record {
    old = c.unopened-policy.result;
    new = c.next_on_chain.new.policy;
    at = at_path c.unopened-policy.ensures.unopened c.unopened-policy.ensures.path;
    begins = c.unopened-policy.ensures.count;
  },
  c.in-Err-next_on_chain.ensures.none,
)
