use Rattle.std.proofs.Common.{◌≡◌, ◌+◌, ◌≤◌, ◌<◌, arith}
use Rattle.policy_meaning.proofs.number.asked.Goals as goal

pub overflow_add-result-2 : goal.overflow_add-result-2
overflow_add-result-2 c =
    let classes = c.giving.ensures.few in
    let free = c.homeless.ensures.few in
    let processes = c.processes.ensures.policy.few_processes in omega arith

pub returns : goal.returns
returns c = omega (arith, c.giving.ensures.number, c.homeless.ensures.number)
