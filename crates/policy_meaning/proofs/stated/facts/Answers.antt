use Rattle.policy_meaning.proofs.FactLemmas.{all_facts}
use Rattle.policy_meaning.proofs.stated.facts.Goals as goal

pub returns-clause-all : goal.returns-clause-all
returns-clause-all c = all_facts c.args.policy.now c.add_operations.new.list.items
    c.processes.ensures.policy c.in_ok-add_operations.ensures
