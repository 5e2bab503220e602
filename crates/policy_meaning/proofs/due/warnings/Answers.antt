use Rattle.policy_meaning.proofs.WarningLemmas.{all_warnings}
use Rattle.policy_meaning.proofs.due.warnings.Goals as goal

pub returns-clause-all : goal.returns-clause-all
returns-clause-all c = all_warnings c.args.policy.now c.add_free_labels.new.list.items
    c.processes.ensures.policy c.in_ok-add_free_labels.ensures
