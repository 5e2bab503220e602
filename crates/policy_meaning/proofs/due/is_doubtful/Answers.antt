use Rattle.policy_meaning.proofs.due.is_doubtful.Goals as goal

pub returns : goal.returns
returns c = c.is_doubtful_out_of_reach.ensures c.args.op
