use Rattle.std.proofs.Common.{sym, ◌∙◌}
use Rattle.std.proofs.lemmas.Bool.{false≢true}
use Rattle.policy_meaning.proofs.WarningLemmas.{add_warning, past_warning}
use Rattle.policy_meaning.proofs.due.add.Goals as goal

pub returns-in_ok-push : goal.returns-in_ok-push
returns-in_ok-push c =
    rw c.in_ok-push.ensures.items
    (add_warning c.args.policy.now c.args.list.now.items c.args.warning c.processes.ensures.policy
    c.requires.listed (c.warns.ensures.0 c.if-warns.true))

pub returns-else-warns : goal.returns-else-warns
returns-else-warns c =
    past_warning c.args.policy.now c.args.list.now.items c.args.warning c.processes.ensures.policy
    c.requires.known c.requires.listed
    (λ due. false≢true (sym c.if-warns.false ∙ c.warns.ensures.1 due))
