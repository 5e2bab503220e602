use Rattle.std.proofs.Common.{◌∙◌, ap, sym, subst, Err}
use Rattle.std.specs.Prelude.{IsOk}
use Rattle.hall_script.specs.Asks.{ask_said}
use Rattle.hall_script.specs.Scripts.{trimmed}
use Rattle.live_session.proofs.LineLemmas.{long_says, short_says, gives_ask, gives_fault}
use Rattle.live_session.proofs.LineLemmas.{gives_some}
use Rattle.live_session.proofs.line.Unfinished.read.Goals as goal

pub returns-then-self-clause-reads : goal.returns-then-self-clause-reads
returns-then-self-clause-reads c =
    λ line h. long_says c.args.policy.now.dataset_names c.args.self.now line h c.if-self.true

pub returns-in-Ok-clause-reads : goal.returns-in-Ok-clause-reads
returns-in-Ok-clause-reads c =
    λ line h. let names = c.args.policy.now.dataset_names in
    let text = c.trim.result.now in
    short_says names c.args.self.now line h c.if-self.false text
    (c.trim.ensures ∙ ap trimmed c.deref.ensures.value)
    ∙ gives_ask (ask_said names text) c.in-Ok.ask c.in-Ok.ensures.ask

pub returns-in-NoMemory-clause-reads : goal.returns-in-NoMemory-clause-reads
returns-in-NoMemory-clause-reads c =
    λ line h. let names = c.args.policy.now.dataset_names in
    let text = c.trim.result.now in
    subst IsOk (sym (short_says names c.args.self.now line h c.if-self.false text
    (c.trim.ensures ∙ ap trimmed c.deref.ensures.value)))
    (gives_some (ask_said names text) (c.in-Err.ensures.sound (ap Err c.in-NoMemory.is)))

pub returns-in_default-clause-reads : goal.returns-in_default-clause-reads
returns-in_default-clause-reads c =
    λ line h. let names = c.args.policy.now.dataset_names in
    let text = c.trim.result.now in
    short_says names c.args.self.now line h c.if-self.false text
    (c.trim.ensures ∙ ap trimmed c.deref.ensures.value)
    ∙ gives_fault (ask_said names text) c.in-Err.fault c.in_default.not-NoMemory
    c.in-Err.ensures.ask
