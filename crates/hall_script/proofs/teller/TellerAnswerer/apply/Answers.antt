use Rattle.run_model.specs.Runs.{entry}
use Rattle.hall_script.proofs.TellingLemmas.{teller_after, all_stay}
use Rattle.hall_script.proofs.teller.TellerAnswerer.apply.Goals as goal

pub returns-clause-carries : goal.returns-clause-carries
returns-clause-carries c = λ run legal tells.
    let old = c.args.self.now in
    let e = entry c.args.call c.apply.result in
    teller_after old.hall c.apply.new.self old.lines run e c.apply.ensures.policy
    (c.apply.ensures.runs run legal tells.stands)
    (λ longer. all_stay old.hall.policy run e old.lines longer tells.right)
