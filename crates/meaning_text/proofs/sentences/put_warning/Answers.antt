use Rattle.meaning_text.proofs.NameLemmas.{name_is}
use Rattle.meaning_text.proofs.sentences.put_warning.Goals as goal

pub returns-in-AnyLabel : goal.returns-in-AnyLabel
returns-in-AnyLabel c =
    let name = name_is c.args.policy.now.process_names c.in-AnyLabel.process
    c.process_name.result.now c.process_name.ensures.name in
    rw (c.in-AnyLabel.is, name) c.put_two-in-AnyLabel.ensures
