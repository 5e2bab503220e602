use Rattle.meaning_text.proofs.NameLemmas.{name_is}
use Rattle.meaning_text.proofs.sentences.put_fact.Goals as goal

pub returns-in-NoHome : goal.returns-in-NoHome
returns-in-NoHome c =
    let name = name_is c.args.policy.now.process_names c.in-NoHome.process
    c.process_name-in-NoHome.result.now c.process_name-in-NoHome.ensures.name in
    rw (c.in-NoHome.is, name) c.put_two.ensures
