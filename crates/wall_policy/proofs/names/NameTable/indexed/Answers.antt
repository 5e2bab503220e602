use Rattle.std.proofs.Common.{sym, ap, ◌∙◌}
use Rattle.std.proofs.lemmas.Iterator.Adapters.{position_from-zero}
use Rattle.wall_policy.specs.Names.{place_of}
use Rattle.wall_policy.proofs.NameLemmas.{place_of-view, place_of-not_text}
use Rattle.wall_policy.proofs.names.NameTable.indexed.Goals as goal

pub returns-in-Err-clause-number : goal.returns-in-Err-clause-number
returns-in-Err-clause-number c =
    sym (place_of-not_text c.args.name.now c.self.inside.names.keys c.in-Err.ensures.cases.0)
    ∙ ap (place_of c.args.name.now) c.self.view_is

pub returns-in-Ok-clause-number : goal.returns-in-Ok-clause-number
returns-in-Ok-clause-number c =
    c.get_index_of.ensures.index
    ∙ position_from-zero _ c.self.inside.names.keys
    ∙ place_of-view c.in-Ok.name.now c.self.inside.names.keys
    ∙ (λ i. place_of (c.in-Ok.ensures.cases.0 i) (c.self.view_is i))
