use Rattle.std.proofs.Common.{List, ℕ, take, map, sym, ap, ◌∙◌}
use Rattle.std.specs.Prelude.{string_bytes}
use Rattle.std.specs.List.{take-map}
use Rattle.wall_policy.proofs.names.NameTable.truncate.Goals as goal

pub returns : goal.returns
returns c =
    ap (λ ks. map string_bytes ks) c.truncate.ensures.keys
    ∙ sym (take-map string_bytes c.args.number c.self.inside.names.keys)
    ∙ ap (λ (ns : List (List ℕ)). take c.args.number ns) c.self.view_is
