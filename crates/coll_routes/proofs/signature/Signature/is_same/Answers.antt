use Rattle.std.proofs.Common.{sym, ◌∙◌}
use Rattle.coll_routes.proofs.SignatureLemmas.{same_signatures_are_equal}
use Rattle.coll_routes.proofs.signature.Signature.is_same.Goals as goal

pub returns-clause-equal : goal.returns-clause-equal
returns-clause-equal c =
    let equal = same_signatures_are_equal c.args.self.now c.args.other.now in
    (λ e. equal.0 (sym c.has_fields_of.ensures ∙ e), λ e. c.has_fields_of.ensures ∙ equal.1 e)
