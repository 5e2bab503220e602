use Rattle.std.proofs.Common.{◌≡◌, sym, ◌∙◌}
use Rattle.std.proofs.Math.Bool.{beq}
use Rattle.std.specs.Cmp.Lexicographic.{pointwise}
use Rattle.coll_routes.proofs.SignatureLemmas.{flags_decide}
use Rattle.coll_routes.proofs.lists.Flags.is_same.Goals as goal

pub returns : goal.returns
returns c =
    let one : c.as_slice.result.now ≡ c.args.self.now = c.as_slice.ensures.value ∙ c.self.view_is in
    let two : c.as_slice-2.result.now ≡ c.args.other.now = c.as_slice-2.ensures.value ∙
    c.other.view_is in
    let tested : c.eq.result ≡ pointwise beq c.args.self.now c.args.other.now = c.eq.ensures ∙
    (λ i. pointwise beq (one i) (two i)) in
    let equal = flags_decide c.args.self.now c.args.other.now in
    (λ e. equal.0 (sym tested ∙ e), λ e. tested ∙ equal.1 e)
