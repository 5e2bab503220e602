use Rattle.std.proofs.Common.{ℕ, ◌≤◌, List, length, arith, sym, subst}
use Rattle.policy_places.proofs.PlaceLemmas.{prefix_is}
use Rattle.policy_places.proofs.lines.Lines.prefix.Goals as goal

pub returns : goal.returns
returns c =
    let other = c.if-line-eq0.false in
    let within = subst (λ (es : List ℕ). c.args.line ≤ length es) c.as_slice-ends.ensures.value
    c.if-line-ends.false in
    rw (sym c.self.view_is, c.as_slice-ends.ensures.value)
    (prefix_is c.self.inside.text.now c.self.inside.ends.items c.self.invariant c.args.line
    (omega (arith, other)) within)
