use Rattle.std.proofs.Common.{sym, subst, ◌∙◌}
use Rattle.policy_meaning.specs.Warnings.{Warns}
use Rattle.policy_meaning.proofs.due.warns.Goals as goal

pub returns-then-is_free : goal.returns-then-is_free
returns-then-is_free c =
    let free = c.is_free.ensures.0 c.if-is_free.true in
    rw c.in-AnyLabel.is (
      λ t. (free.0, free.1, c.some_can_be_sanitised.ensures.0 t),
      λ h. c.some_can_be_sanitised.ensures.1 h.2,
    )
