use Rattle.std.proofs.Common.{◌≡◌, ◌<◌, ◌≤◌, ℕ, true, false, nat_lt, subst, sym, ◌∙◌, arith, length}
use Rattle.std.proofs.Common.{refl, inl, inr, lt-ltb, ltb-true}
use Rattle.std.proofs.lemmas.Bool.{false≢true, cases_lt}
use Rattle.wall_policy.specs.Rivals.{AreRivals, are_rivals}
use Rattle.wall_policy.proofs.WallPolicyLemmas.{are_rivals-Decides}
use Rattle.policy_meaning.proofs.ClassLemmas.{no_rival_past}
use Rattle.policy_meaning.proofs.due.has_no_rival.Goals as goal

pub returns-then-rival : goal.returns-then-rival
returns-then-rival c =
    (λ t. absurd cc, λ h. absurd (h.1 c.unwrap.result (c.rival.ensures.rivals.0 c.if-rival.true)))

pub returns : goal.returns
returns c =
    let end = c.datasets-number-end.ensures in
    let each = end.policy.class_for_each in
    let number = c.number.ensures.value in
    let datasets = c.datasets.ensures.number in (
      λ t. (
        (let low = ltb-true c.number.result c.datasets.result t in omega arith),
        λ e rivals. elim (cases_lt e c.loop-number.number) [
          | inl low ↦ false≢true (sym (c.loop-number.invariant e low)
              ∙ (are_rivals-Decides c.args.policy.now.classes c.args.dataset e).1 rivals)
          | inr high ↦ false≢true
              (sym (no_rival_past c.args.policy.now.classes c.args.dataset e (omega arith))
              ∙ (are_rivals-Decides c.args.policy.now.classes c.args.dataset e).1 rivals)
        ],
      ),
      λ h. lt-ltb c.number.result c.datasets.result (let low = h.0 in omega arith),
    )
