use Rattle.std.proofs.Common.{◌≡◌, ◌||◌, Bool, true, false, refl, sym, ap, ◌∙◌}
use Rattle.std.specs.Cmp.{nat_cmp_total}
use Rattle.std.specs.FinSet.{contains, contains-union, empty}
use Rattle.wall_policy.specs.Rivals.{are_rivals}
use Rattle.wall_rules.proofs.RivalRowLemmas.{row_of, no_row}
use Rattle.wall_rules.proofs.histories.Histories.add_rivals.Goals as goal

or_no : (a b : Bool) → b ≡ false → a ≡ (a || b)
or_no true b h = refl
or_no false b h = sym h

pub returns-in-Some : goal.returns-in-Some
returns-in-Some c d =
    let row = row_of c.self.inside.classes.items c.self.inside.rivals.items c.deref.result.now
    c.number.result c.args.dataset c.in-Some.rivals.now
    c.self.invariant.1 c.deref.ensures.value c.number.ensures.value
    (c.in-Some.ensures.lookup.3.1 empty) in
    ap (λ s. contains s d) c.union_with.ensures
    ∙ contains-union nat_cmp_total c.args.set.now c.in-Some.rivals.now d
    ∙ ap (λ b. contains c.args.set.now d || b)
    (row d ∙ (λ i. are_rivals (c.self.view_is i).classes c.args.dataset d))

pub returns-in-None : goal.returns-in-None
returns-in-None c d =
    or_no (contains c.args.set.now d) _ (
    sym (λ i. are_rivals (c.self.view_is i).classes c.args.dataset d)
    ∙ no_row c.self.inside.classes.items c.self.inside.rivals.items c.deref.result.now
    c.number.result c.args.dataset
    c.self.invariant.1 c.deref.ensures.value c.number.ensures.value c.in-None.ensures.lookup.3 d
    )
