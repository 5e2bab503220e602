use Rattle.std.proofs.Common.{◌≡◌, ℕ, Option, Some, slice_get, sym, ap, ◌∙◌, arith}
use Rattle.std.specs.Prelude.{option_and_then}
use Rattle.wall_policy.specs.Policy.{home_of, home_if_any}
use Rattle.wall_policy.specs.Growth.{place_if_any}
use Rattle.wall_policy.proofs.AnewLemmas.{mapped_on}
use Rattle.wall_policy.proofs.RenumberLemmas.{get_low}
use Rattle.wall_policy.proofs.renumber.home_list.Goals as goal

pub loop-number-preserved : goal.loop-number-preserved
loop-number-preserved c =
    let policy = c.args.policy.now in
    let end = c.processes-number-end.ensures.number in
    let of_each = c.processes-number-end.ensures.policy.home_for_each in
    let low = c.loop-number-test.true in
    let there = get_low policy.homes c.loop-number.number (omega (arith, end, of_each, low)) in
    let number : c.unwrap.result ≡ c.loop-number.number =
    (rw c.unwrap.ensures at c.new.ensures.value) in
    let is : there.0 ≡ c.home-home.result =
    sym (c.home-home.ensures.home ∙ ap (λ (p : ℕ). home_of policy p) number
    ∙ ap home_if_any there.1) in
    rw c.in_ok-push.ensures.items (rw c.home_of.ensures
    (mapped_on (λ (home : Option ℕ). place_if_any c.args.datasets.now
    (option_and_then (λ d. slice_get policy.dataset_names d) home)) c.loop-number.list.items
    policy.homes c.loop-number.number c.home-home.result _
    (there.1 ∙ ap (λ (home : Option ℕ). Some home) is) c.loop-number.invariant))
