-- The sanitised results of a granted instance.
use Rattle.std.proofs.Common.{◌≡◌, ℕ, ◌+◌, ◌-◌, ◌<◌, false, length, slice_get, Some, arith, subst}
use Rattle.wall_verdict.specs.Charges.{sanitised}
use Rattle.run_model.specs.Books.{posted}
use Rattle.run_model.specs.Posts.{comms, filled}
use Rattle.book_report.specs.declared.place.Instance.{Instance}
use Rattle.book_report.specs.Held.{posts_to}
use Rattle.book_report.specs.Walk.{IsGranted}
use Rattle.book_report.specs.Sanitised.{IsSanitisedAt}
use Rattle.book_report.proofs.SanitisedLemmas.{ranks_are_within, unsanitised_is_none}

module _ (it : Instance) (granted : IsGranted it) where
  last : it.place.at + 1 - 1 ≡ it.place.at
  last = omega arith

  there : slice_get it.place.book.now.list it.place.at ≡ Some (posted granted.grant.x)
  there = subst
      (λ m. slice_get it.place.book.now.list m ≡ Some (posted granted.grant.x)) last
      granted.grant.at.entry

  fills : filled (comms it.place.policy.now (posts_to it.place.book.now.list it.place.at))
      granted.grant.x (posts_to it.place.book.now.list it.place.at) ≡ Some it.roll.now
  fills = subst
      (λ m. filled (comms it.place.policy.now (posts_to it.place.book.now.list m))
      granted.grant.x (posts_to it.place.book.now.list m) ≡ Some it.roll.now) last
      granted.grant.grant.fills

  pub granted_ranks : (c k i p : ℕ) → IsSanitisedAt it.place.policy.now
      it.place.book.now.list (it.place.at + 1) c k i p → i < length it.roll.now.members
  granted_ranks c k i p is =
      ranks_are_within it.place.policy.now it.place.book.now.list it.place.at granted.grant.x
      there it.roll.now fills c k i p is

  pub unsanitised_rank : (i : ℕ) → sanitised it.place.policy.now it.roll.now i ≡ false →
      (c k p : ℕ) → ¬ (IsSanitisedAt it.place.policy.now it.place.book.now.list
      (it.place.at + 1) c k i p)
  unsanitised_rank i not c k p is =
      unsanitised_is_none it.place.policy.now it.place.book.now.list it.place.at granted.grant.x
      there it.roll.now fills i not c k p is
