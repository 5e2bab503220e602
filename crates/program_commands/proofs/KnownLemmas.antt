-- Known bytes, through two calls.
use Rattle.std.proofs.Common.{ℕ, ◌+◌, List, [], ◌++◌, Option, Some, None, sym, ap, ◌∙◌}
use Rattle.std.proofs.lemmas.List.{append-nil}
use Rattle.std.specs.Io.KnownBytes.{Appends}
use Rattle.wall_labels.proofs.WallLabelsLemmas.{Appends-then}
use Rattle.hall_script.specs.Devices.{used, IsWritten, BrokeOff}
use Rattle.live_book.proofs.LiveBookLemmas.{prefix_more, prefix_then}

pub appends_none : (a : Option (List ℕ)) → Appends a a []
appends_none None = tt
appends_none (Some xs) = sym (append-nil xs)

-- ---- a writer, through two calls

module _ {W : Type 0} (failures : W → ℕ) (contents : W → Option (List ℕ)) where
  pub both_written : (a b c : W) (xs ys : List ℕ) → IsWritten (used failures contents a b) xs →
      IsWritten (used failures contents b c) ys
      → IsWritten (used failures contents a c) (xs ++ ys)
  both_written a b c xs ys first second = (
    second.0 ∙ first.0,
    Appends-then (contents a) (contents b) (contents c) xs ys first.1 second.1,
  )

  -- it broke off in the first
  pub first_broke : (a b : W) (xs ys : List ℕ) → BrokeOff (used failures contents a b) xs →
      BrokeOff (used failures contents a b) (xs ++ ys)
  first_broke a b xs ys first = (first.0, prefix_more (contents a) (contents b) xs ys first.1)

  -- it broke off in the second
  pub second_broke : (a b c : W) (xs ys : List ℕ) → IsWritten (used failures contents a b) xs →
      BrokeOff (used failures contents b c) ys
      → BrokeOff (used failures contents a c) (xs ++ ys)
  second_broke a b c xs ys first second = (
    second.0 ∙ ap (λ (n : ℕ). n + 1) first.0,
    prefix_then (contents a) (contents b) (contents c) xs ys first.1 second.1,
  )
