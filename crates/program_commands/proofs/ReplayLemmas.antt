-- A policy that was read or not, what comes of its script, and the book.
use Rattle.std.proofs.Common.{◌≡◌, ◌⊎◌, inl, inr, Option, None, Result, Ok, Err, sym, subst, ◌∙◌}
use Rattle.std.specs.Prelude.{IfOk, IfErr}
use Rattle.wall_policy.specs.Policy.{ChineseWall}
use Rattle.hall_core.specs.Halls.{HallValue}
use Rattle.hall_script.specs.Devices.{Used, IsUntouched}
use Rattle.program_commands.specs.declared.ending.Ending.{Ending}
use Rattle.program_commands.specs.Replaying.{IsKept, IsUnkept, Replays, ReplaysIfRead}
use Rattle.program_commands.specs.Replaying.{KeepsIfRan, ending_of}

-- no book is kept
pub unkept : (B : Type 0) (hall : Result HallValue Ending) (ending : Ending) →
    ending ≡ ending_of hall → KeepsIfRan {B = B} hall None ending
unkept B (Ok hall) ending is = λ run stands. is
unkept B (Err before) ending is = (is, tt)

-- where there is no hall, no book was kept, and it ended as it had
pub no_hall : {B : Type 0} (book : Option (Used B)) (IsNone : Ending → Type 0)
    (hall : Result HallValue Ending) (before ending : Ending) → hall ≡ Err before →
    KeepsIfRan hall book ending → IsNone before → IsNone ending × IsUnkept book
no_hall book IsNone hall before ending is kept none =
    let kept' = subst (λ h. KeepsIfRan h book ending) is kept in
    (subst IsNone (sym kept'.0) none, kept'.1)

module _ {S O B : Type 0} (script : Used S) (out : Used O) (book : Option (Used B)) where
  -- under a policy at hand
  pub replayed_so : (wall : ChineseWall) (hall : Result HallValue Ending) (ending : Ending) →
      ReplaysIfRead (Ok wall) script out hall → KeepsIfRan hall book ending →
      Replays wall script out book ending
  replayed_so wall (Ok hall) ending so kept =
      inr (so.0, so.3, subst (λ w. IsKept w so.0 book ending) so.1 (kept so.0 so.2))
  replayed_so wall (Err before) ending so kept = inl (so.0, so.1, kept.0 ∙ so.2, kept.1)

  -- A policy was read so, or none was for this reason: what the commands say of it, with earlier
  -- books or without.
  pub replayed_under : (IsOne : ChineseWall → Type 0) (IsNone : Ending → Type 0)
      (wall : Result ChineseWall Ending) (hall : Result HallValue Ending) (ending : Ending) →
      IfOk wall IsOne → IfErr wall IsNone → ReplaysIfRead wall script out hall →
      KeepsIfRan hall book ending →
      (IsNone ending × IsUntouched script × IsUntouched out × IsUnkept book)
      ⊎ ((wall : ChineseWall) × IsOne wall × Replays wall script out book ending)
  replayed_under IsOne IsNone (Err before) hall ending one none so kept =
      let ends = no_hall book IsNone hall before ending so.0 kept none in
      inl (ends.0, so.1, so.2, ends.1)
  replayed_under IsOne IsNone (Ok wall) hall ending one none so kept =
      inr (wall, one, replayed_so wall hall ending so kept)
