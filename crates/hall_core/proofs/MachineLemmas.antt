-- A hall, in the words for any machine.
use Rattle.std.proofs.Common.{◌≡◌, ℕ, List, ◌∷◌, sym, subst}
use Rattle.wall_policy.specs.Policy.{ChineseWall}
use Rattle.run_model.specs.declared.call.Call.{Call}
use Rattle.run_model.specs.declared.reply.Reply.{Reply}
use Rattle.run_model.specs.Known.{HasKnownLabel, IsKnownReply}
use Rattle.run_model.specs.PostLaws.{NobodyHoldsBoth}
use Rattle.run_model.specs.Replies.{Legal}
use Rattle.run_model.specs.Runs.{Entry, MakesNothing, effects, entry, posts}
use Rattle.hall_core.specs.declared.claims.Claim.{Claim}
use Rattle.hall_core.specs.Claims.{Claims, HoldsWhatIsKept}
use Rattle.hall_core.specs.Halls.{HallValue, StandsFor, view_of}
use Rattle.hall_core.specs.Invariant.{IsHallView}
use Rattle.hall_core.specs.Machines.{Carries, ForEachRun, KeepsApart, RepliesWith, Stands}
use Rattle.hall_core.specs.Moves.{Steps}
use Rattle.hall_core.proofs.ApplyLemmas.{applied, applied_apart, claimed}
use Rattle.hall_core.proofs.NamedLemmas.{step_named}

-- what is so under the policy of a hall is so under each that it may have
pub each_run : (hall : HallValue) (IsSo : ChineseWall → List Entry → Type 0) →
    ((run : List Entry) → Legal hall.policy run → StandsFor hall run → IsSo hall.policy run) →
    ForEachRun Stands hall IsSo
each_run hall IsSo by wall run legal stands = subst (λ (w : ChineseWall). IsSo w run) stands.0
    (by run (subst (λ (w : ChineseWall). Legal w run) (sym stands.0) legal) stands.1)

-- one step of a hall
module _ (old new : HallValue) (call : Call) (got : Reply) (is : IsHallView (view_of old))
    (same : new.policy ≡ old.policy) (known : HasKnownLabel old.policy call.act)
    (steps : Steps (view_of old) (view_of new) call.process call.act got) where
  named : IsKnownReply old.policy got
  named = step_named (view_of old) (view_of new) call.process call.act got is known steps

  pub replies_with : (MakesNothing got → view_of new ≡ view_of old) → RepliesWith old new got
  replies_with unchanged = record {
    policy = same;
    unchanged = unchanged;
    named = subst (λ (w : ChineseWall). IsKnownReply w got) (sym same) named;
  }

  pub carried : Carries Stands old new call got
  carried = each_run old
      (λ wall run. Legal wall (entry call got ∷ run) × Stands wall new (entry call got ∷ run)
      × IsKnownReply wall got)
      (λ run legal stands.
      let after = applied old new call got same steps run legal stands in (
        subst (λ (w : ChineseWall). Legal w (entry call got ∷ run)) same after.0,
        (same, after.1),
        named,
      ))

  pub kept_apart : KeepsApart Stands old (entry call got)
  kept_apart = each_run old
      (λ wall run. NobodyHoldsBoth wall (posts (entry call got ∷ run)))
      (λ run legal stands.
      subst (λ (w : ChineseWall). NobodyHoldsBoth w (posts (entry call got ∷ run))) same
      (applied_apart old new call got is.policy same steps run legal stands))

-- what a claim holds
pub each_claimed : (hall : HallValue) (p r : ℕ) (claim : Claim) →
    HoldsWhatIsKept (view_of hall) p r claim →
    ForEachRun Stands hall (λ wall run. Claims wall (effects run) p r claim)
each_claimed hall p r claim holds = each_run hall
    (λ wall run. Claims wall (effects run) p r claim) (claimed hall p r claim holds)
