-- What a call makes of the runs that a machine stands for. A machine is a hall, or whatever else
-- answers calls as a hall does; which runs it stands for, under which policy, is said of each.
use Rattle.std.specs.Prelude.{◌≡◌, ℕ, List, ◌∷◌}
use Rattle.wall_policy.specs.Policy.{ChineseWall}
use Rattle.run_model.specs.declared.call.Call.{Call}
use Rattle.run_model.specs.declared.reply.Reply.{Reply}
use Rattle.run_model.specs.Known.{IsKnownReply}
use Rattle.run_model.specs.PostLaws.{NobodyHoldsBoth}
use Rattle.run_model.specs.Replies.{Legal}
use Rattle.run_model.specs.Runs.{Entry, MakesNothing, effects, entry, posts}
use Rattle.hall_core.specs.declared.claims.Claim.{Claim}
use Rattle.hall_core.specs.Claims.{Claims, CanFinish}
use Rattle.hall_core.specs.Halls.{HallValue, StandsFor, view_of}

-- the hall has this policy, and stands for the run
abbrev pub Stands : ChineseWall → HallValue → List Entry → Type 0
Stands wall hall run = (hall.policy ≡ wall) × StandsFor hall run

-- so it is of each legal run that the machine stands for
abbrev pub ForEachRun : {M : Type 0} → (ChineseWall → M → List Entry → Type 0) → M →
    (ChineseWall → List Entry → Type 0) → Type 0
ForEachRun stands machine IsSo = (wall : ChineseWall) (run : List Entry) → Legal wall run →
    stands wall machine run → IsSo wall run

-- A call with its reply carries a machine from each legal run that it stands for to that run with
-- this entry, which is legal too; and the reply names only what the policy has.
abbrev pub Carries : {M : Type 0} → (ChineseWall → M → List Entry → Type 0) → M → M → Call → Reply →
    Type 0
Carries stands old new call reply = ForEachRun stands old (λ wall run.
    Legal wall (entry call reply ∷ run) × stands wall new (entry call reply ∷ run)
    × IsKnownReply wall reply)

-- with this entry no process holds two rivals, directly or through others
abbrev pub KeepsApart : {M : Type 0} → (ChineseWall → M → List Entry → Type 0) → M → Entry → Type 0
KeepsApart stands old e =
    ForEachRun stands old (λ wall run. NobodyHoldsBoth wall (posts (e ∷ run)))

-- What else is known of a claim of p for its request, after a run: it holds the run's instance and
-- p's rank, or is no delivery; and it may be finished, with its room as it was made.
pub record ClaimsAfter (wall : ChineseWall) (run : List Entry) (p request : ℕ) (claim : Claim)
    : Type 0 where
  pub claims : Claims wall (effects run) p request claim
  pub can : CanFinish claim

-- A hall has given this reply, whatever run it stood for: its policy stays; where the reply makes
-- nothing, callers can tell no difference; and the reply names only what the policy has.
pub record RepliesWith (old new : HallValue) (reply : Reply) : Type 0 where
  pub policy : new.policy ≡ old.policy
  pub unchanged : MakesNothing reply → view_of new ≡ view_of old
  pub named : IsKnownReply new.policy reply
