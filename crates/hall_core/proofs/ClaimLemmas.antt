-- What a claim holds, from the hall to its runs.
use Rattle.std.proofs.Common.{◌≡◌, ℕ, List, Some, slice_get}
use Rattle.std.proofs.Common.{subst}
use Rattle.std.specs.Arc.{arc_value}
use Rattle.mpi_elems.specs.Contents.{Contents}
use Rattle.coll_values.specs.declared.full.Full.{Full}
use Rattle.run_model.specs.declared.outcome.Outcome.TheVariants.{Granted}
use Rattle.run_model.specs.Posts.{Post, outcome_at}
use Rattle.run_model.specs.Contributions.{full_at}
use Rattle.run_model.specs.Runs.{Effects, requests}
use Rattle.run_model.specs.Buffers.{SameInstanceButForRoom, SameButForRoom}
use Rattle.run_model.specs.Replies.{posts_made, comm_at}
use Rattle.run_model.proofs.RunModelLemmas.{posts_but_for_room, instance_but_for_room}
use Rattle.hall_core.specs.declared.claims.Claim.{Claim}
use Rattle.hall_core.specs.declared.claims.Claim.TheVariants.{Done, Ready}
use Rattle.hall_core.specs.Halls.{HallView, StandsForEffects, settlement}
use Rattle.hall_core.specs.Claims.{HoldsWhatIsKept, Claims, IsClaimed, IsHeld}
use Rattle.hall_core.proofs.TakeLemmas.{open_at, known_as}

-- what stands in the hall is what the run has made, but for the room of buffers
pub share_claimed : (hall : HallView) (kept m : Effects) → StandsForEffects hall kept →
    SameButForRoom kept m → (p r : ℕ) (full : Full Contents) (rank : ℕ) →
    IsHeld hall p r full rank → IsClaimed hall.policy m p r full rank
share_claimed hall kept m stands same p r full rank held =
    let comm = held.asked.comm in
    let k = held.asked.k in
    let posts = posts_but_for_room hall.policy kept m same in
    let known = known_as hall kept stands p r held.asked (settlement full Granted) held.waits
    held.granted in
    record {
      comm = comm;
      k = k;
      asked = subst (λ (past : List Post). slice_get (requests p past) r ≡ Some (comm, k)) posts
          (open_at hall kept stands p r held.asked held.waits);
      granted = subst (λ (past : List Post). outcome_at hall.policy comm k past ≡ Some Granted)
          posts known.came;
      is_full = subst (λ (F : Full Contents). SameInstanceButForRoom F
          (full_at (comm_at hall.policy (posts_made m) comm) comm k m.contributions)) known.full
          (instance_but_for_room hall.policy kept m same comm k);
      is_member = held.is_member;
    }

pub held_claims : (hall : HallView) (kept m : Effects) → StandsForEffects hall kept →
    SameButForRoom kept m → (p r : ℕ) (claim : Claim) → HoldsWhatIsKept hall p r claim →
    Claims hall.policy m p r claim
held_claims hall kept m stands same p r (Done reply) held = held
held_claims hall kept m stands same p r (Ready full rank room) held =
    share_claimed hall kept m stands same p r (arc_value full) rank held
