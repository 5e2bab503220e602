-- The instance that a post joins, in a state that stands for posts: it is the one of the posts with
-- this one.
use Rattle.std.proofs.Common.{◌≡◌, ◌≢◌, ℕ, ◌<◌, List, ◌∷◌, length, refl, sym, ap, ◌∙◌, subst, true}
use Rattle.std.proofs.Common.{false, not, ◌&&◌, Option, Some, None, slice_get, set, replicate}
use Rattle.std.proofs.Common.{⊎_elim, eqb-true, option_and_then}
use Rattle.std.proofs.lemmas.Bool.{cases_Bool, cond-true, cond-false}
use Rattle.std.proofs.lemmas.Option.{slice_get_within}
use Rattle.std.proofs.lemmas.List.{length-map}
use Rattle.wall_policy.specs.Policy.{ChineseWall}
use Rattle.mpi_group.specs.Groups.{rank_in}
use Rattle.mpi_group.proofs.MpiGroupLemmas.{one_place}
use Rattle.mpi_cart.proofs.MpiCartLemmas.{position-place_of, place_passes}
use Rattle.coll_routes.specs.declared.statement.Stated.{Stated}
use Rattle.coll_routes.specs.declared.roll.Roll.{Roll}
use Rattle.coll_routes.specs.declared.signature.Signature.{Signature}
use Rattle.coll_routes.specs.Signatures.{same_signature}
use Rattle.coll_routes.proofs.CollRoutesLemmas.{same_signatures_are_equal}
use Rattle.coll_pending.specs.declared.arrival.Next.TheVariants.{Mismatch}
use Rattle.coll_routes.specs.Rolls.{is_full}
use Rattle.coll_pending.specs.Instances.{Instance, is_begun, joined, next_by, roll_in}
use Rattle.coll_pending.specs.Waiting.{next}
use Rattle.run_model.specs.Comms.{Comm}
use Rattle.run_model.specs.Posts.{Post, posts_on, kth_posts, roll_by, instance, if_full, filled}
use Rattle.run_model.specs.Posts.{place, comms}
use Rattle.run_model.specs.Contributions.{Contribution, posts_of, parts_on, kth_parts}
use Rattle.run_state.specs.Views.{PostStateView, communicator_of}
use Rattle.run_state.specs.Entering.{Spot, IsAt, place_at, after, fills}
use Rattle.run_state.specs.Stands.{StandsForPosts, arrivals_in, arrivals_as, waiting_by, waiting_in}
use Rattle.run_state.proofs.RowLemmas.{rows-own, row-empty, not_full, none_begun}
use Rattle.run_state.proofs.RowLemmas.{begun_alike, sig_joined, sig_opened}
use Rattle.run_state.proofs.ContributionLemmas.{posts-grow, parts-grow}
use Rattle.run_model.proofs.RunModelLemmas.{lengths}

-- the member at a process's rank
pub member_at : (members : List ℕ) (p r : ℕ) → rank_in members p ≡ Some r →
    slice_get members r ≡ Some p
member_at members p r e =
    let passes = place_passes (λ (m : ℕ). Rattle.std.specs.Prelude.nat_eq m p) members r
    (sym (position-place_of (λ (m : ℕ). Rattle.std.specs.Prelude.nat_eq m p) members) ∙ e) in
    passes.there ∙ ap (λ m. Some m) (eqb-true passes.item p passes.passes)

-- an arrival that does not mismatch is of the signature of the instance
pub agreed : (roll : Roll) (rank : ℕ) (sig : Signature) → next_by (Some roll) rank sig ≢ Mismatch →
    roll.sig ≡ sig
agreed roll rank sig agrees = ⊎_elim
    (λ same. (same_signatures_are_equal roll.sig sig).0 same)
    (λ other. absurd (agrees (cond-false (same_signature roll.sig sig) _ Mismatch other)))
    (cases_Bool (same_signature roll.sig sig))

-- an instance with these statements and parts
abbrev pub instance_by : {X : Type 0} → Comm → List (Option Stated) → List (Option X) → Instance X
instance_by comm stated parts = record { roll = roll_by comm stated; parts = parts }

-- rows of which one has nothing yet make what the arrival makes of the instance that waits
pub joined_is : {X : Type 0} (comm : Comm) (stated : List (Option Stated)) (parts : List (Option X))
    (rank : ℕ) (s : Stated) (part : X) (waits : Option (Instance X)) →
    waits ≡ waiting_by comm stated parts → rank < length comm.members →
    length stated ≡ length comm.members → length parts ≡ length comm.members →
    is_begun parts ≡ is_begun stated → is_full stated ≡ false →
    next_by (roll_in waits) rank s.sig ≢ Mismatch →
    joined (communicator_of comm) rank s part waits
    ≡ instance_by comm (set stated rank (Some s)) (set parts rank (Some part))
joined_is {X} comm stated parts rank s part waits is lt rows places alike some agrees =
    ⊎_elim begun fresh (cases_Bool (is_begun stated))
  where
    Goal : Option (Instance X) → Type 0
    Goal w = joined (communicator_of comm) rank s part w
        ≡ instance_by comm (set stated rank (Some s)) (set parts rank (Some part))

    begun : is_begun stated ≡ true → Goal waits
    begun t =
        let both : (is_begun stated && not (is_full stated)) ≡ true = λ i. t i && not (some i) in
        let now : waits ≡ Some (instance_by comm stated parts) = is ∙ cond-true
        (is_begun stated && not (is_full stated)) (Some (instance_by comm stated parts)) None
        both in
        let sig = agreed (roll_by comm stated) rank s.sig
        (subst (λ w. next_by (roll_in w) rank s.sig ≢ Mismatch) now agrees) in
        subst Goal (sym now) (λ i. record {
          roll = record {
            members = comm.members;
            shape = Rattle.run_model.specs.Comms.shape_of comm;
            sig = (sig ∙ sym (sig_joined stated rank s sig)) i;
            stated = set stated rank (Some s);
          };
          parts = set parts rank (Some part);
        })

    fresh : is_begun stated ≡ false → Goal waits
    fresh f =
        let both : (is_begun stated && not (is_full stated)) ≡ false = λ i. f i && not
        (is_full stated) in
        let now : waits ≡ None = is ∙ cond-false (is_begun stated && not (is_full stated))
        (Some (instance_by comm stated parts)) None both in
        let bare : stated ≡ replicate (length comm.members) None = none_begun stated f ∙ ap
        (λ n. replicate n None) rows in
        let empty : parts ≡ replicate (length comm.members) None = none_begun parts (alike ∙ f) ∙ ap
        (λ n. replicate n None) places in
        let sig : s.sig ≡ Rattle.run_model.specs.Posts.signature_in (set stated rank (Some s)) = sym
        (ap (λ xs. Rattle.run_model.specs.Posts.signature_in (set xs rank (Some s))) bare
        ∙ sig_opened (length comm.members) rank s lt) in
        subst Goal (sym now) (λ i. record {
          roll = record {
            members = comm.members;
            shape = Rattle.run_model.specs.Comms.shape_of comm;
            sig = sig i;
            stated = set (sym bare i) rank (Some s);
          };
          parts = set (sym empty i) rank (Some part);
        })

module _ {X : Type 0} (wall : ChineseWall) (old : PostStateView X) (past : List (Contribution X))
    (stands : StandsForPosts wall old past) (spot : Spot) (g : Contribution X)
    (at : IsAt old spot g) where
  abbrev posts : List Post
  posts = posts_of past

  -- how often the poster had posted there
  abbrev before : ℕ
  before = length (posts_on g.post.comm g.post.process posts)

  pub own_rank : slice_get spot.comm.members spot.rank ≡ Some g.post.process
  own_rank = member_at spot.comm.members g.post.process spot.rank at.rank

  pub once : (i : ℕ) → slice_get spot.comm.members i ≡ Some g.post.process → i ≡ spot.rank
  once i e = one_place spot.comm.members i spot.rank g.post.process at.once e own_rank

  pub place_is : place_at old spot g ≡ before
  place_is =
      stands.arrivals g.post.comm spot.rank
      ∙ (ap (λ o. arrivals_in o g.post.comm spot.rank posts) at.there
      ∙ ap (λ o. arrivals_as o g.post.comm posts) own_rank)

  -- the rows of its instance, without it and with it
  abbrev rows : List (Option Stated)
  rows = kth_posts spot.comm g.post.comm before posts

  abbrev places : List (Option X)
  places = kth_parts spot.comm g.post.comm before past

  pub rows-now : kth_posts spot.comm g.post.comm before (g.post ∷ posts)
      ≡ set rows spot.rank (Some g.post.stated)
  rows-now = rows-own (λ m. posts_on g.post.comm m posts)
      (λ m. posts_on g.post.comm m (g.post ∷ posts)) g.post.process g.post.stated spot.comm.members
      spot.rank before (posts-grow g.post posts) refl own_rank once

  pub parts-now :
      kth_parts spot.comm g.post.comm before (g ∷ past) ≡ set places spot.rank (Some g.part)
  parts-now = rows-own (λ m. parts_on g.post.comm m past) (λ m. parts_on g.post.comm m (g ∷ past))
      g.post.process g.part spot.comm.members spot.rank before (parts-grow g past)
      (sym (lengths g.post.comm g.post.process past)) own_rank once

  pub not_yet : is_full rows ≡ false
  not_yet = not_full rows spot.rank (row-empty (λ m. posts_on g.post.comm m posts) g.post.process
      spot.comm.members spot.rank before refl own_rank)

  pub waits_is :
      old.waiting.pending g.post.comm (place_at old spot g) ≡ waiting_by spot.comm rows places
  waits_is =
      ap (λ k. old.waiting.pending g.post.comm k) place_is
      ∙ (stands.pending g.post.comm before
      ∙ ap (λ o. waiting_in o g.post.comm before past) at.there)

  module _ (agrees : next old.waiting g.post.comm spot.rank g.post.stated.sig ≢ Mismatch) where
    pub after_is : after old spot g
        ≡ instance_by spot.comm (kth_posts spot.comm g.post.comm before (g.post ∷ posts))
        (kth_parts spot.comm g.post.comm before (g ∷ past))
    after_is =
        joined_is spot.comm rows places spot.rank g.post.stated g.part
        (old.waiting.pending g.post.comm (place_at old spot g)) waits_is
        (slice_get_within spot.comm.members spot.rank g.post.process own_rank)
        (length-map spot.comm.members (λ m. slice_get (posts_on g.post.comm m posts) before))
        (length-map spot.comm.members (λ m. slice_get (parts_on g.post.comm m past) before))
        (begun_alike (λ m. parts_on g.post.comm m past) (λ m. posts_on g.post.comm m posts) before
        spot.comm.members (λ m. lengths g.post.comm m past))
        not_yet agrees
        ∙ (λ i. instance_by spot.comm (sym rows-now i) (sym parts-now i))

    -- the roll that the post fills
    pub filled_is : filled (comms wall posts) g.post posts ≡ fills old spot g
    unfolding filled
    filled_is =
        ap (λ o. option_and_then
        (λ comm. if_full (instance comm g.post.comm (place g.post posts) (g.post ∷ posts)))
        o) (sym (ap (λ table. slice_get table g.post.comm) stands.comms) ∙ at.there)
        ∙ ap (λ (w : Instance X). if_full w.roll) (sym after_is)
