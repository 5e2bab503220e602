-- Which reply is due to a post, by its parts, over `Made`.
use Rattle.std.proofs.Common.{◌≡◌, ℕ, ◌+◌, ◌<◌, ◌≤◌, ◌^◌, List, [], ◌∷◌, ◌++◌, length}
use Rattle.std.proofs.Common.{ap, ◌∙◌, arith, true, false, ◌&&◌, ⊎_elim, Option, Some}
use Rattle.std.proofs.Common.{None, slice_get, nat_le, leb-false, length-append}
use Rattle.std.specs.Prelude.{◌==◌, if◌then◌else◌}
use Rattle.std.proofs.lemmas.Bool.{cases_Bool, cond-true, cond-false, and_right}
use Rattle.std.proofs.lemmas.Bool.{or_parts}
use Rattle.wall_policy.specs.Policy.{ChineseWall}
use Rattle.mpi_elems.specs.Contents.{Contents}
use Rattle.wall_verdict.specs.Star.{star}
use Rattle.run_model.specs.declared.refusal.Refusal.{Refusal}
use Rattle.run_model.specs.declared.refusal.Refusal.TheVariants.{TooManyRequests}
use Rattle.run_model.specs.Comms.{Comm}
use Rattle.run_model.specs.Posts.{Post, posts_on, place, comms, histories}
use Rattle.run_model.specs.Refusals.{or_else, fault}
use Rattle.run_model.proofs.CountedLemmas.{comm_stays}
use Rattle.run_model.specs.Contributions.{Contribution}
use Rattle.run_model.specs.declared.call.Posting.{Posting}
use Rattle.run_model.specs.declared.call.Act.TheVariants.{Post as ToPost}
use Rattle.run_model.specs.declared.reply.Reply.TheVariants.{Posted, Barred, Refused}
use Rattle.run_model.specs.Runs.{Effects, given_in, label_in, requests, with_contribution}
use Rattle.run_model.specs.Replies.{posts_made, open_requests, too_many, refusal, reply_to_post}
use Rattle.run_model.specs.Replies.{reply_by}

-- ## refusals

module _ (wall : ChineseWall) (m : Effects) (p : ℕ) (posting : Posting) where
  -- the refusals that posts alone decide
  abbrev pub own_fault : Option Refusal
  own_fault = fault wall (posts_made m) p posting.comm posting.sig posting.own
      posting.elements.elem_type (given_in posting)

  pub refusal_fault : (why : Refusal) → own_fault ≡ Some why → refusal wall m p posting ≡ Some why
  refusal_fault why e = ap (λ o. or_else o (if too_many p m then Some TooManyRequests else None)) e

  pub refusal_many : own_fault ≡ None → too_many p m ≡ true →
      refusal wall m p posting ≡ Some TooManyRequests
  refusal_many e t = ap (λ o. or_else o (if too_many p m then Some TooManyRequests else None)) e
      ∙ cond-true (too_many p m) (Some TooManyRequests) None t

  pub refusal_none : own_fault ≡ None → too_many p m ≡ false → refusal wall m p posting ≡ None
  refusal_none e f = ap (λ o. or_else o (if too_many p m then Some TooManyRequests else None)) e
      ∙ cond-false (too_many p m) (Some TooManyRequests) None f

  -- ## replies

  pub reply_refused : (why : Refusal) → refusal wall m p posting ≡ Some why →
      reply_by wall m p (ToPost posting) ≡ Refused why
  reply_refused why e = ap (λ o. reply_to_post wall m p posting o) e

  pub reply_passed : refusal wall m p posting ≡ None →
      star (histories wall (posts_made m)) p (label_in posting) ≡ true →
      reply_by wall m p (ToPost posting) ≡ Posted (length (requests p (posts_made m)))
  reply_passed e t =
      ap (λ o. reply_to_post wall m p posting o) e
      ∙ cond-true (star (histories wall (posts_made m)) p (label_in posting))
      (Posted (length (requests p (posts_made m))))
      (Barred (length (requests p (posts_made m))) posting.label) t

  pub reply_barred : refusal wall m p posting ≡ None →
      star (histories wall (posts_made m)) p (label_in posting) ≡ false →
      reply_by wall m p (ToPost posting) ≡ Barred (length (requests p (posts_made m))) posting.label
  reply_barred e f =
      ap (λ o. reply_to_post wall m p posting o) e
      ∙ cond-false (star (histories wall (posts_made m)) p (label_in posting))
      (Posted (length (requests p (posts_made m))))
      (Barred (length (requests p (posts_made m))) posting.label) f

-- ## numbers

-- who may post has fewer requests than the limits
pub few_requests : (m : Effects) (p : ℕ) → too_many p m ≡ false →
    (open_requests p m < 256) × (length (requests p (posts_made m)) < 2 ^ 62)
few_requests m p f =
    let parts = or_parts (nat_le 256 (open_requests p m))
    (nat_le (2 ^ 62) (length (requests p (posts_made m)))) f in (
      leb-false 256 (open_requests p m) parts.0,
      leb-false (2 ^ 62) (length (requests p (posts_made m))) parts.1,
    )

length_snoc : {X : Type 0} (xs : List X) (x : X) → length (xs ++ x ∷ []) ≡ length xs + 1
length_snoc xs x = length-append xs (x ∷ [])

-- a process has no more posts on a communicator than requests
pub posts_within : (c p : ℕ) (past : List Post) →
    length (posts_on c p past) ≤ length (requests p past)
posts_within c p [] = omega arith
posts_within c p (x ∷ past) = ⊎_elim
    (λ own.
    let more : length (requests p (x ∷ past)) ≡ length (requests p past) + 1 = ap length
    (cond-true (x.process == p) (requests p past ++ (x.comm, place x past) ∷ [])
    (requests p past) own) ∙ length_snoc (requests p past) (x.comm, place x past) in
    let old = posts_within c p past in
    ⊎_elim
    (λ t. let one : length (posts_on c p (x ∷ past)) ≡ length (posts_on c p past) + 1 = ap length
    (cond-true (x.comm == c && x.process == p) (posts_on c p past ++ x.stated ∷ [])
    (posts_on c p past) t) ∙ length_snoc (posts_on c p past) x.stated in
    omega (arith, more, old, one))
    (λ f. let same : length (posts_on c p (x ∷ past)) ≡ length (posts_on c p past) = ap length
    (cond-false (x.comm == c && x.process == p) (posts_on c p past ++ x.stated ∷ [])
    (posts_on c p past) f) in omega (arith, more, old, same))
    (cases_Bool (x.comm == c && x.process == p)))
    (λ other.
    let still : length (requests p (x ∷ past)) ≡ length (requests p past) = ap length
    (cond-false (x.process == p) (requests p past ++ (x.comm, place x past) ∷ [])
    (requests p past) other) in
    let same : length (posts_on c p (x ∷ past)) ≡ length (posts_on c p past) = ap length
    (cond-false (x.comm == c && x.process == p) (posts_on c p past ++ x.stated ∷ [])
    (posts_on c p past) (and_right (x.comm == c) (x.process == p) other)) in
    let old = posts_within c p past in
    omega (arith, still, old, same))
    (cases_Bool (x.process == p))

-- ## communicators

-- a communicator keeps its number, its group and its grid
pub comm_kept :
    (wall : ChineseWall) (m : Effects) (g : Contribution Contents) (c : ℕ) (comm : Comm) →
    slice_get (comms wall (posts_made m)) c ≡ Some comm →
    slice_get (comms wall (posts_made (with_contribution m g))) c ≡ Some comm
comm_kept wall m g c comm at = comm_stays wall (g.post ∷ []) (posts_made m) c comm at
