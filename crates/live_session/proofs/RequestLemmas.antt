-- What the calls of a process tell of its requests.
use Rattle.std.proofs.Common.{◌≡◌, inl, inr, ℕ, suc, ◌+◌, ◌<◌, ◌^◌, List, [], ◌∷◌}
use Rattle.std.proofs.Common.{◌++◌, length, refl, sym, ap, ◌∙◌, arith, Bool, true, false}
use Rattle.std.proofs.Common.{not, ◌&&◌, ◌||◌, Option, Some, None, ⊎_elim, eqb-true, eq-eqb}
use Rattle.std.proofs.Common.{length-append, nat_le}
use Rattle.std.specs.Prelude.{◌==◌, count_by, if◌then◌else◌}
use Rattle.std.specs.List.{cons_option}
use Rattle.std.proofs.lemmas.Bool.{cases_Bool, cond-true, cond-false, leb-false}
use Rattle.std.proofs.lemmas.List.Sums.{length-filter}
use Rattle.wall_policy.specs.Policy.{ChineseWall}
use Rattle.mpi_elems.specs.Contents.{Contents}
use Rattle.mpi_cart.specs.Grids.{below}
use Rattle.wall_verdict.specs.Star.{star}
use Rattle.run_model.specs.Contributions.{Contribution, posts_of}
use Rattle.run_model.specs.declared.refusal.Refusal.{Refusal}
use Rattle.run_model.specs.declared.refusal.Refusal.TheVariants.{TooManyRequests}
use Rattle.run_model.specs.declared.call.Posting.{Posting}
use Rattle.run_model.specs.declared.call.Act.TheVariants.{Post as ToPost}
use Rattle.run_model.specs.declared.reply.Reply.{Reply}
use Rattle.run_model.specs.declared.reply.Reply.TheVariants.{Posted, Barred, Pending, Delivered}
use Rattle.run_model.specs.declared.reply.Reply.TheVariants.{NewComm, NullComm, Denied, NoRoom}
use Rattle.run_model.specs.declared.reply.Reply.TheVariants.{Info, Refused}
use Rattle.run_model.specs.Posts.{histories}
use Rattle.run_model.specs.Refusals.{or_else, fault}
use Rattle.run_model.specs.Runs.{Entry, effects, posts, contributions, contribution_by}
use Rattle.run_model.specs.Runs.{counted, requests, is_taken, takes, is_outcome, label_in, given_in}
use Rattle.run_model.specs.Replies.{Legal, IsAnswer, open_requests, refusal}
use Rattle.run_model.specs.Replies.{reply_by, reply_to_post, too_many}
use Rattle.run_model.proofs.CountLemmas.{posted_taken, barred_taken}
use Rattle.run_model.proofs.ProperLemmas.{legal_proper, untaken_new}
use Rattle.hall_turn.specs.Runs.{calls_of}
use Rattle.live_session.specs.Requests.{given_by, open_by}
use Rattle.live_session.specs.Keeping.{request_in}

-- ---- a run, and the calls of one process in it

-- one call of the process more
given_own : (p q : ℕ) (o : Option (Posting × Bool)) (gs hs : List (Contribution Contents)) →
    q ≡ p → length (requests p (posts_of gs)) ≡ length (posts_of hs) →
    length (requests p (posts_of (cons_option (contribution_by q o) gs)))
    ≡ length (posts_of (cons_option (contribution_by q o) hs))
given_own p q None gs hs is h = h
given_own p q (Some (posting, barred)) gs hs is h =
    ap length (cond-true (q == p) (requests p (posts_of gs) ++ _ ∷ []) (requests p (posts_of gs))
    (eq-eqb q p is))
    ∙ length-append (requests p (posts_of gs)) (_ ∷ [])
    ∙ (let sum : length (requests p (posts_of gs)) + 1 ≡ suc (length (posts_of hs)) = omega arith in
    sum)

-- one call of another process more
given_other : (p q : ℕ) (o : Option (Posting × Bool)) (gs : List (Contribution Contents)) →
    (q == p) ≡ false →
    requests p (posts_of (cons_option (contribution_by q o) gs)) ≡ requests p (posts_of gs)
given_other p q None gs is = refl
given_other p q (Some (posting, barred)) gs is =
    cond-false (q == p) (requests p (posts_of gs) ++ _ ∷ []) (requests p (posts_of gs)) is

pub own_given : (p : ℕ) (run : List Entry) →
    length (requests p (posts run)) ≡ given_by (calls_of p run)
own_given p [] = refl
own_given p (e ∷ run) =
    let q = e.call.process in
    let calls = calls_of p run in
    let rest = own_given p run in
    ⊎_elim
    (λ t. given_own p q (counted e.call.act e.reply) (contributions run) (contributions calls)
    (eqb-true q p t) rest ∙ ap given_by (sym (cond-true (q == p) (e ∷ calls) calls t)))
    (λ s. ap length (given_other p q (counted e.call.act e.reply) (contributions run) s) ∙ rest
    ∙ ap given_by (sym (cond-false (q == p) (e ∷ calls) calls s)))
    (cases_Bool (q == p))

pub own_taken : (p r : ℕ) (run : List Entry) → is_taken p r run ≡ is_taken p r (calls_of p run)
own_taken p r [] = refl
own_taken p r (e ∷ run) =
    let q = e.call.process in
    let calls = calls_of p run in
    let rest = own_taken p r run in
    let told = is_outcome e.reply in
    ⊎_elim
    (λ t. ap (λ b. q == p && takes e.call.act r && told || b) rest
    ∙ ap (is_taken p r) (sym (cond-true (q == p) (e ∷ calls) calls t)))
    (λ s. ap (λ b. b && takes e.call.act r && told || is_taken p r run) s ∙ rest
    ∙ ap (is_taken p r) (sym (cond-false (q == p) (e ∷ calls) calls s)))
    (cases_Bool (q == p))

pub own_open : (p : ℕ) (run : List Entry) →
    open_requests p (effects run) ≡ length (open_by p (calls_of p run))
own_open p run =
    let calls = calls_of p run in
    ap (λ n. count_by (λ r. not (is_taken p r run)) (below n)) (own_given p run)
    ∙ (λ i. count_by (λ r. not (own_taken p r run i)) (below (given_by calls)))
    ∙ sym (length-filter (λ r. not (is_taken p r calls)) (below (given_by calls)))

-- ---- a post that counts

second_none : (o m : Option Refusal) → or_else o m ≡ None → m ≡ None
second_none (Some f) m h = absurd cc
second_none None m h = h

if_none : (b : Bool) → (if b then Some TooManyRequests else None) ≡ None → b ≡ false
if_none true h = absurd cc
if_none false h = refl

or_none : (a b : Bool) → (a || b) ≡ false → (a ≡ false) × (b ≡ false)
or_none true b h = absurd cc
or_none false b h = (refl, h)

-- A post was not refused: so few requests of the process are open, and this is the number of the new
-- one.
pub record IsGiven (p : ℕ) (calls : List Entry) (request : ℕ) : Type 0 where
  pub number : request ≡ given_by calls
  pub fits : request < 18446744073709551615
  pub few : length (open_by p calls) < 256
  pub untaken : is_taken p request calls ≡ false

given_new : (wall : ChineseWall) (run : List Entry) (p : ℕ) (posting : Posting) (request : ℕ) →
    Legal wall run → refusal wall (effects run) p posting ≡ None →
    request ≡ length (requests p (posts run)) → IsGiven p (calls_of p run) request
given_new wall run p posting request legal free is =
    let m = effects run in
    let waiting = open_requests p m in
    let given = length (requests p (posts run)) in
    let within : too_many p m ≡ false = if_none (too_many p m) (second_none
    (fault wall (posts run) p posting.comm posting.sig posting.own posting.elements.elem_type
    (given_in posting))
    (if too_many p m then Some TooManyRequests else None) free) in
    let both = or_none (nat_le 256 waiting) (nat_le (2 ^ 62) given) within in
    let few : waiting < 256 = leb-false 256 waiting both.0 in
    let low : given < 2 ^ 62 = leb-false (2 ^ 62) given both.1 in
    let count = own_open p run in
    record {
      number = is ∙ own_given p run;
      fits = omega arith;
      few = omega arith;
      untaken = sym (own_taken p request run)
          ∙ ap (λ r. is_taken p r run) is ∙ untaken_new wall m p (legal_proper wall run legal);
    }

pub given_at : (wall : ChineseWall) (run : List Entry) (p : ℕ) (posting : Posting) (reply : Reply)
    (request : ℕ) → Legal wall run → IsAnswer (reply_by wall (effects run) p (ToPost posting)) reply →
    request_in reply ≡ Some request → IsGiven p (calls_of p run) request
given_at wall run p posting (Posted r) request legal (inl e) is =
    let m = effects run in
    let t = posted_taken wall m p r posting (refusal wall m p posting) e in
    let number : Posted r ≡ Posted (length (requests p (posts run))) =
    e ∙ ap (reply_to_post wall m p posting) t.0
    ∙ cond-true (star (histories wall (posts run)) p (label_in posting))
    (Posted _) (Barred _ posting.label) t.1 in
    given_new wall run p posting request legal t.0 cc
given_at wall run p posting (Posted r) request legal (inr e) is = let no = e.1 in absurd cc
given_at wall run p posting (Barred r label) request legal (inl e) is =
    let m = effects run in
    let t = barred_taken wall m p r label posting (refusal wall m p posting) e in
    let number : Barred r label ≡ Barred (length (requests p (posts run))) posting.label =
    e ∙ ap (reply_to_post wall m p posting) t.0
    ∙ cond-false (star (histories wall (posts run)) p (label_in posting))
    (Posted _) (Barred _ posting.label) t.1 in
    given_new wall run p posting request legal t.0 cc
given_at wall run p posting (Barred r label) request legal (inr e) is = let no = e.1 in absurd cc
given_at wall run p posting Pending request legal e is = absurd cc
given_at wall run p posting (Delivered delivery) request legal e is = absurd cc
given_at wall run p posting (NewComm c rank n) request legal e is = absurd cc
given_at wall run p posting NullComm request legal e is = absurd cc
given_at wall run p posting (Denied rule q label) request legal e is = absurd cc
given_at wall run p posting NoRoom request legal e is = absurd cc
given_at wall run p posting (Info size rank dims) request legal e is = absurd cc
given_at wall run p posting (Refused why) request legal e is = absurd cc
