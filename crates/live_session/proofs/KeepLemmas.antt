-- What a session keeps of the requests of its process goes on to be what the calls tell.
use Rattle.std.proofs.Common.{◌≡◌, ℕ, suc, ◌+◌, ◌≤◌, List, [], ◌∷◌, ◌++◌, length, map}
use Rattle.std.proofs.Common.{refl, sym, ap, subst, ◌∙◌, arith, Bool, true, false, not, ◌&&◌, ◌||◌}
use Rattle.std.proofs.Common.{cond, Some, ⊎_elim, eq-eqb}
use Rattle.std.specs.Prelude.{◌==◌, vec_capacity}
use Rattle.std.specs.List.{filter}
use Rattle.std.proofs.lemmas.Bool.{cases_Bool, cond-true, cond-false}
use Rattle.std.proofs.lemmas.List.{length-map}
use Rattle.std.proofs.lemmas.List.Elements.{filter-append}
use Rattle.mpi_cart.specs.Grids.{below}
use Rattle.mpi_cart.proofs.MpiCartLemmas.{range_more}
use Rattle.run_model.specs.declared.call.Posting.{Posting}
use Rattle.run_model.specs.declared.call.Act.TheVariants.{Post as ToPost, Take, Info as ToInfo}
use Rattle.run_model.specs.declared.reply.Reply.{Reply}
use Rattle.run_model.specs.declared.reply.Reply.TheVariants.{Posted, Barred, Pending, Delivered}
use Rattle.run_model.specs.declared.reply.Reply.TheVariants.{NewComm, NullComm, Denied, NoRoom}
use Rattle.run_model.specs.declared.reply.Reply.TheVariants.{Info, Refused}
use Rattle.run_model.specs.Runs.{Entry, said, is_taken, is_outcome}
use Rattle.wall_policy.specs.Policy.{ChineseWall}
use Rattle.run_model.specs.Replies.{Legal, reply as due}
use Rattle.hall_turn.specs.Runs.{calls_of}
use Rattle.hall_turn.specs.Known.{Known}
use Rattle.hall_turn.specs.Answers.{IsSamePass, SeesOn, Enters}
use Rattle.hall_turn.proofs.HallTurnLemmas.{calls_of-own}
use Rattle.live_session.specs.declared.requests.Open.{Open}
use Rattle.live_session.specs.declared.requests.Requests.{Requests}
use Rattle.live_session.specs.Requests.{given_by, open_by}
use Rattle.live_session.specs.Keeping.{request_in, IsPosted, IsClosed, IsTaken, Fits, Keeps}
use Rattle.live_session.proofs.RequestLemmas.{IsGiven, given_at}

-- ---- lists that are filtered

-- what passes two tests, one after the other
filter_twice : {X : Type 0} (f g h : X → Bool) → ((x : X) → h x ≡ (g x && f x)) →
    (xs : List X) → filter f (filter g xs) ≡ filter h xs
filter_twice f g h is [] = refl
filter_twice f g h is (x ∷ xs) =
    let rest = filter_twice f g h is xs in
    ⊎_elim
    (λ t. ap (filter f) (cond-true (g x) (x ∷ filter g xs) (filter g xs) t)
    ∙ ap (λ l. cond (f x) (x ∷ l) l) rest
    ∙ ap (λ b. cond b (x ∷ filter h xs) (filter h xs)) (sym (is x ∙ ap (λ b. b && f x) t)))
    (λ s. ap (filter f) (cond-false (g x) (x ∷ filter g xs) (filter g xs) s)
    ∙ rest
    ∙ sym (cond-false (h x) (x ∷ filter h xs) (filter h xs) (is x ∙ ap (λ b. b && f x) s)))
    (cases_Bool (g x))

-- what stands in the elements that pass
pub map_filter : {X Y : Type 0} (v : X → Y) (f : Y → Bool) (xs : List X) →
    map v (filter (λ x. f (v x)) xs) ≡ filter f (map v xs)
map_filter v f [] = refl
map_filter v f (x ∷ xs) =
    let rest = map_filter v f xs in
    ⊎_elim
    (λ t. ap (map v) (cond-true (f (v x)) (x ∷ filter (λ x. f (v x)) xs)
    (filter (λ x. f (v x)) xs) t)
    ∙ ap (λ l. v x ∷ l) rest
    ∙ sym (cond-true (f (v x)) (v x ∷ filter f (map v xs)) (filter f (map v xs)) t))
    (λ s. ap (map v) (cond-false (f (v x)) (x ∷ filter (λ x. f (v x)) xs)
    (filter (λ x. f (v x)) xs) s)
    ∙ rest
    ∙ sym (cond-false (f (v x)) (v x ∷ filter f (map v xs)) (filter f (map v xs)) s))
    (cases_Bool (f (v x)))

-- what does not pass one of two tests that are the same does not pass the other
same_left : (f g : ℕ → Bool) → ((r : ℕ) → g r ≡ f r) → (xs : List ℕ) →
    filter (λ r. not (f r)) xs ≡ filter (λ r. not (g r)) xs
same_left f g same xs = sym (λ i. filter (λ r. not (same r i)) xs)

-- ---- what is kept

pub closes : (old new : Requests) (request : ℕ) (told : Bool) → told ≡ true →
    IsClosed old request new → IsTaken old request told new
closes old new request true is h = h
closes old new request false is h = absurd cc

pub keeps_open : (old new : Requests) (request : ℕ) (told : Bool) → told ≡ false → new ≡ old →
    IsTaken old request told new
keeps_open old new request true is h = absurd cc
keeps_open old new request false is h = h

pub fits_none : (kept : Requests) (p : ℕ) (calls : List Entry) → calls ≡ [] → kept.given ≡ 0 →
    kept.untaken.items ≡ [] → 256 ≤ vec_capacity kept.untaken → Fits kept p calls
fits_none kept p calls none given untaken room = record {
  given = given ∙ ap given_by (sym none);
  untaken = ap (map (λ (o : Open). o.request)) untaken ∙ ap (open_by p) (sym none);
  room = room;
}

-- ---- a take

-- whether a request is open behind a take that told an outcome: as before, but for its own
open_after : (own other told taken : Bool) → own ≡ true → told ≡ true →
    not (own && other && told || taken) ≡ (not taken && not other)
open_after true true true true a b = refl
open_after true true true false a b = refl
open_after true false true true a b = refl
open_after true false true false a b = refl
open_after false other told taken a b = absurd cc
open_after true true false taken a b = absurd cc
open_after true false false taken a b = absurd cc

-- and behind one that told none
open_still : (own other told taken : Bool) → told ≡ false →
    (own && other && told || taken) ≡ taken
open_still true true false taken a = refl
open_still true false false taken a = refl
open_still false other told taken a = refl
open_still true true true taken a = absurd cc
open_still true false true taken a = absurd cc

fits_told : (old new : Requests) (p request : ℕ) (reply : Reply) (calls : List Entry) (told : Bool) →
    is_outcome reply ≡ told → Fits old p calls → IsTaken old request told new →
    Fits new p (said p (Take request) reply ∷ calls)
fits_told old new p request reply calls true is h t = record {
  given = t.given ∙ h.given;
  untaken = t.untaken ∙ ap (filter (λ r. not (request == r))) h.untaken
      ∙ filter_twice (λ r. not (request == r)) (λ r. not (is_taken p r calls))
      (λ r. not (is_taken p r (said p (Take request) reply ∷ calls)))
      (λ r. open_after (p == p) (request == r) (is_outcome reply) (is_taken p r calls)
      (eq-eqb p p refl) is) (below (given_by calls));
  room = subst (λ (n : ℕ). 256 ≤ n) (sym t.room) h.room;
}
fits_told old new p request reply calls false is h same =
    subst (λ (k : Requests). Fits k p (said p (Take request) reply ∷ calls)) (sym same)
    (record {
      given = h.given;
      untaken = h.untaken ∙ same_left (λ r. is_taken p r calls)
          (λ r. is_taken p r (said p (Take request) reply ∷ calls))
          (λ r. open_still (p == p) (request == r) (is_outcome reply) (is_taken p r calls) is)
          (below (given_by calls));
      room = h.room;
    })

pub fits_taken : (old new : Requests) (p request : ℕ) (reply : Reply) (calls : List Entry) →
    Fits old p calls → IsTaken old request (is_outcome reply) new →
    Fits new p (said p (Take request) reply ∷ calls)
fits_taken old new p request reply calls h t =
    fits_told old new p request reply calls (is_outcome reply) refl h t

-- ---- a post, or a question

-- it takes nothing
untaken_still : (own told taken : Bool) → (own && false && told || taken) ≡ taken
untaken_still true told taken = refl
untaken_still false told taken = refl

pub fits_asked : (kept : Requests) (p c : ℕ) (reply : Reply) (calls : List Entry) →
    Fits kept p calls → Fits kept p (said p (ToInfo c) reply ∷ calls)
fits_asked kept p c reply calls h = record {
  given = h.given;
  untaken = h.untaken ∙ same_left (λ r. is_taken p r calls)
      (λ r. is_taken p r (said p (ToInfo c) reply ∷ calls))
      (λ r. untaken_still (p == p) (is_outcome reply) (is_taken p r calls))
      (below (given_by calls));
  room = h.room;
}

below_more : (n : ℕ) → below (suc n) ≡ below n ++ n ∷ []
below_more n = range_more 0 n ∙ ap (λ m. below n ++ m ∷ []) (let z : 0 + n ≡ n = omega arith in z)

-- the newest number is open, and those before as they were
open_more : (p : ℕ) (calls : List Entry) → is_taken p (given_by calls) calls ≡ false →
    filter (λ r. not (is_taken p r calls)) (below (suc (given_by calls)))
    ≡ open_by p calls ++ given_by calls ∷ []
open_more p calls untaken =
    let n = given_by calls in
    let test : ℕ → Bool = λ r. not (is_taken p r calls) in
    ap (filter test) (below_more n)
    ∙ filter-append test (below n) (n ∷ [])
    ∙ ap (λ l. open_by p calls ++ l) (cond-true (test n) (n ∷ []) [] (ap not untaken))

-- a post that counts: it is one more, and so is its request
fits_entered : (old new : Requests) (p request : ℕ) (e : Entry) (calls : List Entry) →
    given_by (e ∷ calls) ≡ suc (given_by calls) →
    ((r : ℕ) → is_taken p r (e ∷ calls) ≡ is_taken p r calls) → Fits old p calls →
    IsGiven p calls request → IsPosted old (Some request) new → Fits new p (e ∷ calls)
fits_entered old new p request e calls one same h g posted =
    let long : length old.untaken.items ≡ length (open_by p calls) =
    sym (length-map old.untaken.items (λ (o : Open). o.request)) ∙ ap length h.untaken in
    let few = g.few in
    let room = h.room in
    let now = posted (omega arith) g.fits in
    record {
      given = now.given ∙ ap suc g.number ∙ sym one;
      untaken = now.untaken
          ∙ ap (λ l. l ++ request ∷ []) h.untaken
          ∙ ap (λ (r : ℕ). open_by p calls ++ r ∷ []) g.number
          ∙ sym (open_more p calls (ap (λ r. is_taken p r calls) (sym g.number) ∙ g.untaken))
          ∙ ap (λ n. filter (λ r. not (is_taken p r calls)) (below n)) (sym one)
          ∙ same_left (λ r. is_taken p r calls) (λ r. is_taken p r (e ∷ calls)) same
          (below (given_by (e ∷ calls)));
      room = subst (λ (n : ℕ). 256 ≤ n) (sym now.room) h.room;
    }

fits_still : (old new : Requests) (p : ℕ) (e : Entry) (calls : List Entry) →
    given_by (e ∷ calls) ≡ given_by calls →
    ((r : ℕ) → is_taken p r (e ∷ calls) ≡ is_taken p r calls) → Fits old p calls → new ≡ old →
    Fits new p (e ∷ calls)
fits_still old new p e calls none same h is =
    subst (λ (k : Requests). Fits k p (e ∷ calls)) (sym is)
    (record {
      given = h.given ∙ sym none;
      untaken = h.untaken
          ∙ ap (λ n. filter (λ r. not (is_taken p r calls)) (below n)) (sym none)
          ∙ same_left (λ r. is_taken p r calls) (λ r. is_taken p r (e ∷ calls)) same
          (below (given_by (e ∷ calls)));
      room = h.room;
    })

post_takes : (p : ℕ) (posting : Posting) (reply : Reply) (calls : List Entry) (r : ℕ) →
    is_taken p r (said p (ToPost posting) reply ∷ calls) ≡ is_taken p r calls
post_takes p posting reply calls r =
    untaken_still (p == p) (is_outcome reply) (is_taken p r calls)

pub fits_posted : (old new : Requests) (p : ℕ) (posting : Posting) (reply : Reply)
    (calls : List Entry) → Fits old p calls →
    ((request : ℕ) → request_in reply ≡ Some request → IsGiven p calls request) →
    IsPosted old (request_in reply) new → Fits new p (said p (ToPost posting) reply ∷ calls)
fits_posted old new p posting (Posted r) calls h given t =
    fits_entered old new p r (said p (ToPost posting) (Posted r)) calls refl
    (post_takes p posting (Posted r) calls) h (given r refl) t
fits_posted old new p posting (Barred r label) calls h given t =
    fits_entered old new p r (said p (ToPost posting) (Barred r label)) calls refl
    (post_takes p posting (Barred r label) calls) h (given r refl) t
fits_posted old new p posting Pending calls h given t =
    fits_still old new p (said p (ToPost posting) Pending) calls refl
    (post_takes p posting Pending calls) h t
fits_posted old new p posting (Delivered delivery) calls h given t =
    fits_still old new p (said p (ToPost posting) (Delivered delivery)) calls refl
    (post_takes p posting (Delivered delivery) calls) h t
fits_posted old new p posting (NewComm c rank n) calls h given t =
    fits_still old new p (said p (ToPost posting) (NewComm c rank n)) calls refl
    (post_takes p posting (NewComm c rank n) calls) h t
fits_posted old new p posting NullComm calls h given t =
    fits_still old new p (said p (ToPost posting) NullComm) calls refl
    (post_takes p posting NullComm calls) h t
fits_posted old new p posting (Denied rule q label) calls h given t =
    fits_still old new p (said p (ToPost posting) (Denied rule q label)) calls refl
    (post_takes p posting (Denied rule q label) calls) h t
fits_posted old new p posting NoRoom calls h given t =
    fits_still old new p (said p (ToPost posting) NoRoom) calls refl
    (post_takes p posting NoRoom calls) h t
fits_posted old new p posting (Info size rank dims) calls h given t =
    fits_still old new p (said p (ToPost posting) (Info size rank dims)) calls refl
    (post_takes p posting (Info size rank dims) calls) h t
fits_posted old new p posting (Refused why) calls h given t =
    fits_still old new p (said p (ToPost posting) (Refused why)) calls refl
    (post_takes p posting (Refused why) calls) h t

-- ---- what the pass has seen

moves : (kept : Requests) (before after : Known) (calls : List Entry) →
    after.process ≡ before.process → calls_of before.process after.seen ≡ calls →
    Fits kept before.process calls → Keeps kept after
moves kept before after calls same own h =
    subst (λ (p : ℕ). Fits kept p (calls_of p after.seen)) (sym same)
    (subst (λ (l : List Entry). Fits kept before.process l) (sym own) h)

-- nothing was seen, and nothing is kept
pub keeps_none : (kept : Requests) (pass : Known) → pass.seen ≡ [] → kept.given ≡ 0 →
    kept.untaken.items ≡ [] → 256 ≤ vec_capacity kept.untaken → Keeps kept pass
keeps_none kept pass unseen given untaken room =
    fits_none kept pass.process (calls_of pass.process pass.seen)
    (ap (calls_of pass.process) unseen) given untaken room

pub keeps_same : (old new : Requests) (pass : Known) → new ≡ old → Keeps old pass → Keeps new pass
keeps_same old new pass same h = subst (λ (k : Requests). Keeps k pass) (sym same) h

-- no call was made
pub keeps_late : (kept : Requests) (before after : Known) → IsSamePass before after →
    SeesOn before after → Keeps kept before → Keeps kept after
keeps_late kept before after same s h =
    moves kept before after (calls_of before.process before.seen) same.1 s.own h

pub keeps_taken : (old new : Requests) (before after : Known) (request : ℕ) (reply : Reply) →
    IsSamePass before after → Enters before (said before.process (Take request) reply) after →
    Keeps old before → IsTaken old request (is_outcome reply) new → Keeps new after
keeps_taken old new before after request reply same e h t =
    let calls = calls_of before.process before.seen in
    moves new before after (said before.process (Take request) reply ∷ calls) same.1 e.own
    (fits_taken old new before.process request reply calls h t)

pub keeps_asked : (kept : Requests) (before after : Known) (c : ℕ) (reply : Reply) →
    IsSamePass before after → Enters before (said before.process (ToInfo c) reply) after →
    Keeps kept before → Keeps kept after
keeps_asked kept before after c reply same e h =
    let calls = calls_of before.process before.seen in
    moves kept before after (said before.process (ToInfo c) reply ∷ calls) same.1 e.own
    (fits_asked kept before.process c reply calls h)

-- the calls of the process before its newest one
older_calls : (before after : Known) (e : Entry) → e.call.process ≡ before.process →
    (h : Enters before e after) →
    calls_of before.process h.front ≡ calls_of before.process before.seen
older_calls before after e own h =
    let both : e ∷ calls_of before.process h.front ≡ e ∷ calls_of before.process before.seen =
    sym (calls_of-own before.process h.front e own) ∙ ap (calls_of before.process) (sym h.ends) ∙ h.own in
    cc

pub keeps_posted : (wall : ChineseWall) (old new : Requests) (before after : Known)
    (posting : Posting) (reply : Reply) → IsSamePass before after → Legal wall after.seen →
    Enters before (said before.process (ToPost posting) reply) after → Keeps old before →
    IsPosted old (request_in reply) new → Keeps new after
unfolding due
keeps_posted wall old new before after posting reply same legal e h t =
    let p = before.process in
    let calls = calls_of p before.seen in
    let entered = said p (ToPost posting) reply in
    let whole : Legal wall (entered ∷ e.front) = subst (Legal wall) e.ends legal in
    moves new before after (entered ∷ calls) same.1 e.own
    (fits_posted old new p posting reply calls h
    (λ request is. subst (λ (l : List Entry). IsGiven p l request)
    (older_calls before after entered refl e)
    (given_at wall e.front p posting reply request whole.0 whole.1 is)) t)
