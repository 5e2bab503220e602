-- Requests: what one more post makes of them, and which post a request is of. A list of posts has
-- the newest first.
use Rattle.std.proofs.Common.{◌≡◌, ◌≢◌, ℕ, ◌+◌, ◌≤◌, List, [], ◌∷◌, ◌++◌, length, refl, sym, ap}
use Rattle.std.proofs.Common.{◌∙◌, arith, ⊎_elim, Some, slice_get, eqb-true, eq-eqb, ne_eqb}
use Rattle.std.proofs.Common.{append_assoc, length-append}
use Rattle.std.specs.Prelude.{◌==◌}
use Rattle.std.proofs.lemmas.Bool.{cases_Bool, cond-true, cond-false}
use Rattle.std.proofs.lemmas.List.{append-nil}
use Rattle.wall_policy.specs.Policy.{ChineseWall}
use Rattle.mpi_group.specs.Groups.{rank_in}
use Rattle.run_model.specs.Comms.{Comm}
use Rattle.run_model.specs.Posts.{Post, place, comms}
use Rattle.run_model.specs.Books.{AreCounted}
use Rattle.run_model.specs.Holding.{IsMoment}
use Rattle.run_model.proofs.PostLemmas.{get_prefix, get_end, get_either}
use Rattle.run_model.proofs.CountedLemmas.{taken_accepted, taken_at, comm_later}
use Rattle.run_model.specs.Runs.{requests}

-- ## one post more

-- the poster has one request more: its communicator, and the number of its instance there
pub requests_own : (x : Post) (past : List Post) →
    requests x.process (x ∷ past) ≡ requests x.process past ++ (x.comm, place x past) ∷ []
requests_own x past = cond-true (x.process == x.process)
    (requests x.process past ++ (x.comm, place x past) ∷ []) (requests x.process past)
    (eq-eqb x.process x.process refl)

pub requests_other : (p : ℕ) (x : Post) (past : List Post) → x.process ≢ p →
    requests p (x ∷ past) ≡ requests p past
requests_other p x past apart = cond-false (x.process == p)
    (requests p past ++ (x.comm, place x past) ∷ []) (requests p past) (ne_eqb x.process p apart)

pub length_own : (x : Post) (past : List Post) →
    length (requests x.process (x ∷ past)) ≡ length (requests x.process past) + 1
length_own x past = ap length (requests_own x past)
    ∙ length-append (requests x.process past) ((x.comm, place x past) ∷ [])

-- the number of the new request is how many there were
pub request_new : (x : Post) (past : List Post) →
    slice_get (requests x.process (x ∷ past)) (length (requests x.process past))
    ≡ Some (x.comm, place x past)
request_new x past = ap (λ rs. slice_get rs (length (requests x.process past)))
    (requests_own x past) ∙ get_end (requests x.process past) (x.comm, place x past)

-- ## later posts

requests_more : (p : ℕ) (x : Post) (past : List Post) →
    (more : List (ℕ × ℕ)) × (requests p (x ∷ past) ≡ requests p past ++ more)
requests_more p x past = ⊎_elim
    (λ t. (
      (x.comm, place x past) ∷ [],
      cond-true (x.process == p) (requests p past ++ (x.comm, place x past) ∷ [])
          (requests p past) t,
    ))
    (λ f. (
      [],
      cond-false (x.process == p) (requests p past ++ (x.comm, place x past) ∷ [])
          (requests p past) f ∙ sym (append-nil (requests p past)),
    ))
    (cases_Bool (x.process == p))

pub requests_grow : (p : ℕ) (later past : List Post) →
    (more : List (ℕ × ℕ)) × (requests p (later ++ past) ≡ requests p past ++ more)
requests_grow p [] past = ([], sym (append-nil (requests p past)))
requests_grow p (x ∷ later) past =
    let rest = requests_grow p later past in
    let one = requests_more p x (later ++ past) in (
      rest.0 ++ one.0,
      one.1 ∙ (ap (λ rs. rs ++ one.0) rest.1 ∙ append_assoc (requests p past) rest.0 one.0),
    )

-- a request keeps its number
pub request_stays : (p r : ℕ) (ck : ℕ × ℕ) (later past : List Post) →
    slice_get (requests p past) r ≡ Some ck → slice_get (requests p (later ++ past)) r ≡ Some ck
request_stays p r ck later past e =
    let more = requests_grow p later past in
    ap (λ rs. slice_get rs r) more.1 ∙ get_prefix (requests p past) more.0 r ck e

pub requests_never_fewer : (p : ℕ) (later past : List Post) →
    length (requests p past) ≤ length (requests p (later ++ past))
requests_never_fewer p later past =
    let more = requests_grow p later past in
    let count : length (requests p (later ++ past)) ≡ length (requests p past) + length more.0 = ap
    length more.1 ∙ length-append (requests p past) more.0 in
    omega (arith, count)

-- ## the post of a request

-- request r of p was given to its post x, made after the posts `before`, which belongs to instance
-- ck.1 on communicator ck.0
pub record IsRequest (p r : ℕ) (ck : ℕ × ℕ) (past : List Post) : Type 0 where
  pub x : Post
  pub before : List Post
  pub moment : IsMoment past x before
  pub by : x.process ≡ p
  pub there : x.comm ≡ ck.0
  pub kth : place x before ≡ ck.1
  pub number : r ≡ length (requests p before)

earlier : (p r : ℕ) (ck : ℕ × ℕ) (z : Post) (past : List Post) → IsRequest p r ck past →
    IsRequest p r ck (z ∷ past)
earlier p r ck z past h = record {
  x = h.x;
  before = h.before;
  moment = (z ∷ h.moment.0, ap (λ ps. z ∷ ps) h.moment.1);
  by = h.by;
  there = h.there;
  kth = h.kth;
  number = h.number;
}

pub request_from : (p r : ℕ) (ck : ℕ × ℕ) (past : List Post) →
    slice_get (requests p past) r ≡ Some ck → IsRequest p r ck past
request_from p r ck [] e = absurd (cc)
request_from p r ck (z ∷ past) e = ⊎_elim
    (λ t.
    let at : slice_get (requests p past ++ (z.comm, place z past) ∷ []) r ≡ Some ck = sym
    (ap (λ rs. slice_get rs r) (cond-true (z.process == p)
    (requests p past ++ (z.comm, place z past) ∷ []) (requests p past) t)) ∙ e in
    ⊎_elim
    (λ old. earlier p r ck z past (request_from p r ck past old))
    (λ (new : (r ≡ length (requests p past)) × ((z.comm, place z past) ≡ ck)).
    record {
      x = z;
      before = past;
      moment = ([], refl);
      by = eqb-true z.process p t;
      there = ap (λ (q : ℕ × ℕ). q.0) new.1;
      kth = ap (λ (q : ℕ × ℕ). q.1) new.1;
      number = new.0;
    })
    (get_either (requests p past) (z.comm, place z past) r ck at))
    (λ f. earlier p r ck z past (request_from p r ck past (sym (ap (λ rs. slice_get rs r)
    (cond-false (z.process == p)
    (requests p past ++ (z.comm, place z past) ∷ []) (requests p past) f))
    ∙ e)))
    (cases_Bool (z.process == p))

-- p is a member of communicator c
pub record IsMember (wall : ChineseWall) (past : List Post) (p c : ℕ) : Type 0 where
  pub comm : Comm
  pub rank : ℕ
  pub at : slice_get (comms wall past) c ≡ Some comm
  pub is_member : rank_in comm.members p ≡ Some rank

-- whose request it is is a member of its communicator
pub request_member : (wall : ChineseWall) (past : List Post) (p r : ℕ) (ck : ℕ × ℕ) →
    AreCounted wall past → slice_get (requests p past) r ≡ Some ck → IsMember wall past p ck.0
request_member wall past p r ck taken e =
    let is = request_from p r ck past e in
    let free = taken_accepted wall is.x is.before
    (taken_at wall past is.x is.before is.moment taken).1 in
    record {
      comm = free.comm;
      rank = free.rank;
      at = comm_later wall past is.x is.before ck.0 free.comm is.moment
          (ap (λ c. slice_get (comms wall is.before) c) (sym is.there) ∙ free.at);
      is_member = ap (λ q. rank_in free.comm.members q) (sym is.by) ∙ free.is_member;
    }
