-- What a hall keeps, and the runs that it stands for.
use Rattle.std.specs.Prelude.{◌≡◌, ℕ, List, Option, Some, length, slice_get}
use Rattle.std.specs.Option.{option_map}
use Rattle.wall_policy.specs.Policy.{ChineseWall}
use Rattle.mpi_elems.specs.Contents.{Contents}
use Rattle.coll_values.specs.declared.full.Full.{Full}
use Rattle.run_model.specs.declared.entry.Entry.{Entry as BookEntry}
use Rattle.run_model.specs.declared.outcome.Outcome.{Outcome}
use Rattle.run_model.specs.Posts.{outcome_at}
use Rattle.run_model.specs.Books.{book}
use Rattle.run_state.specs.Entries.{Entries}
use Rattle.run_model.specs.Contributions.{full_at}
use Rattle.run_state.specs.Views.{PostStateView, PostStateValue, view_of as seen}
use Rattle.run_state.specs.Stands.{StandsForPosts}
use Rattle.run_model.specs.Runs.{Entry, Effects, effects, requests}
use Rattle.run_model.specs.Buffers.{SameButForRoom}
use Rattle.run_model.specs.Replies.{posts_made, comm_at}
use Rattle.hall_core.specs.declared.requests.Request.{Request}
use Rattle.hall_core.specs.declared.settled.Settlement.{Settlement}
use Rattle.hall_core.specs.Asking.{Asked, opened, taken_at, requests_of}
use Rattle.hall_core.specs.Settling.{Places, settlement_at}

-- the value of a hall in clauses; read it by `policy` and by the words below alone
pub record HallValue : Type 0 where
  pub policy : ChineseWall
  pub post_state : PostStateValue Contents
  pub asked : List Asked
  pub settled : List Places
  pub book : Entries

-- What callers can tell of a hall, by look-ups.
pub record HallView : Type 0 where
  pub policy : ChineseWall
  -- communicators, histories, and instances that wait
  pub post_state : PostStateView Contents
  -- the requests of p in order, and nothing of one that was taken
  pub asked : (p : ℕ) → List (Option Request)
  -- instance k of communicator c and its outcome, once it was filled, until it is let go
  pub settled : (c k : ℕ) → Option Settlement
  pub book : List BookEntry

abbrev pub view_of : HallValue → HallView
view_of hall = record {
  policy = hall.policy;
  post_state = seen hall.post_state;
  asked = requests_of hall.asked;
  settled = settlement_at hall.settled;
  book = hall.book.list;
}

-- ## what a hall stands for

-- the instance that a request is for: its communicator, and its number there
abbrev pub instance_of : Request → ℕ × ℕ
instance_of r = (r.comm, r.k)

abbrev pub settlement : Full Contents → Outcome → Settlement
settlement full outcome = record { full = full; outcome = outcome }

-- instance (c, k) with the elements that its members brought, and its outcome, once it was filled
abbrev pub settlement_in : ChineseWall → Effects → (c k : ℕ) → Option Settlement
settlement_in wall effects c k = option_map
    (settlement (full_at (comm_at wall (posts_made effects) c) c k effects.contributions))
    (outcome_at wall c k (posts_made effects))

-- A hall stands for what a run has made: its state for the counted posts with their elements; each
-- process has as many requests as it was given, of which those are marked that were taken; of each
-- that is not taken it has the instance that it is for, and what came of that instance once it was
-- filled; and the book is that of the posts. Of an instance whose outcome no request waits for,
-- nothing is asked.
pub record StandsForEffects (hall : HallView) (effects : Effects) : Type 0 where
  pub post_state : StandsForPosts hall.policy hall.post_state effects.contributions
  pub given : (p : ℕ) → length (hall.asked p) ≡ length (requests p (posts_made effects))
  pub taken : (p request : ℕ) → taken_at (hall.asked p) request ≡ effects.taken p request
  pub waiting : (p request : ℕ) (r : Request) → opened (hall.asked p) request ≡ Some r →
      slice_get (requests p (posts_made effects)) request ≡ Some (instance_of r)
  pub settled : (p request : ℕ) (r : Request) → opened (hall.asked p) request ≡ Some r →
      hall.settled r.comm r.k ≡ settlement_in hall.policy effects r.comm r.k
  pub book : hall.book ≡ book hall.policy (posts_made effects)

-- A hall stands for a run if what it keeps is what the run has made, but that its buffers may have
-- other room: the type and the numbers of each are the run's. Room is no part of what was posted,
-- and no reply tells it.
pub record StandsForRun (hall : HallView) (run : List Entry) : Type 0 where
  pub kept : Effects
  pub same : SameButForRoom kept (effects run)
  pub stands : StandsForEffects hall kept

-- the hall stands for the run
unfoldable pub StandsFor : HallValue → List Entry → Type 0
StandsFor hall run = StandsForRun (view_of hall) run
