-- What a call makes of a hall, by what callers can tell. (The contracts of the hall's own steps.)
use Rattle.std.specs.Prelude.{◌≡◌, ◌≢◌, ◌==◌, ◌&&◌, ◌+◌, ◌≤◌, ◌<◌, ◌^◌, ℕ, List, [], ◌∷◌, ◌++◌}
use Rattle.std.specs.Prelude.{Option, Some, length, slice_get, take, drop, nat_lt, if◌then◌else◌}
use Rattle.mpi_elems.specs.Contents.{Contents}
use Rattle.mpi_group.specs.Groups.{rank_in}
use Rattle.coll_routes.specs.declared.statement.Stated.{Stated}
use Rattle.coll_values.specs.declared.full.Full.{Full}
use Rattle.coll_values.specs.Instances.{IsWhole}
use Rattle.run_model.specs.declared.outcome.Outcome.TheVariants.{Granted, Made}
use Rattle.run_model.specs.declared.entry.Entry.{Entry as BookEntry}
use Rattle.run_model.specs.declared.entry.Entry.TheVariants.{Posted as EntryPosted}
use Rattle.run_model.specs.declared.entry.Entry.TheVariants.{Settled as EntrySettled}
use Rattle.run_model.specs.declared.refusal.Refusal.TheVariants.{NoMemory, NoSuchProcess}
use Rattle.run_model.specs.Comms.{Comm, processes, new_comms}
use Rattle.run_state.specs.declared.entered.Entered.{Entered}
use Rattle.run_state.specs.declared.entered.Entered.TheVariants.{Waiting, Settled}
use Rattle.run_state.specs.declared.seat.Seat.{Seat}
use Rattle.run_state.specs.Views.{LookedAt, view_of as seen}
use Rattle.run_model.specs.declared.call.Act.{Act}
use Rattle.run_model.specs.declared.call.Posting.{Posting}
use Rattle.run_model.specs.declared.call.Act.TheVariants.{Take}
use Rattle.run_model.specs.declared.reply.Reply.{Reply}
use Rattle.run_model.specs.declared.reply.Reply.TheVariants.{Refused}
use Rattle.run_model.specs.Runs.{after_entry, given_in, with_contribution, Effects, MakesNothing}
use Rattle.run_model.specs.Replies.{info_on, reply_by, reply_by_outcome, IsAnswer, posts_made}
use Rattle.hall_core.specs.declared.looks.Due.{Due}
use Rattle.hall_core.specs.declared.looks.Due.TheVariants as dues
use Rattle.hall_core.specs.declared.looks.Open.{Open}
use Rattle.hall_core.specs.declared.settled.Settlement.{Settlement}
use Rattle.hall_core.specs.declared.requests.Request.{Request}
use Rattle.hall_core.specs.Asking.{opened, room_of, requests_of, with_request, with_closed}
use Rattle.hall_core.specs.Claims.{IsNoDelivery}
use Rattle.hall_core.specs.Halls.{HallView, StandsForEffects, settlement}
use Rattle.hall_core.specs.Looks.{IsOf, IsOpen, IsOutcome, CanDeliver}
use Rattle.run_model.specs.Proper.{IsProper}
use Rattle.run_model.specs.Books.{IsCounted}
use Rattle.run_model.specs.Contributions.{Contribution}
use Rattle.hall_core.specs.declared.records.Records.{Records}
use Rattle.hall_core.specs.Settling.{HasPlace, open_at}

-- ## infos

abbrev pub info_of : HallView → (p c : ℕ) → Reply
info_of hall p c = if nat_lt p (processes hall.policy)
    then info_on p (slice_get hall.post_state.comms c) else Refused NoSuchProcess

-- ## posts

-- the number of the instance that a post belongs to
abbrev pub number_in : Entered Contents → ℕ
number_in (Waiting k) = k
number_in (Settled full k outcome) = k

-- the entries of the book
abbrev pub entries_of : (p c : ℕ) → Stated → Entered Contents → List BookEntry
entries_of p c stated (Waiting k) = EntryPosted p c stated ∷ []
entries_of p c stated (Settled full k outcome) =
    EntryPosted p c stated ∷ EntrySettled c k outcome ∷ []

-- what the settlements are afterwards
abbrev pub IsSettledBy : (c : ℕ) → Entered Contents → (old new : (c k : ℕ) → Option Settlement) →
    Type 0
IsSettledBy c (Waiting k) old new = (d j : ℕ) → new d j ≡ old d j
IsSettledBy c (Settled full k outcome) old new =
    (d j : ℕ) → new d j ≡ (if d == c && j == k then Some (settlement full outcome) else old d j)

-- a post that the state has entered has been recorded
pub record IsRecorded (old new : HallView) (p c : ℕ) (stated : Stated) (entered : Entered Contents)
    : Type 0 where
  pub policy : new.policy ≡ old.policy
  pub asked : new.asked ≡ with_request old.asked p (record { comm = c; k = number_in entered })
  pub settled : IsSettledBy c entered old.settled new.settled
  pub book : new.book ≡ old.book ++ entries_of p c stated entered

-- p is a process of the policy, and was given few requests
pub record MayAsk (records : Records) (p : ℕ) : Type 0 where
  pub process : p < processes records.policy
  pub few : length (requests_of records.requests.items p) < 2 ^ 62

-- A look found the seat for this post of p, who may be given a request.
pub record IsSeatFor (records : Records) (p : ℕ) (posting : Posting) (seat : Seat) : Type 0 where
  pub process : seat.process ≡ p
  pub comm : seat.meeting.comm ≡ posting.comm
  pub looked : LookedAt (seen records.post_state) seat posting.sig posting.own
      posting.elements.elem_type (given_in posting)
  pub may : MayAsk records seat.process

-- what the recording of a post does not change: the policy, the entries of the book that are gone,
-- and the state of the posts
pub record KeepsPosts (old new : Records) : Type 0 where
  pub policy : new.policy ≡ old.policy
  pub gone : new.book.gone ≡ old.book.gone
  pub post_state : new.post_state ≡ old.post_state

-- there is room for a post of a process to instance k of communicator c, also in what counts its
-- requests and those for the instance
pub record HasRoom (records : Records) (p c k : ℕ) : Type 0 where
  pub request : 0 < room_of records.requests.items p
  pub entries : 2 ≤ records.book.room
  pub place : HasPlace records.settled c k
  pub few : length (requests_of records.requests.items p) < 2 ^ 62
  pub few_open : open_at records.settled c k < 2 ^ 62

-- what comes of instance k of communicator c can be recorded: a request waits for it, in its place,
-- and the book has room
pub record MaySettle (records : Records) (c k : ℕ) : Type 0 where
  pub place : HasPlace records.settled c k
  pub waits : 0 < open_at records.settled c k
  pub entry : 0 < records.book.room

-- a post with its part has been counted, whatever the hall stood for
abbrev pub Counts : (old new : HallView) → Contribution Contents → Type 0
Counts old new g = (m : Effects) → StandsForEffects old m →
    IsCounted old.policy g.post (posts_made m) → StandsForEffects new (with_contribution m g)

-- ## takes

-- The request of p is taken, and nothing else has changed but instances for which no request is
-- open.
pub record Closes (old new : HallView) (p request : ℕ) : Type 0 where
  pub policy : new.policy ≡ old.policy
  pub post_state : new.post_state ≡ old.post_state
  pub asked : new.asked ≡ with_closed old.asked p request
  pub kept : (q number : ℕ) (r : Request) → opened (new.asked q) number ≡ Some r →
      new.settled r.comm r.k ≡ old.settled r.comm r.k
  pub book : new.book ≡ old.book

-- the communicators of a table from this number on, so many
abbrev pub row_at : List Comm → (first number : ℕ) → List Comm
row_at table first number = take number (drop first table)

-- what is known of an instance that was filled, whose communicators stand in this table: a grant is
-- whole, and a constructor's communicators are those of the table that its outcome names
pub record IsTellable (table : List Comm) (s : Settlement) : Type 0 where
  pub whole : s.outcome ≡ Granted → IsWhole s.full
  pub within : (first number : ℕ) → s.outcome ≡ Made first number → first + number ≤ length table
  pub made : (first number : ℕ) → s.outcome ≡ Made first number →
      new_comms s.full.roll ≡ row_at table first number

-- ## calls

-- The reply is the one that is due, or out of memory in its place, and the hall then stands for
-- what has been made with it, whatever it stood for.
abbrev pub Steps : (old new : HallView) → (p : ℕ) → Act → Reply → Type 0
Steps old new p act got = (m : Effects) → IsProper old.policy m → StandsForEffects old m →
    IsAnswer (reply_by old.policy m p act) got
    × StandsForEffects new
    (after_entry m (record { call = record { process = p; act = act }; reply = got }))

-- ## looks

-- p's request is due what this rank gets of an instance that stands in the hall
pub record IsGrantIn (hall : HallView) (p request : ℕ) (full : Full Contents) (rank : ℕ)
    (it : Open) : Type 0 where
  pub of : IsOf it p request
  pub is_open : IsOpen hall it (settlement full Granted)
  pub is_member : rank_in full.roll.members p ≡ Some rank
  pub can : CanDeliver full rank

-- What a look at a request of p finds: a reply that changes nothing, or what came of the instance.
abbrev pub FindsIn : HallView → (p request : ℕ) → Due → Type 0
FindsIn hall p request (dues.Told got) = Steps hall hall p (Take request) got
    × MakesNothing got × IsNoDelivery got × (got ≢ Refused NoMemory)
FindsIn hall p request (dues.Outcome got it) = IsOutcome hall p request got it
FindsIn hall p request (dues.Granted full rank it) = IsGrantIn hall p request full.now rank it

-- It is what came of this instance, for p's request.
abbrev pub FindsOn : Settlement → (p : ℕ) → Open → Due → Type 0
FindsOn s p it (dues.Told got) = ⊥
FindsOn s p it (dues.Outcome got found) = (found ≡ it)
    × (got ≡ reply_by_outcome p s.full (Some s.outcome)) × IsNoDelivery got
FindsOn s p it (dues.Granted full rank found) = (found ≡ it) × (s ≡ settlement full.now Granted)
    × (rank_in full.now.roll.members p ≡ Some rank) × CanDeliver full.now rank
