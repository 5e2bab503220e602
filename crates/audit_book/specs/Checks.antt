-- How far the check of a book has come, and what its fault says. The check goes on from a state
-- whose posts have no parts.
use Rattle.std.specs.Prelude.{◌≡◌, ℕ, ◌<◌, ◌^◌, List, [], ◌∷◌, ◌++◌, length, map, Option, Some}
use Rattle.std.specs.Prelude.{None}
use Rattle.std.specs.Option.{option_map, option_to_list}
use Rattle.wall_policy.specs.Policy.{ChineseWall}
use Rattle.coll_routes.specs.declared.statement.Stated.{Stated}
use Rattle.run_model.specs.declared.entry.Entry.{Entry}
use Rattle.run_model.specs.declared.entry.Entry.TheVariants.{Posted, Settled}
use Rattle.run_model.specs.Posts.{Post, outcome}
use Rattle.run_model.specs.Contributions.{Contribution}
use Rattle.run_model.specs.Books.{book, posts_in, outcome_entry, IsCounted, AreCounted, IsFirstBad}
use Rattle.run_model.specs.Books.{Begins}
use Rattle.run_state.specs.declared.entered.Entered.{Entered}
use Rattle.run_state.specs.declared.entered.Entered.TheVariants.{Waiting as waits}
use Rattle.run_state.specs.declared.entered.Entered.TheVariants.{Settled as settles}
use Rattle.run_state.specs.declared.seat.Seat.{Seat}
use Rattle.run_state.specs.Views.{PostStateValue, view_of, IsSeatFor}
use Rattle.run_state.specs.Stands.{StandsForPosts, Tells}
use Rattle.audit_book.specs.declared.due.Due.{Due}
use Rattle.audit_book.specs.declared.count.Posting.{Posting}
use Rattle.audit_book.specs.declared.count.Stopped.{Stopped}
use Rattle.audit_book.specs.declared.count.Stopped.TheVariants as stops
use Rattle.audit_book.specs.declared.check_fault.BookFault.{BookFault}
use Rattle.audit_book.specs.declared.check_fault.BookFault.TheVariants.{BadEntry, NoMemory}

abbrev pub post_of : (p c : ℕ) → Stated → Post
post_of p c stated = record { process = p; comm = c; stated = stated }

-- the post that stands in a book
abbrev pub post_in : Posting → Post
post_in posting = post_of posting.process posting.comm posting.stated.now

-- and its entry
abbrev pub entry_in : Posting → Entry
entry_in posting = Posted posting.process posting.comm posting.stated.now

-- the same posts, each without a part
abbrev pub bare : List Post → List (Contribution (Unit {0}))
bare posts = map (λ x. record { post = x; part = tt }) posts

-- the state stands for these posts, the newest first
abbrev pub Stands : ChineseWall → PostStateValue (Unit {0}) → List Post → Type 0
Stands wall post_state posts = StandsForPosts wall (view_of post_state) (bare posts)

-- the entry that is due
abbrev pub entry_of : Due → Entry
entry_of due = Settled due.comm due.k due.outcome

-- the outcome of the instance of communicator c that a post filled is due after it, if it filled
-- one
abbrev pub due_after : (c : ℕ) → Entered (Unit {0}) → Option Due
due_after c (waits k) = None
due_after c (settles full k o) = Some (record { comm = c; k = k; outcome = o })

-- the post counts after each list of posts that the state stands for
abbrev pub Counts : ChineseWall → PostStateValue (Unit {0}) → Post → Type 0
Counts wall post_state x = (past : List Post) → Stands wall post_state past → IsCounted wall x past

-- it stands for some posts, fewer than 2^62; the post of this seat has been looked at, and counts
-- after each list of posts that the state stands for
pub record MayEnter (wall : ChineseWall) (post_state : PostStateValue (Unit {0})) (seat : Seat)
    (s : Stated) : Type 0 where
  pub past : List Post
  pub stood : Stands wall post_state past
  pub few : length past < 2 ^ 62
  pub looked : IsSeatFor (view_of post_state) s seat
  pub counts : Counts wall post_state (post_of seat.process seat.meeting.comm s)

-- What is told of a post, behind these posts: which instance it is of, and where it fills that, what
-- was posted there and the outcome.
abbrev pub IsToldOf : ChineseWall → Post → List Post → Entered (Unit {0}) → Type 0
IsToldOf wall x past told = Tells wall (record { post = x; part = tt }) (bare past) told

-- it now stands for the posts with this one, of which this is told
abbrev pub HasEntered : ChineseWall → (old new : PostStateValue (Unit {0})) → Post →
    Entered (Unit {0}) → Type 0
HasEntered wall old new x told = (past : List Post) → Stands wall old past →
    Stands wall new (x ∷ past) × IsToldOf wall x past told

-- and the post counts
abbrev pub HasCounted : ChineseWall → (old new : PostStateValue (Unit {0})) → Post →
    Entered (Unit {0}) → Type 0
HasCounted wall old new x told = (past : List Post) → Stands wall old past →
    IsCounted wall x past × Stands wall new (x ∷ past) × IsToldOf wall x past told

-- the entries so far are right, and the next has to be the one that is due, if there is one; the
-- state stands for their posts
pub record IsRight (wall : ChineseWall) (post_state : PostStateValue (Unit {0}))
    (entries : List Entry) (due : Option Due) : Type 0 where
  pub posts : AreCounted wall (posts_in entries)
  pub given : entries ++ option_to_list (option_map entry_of due) ≡ book wall (posts_in entries)
  pub stood : Stands wall post_state (posts_in entries)

-- why the check stopped at a post: it counts after no list of posts that the state stands for; or
-- memory ran out, at one that counts
abbrev pub StopsAtPost : ChineseWall → PostStateValue (Unit {0}) → Post → Stopped → Type 0
StopsAtPost wall post_state x stops.Wrong = (past : List Post) → Stands wall post_state past →
    ¬ (IsCounted wall x past)
StopsAtPost wall post_state x stops.NoMemory = Counts wall post_state x

-- what a fault says of a book; out of memory says nothing
abbrev pub IsFaultOf : ChineseWall → List Entry → BookFault → Type 0
IsFaultOf wall entries (BadEntry n) = IsFirstBad wall entries n
IsFaultOf wall entries NoMemory = Unit {0}
