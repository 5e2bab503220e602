-- Places in a book, the posts that stand there, and the instances that these fill: words of private
-- contracts.
use Rattle.std.specs.Prelude.{◌≡◌, ℕ, ◌+◌, ◌<◌, ◌^◌, List, length, slice_get, Some}
use Rattle.run_model.specs.declared.outcome.Outcome.{Outcome}
use Rattle.run_model.specs.declared.entry.Entry.{Entry}
use Rattle.run_model.specs.declared.entry.Entry.TheVariants.{Settled}
use Rattle.run_model.specs.Posts.{Post}
use Rattle.run_model.specs.Books.{IsSound, posted}
use Rattle.run_state.specs.Views.{PostStateValue}
use Rattle.audit_book.specs.Checks.{post_of, Stands}
use Rattle.book_report.specs.declared.place.Place.{Place}
use Rattle.book_report.specs.declared.place.Posting.{Posting}
use Rattle.book_report.specs.Held.{posts_to}

-- the place is one of a sound book
pub record IsPlace (place : Place) : Type 0 where
  pub sound : IsSound place.policy.now place.book.now.list
  pub within : place.at < length place.book.now.list
  pub few : length place.book.now.list < 2 ^ 62

abbrev pub post_in : Posting → Post
post_in posting = post_of posting.process posting.comm posting.stated.now

-- the post stands at the place
abbrev pub IsHere : Place → Post → Type 0
IsHere place x = slice_get place.book.now.list place.at ≡ Some (posted x)

-- entry n, counted from 0, tells an outcome
pub record IsSettledAt (entries : List Entry) (n : ℕ) : Type 0 where
  pub c : ℕ
  pub k : ℕ
  pub outcome : Outcome
  pub entry : slice_get entries n ≡ Some (Settled c k outcome)

-- the state stands for the posts before the place, and for those up to it
abbrev pub StandsBefore : Place → PostStateValue (Unit {0}) → Type 0
StandsBefore place post_state =
    Stands place.policy.now post_state (posts_to place.book.now.list place.at)

abbrev pub StandsBehind : Place → PostStateValue (Unit {0}) → Type 0
StandsBehind place post_state =
    Stands place.policy.now post_state (posts_to place.book.now.list (place.at + 1))
