-- What was due at the first entry of a book that its posts don't give. (Own rule.)
use Rattle.std.specs.Prelude.{◌≡◌, ◌≢◌, ℕ, ◌-◌, List, [], ◌∷◌, ◌++◌, length, take, slice_get}
use Rattle.std.specs.Prelude.{Option, Some, None, Ok, Bool, not}
use Rattle.wall_policy.specs.Policy.{ChineseWall}
use Rattle.wall_verdict.specs.Star.{star}
use Rattle.run_model.specs.declared.entry.Entry.{Entry}
use Rattle.run_model.specs.declared.entry.Entry.TheVariants.{Posted, Settled}
use Rattle.run_model.specs.declared.refusal.Refusal.{Refusal}
use Rattle.run_model.specs.Refusals.{post_fault}
use Rattle.run_model.specs.Known.{IsKnownEntry}
use Rattle.run_model.specs.Posts.{Post}
use Rattle.run_model.specs.Books.{posted, post_in, posts_in, IsSound, histories_before}
use Rattle.coll_text.specs.Numbers.{Word}
use Rattle.audit_book.specs.declared.line.Line.{Line}
use Rattle.audit_book.specs.declared.line.Line.TheVariants.{Said, End}
use Rattle.audit_book.specs.Lines.{line_at}
use Rattle.book_places.specs.Places.{IsLineOf}
use Rattle.book_places.specs.declared.owed.Stands.{Stands}
use Rattle.book_places.specs.declared.owed.Stands.TheVariants as stands
use Rattle.book_places.specs.declared.owed.Owed.{Owed}
use Rattle.book_places.specs.declared.owed.Owed.TheVariants as owed

-- the entries before that number, counted from 1
abbrev pub before : (n : ℕ) → List Entry → List Entry
before n entries = take (n - 1) entries

abbrev pub IsEntryAt : List Entry → (n : ℕ) → Entry → Type 0
IsEntryAt entries n entry = slice_get entries (n - 1) ≡ Some entry

-- With this verdict behind them the entries before are a sound book: it is the outcome of the
-- instance that their last post fills. What stands there is no such entry.
pub record LacksVerdict (wall : ChineseWall) (entries : List Entry) (n : ℕ) (due : Entry)
    : Type 0 where
  pub sound : IsSound wall (before n entries ++ due ∷ [])
  pub verdict : post_in due ≡ None
  pub other : (entry : Entry) → IsEntryAt entries n entry → entry ≢ due

-- the entries before are a sound book as they are, and what stands there is a verdict
pub record HasVerdict (wall : ChineseWall) (entries : List Entry) (n : ℕ) : Type 0 where
  pub sound : IsSound wall (before n entries)
  pub entry : Entry
  pub at : IsEntryAt entries n entry
  pub verdict : post_in entry ≡ None

-- the entries before are a sound book as they are, and what stands there is a post that meets this
-- refusal after theirs, the first that holds
pub record HasRefusedPost (wall : ChineseWall) (entries : List Entry) (n : ℕ) (refusal : Refusal)
    : Type 0 where
  pub sound : IsSound wall (before n entries)
  pub post : Post
  pub at : IsEntryAt entries n (posted post)
  pub refused : post_fault wall (posts_in (before n entries)) post ≡ Some refusal

-- The same, but the post meets no refusal after theirs. Its last word has to say whether the star
-- rule bars it, as this does, and says the other.
pub record HasOtherWord (wall : ChineseWall) (entries : List Entry) (n : ℕ) (barred : Bool)
    : Type 0 where
  pub sound : IsSound wall (before n entries)
  pub post : Post
  pub at : IsEntryAt entries n (posted post)
  pub accepted : post_fault wall (posts_in (before n entries)) post ≡ None
  pub due : barred
      ≡ not (star (histories_before wall entries n) post.process post.stated.label)
  pub other : post.stated.barred ≢ barred

abbrev pub IsOwedAt : ChineseWall → List Entry → (n : ℕ) → Owed → Type 0
IsOwedAt wall entries n (owed.Verdict due) = LacksVerdict wall entries n due
IsOwedAt wall entries n owed.NoVerdict = HasVerdict wall entries n
IsOwedAt wall entries n (owed.OtherPost refusal) = HasRefusedPost wall entries n refusal
IsOwedAt wall entries n (owed.OtherWord barred) = HasOtherWord wall entries n barred

-- it names only what the policy has
abbrev pub IsKnownOwed : ChineseWall → Owed → Type 0
IsKnownOwed wall (owed.Verdict due) = IsKnownEntry wall due
IsKnownOwed wall _ = Unit {0}

-- ---- what stands there

-- an entry, or the end where there is none
abbrev pub standing : Option Entry → Stands
standing None = stands.End
standing (Some (Posted p c stated)) = stands.Post
standing (Some (Settled c k outcome)) = stands.Verdict

abbrev pub said_in : (entries : ℕ) → Option Entry → Line
said_in entries (Some entry) = Said entry
said_in entries None = End entries

-- the entry of that number stands on this line of the text; behind the last entry the end does
pub record StandsAt (wall : ChineseWall) (text : List ℕ) (entries : List Entry) (n line : ℕ)
    : Type 0 where
  pub word : Word
  pub at : IsLineOf text line word
  pub says : line_at wall word ≡ Ok (said_in (length entries) (slice_get entries (n - 1)))
