-- How far a walk through a book has come by what was sanitised: words of private contracts.
use Rattle.std.specs.Prelude.{ℕ, ◌+◌, ◌<◌, List, All, AllPairs}
use Rattle.wall_policy.specs.Policy.{ChineseWall}
use Rattle.run_model.specs.declared.entry.Entry.{Entry}
use Rattle.book_report.specs.declared.sanitised.Sanitised.{Sanitised}
use Rattle.book_report.specs.declared.place.Instance.{Instance}
use Rattle.book_report.specs.Sanitised.{IsSanitisedAt, IsSanitised, HasSanitised, IsBefore, Precedes}

-- these are of the entries before n, and of the ranks below j of entry n, in their order
pub record AreSanitisedTo (wall : ChineseWall) (entries : List Entry) (n j : ℕ)
    (those : List Sanitised) : Type 0 where
  pub sound : All (IsSanitised wall entries) those
  pub early : All (IsBefore n j) those
  pub whole : (m c k i p : ℕ) → m < n → IsSanitisedAt wall entries m c k i p →
      HasSanitised those m i
  pub here : (c k i p : ℕ) → i < j → IsSanitisedAt wall entries n c k i p → HasSanitised those n i
  pub rising : AllPairs Precedes those

-- these are of the first n entries
abbrev pub AreSanitisedUpTo : ChineseWall → List Entry → (n : ℕ) → List Sanitised → Type 0
AreSanitisedUpTo wall entries n those = AreSanitisedTo wall entries (n + 1) 0 those

-- these are of the entries before that which filled the instance, and of its ranks below j
abbrev pub AreOfRanks : Instance → (j : ℕ) → List Sanitised → Type 0
AreOfRanks instance j those = AreSanitisedTo instance.place.policy.now
    instance.place.book.now.list (instance.place.at + 1) j those
