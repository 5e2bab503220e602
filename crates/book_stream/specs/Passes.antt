-- A source that was read to its end, and what a sound book came to.
use Rattle.std.specs.Prelude.{◌≡◌, ℕ, List, [], ◌∷◌, ◌++◌, length, Ok}
use Rattle.wall_policy.specs.Policy.{ChineseWall}
use Rattle.wall_rules.specs.Histories.{ArePairsOf}
use Rattle.run_model.specs.declared.entry.Entry.{Entry}
use Rattle.run_model.specs.Posts.{histories}
use Rattle.run_model.specs.Books.{posts_in, IsSound}
use Rattle.coll_text.specs.Numbers.{Word}
use Rattle.coll_text.specs.Reading.{parts}
use Rattle.hall_script.specs.Devices.{Used}
use Rattle.sha2.specs.Sha256.{sha256}
use Rattle.audit_book.specs.Reading.{book_in}
use Rattle.book_stream.specs.declared.pass.Passed.{Passed}
use Rattle.book_stream.specs.declared.stream.Reader.{Reader}
use Rattle.book_stream.specs.Audits.{GaveAll, StandsBehind, IsClear}

-- The source gave all of a text without a failure. It is that of a sound book of these entries; so
-- many they are, this is the text's digest, and these pairs are what each process held at the end.
pub record HasPassed {D : Type 0} (wall : ChineseWall) (d : Used D) (passed : Passed) : Type 0 where
  pub text : List ℕ
  pub entries : List Entry
  pub gave : GaveAll d text
  pub says : book_in wall text ≡ Ok entries
  pub sound : IsSound wall entries
  pub number : passed.entries ≡ length entries
  pub digest : passed.digest ≡ sha256 text
  pub held : ArePairsOf (histories wall (posts_in entries)) passed.held.items

-- ---- words of private contracts

-- the source gave all of a text, which was taken along, and the reader stands in its last line
pub record HasReadAll {D : Type 0} (wall : ChineseWall) (d : Used D) (reader : Reader)
    (has_taken : List ℕ → Type 0) : Type 0 where
  pub text : List ℕ
  pub lines : List Word
  pub line : Word
  pub gave : GaveAll d text
  pub cut : parts 10 text ≡ lines ++ line ∷ []
  pub stands : StandsBehind wall reader lines line
  pub clear : IsClear reader line
  pub taken : has_taken text
