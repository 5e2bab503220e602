-- The runs of a chain, read again: each from its policy file and from its book, of which the chain
-- has the digests. (Own rule: what somebody once had access to stays, and each book is read under
-- the policy of its own day.)
use Rattle.std.specs.Prelude.{◌≡◌, ℕ, List, [], Option, Some, None, Ok}
use Rattle.sha2.specs.Sha256.{sha256}
use Rattle.wall_policy.specs.Policy.{ChineseWall}
use Rattle.wall_policy.specs.Answer.{answer_to}
use Rattle.run_model.specs.declared.entry.Entry.{Entry}
use Rattle.run_model.specs.Books.{posts_in, IsSound}
use Rattle.run_model.specs.Chains.{Link, IsChain, IsPolicyAfter}
use Rattle.hall_script.specs.Devices.{Used, IsRead}
use Rattle.hall_script.specs.Scripts.{script_limit}
use Rattle.audit_book.specs.Reading.{book_in}
use Rattle.book_stream.specs.Audits.{GaveAll}
use Rattle.book_chain.specs.Days.{IsNextPolicy}
use Rattle.chain_file.specs.declared.run.Begun.{Begun}
use Rattle.chain_file.specs.declared.run.Run.{Run}

-- ---- its policy

-- the bytes of a file, which have this digest
abbrev pub IsFileOf : {P : Type 0} → Used P → (digest bytes : List ℕ) → Type 0
IsFileOf policy digest bytes = IsRead policy script_limit bytes × (sha256 bytes ≡ digest)

-- the policy file is the one of the chain, and says this policy
abbrev pub SaysPolicy : {P : Type 0} → Used P → Begun → ChineseWall → Type 0
SaysPolicy policy begun file = (bytes : List ℕ) × IsFileOf policy begun.policy_digest bytes
    × (answer_to bytes ≡ Ok file)

-- The policy of a run whose file says this one: the file's own, where no run is before it. Else the
-- file has grown from the policy after those, and what was held at their end is held before.
abbrev pub IsUnder : (after : Option ChineseWall) → (file wall : ChineseWall) → Type 0
IsUnder None file wall = wall ≡ file
IsUnder (Some after) file wall = IsNextPolicy after file wall

-- this is the policy of a run that began
pub record IsBegunUnder {P : Type 0} (after : Option ChineseWall) (begun : Begun) (policy : Used P)
    (wall : ChineseWall) : Type 0 where
  pub file : ChineseWall
  pub says : SaysPolicy policy begun file
  pub under : IsUnder after file wall

-- this is the policy of the run that comes next, whose file has this digest
pub record IsNext {P : Type 0} (after : Option ChineseWall) (policy : Used P) (digest : List ℕ)
    (wall : ChineseWall) : Type 0 where
  pub bytes : List ℕ
  pub file : IsFileOf policy digest bytes
  pub said : ChineseWall
  pub says : answer_to bytes ≡ Ok said
  pub under : IsUnder after said wall

-- ---- its book

-- the book is the one of the chain: the text of a book of these entries
abbrev pub SaysBook : {B : Type 0} → ChineseWall → Used B → (digest : List ℕ) → List Entry → Type 0
SaysBook wall book digest entries = (text : List ℕ) × GaveAll book text
    × (book_in wall text ≡ Ok entries) × (sha256 text ≡ digest)

-- ---- the run

-- The run stands behind those before it, after which there is this policy: it was read as this book
-- under this policy, is sound under it, and this is the policy after it.
pub record Stands {P B : Type 0} (after : Option ChineseWall) (run : Run) (policy : Used P)
    (book : Used B) (now : ChineseWall) (r : Link) : Type 0 where
  pub file : ChineseWall
  pub says : SaysPolicy policy run.begun file
  pub under : IsUnder after file r.wall
  pub read : SaysBook r.wall book run.book_digest r.book
  pub sound : IsSound r.wall r.book
  pub behind : IsPolicyAfter r.wall (posts_in r.book) now

-- these books, the newest first, come to this policy; before the first there is none
abbrev pub IsChainAfter : (after : Option ChineseWall) → List Link → Type 0
IsChainAfter None links = links ≡ []
IsChainAfter (Some after) links = IsChain links after
