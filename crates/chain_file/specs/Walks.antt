-- How far a chain file has been read, and what a line makes of it: words of private contracts.
use Rattle.std.specs.Prelude.{◌≡◌, ℕ, Bool, false, List}
use Rattle.std.specs.Prelude.{Option, Some, None}
use Rattle.sha2.specs.declared.Sha256.{Sha256}
use Rattle.sha2.specs.Hashers.{Holds256}
use Rattle.chain_heads.specs.Heads.{EndsWithHead}
use Rattle.chain_file.specs.declared.run.Begun.{Begun}
use Rattle.chain_file.specs.declared.run.Run.{Run}
use Rattle.chain_file.specs.Text.{Chain, IsChain, text_of}
use Rattle.chain_file.specs.Reading.{Begins, Ends, path_in, begun_in, ended_in, no_runs}

-- words behind `begun`, of which these are the words of the paths
pub record SaysBegun (words : List (List ℕ)) (policy policy_digest book head : List ℕ) : Type 0 where
  pub begun : Begun
  pub said : begun_in words ≡ Some (Begins begun, head)
  pub by_policy : path_in policy ≡ Some begun.policy
  pub by_book : path_in book ≡ Some begun.book
  pub by_digest : begun.policy_digest ≡ policy_digest

-- words behind `ended`
pub record SaysEnded (words : List (List ℕ)) (book_digest head : List ℕ) : Type 0 where
  pub said : ended_in words ≡ Some (Ends book_digest, head)

-- what is kept is the chain, unless memory ran out
pub record AreKept (ended : List Run) (under_way : Option Begun) (lacks : Bool) (chain : Chain) :
    Type 0 where
  pub runs : lacks ≡ false → ended ≡ chain.ended
  pub last : lacks ≡ false → under_way ≡ chain.under_way

-- the head at the end of the last line; none of a chain of no runs
abbrev pub IsLastHead : Chain → Option (List ℕ) → Type 0
IsLastHead chain None = chain ≡ no_runs
IsLastHead chain (Some head) = EndsWithHead (text_of chain) head

-- what is kept for the next head is that of a chain file with these runs
pub record HasHeads (heads : Sha256) (head : Option (List ℕ)) (chain : Chain) : Type 0 where
  pub holds : Holds256 heads (text_of chain)
  pub last : IsLastHead chain head
  pub known : IsChain chain
