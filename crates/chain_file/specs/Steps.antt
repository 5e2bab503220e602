-- What a line makes of a walk over a chain file: words of private contracts.
use Rattle.std.specs.Prelude.{◌≡◌, is_some, Result, Ok, Err}
use Rattle.chain_file.specs.declared.fault.ChainFault.{ChainFault}
use Rattle.chain_file.specs.declared.walk.Kept.{Kept}
use Rattle.chain_file.specs.declared.walk.Walk.{Walk}
use Rattle.chain_file.specs.Text.{Chain}
use Rattle.chain_file.specs.Walks.{AreKept, HasHeads}

abbrev pub Keeps : Kept → Chain → Type 0
Keeps kept chain = AreKept kept.ended.items kept.under_way (is_some kept.refused) chain

-- the lines of this chain have been read
pub record HasRead (walk : Walk) (chain : Chain) : Type 0 where
  pub kept : Keeps walk.kept chain
  pub open_is : walk.is_open ≡ is_some chain.under_way
  pub heads : HasHeads walk.heads walk.head chain

-- what was answered, and how far the walk is then
abbrev pub Took : Walk → Result (Unit {0}) ChainFault → Result Chain ChainFault → Type 0
Took walk result (Ok chain) = (result ≡ Ok tt) × HasRead walk chain
Took walk result (Err fault) = result ≡ Err fault
