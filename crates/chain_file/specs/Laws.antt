-- What holds of all chain files.
use Rattle.std.specs.Prelude.{◌≡◌, ◌⊎◌, ℕ, List, Ok}
use Rattle.chain_heads.specs.Heads.{IsMessage, Collision, EndsWithHead}
use Rattle.chain_file.specs.Text.{Chain, IsChain, text_of}
use Rattle.chain_file.specs.Reading.{chain_in}

-- a chain is read from its text
abbrev pub TextsAreRead : Type 0
TextsAreRead = (chain : Chain) → IsChain chain → chain_in (text_of chain) ≡ Ok chain

-- what is read from a text is a chain, and that is its text
abbrev pub OnlyTextsAreRead : Type 0
OnlyTextsAreRead = (text : List ℕ) (chain : Chain) → chain_in text ≡ Ok chain →
    IsChain chain × (text ≡ text_of chain)

-- a text determines the chain
abbrev pub TextsDecide : Type 0
TextsDecide = (one other : Chain) → IsChain one → IsChain other → text_of one ≡ text_of other →
    one ≡ other

-- Chains whose texts have one last head are one chain, with the same runs in the same order, the same
-- paths and digests: or two different messages with one digest are in hand.
abbrev pub HeadsDecideChains : Type 0
HeadsDecideChains = (one other : Chain) (head : List ℕ) → IsChain one → IsChain other →
    IsMessage (text_of one) → IsMessage (text_of other) → EndsWithHead (text_of one) head →
    EndsWithHead (text_of other) head → (one ≡ other) ⊎ Collision
