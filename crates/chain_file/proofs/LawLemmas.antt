-- Laws of chain files.
use Rattle.std.proofs.Common.{◌≡◌, Ok, sym, ap, ◌∙◌, inl, inr, ⊎_elim}
use Rattle.chain_heads.proofs.HeadLemmas.{heads_decide}
use Rattle.chain_file.specs.Text.{text_of}
use Rattle.chain_file.specs.Reading.{chain_in}
use Rattle.chain_file.specs.Laws as laws
use Rattle.chain_file.proofs.AgainLemmas.{chain_again}
use Rattle.chain_file.proofs.FoundLemmas.{chain_found}
use Rattle.chain_file.proofs.KnownLemmas.{chain_known}

pub texts_are_read : laws.TextsAreRead
texts_are_read = chain_again

pub texts_decide : laws.TextsDecide
texts_decide one other is is' same =
    let e : Ok one ≡ Ok other =
    sym (chain_again one is) ∙ ap chain_in same ∙ chain_again other is' in cc

pub heads_decide_chains : laws.HeadsDecideChains
heads_decide_chains one other head is is' m m' ends ends' = ⊎_elim
    (λ same. inl (texts_decide one other is is' same))
    (λ two. inr two)
    (heads_decide (text_of one) (text_of other) head m m' ends ends')

pub only_texts_are_read : laws.OnlyTextsAreRead
only_texts_are_read text chain h = (chain_known text chain h, chain_found text chain h)
