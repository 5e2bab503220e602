-- Copies as text.
use Rattle.std.proofs.Common.{◌≡◌, ℕ, ◌+◌, List, [], ◌∷◌, ◌++◌, take, sym, ap, ◌∙◌, append_assoc}
use Rattle.std.proofs.Common.{Some, slice_get}
use Rattle.std.proofs.lemmas.List.{flat_map_more, take_more}
use Rattle.std.proofs.lemmas.Option.{get_or_from_slice_get, slice_get_within}
use Rattle.coll_values.specs.declared.delivery.Block.{Block}
use Rattle.hall_script.specs.Replies.{block_text, blocks_text}

-- ## blocks

-- one block more
pub block_more : (before line : List ℕ) (bs : List Block) (n : ℕ) (b : Block) →
    line ≡ before ++ blocks_text (take n bs) → slice_get bs n ≡ Some b →
    (line ++ 32 ∷ []) ++ block_text b ≡ before ++ blocks_text (take (n + 1) bs)
block_more before line bs n b e there =
    append_assoc line (32 ∷ []) (block_text b)
    ∙ (ap (λ t. t ++ 32 ∷ block_text b) e
    ∙ (flat_map_more (λ b. 32 ∷ block_text b) before (take n bs) b
    ∙ ap (λ cs. before ++ blocks_text cs) (sym (more bs n b there))))
  where
    more : (bs : List Block) (n : ℕ) (b : Block) → slice_get bs n ≡ Some b →
        take (n + 1) bs ≡ take n bs ++ b ∷ []
    more bs n b there =
        take_more bs n b (slice_get_within bs n b there)
        ∙ ap (λ c. take n bs ++ c ∷ []) (get_or_from_slice_get bs n b b there)
