-- Texts that are written piece by piece.
use Rattle.std.proofs.Common.{◌≡◌, ℕ, List, [], ◌∷◌, ◌++◌, ap, ◌∙◌, append_assoc}

-- pieces, each with the text that there is once it is written
abbrev pub Pieces : Type 0
Pieces = List (List ℕ × List ℕ)

-- behind this text they were written
abbrev pub AreWritten : (text : List ℕ) → Pieces → Type 0
AreWritten text [] = Unit {0}
AreWritten text (p ∷ pieces) = (p.1 ≡ text ++ p.0) × AreWritten p.1 pieces

-- a fact of one of them, and those of the others
infixr 20 ◌&◌
abbrev pub ◌&◌ : {A B : Type 0} → A → B → A × B
a & b = (a, b)

-- the text at last
abbrev pub at_last : (text : List ℕ) → Pieces → List ℕ
at_last text [] = text
at_last text (p ∷ pieces) = at_last p.1 pieces

-- a piece with these behind it
abbrev pub joined : (first : List ℕ) → Pieces → List ℕ
joined first [] = first
joined first (p ∷ pieces) = joined (first ++ p.0) pieces

pub all_written : (old first text : List ℕ) (pieces : Pieces) → text ≡ old ++ first →
    AreWritten text pieces → at_last text pieces ≡ old ++ joined first pieces
all_written old first text [] begun told = begun
all_written old first text (p ∷ pieces) begun told =
    all_written old (first ++ p.0) p.1 pieces
    (told.0 ∙ ap (λ t. t ++ p.0) begun ∙ append_assoc old first p.0) told.1
