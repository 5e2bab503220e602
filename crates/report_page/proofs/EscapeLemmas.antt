-- Escaped text has no markup.
use Rattle.std.proofs.Common.{◌≡◌, ℕ, ◌==◌, List, [], ◌∷◌, true, refl, ◌∙◌, codes}
use Rattle.std.specs.List.{list_all}
use Rattle.std.proofs.lemmas.Bool.{cond_both, and_from}
use Rattle.std.proofs.lemmas.List.Folds.{list_all-append}
use Rattle.report_page.specs.Escapes.{escape, escaped, is_plain}

abbrev ArePlain : List ℕ → Type 0
ArePlain bytes = list_all is_plain bytes ≡ true

-- no escaped byte has any
plain_byte : (b : ℕ) → list_all is_plain (escape b) ≡ true
plain_byte b = cond_both (b == 38) (codes "&amp;") _ ArePlain (λ amp. refl)
    (λ no_amp. cond_both (b == 60) (codes "&lt;") _ ArePlain (λ less. refl)
    (λ no_less. cond_both (b == 62) (codes "&gt;") _ ArePlain (λ more. refl)
    (λ no_more. cond_both (b == 34) (codes "&quot;") _ ArePlain (λ quote. refl)
    (λ no_quote. cond_both (b == 39) (codes "&#39;") (b ∷ []) ArePlain (λ mark. refl)
    (λ no_mark. rw (no_less, no_more, no_quote, no_mark) refl)))))

pub all_plain : (text : List ℕ) → list_all is_plain (escaped text) ≡ true
all_plain [] = refl
all_plain (b ∷ text) = list_all-append is_plain (escape b) (escaped text)
    ∙ and_from (list_all is_plain (escape b)) (list_all is_plain (escaped text)) (plain_byte b)
    (all_plain text)
