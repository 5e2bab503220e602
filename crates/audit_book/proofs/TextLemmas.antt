-- The lines of entries, piece by piece.
use Rattle.std.proofs.Common.{◌≡◌, ℕ, List, [], ◌∷◌, ◌++◌, codes, refl, sym, ap, ◌∙◌}
use Rattle.std.proofs.Common.{append_assoc}
use Rattle.std.specs.Fmt.{decimal}
use Rattle.std.specs.List.{join_with_byte}
use Rattle.std.proofs.lemmas.Grind.{flat_map-append}
use Rattle.wall_policy.specs.Policy.{ChineseWall}
use Rattle.coll_routes.specs.Kinds.{kind_name}
use Rattle.coll_routes.specs.Signatures.{kind}
use Rattle.coll_routes.specs.declared.signature.Signature.{Signature}
use Rattle.coll_routes.specs.declared.statement.Own.{Own}
use Rattle.coll_routes.specs.declared.statement.Stated.{Stated}
use Rattle.run_model.specs.declared.outcome.Outcome.{Outcome}
use Rattle.run_model.specs.declared.outcome.Outcome.TheVariants.{Granted, Denied, Made, NoRoom}
use Rattle.coll_text.specs.Numbers.{Word}
use Rattle.coll_text.specs.Spaced.{behind_each}
use Rattle.coll_text.specs.Spellings.{words_of, statement_words, statement_text}
use Rattle.coll_text.specs.Table.{forms_of, fields_of}
use Rattle.coll_text.proofs.CollTextLemmas.{join_cons}
use Rattle.audit_book.specs.Text.{given_words, given_end, post_words, verdict_words}
use Rattle.audit_book.specs.Text.{outcome_words, line_of}

-- a line is its first word, and the others behind spaces
line_cons : (w : Word) (ws : List Word) → line_of (w ∷ ws) ≡ w ++ (behind_each 32 ws ++ (10 ∷ []))
line_cons w ws =
    ap (λ t. t ++ (10 ∷ [])) (join_cons 32 w ws) ∙ append_assoc w (behind_each 32 ws) (10 ∷ [])

statement_behind : (sig : Signature) (own : Own) →
    behind_each 32 (statement_words sig own) ≡ 32 ∷ statement_text sig own
unfolding statement_words
statement_behind sig own = ap (λ t. 32 ∷ t)
    (sym (join_cons 32 (kind_name (kind sig)) (words_of (forms_of (kind sig)) (fields_of sig own))))

-- how a post's line begins
abbrev begin_of_post : (process comm : ℕ) → List ℕ
begin_of_post process comm =
    codes "post " ++ (decimal process ++ (codes " " ++ (decimal comm ++ codes " ")))

four_and_end : (a b c d e : List ℕ) → (a ++ (b ++ (c ++ d))) ++ e ≡ a ++ (b ++ (c ++ (d ++ e)))
four_and_end a b c d e = simp append_assoc

begun_and_more : (a b more : List ℕ) →
    (a ++ (32 ∷ (b ++ (32 ∷ [])))) ++ more ≡ a ++ (32 ∷ (b ++ (32 ∷ more)))
begun_and_more a b more = simp append_assoc

in_order : (old a b c d e f g : List ℕ) →
    old ++ a ++ b ++ c ++ d ++ e ++ f ++ g ≡ old ++ ((a ++ (b ++ (c ++ (d ++ e)))) ++ (f ++ g))
in_order old a b c d e f g = simp append_assoc

post_line : (wall : ChineseWall) (p c : ℕ) (s : Stated)
    →
    line_of (post_words wall p c s)
    ≡ begin_of_post p c ++ (statement_text s.sig s.own ++ given_end wall s)
unfolding post_words
post_line wall p c s =
    let given = given_words wall s.given s.label s.barred in
    line_cons (codes "post") (decimal p ∷ decimal c ∷ (statement_words s.sig s.own ++ given))
    ∙ ap (λ t. codes "post" ++ ((32 ∷ (decimal p ++ (32 ∷ (decimal c ++ t)))) ++ (10 ∷ [])))
    (flat_map-append (λ w. 32 ∷ w) (statement_words s.sig s.own) given
    ∙ ap (λ t. t ++ behind_each 32 given) (statement_behind s.sig s.own))
    ∙ ap (λ t. codes "post " ++ t) (four_and_end (decimal p) (codes " " ++ decimal c)
    (32 ∷ statement_text s.sig s.own) (behind_each 32 given) (10 ∷ []))
    ∙ ap (λ t. codes "post " ++ t) (sym (begun_and_more (decimal p) (decimal c)
    (statement_text s.sig s.own ++ given_end wall s)))

-- a line that was put together in four steps
pub post_put :
    (wall : ChineseWall) (p q c : ℕ) (s : Stated) (old numbered begun stated new : List ℕ)
    → numbered ≡ old ++ codes "post " ++ decimal p ++ codes " " ++ decimal c → p ≡ q →
    begun ≡ numbered ++ codes " "
    → stated ≡ begun ++ statement_text s.sig s.own → new ≡ stated ++ given_end wall s →
    new ≡ old ++ line_of (post_words wall q c s)
post_put wall p q c s old numbered begun stated new n same b m e =
    let text = statement_text s.sig s.own in
    e
    ∙ ap (λ (t : List ℕ). t ++ given_end wall s)
    (m ∙ ap (λ (t : List ℕ). t ++ text) (b ∙ ap (λ (t : List ℕ). t ++ codes " ") n))
    ∙ in_order old (codes "post ") (decimal p) (codes " ") (decimal c) (codes " ") text
    (given_end wall s)
    ∙ ap (λ (m : ℕ). old ++ (begin_of_post m c ++ (text ++ given_end wall s))) same
    ∙ ap (λ (t : List ℕ). old ++ t) (sym (post_line wall q c s))

outcome_behind : (wall : ChineseWall) (o : Outcome) (w : Word) →
    join_with_byte 32 (w ∷ outcome_words wall o)
    ≡ w ++ (32 ∷ join_with_byte 32 (outcome_words wall o))
outcome_behind wall Granted w = refl
outcome_behind wall (Denied rule process label) w = refl
outcome_behind wall (Made first number) w = refl
outcome_behind wall NoRoom w = refl

behind_three : (old a b c d : List ℕ) →
    old ++ (a ++ (32 ∷ [])) ++ b ++ (32 ∷ []) ++ c ++ (32 ∷ []) ++ (d ++ (10 ∷ []))
    ≡ old ++ ((a ++ (32 ∷ (b ++ (32 ∷ (c ++ (32 ∷ d)))))) ++ (10 ∷ []))
behind_three old a b c d = simp append_assoc

-- the same of a verdict, in three
pub verdict_put : (wall : ChineseWall) (c k : ℕ) (o : Outcome) (old numbered begun new : List ℕ) →
    numbered ≡ old ++ codes "verdict " ++ decimal c ++ codes " " ++ decimal k →
    begun ≡ numbered ++ codes " " → new ≡ begun ++ line_of (outcome_words wall o) →
    new ≡ old ++ line_of (verdict_words wall c k o)
unfolding verdict_words
verdict_put wall c k o old numbered begun new n b e =
    e
    ∙ ap (λ (t : List ℕ). t ++ line_of (outcome_words wall o))
    (b ∙ ap (λ (t : List ℕ). t ++ codes " ") n)
    ∙ behind_three old (codes "verdict") (decimal c) (decimal k)
    (join_with_byte 32 (outcome_words wall o))
    ∙ ap (λ (t : List ℕ). old ++ ((codes "verdict" ++ (32 ∷ (decimal c ++ (32 ∷ t))))
    ++ (10 ∷ []))) (sym (outcome_behind wall o (decimal k)))
