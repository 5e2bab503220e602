use Rattle.std.proofs.Common.{◌≡◌, [], map, List, Option, Some, None, refl, ap, ◌∙◌, Bor}
use Rattle.std.specs.Prelude.{option_map, unwrap_or}
use Rattle.clap.specs.Words.{Text, found_of}
use Rattle.clap.proofs.WalkLemmas.{raw_values-rows}
use Rattle.program_words.proofs.words.values_of.Goals as goal

-- the texts behind what is there, or none
behind : (o : Option (Bor (List (Bor Text)))) (d : Bor (List (Bor Text))) → d.now ≡ [] →
    map (λ v. v.now) (unwrap_or o d).now
    ≡ unwrap_or (option_map (λ s. map (λ v. v.now) s.now) o) []
behind (Some s) d none = refl
behind None d none = ap (λ l. map (λ v. v.now) l) none

pub returns : goal.returns
returns c =
    let given = c.get_strs.ensures ∙ raw_values-rows (found_of c.args.matches.now) c.args.id.now in
    let held = behind c.get_strs.result _ refl
    ∙ ap (λ (o : Option (List Text)). unwrap_or o []) given in
    let grown = rw (c.in_ok-extend_from_slice.was, c.new-values.ensures.items)
    at c.extend_from_slice.ensures.items in
    ap (λ (l : List (Bor Text)). map (λ v. v.now) l) grown
    ∙ ap (λ (b : Bor (List (Bor Text))). map (λ v. v.now) b.now) c.unwrap_or-texts.ensures ∙ held
