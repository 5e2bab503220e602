use Rattle.std.proofs.Common.{◌≡◌, List, [], ◌∷◌, Bor, map, refl, ap, ◌∙◌, ◌||◌}
use Rattle.std.specs.List.{list_any}
use Rattle.std.specs.Str.{bytes_eq}
use Rattle.clap.specs.Words.{Text}
use Rattle.program_words.proofs.words.is_one_of.Goals as goal

-- among the texts as among the references to them
any_text : (path : Text) (paths : List (Bor Text)) → list_any (λ p. bytes_eq p.now path) paths
    ≡ list_any (λ p. bytes_eq p path) (map (λ p. p.now) paths)
any_text path [] = refl
any_text path (p ∷ ps) = ap (λ b. bytes_eq p.now path || b) (any_text path ps)

pub returns-in-Some : goal.returns-in-Some
returns-in-Some c =
    rw c.in-Some.is (c.contains.ensures.value ∙ any_text c.in-Some.path.now c.args.paths.now)
