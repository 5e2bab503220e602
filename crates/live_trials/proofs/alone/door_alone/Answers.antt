use Rattle.std.proofs.Common.{◌≡◌, List, [], ℕ, map, refl, sym, subst, Result, Ok, IfOk}
use Rattle.std.specs.List.{All}
use Rattle.std.proofs.lemmas.List.Elements.{All-map}
use Rattle.hall_turn.specs.Known.{Doorway, Known}
use Rattle.hall_turn.specs.Answers.{new_pass}
use Rattle.live_trials.proofs.alone.door_alone.Goals as goal

-- passes of a new door have seen nothing
all_fresh : (door : Doorway) (processes : List ℕ) (passes : List Known) →
    passes ≡ map (new_pass door) processes → All (λ (pass : Known). pass.seen ≡ []) passes
all_fresh door processes passes are =
    subst (λ (l : List Known). All (λ (pass : Known). pass.seen ≡ []) l) (sym are)
    (All-map (λ (pass : Known). pass.seen ≡ []) (new_pass door) processes (λ k d low. refl))

if_ok : {A E : Type 0} (r : Result A E) (x : A) (P : A → Type 0) → r ≡ Ok x → IfOk r P → P x
if_ok {A = A} {E = E} r x P is h = subst (λ (s : Result A E). IfOk s P) is h

pub last-pass-requires-clause-fresh : goal.last-pass-requires-clause-fresh
last-pass-requires-clause-fresh g c =
    all_fresh c.expect-door.result.0 _ c.expect-door.result.1.items
    (if_ok c.open.result c.expect-door.result _ c.expect-door.ensures c.open.ensures.passes)
