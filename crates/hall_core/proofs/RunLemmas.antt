-- One more call with its reply.
use Rattle.std.proofs.Common.{◌≡◌, List, [], ◌∷◌, ◌++◌, length, reverse, map, refl, ap, ◌∙◌, arith}
use Rattle.std.proofs.lemmas.List.Elements.{All-tail}
use Rattle.wall_policy.specs.Policy.{ChineseWall}
use Rattle.run_model.specs.Known.{HasKnownLabel, HaveKnownLabels}
use Rattle.std.specs.List.{zip}
use Rattle.std.proofs.lemmas.List.{reverse-append}
use Rattle.run_model.specs.declared.call.Call.{Call}
use Rattle.run_model.specs.declared.reply.Reply.{Reply}
use Rattle.run_model.specs.Runs.{Entry, entry, run_of, entry_of}

zipped : (calls : List Call) (replies : List Reply) (call : Call) (given : Reply) →
    length replies ≡ length calls →
    map entry_of (zip (calls ++ call ∷ []) (replies ++ given ∷ []))
    ≡ map entry_of (zip calls replies) ++ entry call given ∷ []
zipped [] [] call given e = refl
zipped [] (r ∷ replies) call given e = absurd (cc)
zipped (q ∷ calls) [] call given e = absurd (cc)
zipped (q ∷ calls) (r ∷ replies) call given e = let rest : length replies ≡ length calls = cc in
    ap (λ (es : List Entry). entry q r ∷ es) (zipped calls replies call given rest)

pub run_of-push : (calls : List Call) (replies : List Reply) (call : Call) (given : Reply) →
    length replies ≡ length calls →
    run_of (calls ++ call ∷ []) (replies ++ given ∷ []) ≡ entry call given ∷ run_of calls replies
run_of-push calls replies call given e = ap (λ (es : List Entry). reverse es)
    (zipped calls replies call given e)
    ∙ reverse-append (map entry_of (zip calls replies)) (entry call given ∷ [])

-- a call among those with known labels
pub known_there : (wall : ChineseWall) (before after : List Call) (call : Call) →
    HaveKnownLabels wall (before ++ call ∷ after) → HasKnownLabel wall call.act
known_there wall [] after call h = h 0 call (omega arith)
known_there wall (q ∷ before) after call h = known_there wall before after call
    (All-tail (λ (x : Call). HasKnownLabel wall x.act) q (before ++ call ∷ after) h)
