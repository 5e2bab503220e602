use Rattle.std.proofs.Common.{◌≡◌, ℕ, zero, suc, ◌+◌, ◌<◌, List, [], ◌∷◌, ◌++◌, length, map, get_or}
use Rattle.std.proofs.Common.{Option, Some, None, is_some, true, refl, sym, ap, ◌∙◌, arith, rules}
use Rattle.std.proofs.lemmas.Bool.{false≢true}
use Rattle.std.proofs.lemmas.List.{length_push}
use Rattle.std.proofs.lemmas.Iterator.Consumers.{YieldsList-turn, YieldsList-end}
use Rattle.std.proofs.lemmas.Iterator.Adapters.{YieldsList-from_vec}
use Rattle.coll_routes.specs.Rolls.{is_full}
use Rattle.coll_pending.proofs.parts.all_parts.Goals as goal

full_at : {A : Type 0} (rows : List (Option A)) (i : ℕ) (d : Option A) → is_full rows ≡ true →
    i < length rows → is_some (get_or rows i d) ≡ true
full_at [] i d full lt = absurd (omega arith)
full_at (None ∷ rows) i d full lt = absurd (false≢true full)
full_at (Some x ∷ rows) zero d full lt = refl
full_at (Some x ∷ rows) (suc i) d full lt = full_at rows i d full (omega arith)

map_it : {A : Type 0} (xs : List A) → map (λ y. y) xs ≡ xs
map_it [] = refl
map_it (x ∷ xs) = ap (λ ys. x ∷ ys) (map_it xs)

pub gather-requires-clause-there : goal.gather-requires-clause-there
gather-requires-clause-there g c =
    let turn =
    YieldsList-turn
    (YieldsList-from_vec {s = c.into_iter-row-iterator.result} c.args.rows.items
    (search rules) (search rules)) c.loop-row.yielded c.loop-row.row-iterator
    c.loop-row.yielded_by c.next.result c.next.new.self c.in-Some.row c.in-Some.is
    c.next.ensures.steps in
    ap (λ r. is_some r) turn.1
    ∙ full_at c.args.rows.items (length c.loop-row.yielded) c.in-Some.row c.requires.full turn.0

pub gather-requires-clause-room : goal.gather-requires-clause-room
gather-requires-clause-room g c =
    let turn =
    YieldsList-turn
    (YieldsList-from_vec {s = c.into_iter-row-iterator.result} c.args.rows.items
    (search rules) (search rules)) c.loop-row.yielded c.loop-row.row-iterator
    c.loop-row.yielded_by c.next.result c.next.new.self c.in-Some.row c.in-Some.is
    c.next.ensures.steps in
    omega (arith, turn.0, c.loop-row.invariant.many, c.loop-row.invariant.roomy)

pub loop-row-preserved : goal.loop-row-preserved
loop-row-preserved g c = record {
  filled = c.gather.ensures.items ∙ ap (λ xs. xs ++ c.in-Some.row ∷ []) c.loop-row.invariant.filled;
  many = c.gather.ensures.len
      ∙ (ap (λ n. n + 1) c.loop-row.invariant.many
      ∙ (let n = length_push c.loop-row.yielded c.in-Some.row in omega (arith, n)));
  roomy = omega (arith, c.gather.ensures.room, c.loop-row.invariant.roomy);
}

pub returns : goal.returns
returns g c =
    let end =
    YieldsList-end
    (YieldsList-from_vec {s = c.into_iter-row-iterator.result} c.args.rows.items
    (search rules) (search rules)) c.loop-row.yielded c.loop-row.row-iterator
    c.loop-row.yielded_by c.next.result c.next.new.self c.in-None.is c.next.ensures.steps in
    c.loop-row.invariant.filled ∙ (sym (map_it c.loop-row.yielded) ∙ end.0)
