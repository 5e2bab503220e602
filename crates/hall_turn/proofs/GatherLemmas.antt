-- One seat takes in all passes.
use Rattle.std.proofs.Common.{◌≡◌, ℕ, zero, suc, ◌+◌, ◌<◌, ◌≤◌, false, List, [], ◌∷◌, ◌++◌, length}
use Rattle.std.proofs.Common.{map, get_or, None, refl, sym, ap, ◌∙◌, subst, ⊎_elim, arith}
use Rattle.std.proofs.Common.{append_assoc, append-nil, length-append}
use mathlib.Core.Option as opt
use mathlib.Core.Option.{some-injective, some-ne-none}
use lib.ListN.{get_elem?}
use Rattle.std.specs.List.{All}
use Rattle.std.proofs.lemmas.List.{length-map}
use Rattle.atomic_table.specs.Table.{Me}
use Rattle.atomic_table.specs.Seated.{TableId}
use Rattle.atomic_table.proofs.Lists.{at_map}
use Rattle.wall_policy.specs.Policy.{ChineseWall}
use Rattle.run_model.specs.Runs.{Entry}
use Rattle.run_model.specs.Comms.{processes}
use Rattle.hall_turn.specs.Views.{Told, SeatView, every, own_of, gathered}
use Rattle.hall_turn.specs.Steps.{IsIdle, told_of, HasAll, Ends}
use Rattle.hall_turn.specs.Known.{Known}
use Rattle.hall_turn.specs.Ending.{ClosedTo}
use Rattle.hall_turn.proofs.AgreeLemmas.{at_both, at_unmap}

map_append : (xs ys : List Known) → map told_of (xs ++ ys) ≡ map told_of xs ++ map told_of ys
map_append [] ys = refl
map_append (x ∷ xs) ys = ap (λ l. told_of x ∷ l) (map_append xs ys)

pub at_front : (xs ys : List Known) (i : ℕ) (k : Known) → get_elem? xs i ≡ opt.some k →
    get_elem? (xs ++ ys) i ≡ opt.some k
at_front [] ys i k e = absurd (some-ne-none k (sym e))
at_front (x ∷ xs) ys zero k e = e
at_front (x ∷ xs) ys (suc i) k e = at_front xs ys i k e

pub at_last : (xs : List Known) (k : Known) → get_elem? (xs ++ k ∷ []) (length xs) ≡ opt.some k
at_last [] k = refl
at_last (x ∷ xs) k = at_last xs k

pub nil_of : (xs : List Known) → length xs ≡ 0 → xs ≡ []
nil_of [] e = refl
nil_of (x ∷ xs) e = absurd (omega arith)

pub at_get : (xs : List Known) (i : ℕ) (d : Known) → i < length xs →
    get_elem? xs i ≡ opt.some (get_or xs i d)
at_get [] i d lt = absurd (omega arith)
at_get (x ∷ xs) zero d lt = refl
at_get (x ∷ xs) (suc i) d lt = at_get xs i d (omega arith)

pub get_at : (xs : List Known) (i : ℕ) (k : Known) → get_elem? xs i ≡ opt.some k →
    (i < length xs) × (get_or xs i k ≡ k)
get_at [] i k e = absurd (some-ne-none k (sym e))
get_at (x ∷ xs) zero k e = (omega arith, some-injective x k e)
get_at (x ∷ xs) (suc i) k e = let r = get_at xs i k e in let l = r.0 in (omega arith, r.1)

-- a pass of the door, and the passes before it
pub door_is : (all rest : List Known) (k : Known) (name : TableId) → all ≡ rest ++ k ∷ [] →
    All (λ x. x.door.name ≡ name) all → k.door.name ≡ name
door_is all rest k name e of =
    let here = get_at (rest ++ k ∷ []) (length rest) k (at_last rest k) in
    let at = subst (All (λ (x : Known). x.door.name ≡ name)) e of in
    ap (λ (x : Known). x.door.name) (sym here.1) ∙ at (length rest) k here.0

pub of_rest : (all rest : List Known) (k : Known) (name : TableId) → all ≡ rest ++ k ∷ [] →
    All (λ x. x.door.name ≡ name) all → All (λ x. x.door.name ≡ name) rest
of_rest all rest k name e of i d lt =
    let front = at_front rest (k ∷ []) i (get_or rest i d) (at_get rest i d lt) in
    let here = get_at (rest ++ k ∷ []) i (get_or rest i d) front in
    let at = subst (All (λ (x : Known). x.door.name ≡ name)) e of in
    ap (λ (x : Known). x.door.name) (sym here.1) ∙ at i (get_or rest i d) here.0

-- the seat has taken in all passes but those that are left
pub record Gathers {S : Type 0} (all left : List Known) (m : Me S SeatView) : Type 0 where
  pub mid : List Known
  pub first : Known
  pub split : all ≡ mid ++ first ∷ []
  pub own : told_of first ≡ own_of m.0
  pub joined : map told_of left ++ m.0.joined ≡ map told_of mid
  pub parts : m.0.parts + length left ≡ length all
  pub some_part : 0 < m.0.parts
  pub out : m.0.out ≡ false
  pub ticket : m.0.ticket ≡ None

module _ {S : Type 0} where
  pub gathers_one : (all left : List Known) (k : Known) (p : ℕ) (m : Me S SeatView) →
      all ≡ left ++ k ∷ [] → told_of k ≡ own_of m.0 → IsIdle p m → Gathers all left m
  gathers_one all left k p m split own i = record {
    mid = left;
    first = k;
    split = split;
    own = own;
    joined = ap (λ l. map told_of left ++ l) i.joined ∙ append-nil (map told_of left);
    parts =
        (let a = i.parts in let b = ap length split in omega (arith, length-append left (k ∷ [])));
    some_part = (let a = i.parts in omega arith);
    out = i.out;
    ticket = i.ticket;
  }

  pub gathers_more : (all left rest : List Known) (k : Known) (p : ℕ) (m o m' : Me S SeatView) →
      Gathers all left m → left ≡ rest ++ k ∷ [] → told_of k ≡ own_of o.0 → IsIdle p o →
      m' ≡ (gathered m.0 o.0, m.1) → Gathers all rest m'
  gathers_more all left rest k p m o m' g split own i is =
      let target : Gathers all rest (gathered m.0 o.0, m.1) = record {
        mid = g.mid;
        first = g.first;
        split = g.split;
        own = g.own;
        joined = ap (λ l. map told_of rest ++ ((own_of o.0 ∷ l) ++ m.0.joined)) i.joined
            ∙ ap (λ t. map told_of rest ++ t ∷ m.0.joined) (sym own)
            ∙ sym (append_assoc (map told_of rest) (told_of k ∷ []) m.0.joined)
            ∙ ap (λ l. l ++ m.0.joined)
            (sym (map_append rest (k ∷ [])) ∙ ap (map told_of) (sym split))
            ∙ g.joined;
        parts = (let a = i.parts in
            let b = ap length split in
            let c = g.parts in omega (arith, length-append rest (k ∷ [])));
        some_part = (let a = i.parts in omega arith);
        out = g.out;
        ticket = g.ticket;
      } in
      subst (Gathers all rest) (sym is) target

  pub gathers_all : (all left : List Known) (m : Me S SeatView) → Gathers all left m → left ≡ [] →
      HasAll all m
  gathers_all all left m g none =
      let joined : m.0.joined ≡ map told_of g.mid = ap (λ l. map told_of l ++ m.0.joined) (sym none)
      ∙ g.joined in record {
        parts = (let a = g.parts in let b = ap length none in omega arith);
        out = g.out;
        long = (let a = ap length joined in
            let b = ap length g.split in
            omega (arith, length-map g.mid told_of, length-append g.mid (g.first ∷ [])));
        knows = λ i k e.
            ⊎_elim
            (λ (x : (j : ℕ) × (get_elem? g.mid j ≡ opt.some k)).
            (suc x.0, ap (λ l. get_elem? l x.0) joined ∙ at_map told_of g.mid x.0 k x.1))
            (λ (x : (j : ℕ) × (get_elem? (g.first ∷ []) j ≡ opt.some k)).
            (0, ap opt.some (sym g.own ∙ ap told_of (only g.first k x.0 x.1))))
            (at_both g.mid (g.first ∷ []) i k (ap (λ l. get_elem? l i) (sym g.split) ∙ e));
        from = back joined;
      }
    where
      only : (a b : Known) (n : ℕ) → get_elem? (a ∷ []) n ≡ opt.some b → a ≡ b
      only a b zero e = some-injective a b e
      only a b (suc n) e = absurd (some-ne-none b (sym e))

      back : m.0.joined ≡ map told_of g.mid → (j : ℕ) (t : Told) →
          get_elem? (every m.0) j ≡ opt.some t →
          (i : ℕ) × (k : Known) × (get_elem? all i ≡ opt.some k) × (told_of k ≡ t)
      back joined zero t e = (
        length g.mid,
        g.first,
        ap (λ l. get_elem? l (length g.mid)) g.split ∙ at_last g.mid g.first,
        g.own ∙ some-injective (own_of m.0) t e,
      )
      back joined (suc j) t e =
          let r = at_unmap told_of g.mid j t (ap (λ l. get_elem? l j) (sym joined) ∙ e) in
          (j, r.0, ap (λ l. get_elem? l j) g.split ∙ at_front g.mid (g.first ∷ []) j r.0 r.1, r.2)

-- what the one seat knows, in the words of the passes
pub closed : {S M : Type 0} (stands : ChineseWall → M → List Entry → Type 0) (wall : ChineseWall)
    (machine : M) (passes : List Known) (m : Me S SeatView) → HasAll passes m →
    Ends stands wall m.0 machine → processes wall ≤ length passes →
    ClosedTo stands wall machine passes
closed stands wall machine passes m h e long = record {
  run = e.run;
  legal = e.legal;
  stood = e.stood;
  each = λ i d lt.
      let k = get_or passes i d in
      let j = h.knows i k (at_get passes i d lt) in
      let n = e.knows j.0 (told_of k) j.1 in
      record { begins = n.0; own = sym n.1 };
  whole = λ p lt.
      let l = h.long in
      let t = e.whole (omega arith) p lt in
      let k = h.from t.0 t.1 t.2 in
      let g = get_at passes k.0 k.1 k.2 in
      (k.0, k.1, g.0, g.1, ap (λ (x : Told). x.process) k.3 ∙ t.3);
  others = e.others;
}
