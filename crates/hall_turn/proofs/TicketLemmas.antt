-- Turns and tickets: whose each number is, and how far the numbers go.
use Rattle.std.proofs.Common.{◌≡◌, ◌≢◌, ℕ, zero, suc, ◌+◌, ◌-◌, ◌^◌, ◌<◌, ◌≤◌, eqb, List, [], ◌∷◌}
use Rattle.std.proofs.Common.{◌++◌, length, set, Option, Some, None, refl, sym, ap, ◌∙◌, subst, inl}
use Rattle.std.proofs.Common.{inr, ⊎_elim, arith, length-append}
use Rattle.std.proofs.lemmas.Bool.{cases_lt}
use Rattle.std.proofs.lemmas.Map.Steps.{length-le_from_distinct_below}
use Rattle.std.specs.List.{IsDistinct}
use mathlib.Core.Option as opt
use mathlib.Core.Option.{some-injective, some-ne-none}
use lib.ListN.{get_elem?}
use native.Mathlib.Decide.{ℕ_discrete}
use Rattle.atomic_table.proofs.Lists.{at_set}
use Rattle.run_model.specs.Runs.{Entry}
use Rattle.hall_turn.specs.Runs.{Continues, calls_of}
use Rattle.hall_turn.specs.Views.{SeatView, number_of, tickets_of}
use Rattle.hall_turn.specs.Turns.{total, TookTurn, HoldsTicket, HasNumber, HasOneLate}
use Rattle.hall_turn.proofs.RunLemmas.{calls_of-own, calls_of-other}
use Rattle.hall_turn.proofs.AgreeLemmas.{at_end}
use Rattle.hall_turn.proofs.DistinctLemmas.{apart_all, any_at, each_number}

---- Turns.

pub calls_grow : (p : ℕ) (run : List Entry) (e : Entry)
    → length (calls_of p run) ≤ length (calls_of p (e ∷ run))
calls_grow p run e = elim (ℕ_discrete e.call.process p) [
  | yes is ↦ (let more = ap length (calls_of-own p run e is) in omega arith)
  | no ne ↦ (let same = ap length (calls_of-other p run e ne) in omega arith)
]

calls_more : (p : ℕ) (more seen : List Entry)
    → length (calls_of p seen) ≤ length (calls_of p (more ++ seen))
calls_more p [] seen = omega arith
calls_more p (e ∷ more) seen =
    let rest = calls_more p more seen in
    let step = calls_grow p (more ++ seen) e in omega arith

-- whose turn it was has a call in the run
pub took_calls : (run : List Entry) (p t : ℕ) → TookTurn run p t → 0 < length (calls_of p run)
took_calls run p t turn =
    let own = ap length (calls_of-own p turn.earlier turn.entry turn.by) in
    let more = calls_more p turn.later (turn.entry ∷ turn.earlier) in
    let all = ap (λ r. length (calls_of p r)) turn.at in omega arith

pub turn_at : (run : List Entry) (t : ℕ) → t < length run → (p : ℕ) × TookTurn run p t
turn_at [] t low = absurd (omega arith)
turn_at (e ∷ run) t low = elim (ℕ_discrete (length run) t) [
  | yes is ↦ (
    e.call.process,
    record {
      later = [];
      entry = e;
      earlier = run;
      at = refl;
      number = is;
      by = refl;
    },
  )
  | no ne ↦ (
      let rest = turn_at run t (omega arith) in (
        rest.0,
        record {
          later = e ∷ rest.1.later;
          entry = rest.1.entry;
          earlier = rest.1.earlier;
          at = ap (λ r. e ∷ r) rest.1.at;
          number = rest.1.number;
          by = rest.1.by;
        },
      ))
]

-- an entry of p stands in what was seen, which has all of p's
in_seen : (more seen later : List Entry) (e : Entry) (earlier : List Entry) (p : ℕ)
    → later ++ e ∷ earlier ≡ more ++ seen → e.call.process ≡ p
    → length (calls_of p (more ++ seen)) ≤ length (calls_of p seen)
    → length earlier < length seen
in_seen [] seen later e earlier p at by few =
    let long = ap length at in omega (arith, length-append later (e ∷ earlier))
in_seen (m ∷ more) seen [] e earlier p at by few =
    let first : e ≡ m = cc in
    let of : m.call.process ≡ p = ap (λ (x : Entry). x.call.process) (sym first) ∙ by in
    let own = ap length (calls_of-own p (more ++ seen) m of) in
    let rest = calls_more p more seen in absurd (omega arith)
in_seen (m ∷ more) seen (l ∷ later) e earlier p at by few =
    let rest : later ++ e ∷ earlier ≡ more ++ seen = cc in
    let step = calls_grow p (more ++ seen) m in
    in_seen more seen later e earlier p rest by (omega arith)

-- p's turns are among those that were seen
pub turn_seen : (run seen : List Entry) (p t : ℕ) → Continues run seen
    → calls_of p seen ≡ calls_of p run → TookTurn run p t → t < length seen
turn_seen run seen p t begins own turn =
    let all : calls_of p (begins.0 ++ seen) ≡ calls_of p seen =
    ap (calls_of p) begins.1 ∙ sym own in
    let few = ap length all in
    let low = in_seen begins.0 seen turn.later turn.entry turn.earlier p
    (turn.at ∙ sym begins.1) turn.by (omega arith) in
    let number = turn.number in omega arith

---- Tickets.

-- a view that has been changed, and has no ticket that it had not
pub holds_set : (views : List SeatView) (id : ℕ) (v w : SeatView)
    → get_elem? views id ≡ opt.some v
    → ((t : ℕ) → w.ticket ≡ Some t → (v.ticket ≡ Some t) × (v.process ≡ w.process))
    → (p t : ℕ) → HoldsTicket (set views id w) p t → HoldsTicket views p t
holds_set views id v w at old p t h =
    ⊎_elim
    (λ (x : (h.seat ≡ id) × (w ≡ h.view)).
    let had = old t (ap (λ (u : SeatView). u.ticket) x.1 ∙ h.ticket) in record {
      seat = id;
      view = v;
      at = at;
      by = had.1 ∙ (ap (λ (u : SeatView). u.process) x.1 ∙ h.by);
      ticket = had.0;
    })
    (λ (x : (h.seat ≢ id) × (get_elem? views h.seat ≡ opt.some h.view)). record {
      seat = h.seat;
      view = h.view;
      at = x.1;
      by = h.by;
      ticket = h.ticket;
    })
    (at_set views id h.seat w h.view h.at)

-- one view more, which has no ticket
pub holds_push : (views : List SeatView) (w : SeatView) → w.ticket ≡ None
    → (p t : ℕ) → HoldsTicket (views ++ w ∷ []) p t → HoldsTicket views p t
holds_push views w none p t h =
    ⊎_elim
    (λ (x : get_elem? views h.seat ≡ opt.some h.view). record {
      seat = h.seat;
      view = h.view;
      at = x;
      by = h.by;
      ticket = h.ticket;
    })
    (λ (x : (h.seat ≡ length views) × (w ≡ h.view)).
    let some : Some t ≡ None = sym h.ticket ∙ (ap (λ (u : SeatView). u.ticket) (sym x.1) ∙ none) in
    absurd (cc))
    (at_end views w h.view h.seat h.at)

pub numbers_back : (run : List Entry) (views views' : List SeatView)
    → ((p t : ℕ) → HoldsTicket views' p t → HoldsTicket views p t)
    → (p t : ℕ) → HasNumber run views' p t → HasNumber run views p t
numbers_back run views views' back p t =
    ⊎_elim (λ (x : TookTurn run p t). inl x) (λ (x : HoldsTicket views' p t). inr (back p t x))

pub late_kept : (run run' : List Entry) (views views' : List SeatView)
    → ((p t : ℕ) → HasNumber run' views' p t → HasNumber run views p t)
    → ((p : ℕ) → HasOneLate run views p) → (p : ℕ) → HasOneLate run' views' p
late_kept run run' views views' back late p t u lt lu x y =
    late p t u lt lu (back p t x) (back p u y)

---- The tickets that are out, as numbers from this one on.

abbrev put : ℕ → Option ℕ → List ℕ → List ℕ
put from (Some t) ns = (t - from) ∷ ns
put from None ns = ns

abbrev waiting : ℕ → List SeatView → List ℕ
waiting from [] = []
waiting from (v ∷ views) = put from v.ticket (waiting from views)

put_length : (from : ℕ) (o : Option ℕ) (ns : List ℕ)
    → length (put from o ns) ≡ number_of o + length ns
put_length from (Some t) ns = omega arith
put_length from None ns = omega arith

waiting_length : (from : ℕ) (views : List SeatView)
    → length (waiting from views) ≡ total tickets_of views
waiting_length from [] = refl
waiting_length from (v ∷ views) =
    let rest = waiting_length from views in
    let here = put_length from v.ticket (waiting from views) in omega arith

-- a view with this ticket, counted from a number on
record Waits (from : ℕ) (views : List SeatView) (n : ℕ) : Type 0 where
  pub seat : ℕ
  pub view : SeatView
  pub number : ℕ
  pub at : get_elem? views seat ≡ opt.some view
  pub ticket : view.ticket ≡ Some number
  pub is : number - from ≡ n

waits_later : (from : ℕ) (v : SeatView) (views : List SeatView) (n : ℕ)
    → Waits from views n → Waits from (v ∷ views) n
waits_later from v views n w = record {
  seat = suc w.seat;
  view = w.view;
  number = w.number;
  at = w.at;
  ticket = w.ticket;
  is = w.is;
}

waiting_at : (from : ℕ) (views : List SeatView) (i n : ℕ)
    → get_elem? (waiting from views) i ≡ opt.some n → Waits from views n
waiting_at from [] i n e = absurd (some-ne-none n (sym e))
waiting_at from (v ∷ views) i n e = by_ticket v views (waiting_at from views) v.ticket refl i e
  where
    by_ticket : (v : SeatView) (views : List SeatView)
        → ((i n : ℕ) → get_elem? (waiting from views) i ≡ opt.some n → Waits from views n)
        → (o : Option ℕ) → v.ticket ≡ o → (i : ℕ)
        → get_elem? (put from o (waiting from views)) i ≡ opt.some n → Waits from (v ∷ views) n
    by_ticket v views rest None is i e = waits_later from v views n (rest i n e)
    by_ticket v views rest (Some t) is zero e = record {
      seat = 0;
      view = v;
      number = t;
      at = refl;
      ticket = is;
      is = some-injective (t - from) n e;
    }
    by_ticket v views rest (Some t) is (suc i) e = waits_later from v views n (rest i n e)

-- no two views have one ticket, and none has a ticket before this number
pub record IsOrderly (from : ℕ) (views : List SeatView) : Type 0 where
  pub apart : (i j : ℕ) (v w : SeatView) (t : ℕ) → get_elem? views i ≡ opt.some v
      → get_elem? views j ≡ opt.some w → i ≢ j → v.ticket ≡ Some t → w.ticket ≡ Some t → ⊥
  pub low : (i : ℕ) (v : SeatView) (t : ℕ) → get_elem? views i ≡ opt.some v
      → v.ticket ≡ Some t → from ≤ t

orderly_rest : (from : ℕ) (v : SeatView) (views : List SeatView)
    → IsOrderly from (v ∷ views) → IsOrderly from views
orderly_rest from v views o = record {
  apart = λ i j x y t ex ey ne. o.apart (suc i) (suc j) x y t ex ey (λ e. ne (omega arith));
  low = λ i x t e. o.low (suc i) x t e;
}

waiting_distinct : (from : ℕ) (views : List SeatView)
    → IsOrderly from views → IsDistinct eqb (waiting from views)
unfolding IsDistinct
waiting_distinct from [] o = tt
waiting_distinct from (v ∷ views) o =
    by_ticket v views o (waiting_distinct from views (orderly_rest from v views o)) v.ticket refl
  where
    by_ticket : (v : SeatView) (views : List SeatView) → IsOrderly from (v ∷ views)
        → IsDistinct eqb (waiting from views) → (t : Option ℕ) → v.ticket ≡ t
        → IsDistinct eqb (put from t (waiting from views))
    by_ticket v views o rest None is = rest
    by_ticket v views o rest (Some t) is = (
      apart_all (t - from) (waiting from views) (λ i q e same.
          let w = waiting_at from views i q e in
          let first = o.low 0 v t refl is in
          let second = o.low (suc w.seat) w.view w.number w.at w.ticket in
          let number = w.is in
          let one : w.number ≡ t = omega arith in
          o.apart 0 (suc w.seat) v w.view t refl w.at (λ z. absurd (omega arith)) is
          (w.ticket ∙ ap Some one)),
      rest,
    )

-- Where views have as many tickets as there are numbers, each number is a ticket.
pub ticket_at : (from next : ℕ) (views : List SeatView) → IsOrderly from views
    → ((i : ℕ) (v : SeatView) (t : ℕ) → get_elem? views i ≡ opt.some v → v.ticket ≡ Some t
    → t < next)
    → next ≡ from + total tickets_of views → (t : ℕ) → from ≤ t → t < next
    → (p : ℕ) × HoldsTicket views p t
ticket_at from next views o high drawn t low lt =
    let long = waiting_length from views in
    let place = each_number (waiting from views) (next - from) (waiting_distinct from views o)
    (λ i q e.
    let w = waiting_at from views i q e in
    let first = o.low w.seat w.view w.number w.at w.ticket in
    let last = high w.seat w.view w.number w.at w.ticket in
    let number = w.is in omega arith)
    (omega arith) (t - from) (omega arith) in
    let w = waiting_at from views place.0 (t - from) place.1 in
    let first = o.low w.seat w.view w.number w.at w.ticket in
    let number = w.is in
    let same : w.number ≡ t = omega arith in (
      w.view.process,
      record {
        seat = w.seat;
        view = w.view;
        at = w.at;
        by = refl;
        ticket = w.ticket ∙ ap Some same;
      },
    )

---- How far the numbers go.

-- the turn or ticket of this number is that of a process below n
pub record IsOwned (run : List Entry) (views : List SeatView) (n t : ℕ) : Type 0 where
  pub process : ℕ
  pub low : process < n
  pub has : HasNumber run views process t

-- m processes below n, each with one of the m numbers from 2^62 on
record Owners (run : List Entry) (views : List SeatView) (n m : ℕ) : Type 0 where
  pub list : List ℕ
  pub distinct : IsDistinct eqb list
  pub long : length list ≡ m
  pub below : (i p : ℕ) → get_elem? list i ≡ opt.some p → p < n
  pub each : (i p : ℕ) → get_elem? list i ≡ opt.some p
      → (t : ℕ) × (2 ^ 62 ≤ t) × (t < 2 ^ 62 + m) × HasNumber run views p t

owners : (run : List Entry) (views : List SeatView) (n next : ℕ)
    → ((t : ℕ) → t < next → IsOwned run views n t)
    → ((p : ℕ) → HasOneLate run views p)
    → (m : ℕ) → 2 ^ 62 + m ≤ next → Owners run views n m
unfolding IsDistinct
owners run views n next owned late zero low = record {
  list = [];
  distinct = tt;
  long = refl;
  below = λ i p e. absurd (some-ne-none p (sym e));
  each = λ i p e. absurd (some-ne-none p (sym e));
}
owners run views n next owned late (suc m) low =
    let rest = owners run views n next owned late m (omega arith) in
    let o = owned (2 ^ 62 + m) (omega arith) in record {
      list = o.process ∷ rest.list;
      distinct = (
        apart_all o.process rest.list (λ i q e same.
            let r = rest.each i q e in
            let high = r.1 in
            let before = r.2 in
            let has = subst (λ p. HasNumber run views p (2 ^ 62 + m)) same o.has in
            let one = late q (2 ^ 62 + m) r.0 (omega arith) high has r.3 in
            absurd (omega arith)),
        rest.distinct,
      );
      long = (let l = rest.long in omega arith);
      below = below_first o.process rest.list o.low rest.below;
      each = each_first o.process rest.list m o.has rest.each;
    }
  where
    below_first : (p : ℕ) (ps : List ℕ) → p < n
        → ((i q : ℕ) → get_elem? ps i ≡ opt.some q → q < n)
        → (i q : ℕ) → get_elem? (p ∷ ps) i ≡ opt.some q → q < n
    below_first p ps lt below zero q e = subst (λ x. x < n) (some-injective p q e) lt
    below_first p ps lt below (suc i) q e = below i q e

    each_first : (p : ℕ) (ps : List ℕ) (m : ℕ) → HasNumber run views p (2 ^ 62 + m)
        → ((i q : ℕ) → get_elem? ps i ≡ opt.some q
        → (t : ℕ) × (2 ^ 62 ≤ t) × (t < 2 ^ 62 + m) × HasNumber run views q t)
        → (i q : ℕ) → get_elem? (p ∷ ps) i ≡ opt.some q
        → (t : ℕ) × (2 ^ 62 ≤ t) × (t < 2 ^ 62 + suc m) × HasNumber run views q t
    each_first p ps m has each zero q e = (
      2 ^ 62 + m,
      omega arith,
      omega arith,
      subst (λ x. HasNumber run views x (2 ^ 62 + m)) (some-injective p q e) has,
    )
    each_first p ps m has each (suc i) q e =
        let r = each i q e in
        let before = r.2 in (r.0, r.1, omega arith, r.3)

-- Where each number is that of a process, and each process has one late number at most, there are
-- no more late numbers than processes.
pub few_late : (run : List Entry) (views : List SeatView) (n next : ℕ)
    → ((t : ℕ) → t < next → IsOwned run views n t)
    → ((p : ℕ) → HasOneLate run views p) → next ≤ 2 ^ 62 + n
few_late run views n next owned late =
    ⊎_elim
    (λ (far : 2 ^ 62 + n < next).
    let all = owners run views n next owned late (n + 1) (omega arith) in
    let long = all.long in
    let few = length-le_from_distinct_below all.list n all.distinct
    (λ q e. let place = any_at q all.list e in all.below place.0 q place.1) in
    absurd (omega arith))
    (λ (near : next ≤ 2 ^ 62 + n). near)
    (cases_lt (2 ^ 62 + n) next)
