-- Splits, joins and the end keep the rule.
use Rattle.std.proofs.Common.{◌≡◌, ◌≢◌, ℕ, zero, suc, ◌+◌, ◌<◌, ◌≤◌, false, List, [], ◌∷◌, ◌++◌}
use Rattle.std.proofs.Common.{length, map, set, Option, Some, None, refl, sym, ap, ◌∙◌, subst, inl}
use Rattle.std.proofs.Common.{inr, ⊎_elim, arith}
use mathlib.Core.Option as opt
use mathlib.Core.Option.{some-injective, some-ne-none}
use lib.ListN.{get_elem?}
use Rattle.std.proofs.lemmas.List.{length-map}
use Rattle.atomic_table.specs.Table.{State, Splits, Joins, Final, Seen}
use Rattle.atomic_table.proofs.Lists.{at_set, set_else, at_longer}
use Rattle.wall_policy.specs.Policy.{ChineseWall}
use Rattle.run_model.specs.Comms.{processes}
use Rattle.run_model.specs.Runs.{Entry}
use Rattle.hall_turn.specs.Views.{Told, SeatView, parts_of, tickets_of, number_of, own_of, every}
use Rattle.hall_turn.specs.Views.{numbers, maker_left, next_pass, noted, informed, gathered, spent}
use Rattle.hall_turn.specs.Turns.{FitsTold, Fits, Apart, Agree, AtHome, IsOut, Ruled}
use Rattle.hall_turn.specs.Steps.{Ends}
use Rattle.hall_turn.proofs.RunLemmas.{continues_none, total_set, total_push, total_two}
use Rattle.hall_turn.proofs.RunLemmas.{calls_of-none}
use Rattle.hall_turn.proofs.AgreeLemmas.{agree_set, agree_push, set_swap, at_first, at_both}
use Rattle.hall_turn.proofs.AgreeLemmas.{at_unmap, apart_turned}
use Rattle.hall_turn.proofs.DistinctLemmas.{one_number, distinct_joined, each_number}
use Rattle.hall_turn.proofs.TicketLemmas.{holds_set, holds_push, numbers_back, late_kept}
use Rattle.hall_turn.proofs.KeepLemmas.{off, knows_own, apart_ticket}

numbers_below : (wall : ChineseWall) (made : ℕ) (run : List Entry) (next : ℕ) (u : SeatView) →
    Fits wall made run next u → 0 < u.parts → (i q : ℕ) → get_elem? (numbers u) i ≡ opt.some q →
    q < made
numbers_below wall made run next u f parts i q e =
    let t = at_unmap (λ (x : Told). x.process) (every u) i q e in
    let b = (f.knows parts i t.0 t.1).below in omega (arith, t.2)

spent_fits : (wall : ChineseWall) (made : ℕ) (run : List Entry) (next : ℕ) →
    Fits wall made run next spent
spent_fits wall made run next = record {
  begins = continues_none run;
  hears = continues_none run;
  policy_is = λ p. absurd (omega arith);
  knows = λ p. absurd (omega arith);
  differ = one_number 0;
  waits = λ t e. absurd (cc);
  serves = λ e. absurd (off e);
  makes = λ p. absurd (omega arith);
}

spent_apart : (v : SeatView) → Apart v spent
spent_apart v = record {
  processes = λ x y. absurd (omega arith);
  tickets = λ t x y. absurd (cc);
  makers = λ x y. absurd (omega arith);
}

-- a note has no ticket
no_ticket : (wall : ChineseWall) (made : ℕ) (run : List Entry) (next : ℕ) (w : SeatView)
    → Fits wall made run next w → w.parts ≡ 0 → w.ticket ≡ None
no_ticket wall made run next w f none = by_ticket w.ticket refl
  where
    by_ticket : (o : Option ℕ) → w.ticket ≡ o → w.ticket ≡ None
    by_ticket None is = is
    by_ticket (Some t) is = absurd (let p = (f.waits t is).2 in omega arith)

fits_made : (wall : ChineseWall) (made : ℕ) (run : List Entry) (next : ℕ) (u : SeatView) →
    Fits wall made run next u → (0 < u.made → u.made ≡ made + 1) → Fits wall (made + 1) run next u
fits_made wall made run next u f makes = record {
  begins = f.begins;
  hears = f.hears;
  policy_is = f.policy_is;
  knows = λ p i t e. let k = f.knows p i t e in
      record { begins = k.begins; own = k.own; below = (let b = k.below in omega arith) };
  differ = f.differ;
  waits = f.waits;
  serves = f.serves;
  makes = λ p. (makes p, (f.makes p).1);
}

module _ {M : Type 0} (stands : ChineseWall → M → List Entry → Type 0) where
  -- another pass is made
  pub splits_pass : (wall : ChineseWall) (id : ℕ) (v : SeatView) → 0 < v.made
      → v.made < processes v.policy → 1 < v.parts → v.ticket ≡ None → v.out ≡ false
      → Splits (Ruled stands wall) id v (maker_left v) (next_pass v)
  splits_pass wall id v makes more parts ticket out s k at =
      let f = k.agree.each id v at in
      let l = maker_left v in
      let r = next_pass v in
      let is : v.made ≡ k.made = (f.makes makes).0 in
      let policy_is : v.policy ≡ wall = f.policy_is (omega arith) in
      let room : k.made < processes wall =
      (let e = ap (λ (p : ChineseWall). processes p) policy_is in omega arith) in
      let own = knows_own wall k.made k.run k.next v f (omega arith) in
      let left : Fits wall (k.made + 1) k.run k.next l = record {
        begins = f.begins;
        hears = f.hears;
        policy_is = λ _. policy_is;
        knows = λ p.
            at_first (FitsTold k.run (k.made + 1)) (record { process = v.made; seen = v.seen }) []
            (let none = k.unmade v.made (omega arith) in record {
              begins = f.begins;
              own = calls_of-none v.made k.run v.seen f.begins none ∙ sym none;
              below = omega arith;
            })
            (λ i t e. absurd (some-ne-none t (sym e)));
        differ = one_number v.made;
        waits = λ t e. absurd (cc);
        serves = λ o. absurd (off (sym out ∙ o));
        makes = λ p. (omega arith, omega arith);
      } in
      let right : Fits wall (k.made + 1) k.run k.next r = record {
        begins = f.begins;
        hears = continues_none k.run;
        policy_is = λ _. policy_is;
        knows = λ p. at_first (FitsTold k.run (k.made + 1))
            (record { process = v.process; seen = v.seen }) []
            (record
            { begins = own.begins; own = own.own; below = (let c = own.below in omega arith) })
            (λ i t e. absurd (some-ne-none t (sym e)));
        differ = one_number v.process;
        waits = λ t e. absurd (cc);
        serves = λ o. absurd (off o);
        makes = λ p. absurd (omega arith);
      } in record {
        run = k.run;
        next = k.next;
        made = k.made + 1;
        words = k.words;
        legal = k.legal;
        drawn = (
            let a = total_set tickets_of s.views id v l at in
            let b = total_push tickets_of (set s.views id l) r in
            let c = k.drawn in omega arith);
        late = late_kept k.run k.run s.views (set s.views id l ++ r ∷ [])
            (numbers_back k.run s.views (set s.views id l ++ r ∷ [])
            (λ p t h. holds_set s.views id v l at (λ n e. absurd (cc)) p t
            (holds_push (set s.views id l) r refl p t h)))
            k.late;
        whole = (let a = total_set parts_of s.views id v l at in
            let b = total_push parts_of (set s.views id l) r in let c = k.whole in omega arith);
        small = k.small;
        within = omega arith;
        unmade = λ p far. k.unmade p (omega arith);
        agree = agree_push wall (k.made + 1) k.run k.next (set s.views id l)
            (agree_set wall k.made k.run k.next (k.made + 1) k.run k.next s.views k.agree id l
            (λ j u ne e. fits_made wall k.made k.run k.next u (k.agree.each j u e)
            (λ m. absurd ((k.agree.apart id j v u at e (λ x. ne (sym x))).makers makes m)))
            left
            (λ j u ne e. let a = k.agree.apart id j v u at e (λ x. ne (sym x)) in record {
              processes = λ x y i i' p q e1 e2 same.
                  let lt = numbers_below wall k.made k.run k.next u (k.agree.each j u e) y i' q e2
                  in
                  let m = single v.made p i e1 in absurd (omega arith);
              tickets = a.tickets;
              makers = λ x y. a.makers makes y;
            }))
            r right
            (λ j u e. record {
              processes = λ x y.
                  ⊎_elim
                  (λ (t : (j ≡ id) × (l ≡ u)). subst (λ (z : SeatView).
                  (i i' p q : ℕ) → get_elem? (v.process ∷ []) i ≡ opt.some p →
                  get_elem? (numbers z) i' ≡ opt.some q → p ≢ q) t.1
                  (λ i i' p q e1 e2 same. let m = single v.process p i e1 in
                  let n = single v.made q i' e2 in let b = own.below in absurd (omega arith)))
                  (λ (t : (j ≢ id) × (get_elem? s.views j ≡ opt.some u)). λ i i' p q e1 e2.
                  (k.agree.apart id j v u at t.1 (λ z. t.0 (sym z))).processes (omega arith) y 0 i'
                  p q (ap opt.some (single v.process p i e1)) e2)
                  (at_set s.views id j l u e);
              tickets = λ t x y. absurd (cc);
              makers = λ x y. absurd (omega arith);
            });
        home = ⊎_elim
            (λ (h : AtHome stands wall k.run s).
            inl (record { machine = h.machine; homes = h.homes; stood = h.stood }))
            (λ (o : IsOut stands s).
            let ne : o.seat ≢ id = λ same. absurd (off (sym out
            ∙ ap (λ (x : SeatView). x.out) (some-injective v o.view
            (sym at ∙ ap (get_elem? s.views) (sym same) ∙ o.at)) ∙ o.out)) in
            inr (record {
              seat = o.seat;
              view = o.view;
              homes = o.homes;
              at =
                  at_longer (set s.views id l) (r ∷ []) o.seat o.view
                  (set_else s.views id o.seat l ne ∙ o.at);
              out = o.out;
            }))
            k.home;
      }
    where
      single : (a p n : ℕ) → get_elem? (a ∷ []) n ≡ opt.some p → a ≡ p
      single a p zero e = some-injective a p e
      single a p (suc n) e = absurd (some-ne-none p (sym e))

  -- a note is made
  pub splits_note : (wall : ChineseWall) (id : ℕ) (v : SeatView) → v.out ≡ false →
      Splits (Ruled stands wall) id v v (noted v)
  splits_note wall id v out s k at =
      let f = k.agree.each id v at in
      let r = noted v in record {
        run = k.run;
        next = k.next;
        made = k.made;
        words = k.words;
        legal = k.legal;
        drawn = (
            let a = total_set tickets_of s.views id v v at in
            let b = total_push tickets_of (set s.views id v) r in
            let c = k.drawn in omega arith);
        late = late_kept k.run k.run s.views (set s.views id v ++ r ∷ [])
            (numbers_back k.run s.views (set s.views id v ++ r ∷ [])
            (λ p t h. holds_set s.views id v v at (λ n e. (e, refl)) p t
            (holds_push (set s.views id v) r refl p t h)))
            k.late;
        whole = (let a = total_set parts_of s.views id v v at in
            let b = total_push parts_of (set s.views id v) r in let c = k.whole in omega arith);
        small = k.small;
        within = k.within;
        unmade = k.unmade;
        agree = agree_push wall k.made k.run k.next (set s.views id v)
            (agree_set wall k.made k.run k.next k.made k.run k.next s.views k.agree id v
            (λ j u ne e. k.agree.each j u e) f
            (λ j u ne e. k.agree.apart id j v u at e (λ x. ne (sym x))))
            r
            (record {
              begins = f.begins;
              hears = continues_none k.run;
              policy_is = λ p. absurd (omega arith);
              knows = λ p. absurd (omega arith);
              differ = one_number v.process;
              waits = λ t e. absurd (cc);
              serves = λ o. absurd (off o);
              makes = λ p. absurd (omega arith);
            })
            (λ j u e. record {
              processes = λ x y. absurd (omega arith);
              tickets = λ t x y. absurd (cc);
              makers = λ x y. absurd (omega arith);
            });
        home = ⊎_elim
            (λ (h : AtHome stands wall k.run s).
            inl (record { machine = h.machine; homes = h.homes; stood = h.stood }))
            (λ (o : IsOut stands s).
            let ne : o.seat ≢ id = λ same. absurd (off (sym out
            ∙ ap (λ (x : SeatView). x.out) (some-injective v o.view
            (sym at ∙ ap (get_elem? s.views) (sym same) ∙ o.at)) ∙ o.out)) in
            inr (record {
              seat = o.seat;
              view = o.view;
              homes = o.homes;
              at =
                  at_longer (set s.views id v) (r ∷ []) o.seat o.view
                  (set_else s.views id o.seat v ne ∙ o.at);
              out = o.out;
            }))
            k.home;
      }

  -- one view takes in another
  joined : (wall : ChineseWall) (id : ℕ) (v : SeatView) (other : ℕ) (w both : SeatView)
      (s : State (Option M) SeatView) → (k : Ruled stands wall s) →
      get_elem? s.views id ≡ opt.some v → ¬ (other ≡ id) → get_elem? s.views other ≡ opt.some w
      → both.parts ≡ v.parts + w.parts → both.ticket ≡ v.ticket → both.process ≡ v.process
      → w.ticket ≡ None → v.out ≡ false → w.out ≡ false
      → Fits wall k.made k.run k.next both
      → ((j : ℕ) (u : SeatView) → j ≢ id → j ≢ other → get_elem? s.views j ≡ opt.some u →
      Apart both u)
      →
      Ruled stands wall record
      { words = s.words; homes = s.homes; views = set (set s.views id both) other spent }
  joined wall id v other w both s k at ne at' parts ticket process none out out' fits alone =
      let swap : set (set s.views other spent) id both ≡ set (set s.views id both) other spent =
      set_swap s.views other id spent both ne in
      let there : get_elem? (set s.views id both) other ≡ opt.some w = set_else s.views id other
      both ne ∙ at' in
      let first = agree_set wall k.made k.run k.next k.made k.run k.next s.views k.agree other spent
      (λ j u n e. k.agree.each j u e) (spent_fits wall k.made k.run k.next)
      (λ j u n e. apart_turned u spent (spent_apart u)) in record {
        run = k.run;
        next = k.next;
        made = k.made;
        words = k.words;
        legal = k.legal;
        drawn = (
            let a = total_set tickets_of s.views id v both at in
            let b = total_set tickets_of (set s.views id both) other w spent there in
            let e = ap number_of ticket in
            let n = ap number_of none in
            let c = k.drawn in omega arith);
        late = late_kept k.run k.run s.views (set (set s.views id both) other spent)
            (numbers_back k.run s.views (set (set s.views id both) other spent)
            (λ p t h. holds_set s.views id v both at (λ n e. (sym ticket ∙ e, sym process)) p t
            (holds_set (set s.views id both) other w spent there (λ n e. absurd (cc)) p t h)))
            k.late;
        whole = (let a = total_set parts_of s.views id v both at in
            let b = total_set parts_of (set s.views id both) other w spent there in
            let c = k.whole in omega arith);
        small = k.small;
        within = k.within;
        unmade = k.unmade;
        agree = subst (Agree wall k.made k.run k.next) swap
            (agree_set wall k.made k.run k.next k.made k.run k.next (set s.views other spent) first
            id both
            (λ j u n e. first.each j u e)
            fits
            (λ j u n e.
            ⊎_elim
            (λ (t : (j ≡ other) × (spent ≡ u)). subst (Apart both) t.1 (spent_apart both))
            (λ (t : (j ≢ other) × (get_elem? s.views j ≡ opt.some u)). alone j u n t.0 t.1)
            (at_set s.views other j spent u e)));
        home = ⊎_elim
            (λ (h : AtHome stands wall k.run s).
            inl (record { machine = h.machine; homes = h.homes; stood = h.stood }))
            (λ (o : IsOut stands s).
            let n : o.seat ≢ id = λ same. absurd (off (sym out
            ∙ ap (λ (x : SeatView). x.out) (some-injective v o.view
            (sym at ∙ ap (get_elem? s.views) (sym same) ∙ o.at)) ∙ o.out)) in
            let n' : o.seat ≢ other = λ same. absurd (off (sym out'
            ∙ ap (λ (x : SeatView). x.out) (some-injective w o.view
            (sym at' ∙ ap (get_elem? s.views) (sym same) ∙ o.at)) ∙ o.out)) in
            inr (record {
              seat = o.seat;
              view = o.view;
              homes = o.homes;
              at = set_else (set s.views id both) other o.seat spent n'
                  ∙ set_else s.views id o.seat both n ∙ o.at;
              out = o.out;
            }))
            k.home;
      }

  was : (views : List SeatView) (id other : ℕ) (both w : SeatView) → ¬ (other ≡ id) →
      get_elem? (set views id both) other ≡ opt.some w → get_elem? views other ≡ opt.some w
  was views id other both w ne e = sym (set_else views id other both ne) ∙ e

  -- a pass takes in a note
  pub joins_note : (wall : ChineseWall) (id : ℕ) (v : SeatView) (other : ℕ) (w : SeatView) →
      v.out ≡ false → w.out ≡ false → w.parts ≡ 0 →
      Joins (Ruled stands wall) id v other w (informed v w) spent
  joins_note wall id v other w out out' none s k at ne there =
      let at' = was s.views id other (informed v w) w ne there in
      let f = k.agree.each id v at in
      let g = k.agree.each other w at' in
      joined wall id v other w (informed v w) s k at ne at' (omega arith) refl refl
      (no_ticket wall k.made k.run k.next w g none) out out'
      (record {
        begins = f.begins;
        hears = g.begins;
        policy_is = f.policy_is;
        knows = f.knows;
        differ = f.differ;
        waits = f.waits;
        serves = f.serves;
        makes = f.makes;
      })
      (λ j u n n' e. let a = k.agree.apart id j v u at e (λ x. n (sym x)) in
      apart_ticket v (informed v w) u a refl refl refl a.tickets)

  -- a pass takes in a pass
  pub joins_pass : (wall : ChineseWall) (id : ℕ) (v : SeatView) (other : ℕ) (w : SeatView)
      → v.out ≡ false → w.out ≡ false → 0 < v.parts → 0 < w.parts
      → v.ticket ≡ None → w.ticket ≡ None
      → Joins (Ruled stands wall) id v other w (gathered v w) spent
  joins_pass wall id v other w out out' parts parts' ticket ticket' s k at ne there =
      let at' = was s.views id other (gathered v w) w ne there in
      let f = k.agree.each id v at in
      let g = k.agree.each other w at' in
      joined wall id v other w (gathered v w) s k at ne at' refl refl refl ticket' out out'
      (record {
        begins = f.begins;
        hears = f.hears;
        policy_is = λ _. f.policy_is parts;
        knows = λ _. at_first (FitsTold k.run k.made)
            (record { process = v.process; seen = v.seen }) (every w ++ v.joined)
            (knows_own wall k.made k.run k.next v f parts)
            (λ i t e.
            ⊎_elim
            (λ (x : (j : ℕ) × (get_elem? (every w) j ≡ opt.some t)). g.knows parts' x.0 t x.1)
            (λ (x : (j : ℕ) × (get_elem? v.joined j ≡ opt.some t)). f.knows parts (suc x.0) t x.1)
            (at_both (every w) v.joined i t e));
        differ = distinct_joined (own_of v) (every w) v.joined f.differ g.differ
            ((k.agree.apart id other v w at at' (λ x. ne (sym x))).processes parts parts');
        waits = λ t e. absurd (cc);
        serves = λ o. absurd (off (sym out ∙ o));
        makes = λ p. ((f.makes p).0, omega arith);
      })
      (λ j u n n' e.
      let a = k.agree.apart id j v u at e (λ x. n (sym x)) in
      let b = k.agree.apart other j w u at' e (λ x. n' (sym x)) in record {
        processes = λ x y i i' p q ei eq.
            let t = at_unmap (λ (z : Told). z.process) (every (gathered v w)) i p ei in
            let R : Told → Type 0 = λ z. z.process ≢ q in
            let all : (m : ℕ) (z : Told) → get_elem? (every (gathered v w)) m ≡ opt.some z → R z =
            at_first R (record { process = v.process; seen = v.seen }) (every w ++ v.joined)
            (a.processes parts y 0 i' v.process q refl eq)
            (λ m z em.
            ⊎_elim
            (λ (c : (l : ℕ) × (get_elem? (every w) l ≡ opt.some z)).
            b.processes parts' y c.0 i' z.process q (at_number (every w) c.0 z c.1) eq)
            (λ (c : (l : ℕ) × (get_elem? v.joined l ≡ opt.some z)).
            a.processes parts y (suc c.0) i' z.process q (at_number v.joined c.0 z c.1) eq)
            (at_both (every w) v.joined m z em)) in
            subst (λ m. m ≢ q) t.2 (all i t.0 t.1);
        tickets = λ t x y. absurd (cc);
        makers = a.makers;
      })
    where
      at_number : (xs : List Told) (i : ℕ) (t : Told) → get_elem? xs i ≡ opt.some t →
          get_elem? (map (λ (x : Told). x.process) xs) i ≡ opt.some t.process
      at_number [] i t e = absurd (some-ne-none t (sym e))
      at_number (x ∷ xs) zero t e = ap (λ (y : Told). opt.some y.process) (some-injective x t e)
      at_number (x ∷ xs) (suc i) t e = at_number xs i t e

  -- the end of a door, of which one view has all parts
  pub ends :
      (wall : ChineseWall) (id : ℕ) (v : SeatView) (words : List ℕ) (slots : List (Option M)) →
      Final (Seen (Ruled stands wall) id v) words slots → processes wall ≤ v.parts → 0 < v.parts →
      v.out ≡ false
      → (h : M) × (get_elem? slots 0 ≡ opt.some (Some h)) × Ends stands wall v h
  ends wall id v words slots final parts some_part out =
      let s = final.0 in
      let k = final.1.0 in
      let at = final.1.1 in
      let f = k.agree.each id v at in
      let h : AtHome stands wall k.run s =
      ⊎_elim (λ (h : AtHome stands wall k.run s). h)
      (λ (o : IsOut stands s).
      let g = k.agree.each o.seat o.view o.at in
      let has = (g.waits (length k.run) (g.serves o.out).0).2 in
      let ne : id ≢ o.seat = λ same. absurd (off (sym out
      ∙ ap (λ (x : SeatView). x.out)
      (some-injective v o.view (sym at ∙ ap (get_elem? s.views) same ∙ o.at))
      ∙ o.out)) in
      let two = total_two parts_of s.views id o.seat v o.view ne at o.at in
      let all = k.whole in absurd (omega arith))
      k.home in (
        h.machine,
        final.4 0 (Some h.machine) (ap (λ l. get_elem? l 0) h.homes),
        record {
          run = k.run;
          stood = h.stood;
          legal = k.legal;
          knows = λ i t e. let b = f.knows some_part i t e in (b.begins, b.own);
          others = λ p far. k.unmade p (let w = k.within in omega arith);
          whole = λ long p lt.
              let below : (i q : ℕ) → get_elem? (numbers v) i ≡ opt.some q → q < processes wall = λ
              i q e.
              (let t = at_unmap (λ (x : Told). x.process) (every v) i q e in
              let b = (f.knows some_part i t.0 t.1).below in
              let w = k.within in omega (arith, t.2)) in
              let n = each_number (numbers v) (processes wall) f.differ below
              (omega (arith, length-map (every v) (λ (x : Told). x.process))) p lt in
              let t = at_unmap (λ (x : Told). x.process) (every v) n.0 p n.1 in
              (n.0, t.0, t.1, t.2);
        },
      )
