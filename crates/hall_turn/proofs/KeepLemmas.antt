-- Each step keeps the rule.
use Rattle.std.proofs.Common.{◌≡◌, ◌≢◌, ◌⊎◌, ℕ, zero, suc, ◌+◌, ◌%◌, ◌^◌, ◌<◌, ◌≤◌, Bool, true}
use Rattle.std.proofs.Common.{false, true≢false, List, [], ◌∷◌, ◌++◌, length, map, set, Option}
use Rattle.std.proofs.Common.{Some, None, refl, sym, ap, ◌∙◌, subst, inl, inr, ⊎_elim, arith}
use mathlib.Core.Option as opt
use mathlib.Core.Option.{some-injective, some-ne-none}
use lib.ListN.{get_elem?}
use native.Mathlib.Decide.{ℕ_discrete}
use Rattle.std.proofs.lemmas.Bool.{cases_lt}
use Rattle.std.specs.Prelude.{slice_index, slice_set}
use Rattle.atomic_table.specs.Table.{State, step, Act, Allows, Valid, carried_after, stepped}
use Rattle.atomic_table.specs.Table.{opening, keeps, takes, gives}
use Rattle.atomic_table.proofs.Lists.{at_set, set_else, at_map}
use Rattle.wall_policy.specs.Policy.{ChineseWall}
use Rattle.run_model.specs.Comms.{processes}
use Rattle.run_model.specs.Runs.{Entry}
use Rattle.run_model.specs.Replies.{Legal}
use Rattle.hall_turn.specs.Runs.{Continues, calls_of}
use Rattle.hall_turn.specs.Views.{Told, SeatView, parts_of, tickets_of, number_of, every, numbers}
use Rattle.hall_turn.specs.Views.{newcomer, saw, drawn, declared, served}
use Rattle.hall_turn.specs.Turns.{FitsTold, Fits, Apart, TookTurn, HoldsTicket, HasNumber}
use Rattle.hall_turn.specs.Turns.{HasOneLate, AtHome, IsOut, Ruled}
use Rattle.hall_turn.specs.Steps.{Saw, Looks, Draws, Declares, Serves}
use Rattle.hall_turn.proofs.RunLemmas.{continues_self, continues_none, continues_more, total_set}
use Rattle.hall_turn.proofs.RunLemmas.{calls_of-other}
use Rattle.hall_turn.proofs.AgreeLemmas.{agree_set, set_at, at_first}
use Rattle.hall_turn.proofs.DistinctLemmas.{one_number}
use Rattle.hall_turn.proofs.TicketLemmas.{took_calls, turn_at, turn_seen, holds_set, numbers_back}
use Rattle.hall_turn.proofs.TicketLemmas.{late_kept, ticket_at, IsOrderly, IsOwned, few_late}

pub off : false ≡ true → ⊥
off e = true≢false (sym e)

ticket_is : (o : Option ℕ) (n : ℕ) → (o ≡ Some n) ⊎ (o ≢ Some n)
ticket_is None n = inr (λ e. cc)
ticket_is (Some t) n =
    elim (ℕ_discrete t n) [ yes e ↦ inl (ap Some e) | no ne ↦ inr (λ e. ne (cc)) ]

-- the first of what is known is the view's own
pub knows_own : (wall : ChineseWall) (made : ℕ) (run : List Entry) (next : ℕ) (v : SeatView) →
    Fits wall made run next v → 0 < v.parts →
    FitsTold run made (record { process = v.process; seen = v.seen })
knows_own wall made run next v f p =
    f.knows p 0 (record { process = v.process; seen = v.seen }) refl

-- a view that has seen the run so far
saw_fits :
    (wall : ChineseWall) (made : ℕ) (run : List Entry) (next : ℕ) (v : SeatView) (out : Bool) →
    Fits wall made run next v → (out ≡ true → v.ticket ≡ Some (length run)) →
    Fits wall made run next (saw v run out)
saw_fits wall made run next v out f mine = record {
  begins = continues_self run;
  hears = continues_none run;
  policy_is = f.policy_is;
  knows = λ p. at_first (FitsTold run made) (record { process = v.process; seen = run }) v.joined
      (record {
        begins = continues_self run;
        own = refl;
        below = (knows_own wall made run next v f p).below;
      })
      (λ i t e. f.knows p (suc i) t e);
  differ = f.differ;
  waits = f.waits;
  serves = λ o. (mine o, refl);
  makes = f.makes;
}

pub apart_ticket : (v w u : SeatView) → Apart v u → w.parts ≡ v.parts → w.made ≡ v.made →
    numbers w ≡ numbers v → ((t : ℕ) → w.ticket ≡ Some t → u.ticket ≡ Some t → ⊥) → Apart w u
apart_ticket v w u a parts made same tickets = record {
  processes = λ x y i j p q e e'. a.processes (subst (λ n. 0 < n) parts x) y i j p q
      (ap (λ l. get_elem? l i) (sym same) ∙ e) e';
  tickets = tickets;
  makers = λ x y. a.makers (subst (λ n. 0 < n) made x) y;
}

module _ {M : Type 0} (stands : ChineseWall → M → List Entry → Type 0) where
  -- the rule after a step that changes one view
  changed : (wall : ChineseWall) (s : State (Option M) SeatView) → (k : Ruled stands wall s) →
      (id : ℕ) (v w : SeatView) → get_elem? s.views id ≡ opt.some v
      → (ws : List ℕ) (hs : List (opt.Option (Option M))) (run : List Entry) (next : ℕ)
      → ws ≡ length run ∷ next ∷ [] → Legal wall run
      → next + tickets_of v + length k.run ≡ k.next + tickets_of w + length run
      → ((p : ℕ) → HasOneLate run (set s.views id w) p)
      → ((p : ℕ) → k.made ≤ p → calls_of p run ≡ [])
      → ((j : ℕ) (u : SeatView) → j ≢ id → get_elem? s.views j ≡ opt.some u →
      Fits wall k.made run next u)
      → Fits wall k.made run next w
      → ((j : ℕ) (u : SeatView) → j ≢ id → get_elem? s.views j ≡ opt.some u → Apart w u)
      → w.parts ≡ v.parts
      → (AtHome stands wall run record { words = ws; homes = hs; views = set s.views id w }
      ⊎ IsOut stands record { words = ws; homes = hs; views = set s.views id w })
      → Ruled stands wall record { words = ws; homes = hs; views = set s.views id w }
  changed wall s k id v w at ws hs run next words legal count late unmade others mine alone parts
      home = record {
        run = run;
        next = next;
        made = k.made;
        words = words;
        legal = legal;
        drawn = (let a = total_set tickets_of s.views id v w at in let b = k.drawn in omega arith);
        late = late;
        whole = (let a = total_set parts_of s.views id v w at in let b = k.whole in omega arith);
        small = k.small;
        within = k.within;
        unmade = unmade;
        agree = agree_set wall k.made k.run k.next k.made run next s.views k.agree id w others mine
            alone;
        home = home;
      }

  -- each number below the next ticket is that of a turn, or of a ticket that is out
  owned : (wall : ChineseWall) (s : State (Option M) SeatView) → (k : Ruled stands wall s)
      → (t : ℕ) → t < k.next → IsOwned k.run s.views (processes wall) t
  owned wall s k t lt = ⊎_elim turn ticket (cases_lt t (length k.run))
    where
      turn : t < length k.run → IsOwned k.run s.views (processes wall) t
      turn low =
          let r = turn_at k.run t low in
          let calls = took_calls k.run r.0 t r.1 in
          let below : r.0 < k.made =
          ⊎_elim (λ (b : r.0 < k.made). b)
          (λ (far : k.made ≤ r.0). absurd (let none = ap length (k.unmade r.0 far) in omega arith))
          (cases_lt r.0 k.made) in
          record { process = r.0; low = (let w = k.within in omega arith); has = inl r.1 }

      ticket : length k.run ≤ t → IsOwned k.run s.views (processes wall) t
      ticket high =
          let orderly : IsOrderly (length k.run) s.views = record {
            apart = λ i j v w n ei ej ne. (k.agree.apart i j v w ei ej ne).tickets n;
            low = λ i v n e is. ((k.agree.each i v e).waits n is).0;
          } in
          let h = ticket_at (length k.run) k.next s.views orderly
          (λ i v n e is. ((k.agree.each i v e).waits n is).1) k.drawn t high lt in
          let f = k.agree.each h.1.seat h.1.view h.1.at in
          let parts = (f.waits t h.1.ticket).2 in
          let own = (knows_own wall k.made k.run k.next h.1.view f parts).below in
          let by = h.1.by in
          record { process = h.0; low = (let w = k.within in omega arith); has = inr h.1 }

  -- tickets are far from the end of a word
  low : (wall : ChineseWall) (s : State (Option M) SeatView) → (k : Ruled stands wall s) →
      k.next ≤ 2 ^ 62 + 2 ^ 32
  low wall s k =
      let a = few_late k.run s.views (processes wall) k.next (owned wall s k) k.late in
      let d = k.small in omega arith

  -- a step that gives its seat no ticket, and adds no turn
  still_late : (wall : ChineseWall) (s : State (Option M) SeatView) → (k : Ruled stands wall s)
      → (id : ℕ) (v w : SeatView) → get_elem? s.views id ≡ opt.some v
      → w.ticket ≡ v.ticket → w.process ≡ v.process
      → (p : ℕ) → HasOneLate k.run (set s.views id w) p
  still_late wall s k id v w at ticket process =
      late_kept k.run k.run s.views (set s.views id w)
      (numbers_back k.run s.views (set s.views id w)
      (holds_set s.views id v w at (λ t e. (sym ticket ∙ e, sym process))))
      k.late

  -- no other view has the ticket that is served
  alone : (wall : ChineseWall) (s : State (Option M) SeatView) → (k : Ruled stands wall s) →
      (i j : ℕ) (v u : SeatView) → get_elem? s.views i ≡ opt.some v →
      get_elem? s.views j ≡ opt.some u → v.ticket ≡ Some (length k.run) → u.out ≡ true → j ≡ i
  alone wall s k i j v u at at' mine out = elim (ℕ_discrete j i) [
    | yes same ↦ same
    | no ne
        ↦ absurd ((k.agree.apart i j v u at at' (λ x. ne (sym x))).tickets (length k.run) mine
        ((k.agree.each j u at').serves out).0)
  ]

  saw_is : (wall : ChineseWall) (s : State (Option M) SeatView) → (k : Ruled stands wall s) →
      (id : ℕ) (v : SeatView) → get_elem? s.views id ≡ opt.some v → 0 < v.parts →
      Saw v (slice_index s.words 0) k.run
  saw_is wall s k id v at parts =
      let f = k.agree.each id v at in record {
        begins = f.begins;
        hears = f.hears;
        own = (knows_own wall k.made k.run k.next v f parts).own;
        legal = subst (λ p. Legal p k.run) (sym (f.policy_is parts)) k.legal;
        found = ap (λ l. slice_index l 0) k.words;
      }

  -- what is out with another seat stays out
  still_out : (s : State (Option M) SeatView) (id : ℕ) (v w : SeatView) → (o : IsOut stands s) →
      get_elem? s.views id ≡ opt.some v → v.out ≡ false → {ws : List ℕ} →
      IsOut stands record { words = ws; homes = s.homes; views = set s.views id w }
  still_out s id v w o at out =
      let ne : o.seat ≢ id = λ same. absurd (off (sym out
      ∙ ap (λ (x : SeatView). x.out)
      (some-injective v o.view (sym at ∙ ap (get_elem? s.views) (sym same) ∙ o.at))
      ∙ o.out)) in
      record {
        seat = o.seat;
        view = o.view;
        homes = o.homes;
        at = set_else s.views id o.seat w ne ∙ o.at;
        out = o.out;
      }

  -- the slot stays as it is, at a step of a seat that has no machine
  home_stays : (wall : ChineseWall) (s : State (Option M) SeatView) → (k : Ruled stands wall s) →
      (id : ℕ) (v w : SeatView) → get_elem? s.views id ≡ opt.some v → v.out ≡ false → {ws : List ℕ}
      → (AtHome stands wall k.run record { words = ws; homes = s.homes; views = set s.views id w }
      ⊎ IsOut stands record { words = ws; homes = s.homes; views = set s.views id w })
  home_stays wall s k id v w at out =
      ⊎_elim
      (λ (h : AtHome stands wall k.run s).
      inl (record { machine = h.machine; homes = h.homes; stood = h.stood }))
      (λ (o : IsOut stands s). inr (still_out s id v w o at out))
      k.home

  module _ (wall : ChineseWall) (slots id : ℕ) (v : SeatView) (c : List (ℕ × Option M)) where
    abbrev Look : State (Option M) SeatView → Type 0
    Look s = (w : SeatView) × (a : Act (Option M)) × Valid s.homes c a
        × Ruled stands wall (stepped s 0 (slice_index s.words 0) id c w a)
        × Looks stands (step slots 0 0 0 opt.none) (v, c) (slice_index s.words 0)
        (w, carried_after c a)

    looks_away : (s : State (Option M) SeatView) → (k : Ruled stands wall s) →
        get_elem? s.views id ≡ opt.some v → 0 < v.parts → v.out ≡ false →
        v.ticket ≢ Some (slice_index s.words 0) → Look s
    looks_away s k at parts out other =
        let w = saw v k.run false in (
          w,
          keeps,
          tt,
          changed wall s k id v w at (slice_set s.words 0 (slice_index s.words 0)) s.homes k.run
              k.next
              (ap (λ l. slice_set l 0 (slice_index l 0)) k.words)
              k.legal (omega arith) (still_late wall s k id v w at refl refl) k.unmade
              (λ j u ne e. k.agree.each j u e)
              (saw_fits wall k.made k.run k.next v false (k.agree.each id v at)
              (λ t. absurd (off t)))
              (λ j u ne e. let a = k.agree.apart id j v u at e (λ x. ne (sym x)) in
              apart_ticket v w u a refl refl refl a.tickets)
              refl
              (home_stays wall s k id v w at out),
          (saw_is wall s k id v at parts, (λ t. absurd (other t)), (λ t. refl)),
        )

    looks_mine : (s : State (Option M) SeatView) → (k : Ruled stands wall s) →
        get_elem? s.views id ≡ opt.some v → 0 < v.parts → v.out ≡ false →
        v.ticket ≡ Some (slice_index s.words 0) → Look s
    looks_mine s k at parts out mine =
        let w = saw v k.run true in
        let n : slice_index s.words 0 ≡ length k.run = ap (λ l. slice_index l 0) k.words in
        let served = mine ∙ ap Some n in
        let h : AtHome stands wall k.run s =
        ⊎_elim (λ (h : AtHome stands wall k.run s). h)
        (λ (o : IsOut stands s). absurd (off (sym out
        ∙ ap (λ (x : SeatView). x.out) (some-injective v o.view
        (sym at
        ∙ ap (get_elem? s.views)
        (sym (alone wall s k id o.seat v o.view at o.at served o.out))
        ∙ o.at)) ∙ o.out)))
        k.home in (
          w,
          takes 0 (Some h.machine),
          ap (λ l. get_elem? l 0) h.homes,
          changed wall s k id v w at (slice_set s.words 0 (slice_index s.words 0))
              (slice_set s.homes 0 opt.none) k.run k.next
              (ap (λ l. slice_set l 0 (slice_index l 0)) k.words)
              k.legal (omega arith) (still_late wall s k id v w at refl refl) k.unmade
              (λ j u ne e. k.agree.each j u e)
              (saw_fits wall k.made k.run k.next v true (k.agree.each id v at) (λ _. served))
              (λ j u ne e. let a = k.agree.apart id j v u at e (λ x. ne (sym x)) in
              apart_ticket v w u a refl refl refl a.tickets)
              refl
              (inr (record {
                seat = id;
                view = w;
                homes = ap (λ l. slice_set l 0 opt.none) h.homes;
                at = set_at s.views id v w at;
                out = refl;
              })),
          (
            saw_is wall s k id v at parts,
            (λ t. (
              h.machine,
              refl,
              subst (λ p. stands p h.machine k.run)
                  (sym ((k.agree.each id v at).policy_is parts)) h.stood,
            )),
            (λ t. absurd (t mine)),
          ),
        )

    -- a look, which takes the machine out where the ticket is served
    pub looks : 0 < v.parts → v.out ≡ false →
        Allows (Ruled stands wall) slots id (v, c) 0 (λ n. n)
        (Looks stands (step slots 0 0 0 opt.none) (v, c))
    looks parts out s k long at fits = ⊎_elim (looks_mine s k at parts out)
        (looks_away s k at parts out) (ticket_is v.ticket (slice_index s.words 0))

    fits_next : (made : ℕ) (run : List Entry) (next : ℕ) (u : SeatView) →
        Fits wall made run next u → Fits wall made run (next + 1) u
    fits_next made run next u f = record {
      begins = f.begins;
      hears = f.hears;
      policy_is = f.policy_is;
      knows = f.knows;
      differ = f.differ;
      waits = λ t e. let h = f.waits t e in (h.0, omega arith, h.2);
      serves = f.serves;
      makes = f.makes;
    }

    -- the numbers after a ticket was drawn are those before, and that ticket
    number_drawn : (s : State (Option M) SeatView) → (run : List Entry) (next : ℕ)
        → get_elem? s.views id ≡ opt.some v
        → (p t : ℕ) → HasNumber run (set s.views id (drawn v next)) p t
        → HasNumber run s.views p t ⊎ ((t ≡ next) × (v.process ≡ p))
    number_drawn s run next at p t = ⊎_elim
        (λ (x : TookTurn run p t). inl (inl x))
        (λ (h : HoldsTicket (set s.views id (drawn v next)) p t).
        ⊎_elim
        (λ (x : (h.seat ≡ id) × (drawn v next ≡ h.view)).
        let both : Some next ≡ Some t = ap (λ (u : SeatView). u.ticket) x.1 ∙ h.ticket in
        inr (cc, ap (λ (u : SeatView). u.process) x.1 ∙ h.by))
        (λ (x : (h.seat ≢ id) × (get_elem? s.views h.seat ≡ opt.some h.view)).
        inl (inr (record { seat = h.seat; view = h.view; at = x.1; by = h.by; ticket = h.ticket })))
        (at_set s.views id h.seat (drawn v next) h.view h.at))

    -- a process with no ticket that has seen few turns has no late number
    none_late : (s : State (Option M) SeatView) → (k : Ruled stands wall s)
        → get_elem? s.views id ≡ opt.some v
        → v.ticket ≡ None → 0 < v.parts → length v.seen < 2 ^ 62
        → (t : ℕ) → 2 ^ 62 ≤ t → HasNumber k.run s.views v.process t → ⊥
    none_late s k at none parts short t late = ⊎_elim
        (λ (x : TookTurn k.run v.process t).
        let f = k.agree.each id v at in
        let own = (knows_own wall k.made k.run k.next v f parts).own in
        let seen = turn_seen k.run v.seen v.process t f.begins own x in absurd (omega arith))
        (λ (h : HoldsTicket s.views v.process t).
        elim (ℕ_discrete h.seat id) [
          | yes same ↦ (
              let here = ap (get_elem? s.views) (sym same) ∙ h.at in
              let is : v ≡ h.view = some-injective v h.view (sym at ∙ here) in
              let has = ap (λ (u : SeatView). u.ticket) is ∙ h.ticket in
              let both : None ≡ Some t = sym none ∙ has in absurd (cc))
          | no ne ↦ (
              let f = k.agree.each h.seat h.view h.at in
              let two = k.agree.apart id h.seat v h.view at h.at (λ e. ne (sym e)) in
              two.processes parts (f.waits t h.ticket).2 0 0 v.process h.view.process refl refl
              (sym h.by))
        ])

    late_drawn : (s : State (Option M) SeatView) → (k : Ruled stands wall s)
        → get_elem? s.views id ≡ opt.some v
        → v.ticket ≡ None → 0 < v.parts → length v.seen < 2 ^ 62
        → (p : ℕ) → HasOneLate k.run (set s.views id (drawn v k.next)) p
    late_drawn s k at none parts short p t u lt lu x y =
        let no_other : (n : ℕ) → 2 ^ 62 ≤ n → v.process ≡ p → HasNumber k.run s.views p n → ⊥ =
        λ n late by has. none_late s k at none parts short n late
        (subst (λ q. HasNumber k.run s.views q n) (sym by) has) in
        ⊎_elim
        (λ (a : HasNumber k.run s.views p t).
        ⊎_elim
        (λ (b : HasNumber k.run s.views p u). k.late p t u lt lu a b)
        (λ (b : (u ≡ k.next) × (v.process ≡ p)). absurd (no_other t lt b.1 a))
        (number_drawn s k.run k.next at p u y))
        (λ (a : (t ≡ k.next) × (v.process ≡ p)).
        ⊎_elim
        (λ (b : HasNumber k.run s.views p u). absurd (no_other u lu a.1 b))
        (λ (b : (u ≡ k.next) × (v.process ≡ p)). a.0 ∙ sym b.0)
        (number_drawn s k.run k.next at p u y))
        (number_drawn s k.run k.next at p t x)

    -- a ticket is drawn, after a look that saw few turns
    pub draws : v.ticket ≡ None → v.out ≡ false → 0 < v.parts → length v.seen < 2 ^ 62
        → Allows (Ruled stands wall) slots id (v, c) 1 (λ n. (n + 1) % 2 ^ 64)
        (Draws (step slots 1 1 0 opt.none) (v, c))
    draws ticket out parts short s k long at fits =
        let w = drawn v k.next in
        let f = k.agree.each id v at in
        let n : slice_index s.words 1 ≡ k.next = ap (λ x. slice_index x 1) k.words in
        let small : (k.next + 1) % 2 ^ 64 ≡ k.next + 1 = (let a = low wall s k in omega arith) in
        let none : tickets_of v ≡ 0 = ap number_of ticket in (
          w,
          keeps,
          tt,
          changed wall s k id v w at (slice_set s.words 1 ((slice_index s.words 1 + 1) % 2 ^ 64))
              s.homes k.run (k.next + 1)
              (ap (λ x. slice_set x 1 ((slice_index x 1 + 1) % 2 ^ 64)) k.words
              ∙ ap (λ m. length k.run ∷ m ∷ []) small)
              k.legal
              (omega arith)
              (late_drawn s k at ticket parts short)
              k.unmade
              (λ j u ne e. fits_next k.made k.run k.next u (k.agree.each j u e))
              (record {
                begins = f.begins;
                hears = f.hears;
                policy_is = f.policy_is;
                knows = f.knows;
                differ = f.differ;
                waits = λ t e.
                    let same : k.next ≡ t = cc in
                    let o = k.drawn in (omega arith, omega arith, parts);
                serves = λ o. absurd (off (sym out ∙ o));
                makes = f.makes;
              })
              (λ j u ne e. let a = k.agree.apart id j v u at e (λ x. ne (sym x)) in
              apart_ticket v w u a refl refl refl (λ t m th.
              let same : k.next ≡ t = cc in
              let q = (k.agree.each j u e).waits t th in
              absurd (let r = q.1 in omega arith)))
              refl
              (home_stays wall s k id v w at out),
          ap (λ m. (drawn v m, c)) (sym n),
        )

    -- the entry of the call is told
    pub declares : (e : Entry) → v.out ≡ true →
        Allows (Ruled stands wall) slots id (v, c) 0 (λ n. n)
        (Declares e (step slots 0 0 0 opt.none) (v, c))
    declares e out s k long at fits =
        let w = declared v e in
        let f = k.agree.each id v at in (
          w,
          keeps,
          tt,
          changed wall s k id v w at (slice_set s.words 0 (slice_index s.words 0)) s.homes k.run
              k.next
              (ap (λ l. slice_set l 0 (slice_index l 0)) k.words)
              k.legal (omega arith) (still_late wall s k id v w at refl refl) k.unmade
              (λ j u ne e. k.agree.each j u e)
              (record {
                begins = f.begins;
                hears = f.hears;
                policy_is = f.policy_is;
                knows = f.knows;
                differ = f.differ;
                waits = f.waits;
                serves = f.serves;
                makes = f.makes;
              })
              (λ j u ne e. let a = k.agree.apart id j v u at e (λ x. ne (sym x)) in
              apart_ticket v w u a refl refl refl a.tickets)
              refl
              (⊎_elim
              (λ (h : AtHome stands wall k.run s).
              inl (record { machine = h.machine; homes = h.homes; stood = h.stood }))
              (λ (o : IsOut stands s). inr (record {
                seat = id;
                view = w;
                homes = o.homes;
                at = set_at s.views id v w at;
                out = out;
              }))
              k.home),
          refl,
        )

  module _ (wall : ChineseWall) (slots id : ℕ) (v : SeatView) where
    -- the numbers after the turn are those before it
    served_back : (s : State (Option M) SeatView) → (k : Ruled stands wall s) → (e : Entry)
        → get_elem? s.views id ≡ opt.some v
        → v.ticket ≡ Some (length k.run) → e.call.process ≡ v.process
        → (p t : ℕ) → HasNumber (e ∷ k.run) (set s.views id (served v e)) p t
        → HasNumber k.run s.views p t
    served_back s k e at ticket by p t = ⊎_elim
        (λ (x : TookTurn (e ∷ k.run) p t). by_later x.later x.entry x.earlier x.at x.number x.by)
        (λ (h : HoldsTicket (set s.views id (served v e)) p t).
        inr (holds_set s.views id v (served v e) at (λ n none. absurd (cc)) p t h))
      where
        by_later : (later : List Entry) (entry : Entry) (earlier : List Entry)
            → later ++ entry ∷ earlier ≡ e ∷ k.run
            → length earlier ≡ t → entry.call.process ≡ p → HasNumber k.run s.views p t
        by_later [] entry earlier is number own =
            let first : entry ≡ e = cc in
            let rest : earlier ≡ k.run = cc in inr (record {
              seat = id;
              view = v;
              at = at;
              by = sym by ∙ (ap (λ (x : Entry). x.call.process) (sym first) ∙ own);
              ticket = ticket ∙ ap Some (ap length (sym rest) ∙ number);
            })
        by_later (l ∷ later) entry earlier is number own =
            inl (record {
              later = later;
              entry = entry;
              earlier = earlier;
              at = cc;
              number = number;
              by = own;
            })

    -- the turn ends: the machine is home again, and stands for one entry more
    pub serves : (e : Entry) (h : M) → v.out ≡ true → v.said ≡ Some e → v.joined ≡ [] →
        e.call.process ≡ v.process → Legal v.policy (e ∷ v.seen) → stands v.policy h (e ∷ v.seen)
        →
        Allows (Ruled stands wall) slots id (v, (0, Some h) ∷ []) 0 (λ n. (n + 1) % 2 ^ 64)
        (Serves (step slots 0 1 0 opt.none) (v, (0, Some h) ∷ []))
    serves e h out said joined by legal stood s k long at fits =
        let w = served v e in
        let f = k.agree.each id v at in
        let mine = f.serves out in
        let turn = f.waits (length k.run) mine.0 in
        let own = knows_own wall k.made k.run k.next v f turn.2 in
        let run = e ∷ k.run in
        let same : e ∷ v.seen ≡ run = ap (λ l. e ∷ l) mine.1 in
        let small : (length k.run + 1) % 2 ^ 64 ≡ length run =
        (let a = low wall s k in let b = turn.1 in omega arith) in
        let one : slice_set s.homes 0 (opt.some (Some h)) ≡ opt.some (Some h) ∷ [] =
        ⊎_elim (λ (x : AtHome stands wall k.run s).
        ap (λ l. slice_set l 0 (opt.some (Some h))) x.homes)
        (λ (x : IsOut stands s). ap (λ l. slice_set l 0 (opt.some (Some h))) x.homes) k.home in (
          w,
          gives,
          tt,
          changed wall s k id v w at (slice_set s.words 0 ((slice_index s.words 0 + 1) % 2 ^ 64))
              (slice_set s.homes 0 (opt.some (Some h))) run k.next
              (ap (λ x. slice_set x 0 ((slice_index x 0 + 1) % 2 ^ 64)) k.words
              ∙ ap (λ m. m ∷ k.next ∷ []) small)
              (subst (Legal wall) same
              (subst (λ p. Legal p (e ∷ v.seen)) (f.policy_is turn.2) legal))
              (let one : tickets_of v ≡ 1 = ap number_of mine.0 in omega arith)
              (late_kept k.run run s.views (set s.views id w)
              (served_back s k e at mine.0 by) k.late)
              (λ p far. calls_of-other p k.run e (λ x. let b = own.below in
              absurd (let y : v.process ≡ p = sym by ∙ x in omega arith))
              ∙ k.unmade p far)
              (λ j u ne at'. let g = k.agree.each j u at' in
              let a = k.agree.apart id j v u at at' (λ x. ne (sym x)) in record {
                begins = continues_more k.run u.seen e g.begins;
                hears = continues_more k.run u.told e g.hears;
                policy_is = g.policy_is;
                knows = λ p i t ti. let b = g.knows p i t ti in record {
                  begins = continues_more k.run t.seen e b.begins;
                  own = b.own
                      ∙ sym (calls_of-other t.process k.run e (λ x.
                      a.processes turn.2 p 0 i v.process t.process refl
                      (at_map (λ (y : Told). y.process) (every u) i t ti) (sym by ∙ x)));
                  below = b.below;
                };
                differ = g.differ;
                waits = λ t is. let q = g.waits t is in
                    let q0 = q.0 in
                    let apart : length k.run ≢ t = (λ x. a.tickets t (mine.0 ∙ ap Some x) is) in
                    (omega arith, q.1, q.2);
                serves = λ o. absurd (a.tickets (length k.run) mine.0 (g.serves o).0);
                makes = g.makes;
              })
              (record {
                begins = subst (λ l. Continues l (e ∷ v.seen)) same (continues_self (e ∷ v.seen));
                hears = continues_more k.run v.told e f.hears;
                policy_is = f.policy_is;
                knows = λ p. at_first (FitsTold run k.made)
                    (record { process = v.process; seen = e ∷ v.seen }) v.joined
                    (record {
                      begins =
                          subst (λ l. Continues l (e ∷ v.seen)) same
                          (continues_self (e ∷ v.seen));
                      own = ap (calls_of v.process) same;
                      below = own.below;
                    })
                    (λ i t is. absurd (some-ne-none t (sym is ∙ ap (λ l. get_elem? l i) joined)));
                differ = f.differ;
                waits = λ t x. absurd (cc);
                serves = λ x. absurd (off x);
                makes = f.makes;
              })
              (λ j u ne at'. let a = k.agree.apart id j v u at at' (λ x. ne (sym x)) in
              apart_ticket v w u a refl refl refl (λ t x y. absurd (cc)))
              refl
              (inl (record {
                machine = h;
                homes = one;
                stood =
                    subst (stands wall h) same (subst (λ p. stands p h (e ∷ v.seen))
                    (f.policy_is turn.2) stood);
              })),
          (e, said, refl),
        )

  first_fits : (wall : ChineseWall) → 0 < processes wall → Fits wall 1 [] 0 (newcomer wall)
  first_fits wall some_process = record {
    begins = continues_self [];
    hears = continues_self [];
    policy_is = λ _. refl;
    knows = λ p. at_first (FitsTold [] 1) (record { process = 0; seen = [] }) []
        (record { begins = continues_self []; own = refl; below = omega arith })
        (λ i t e. absurd (some-ne-none t (sym e)));
    differ = one_number 0;
    waits = λ t e. absurd (cc);
    serves = λ e. absurd (off e);
    makes = λ _. (refl, omega arith);
  }

  first_late : (wall : ChineseWall) (p : ℕ) → HasOneLate [] (newcomer wall ∷ []) p
  first_late wall p t u lt lu x y = absurd (⊎_elim no_turn no_ticket x)
    where
      no_turn : TookTurn [] p t → ⊥
      no_turn x = let calls = took_calls [] p t x in omega arith

      no_ticket : HoldsTicket (newcomer wall ∷ []) p t → ⊥
      no_ticket h =
          let is : newcomer wall ≡ h.view =
          at_first (λ u. newcomer wall ≡ u) (newcomer wall) [] refl
          (λ i u e. absurd (some-ne-none u (sym e))) h.seat h.view h.at in
          let both : None ≡ Some t = ap (λ (u : SeatView). u.ticket) is ∙ h.ticket in absurd (cc)

  one_place : (v : SeatView) (j : ℕ) (u : SeatView) → get_elem? (v ∷ []) j ≡ opt.some u → j ≡ 0
  one_place v zero u e = refl
  one_place v (suc j) u e = absurd (some-ne-none u (sym e))

  -- a door is opened
  pub opens : (wall : ChineseWall) (h : M) (slots : List (Option M)) → slots ≡ Some h ∷ [] →
      stands wall h [] → 0 < processes wall → processes wall < 2 ^ 32 →
      Ruled stands wall (opening (0 ∷ 0 ∷ []) slots (newcomer wall))
  opens wall h slots is stood some_process small = record {
    run = [];
    next = 0;
    made = 1;
    words = refl;
    legal = tt;
    drawn = omega arith;
    late = first_late wall;
    whole = omega arith;
    small = small;
    within = omega arith;
    unmade = λ p _. refl;
    agree = record {
      each = at_first (Fits wall 1 [] 0) (newcomer wall) [] (first_fits wall some_process)
          (λ i v e. absurd (some-ne-none v (sym e)));
      apart = λ i j v w a b ne.
          absurd (ne (one_place (newcomer wall) i v a ∙ sym (one_place (newcomer wall) j w b)));
    };
    home = inl (record { machine = h; homes = ap (map opt.some) is; stood = stood });
  }
