-- What the places count, as requests come and are taken.
use Rattle.std.proofs.Common.{◌≡◌, ◌≢◌, ℕ, ◌+◌, ◌-◌, ◌<◌, ◌≤◌, Bool, true, false, ◌&&◌, List, []}
use Rattle.std.proofs.Common.{◌∷◌, ◌++◌, length, set, refl, sym, ap, ◌∙◌, subst, arith, cond}
use Rattle.std.proofs.Common.{Option, Some, None, ⊎_elim, eqb-true, eq-eqb}
use Rattle.std.specs.Prelude.{◌==◌}
use Rattle.std.proofs.lemmas.Bool.{cases_Bool, cond-true, cond-false, false≢true, and_parts}
use Rattle.std.proofs.lemmas.Bool.{and_from}
use Rattle.hall_core.specs.declared.requests.Request.{Request}
use Rattle.hall_core.specs.declared.settled.Settlement.{Settlement}
use Rattle.hall_core.specs.declared.settled.Place.{Place}
use Rattle.std.specs.Option.{option_map_or}
use Rattle.std.proofs.lemmas.Option.{slice_get_past}
use Rattle.hall_core.specs.Asking.{Asked, requests_of, opened, is_for, open_for, with_request}
use Rattle.hall_core.specs.Asking.{with_closed}
use Rattle.hall_core.specs.Settling.{Places, nothing, place_at, open_at, settlement_at, one_more}
use Rattle.hall_core.specs.Settling.{one_fewer, settled_as, AreSame, IsPlaced, KeepsCount}
use Rattle.hall_core.proofs.AskingLemmas.{count_more, count_fewer, for_updated, open_there, is_it}

-- the same requests and the same places
pub counted_same : (asked told : (p : ℕ) → List (Option Request)) (n : ℕ) (rows new : List Places) →
    told ≡ asked → AreSame rows new → KeepsCount asked n rows → KeepsCount told n new
counted_same asked told n rows new is same counted = record {
  waiting = λ c k. ap (λ (p : Place). p.waiting) (same c k)
      ∙ (counted.waiting c k ∙ ap (λ f. open_for f n c k) (sym is));
  held = λ c k s e.
      let some = counted.held c k s (sym (ap (λ (p : Place). p.settlement) (same c k)) ∙ e) in
      let now : open_at new c k ≡ open_at rows c k = ap (λ (p : Place). p.waiting) (same c k) in
      omega (arith, some, now);
}

-- ## a request more

module _ (asked : (p : ℕ) → List (Option Request)) (n : ℕ) (rows new : List Places) (p : ℕ)
    (r : Request) (low : p < n) (counted : KeepsCount asked n rows)
    (placed : IsPlaced rows new r.comm r.k (one_more (place_at rows r.comm r.k))) where
  record IsJoined (c k : ℕ) (a : Bool) : Type 0 where
    pub is : is_for c k (Some r) ≡ a
    pub counts : open_at new c k ≡ open_at rows c k + cond {A = ℕ} a 1 0
    pub holds : settlement_at new c k ≡ settlement_at rows c k

  joined_at : (c k : ℕ) → (a : Bool) → (c == r.comm && k == r.k) ≡ a → IsJoined c k a
  joined_at c k true t =
      let parts = and_parts (c == r.comm) (k == r.k) t in
      let c_is = eqb-true c r.comm parts.0 in
      let k_is = eqb-true k r.k parts.1 in
      let at : place_at new c k ≡ one_more (place_at rows r.comm r.k) = placed c k ∙ cond-true
      (c == r.comm && k == r.k) (one_more (place_at rows r.comm r.k)) (place_at rows c k) t in
      let back : place_at rows r.comm r.k ≡ place_at rows c k =
      (λ i. place_at rows (sym c_is i) (sym k_is i)) in
      record {
        is = is_it c k r (sym c_is) (sym k_is);
        counts = ap (λ (x : Place). x.waiting) at ∙ ap (λ (x : Place). x.waiting + 1) back;
        holds = ap (λ (x : Place). x.settlement) at ∙ ap (λ (x : Place). x.settlement) back;
      }
  joined_at c k false f =
      let at : place_at new c k ≡ place_at rows c k = placed c k ∙ cond-false
      (c == r.comm && k == r.k) (one_more (place_at rows r.comm r.k)) (place_at rows c k) f in
      let isnt : is_for c k (Some r) ≡ false = ⊎_elim
      (λ t. let parts = and_parts (r.comm == c) (r.k == k) t in
      absurd (false≢true (sym f
      ∙ and_from (c == r.comm) (k == r.k)
      (eq-eqb c r.comm (sym (eqb-true r.comm c parts.0)))
      (eq-eqb k r.k (sym (eqb-true r.k k parts.1))))))
      (λ none. none)
      (cases_Bool (is_for c k (Some r))) in
      let same : open_at new c k ≡ open_at rows c k = ap (λ (x : Place). x.waiting) at in
      record
      { is = isnt; counts = omega (arith, same); holds = ap (λ (x : Place). x.settlement) at }

  pub counted_joined : KeepsCount (with_request asked p r) n new
  counted_joined = record {
    waiting = λ c k.
        let h = joined_at c k (c == r.comm && k == r.k) refl in
        let all = for_updated c k asked p (asked p ++ Some r ∷ []) n low in
        let more = count_more c k (asked p) (Some r) in
        let one : cond {A = ℕ} (is_for c k (Some r)) 1 0 ≡ cond {A = ℕ} (c == r.comm && k == r.k) 1
        0 = ap (λ (b : Bool). cond {A = ℕ} b 1 0) h.is in
        let now = h.counts in
        let old = counted.waiting c k in
        omega (arith, all, more, one, now, old);
    held = λ c k s e.
        let h = joined_at c k (c == r.comm && k == r.k) refl in
        let some = counted.held c k s (sym h.holds ∙ e) in
        let now = h.counts in
        omega (arith, some, now);
  }

  pub joined_some : 0 < open_at new r.comm r.k
  joined_some =
      let at : place_at new r.comm r.k ≡ one_more (place_at rows r.comm r.k) = placed r.comm r.k ∙
      cond-true (r.comm == r.comm && r.k == r.k) (one_more (place_at rows r.comm r.k))
      (place_at rows r.comm r.k) (and_from (r.comm == r.comm) (r.k == r.k)
      (eq-eqb r.comm r.comm refl) (eq-eqb r.k r.k refl)) in
      let e : open_at new r.comm r.k ≡ open_at rows r.comm r.k + 1 = ap (λ (x : Place). x.waiting)
      at in
      omega (arith, e)

  pub joined_same : (c k : ℕ) → settlement_at new c k ≡ settlement_at rows c k
  joined_same c k = (joined_at c k (c == r.comm && k == r.k) refl).holds

-- ## an instance that is settled

module _ (asked : (p : ℕ) → List (Option Request)) (n : ℕ) (rows new : List Places) (c k : ℕ)
    (s : Settlement) (some : 0 < open_at rows c k) (counted : KeepsCount asked n rows)
    (placed : IsPlaced rows new c k (settled_as (place_at rows c k) s)) where
  still_open : (d j : ℕ) → open_at new d j ≡ open_at rows d j
  still_open d j = ⊎_elim
      (λ t.
      let parts = and_parts (d == c) (j == k) t in
      ap (λ (x : Place). x.waiting) (placed d j
      ∙ cond-true (d == c && j == k) (settled_as (place_at rows c k) s) (place_at rows d j)
      t)
      ∙ (λ i. open_at rows (sym (eqb-true d c parts.0) i) (sym (eqb-true j k parts.1) i)))
      (λ f. ap (λ (x : Place). x.waiting) (placed d j
      ∙ cond-false (d == c && j == k) (settled_as (place_at rows c k) s) (place_at rows d j)
      f))
      (cases_Bool (d == c && j == k))

  split : (b : Bool) (x y : Place) → (cond b x y).settlement ≡ cond b x.settlement y.settlement
  split true x y = refl
  split false x y = refl

  pub settled_now : (d j : ℕ) →
      settlement_at new d j ≡ cond (d == c && j == k) (Some s) (settlement_at rows d j)
  settled_now d j = ap (λ (x : Place). x.settlement) (placed d j)
      ∙ split (d == c && j == k) (settled_as (place_at rows c k) s) (place_at rows d j)

  pub counted_settled : KeepsCount asked n new
  counted_settled = record {
    waiting = λ d j. still_open d j ∙ counted.waiting d j;
    held = λ d j t e. let now = still_open d j in ⊎_elim
        (λ is.
        let parts = and_parts (d == c) (j == k) is in
        let at : open_at rows d j ≡ open_at rows c k =
        (λ i. open_at rows (eqb-true d c parts.0 i) (eqb-true j k parts.1 i)) in
        omega (arith, now, at, some))
        (λ isnt. let old = counted.held d j t (sym (settled_now d j
        ∙ cond-false (d == c && j == k) (Some s) (settlement_at rows d j) isnt)
        ∙ e) in omega (arith, now, old))
        (cases_Bool (d == c && j == k));
  }

-- ## a request that is taken

fewer_open : (place : Place) → 0 < place.waiting → (one_fewer place).waiting + 1 ≡ place.waiting
fewer_open place some = ⊎_elim
    (λ t.
    let e : (one_fewer place).waiting ≡ 0 = ap (λ (x : Place). x.waiting)
    (cond-true (place.waiting == 1) nothing
    (record { waiting = place.waiting - 1; settlement = place.settlement }) t) in
    let one = eqb-true place.waiting 1 t in omega (arith, e, one))
    (λ f.
    let e : (one_fewer place).waiting ≡ place.waiting - 1 = ap (λ (x : Place). x.waiting)
    (cond-false (place.waiting == 1) nothing
    (record { waiting = place.waiting - 1; settlement = place.settlement }) f) in
    omega (arith, e, some))
    (cases_Bool (place.waiting == 1))

-- what is still counted still holds
fewer_holds : (place : Place) → 0 < (one_fewer place).waiting →
    (one_fewer place).settlement ≡ place.settlement
fewer_holds place some = ⊎_elim
    (λ t.
    let e : (one_fewer place).waiting ≡ 0 = ap (λ (x : Place). x.waiting)
    (cond-true (place.waiting == 1) nothing
    (record { waiting = place.waiting - 1; settlement = place.settlement }) t) in
    absurd (omega (arith, e, some)))
    (λ f. ap (λ (x : Place). x.settlement) (cond-false (place.waiting == 1) nothing
    (record { waiting = place.waiting - 1; settlement = place.settlement }) f))
    (cases_Bool (place.waiting == 1))

-- and what holds is counted
fewer_held : (place : Place) (s : Settlement) → 0 < place.waiting →
    (one_fewer place).settlement ≡ Some s → 0 < (one_fewer place).waiting
fewer_held place s some e = ⊎_elim
    (λ t. let never : None ≡ Some s = sym (ap (λ (x : Place). x.settlement)
    (cond-true (place.waiting == 1) nothing
    (record { waiting = place.waiting - 1; settlement = place.settlement }) t)) ∙ e
    in absurd (cc))
    (λ f.
    let now = fewer_open place some in
    let more : place.waiting ≢ 1 = (λ is. false≢true (sym f ∙ eq-eqb place.waiting 1 is)) in
    omega (arith, now, more, some))
    (cases_Bool (place.waiting == 1))

module _ (asked : (p : ℕ) → List (Option Request)) (n : ℕ) (rows new : List Places) (p number : ℕ)
    (r : Request) (low : p < n) (waits : opened (asked p) number ≡ Some r)
    (counted : KeepsCount asked n rows) where
  pub some_open : 0 < open_at rows r.comm r.k
  some_open =
      let there = open_there r.comm r.k asked n p number r low waits refl refl in
      let now = counted.waiting r.comm r.k in
      omega (arith, there, now)

  module _ (placed : IsPlaced rows new r.comm r.k (one_fewer (place_at rows r.comm r.k))) where
    record IsLeft (c k : ℕ) (a : Bool) : Type 0 where
      pub is : is_for c k (Some r) ≡ a
      pub counts : open_at new c k + cond {A = ℕ} a 1 0 ≡ open_at rows c k
      pub holds : 0 < open_at new c k → settlement_at new c k ≡ settlement_at rows c k
      pub held : (s : Settlement) → settlement_at new c k ≡ Some s → 0 < open_at new c k

    left_at : (c k : ℕ) → (a : Bool) → (c == r.comm && k == r.k) ≡ a → IsLeft c k a
    left_at c k true t =
        let parts = and_parts (c == r.comm) (k == r.k) t in
        let c_is = eqb-true c r.comm parts.0 in
        let k_is = eqb-true k r.k parts.1 in
        let old = place_at rows c k in
        let back : place_at rows r.comm r.k ≡ place_at rows c k =
        (λ i. place_at rows (sym c_is i) (sym k_is i)) in
        let at : place_at new c k ≡ one_fewer (place_at rows c k) = placed c k ∙
        (cond-true (c == r.comm && k == r.k) (one_fewer (place_at rows r.comm r.k))
        (place_at rows c k) t ∙ ap one_fewer back) in
        let some : 0 < open_at rows c k = (let e : open_at rows r.comm r.k ≡ open_at rows c k = ap
        (λ (x : Place). x.waiting) back in let h = some_open in omega (arith, e, h)) in
        let now : open_at new c k ≡ (one_fewer (place_at rows c k)).waiting = ap
        (λ (x : Place). x.waiting) at in
        let holds : settlement_at new c k ≡ (one_fewer (place_at rows c k)).settlement = ap
        (λ (x : Place). x.settlement) at in
        record {
          is = is_it c k r (sym c_is) (sym k_is);
          counts = (let e = fewer_open (place_at rows c k) some in omega (arith, e, now));
          holds = λ h. holds ∙ fewer_holds (place_at rows c k) (omega (arith, now, h));
          held = λ s e. (let h = fewer_held (place_at rows c k) s some (sym holds ∙ e) in
              omega (arith, h, now));
        }
    left_at c k false f =
        let at : place_at new c k ≡ place_at rows c k = placed c k ∙ cond-false
        (c == r.comm && k == r.k) (one_fewer (place_at rows r.comm r.k)) (place_at rows c k) f
        in
        let isnt : is_for c k (Some r) ≡ false = ⊎_elim
        (λ t. let parts = and_parts (r.comm == c) (r.k == k) t in
        absurd (false≢true (sym f
        ∙ and_from (c == r.comm) (k == r.k)
        (eq-eqb c r.comm (sym (eqb-true r.comm c parts.0)))
        (eq-eqb k r.k (sym (eqb-true r.k k parts.1))))))
        (λ none. none)
        (cases_Bool (is_for c k (Some r))) in
        let now : open_at new c k ≡ open_at rows c k = ap (λ (x : Place). x.waiting) at in
        let holds : settlement_at new c k ≡ settlement_at rows c k = ap
        (λ (x : Place). x.settlement) at in
        record {
          is = isnt;
          counts = omega (arith, now);
          holds = λ h. holds;
          held = λ s e. (let h = counted.held c k s (sym holds ∙ e) in omega (arith, h, now));
        }

    pub counted_left : KeepsCount (with_closed asked p number) n new
    counted_left = record {
      waiting = λ c k.
          let h = left_at c k (c == r.comm && k == r.k) refl in
          let all = for_updated c k asked p (set (asked p) number None) n low in
          let fewer = count_fewer c k (asked p) number r waits in
          let one : cond {A = ℕ} (is_for c k (Some r)) 1 0 ≡ cond {A = ℕ} (c == r.comm && k == r.k)
          1 0 = ap (λ (b : Bool). cond {A = ℕ} b 1 0) h.is in
          let now = h.counts in
          let old = counted.waiting c k in
          omega (arith, all, fewer, one, now, old);
      held = λ c k s e. (left_at c k (c == r.comm && k == r.k) refl).held s e;
    }

    -- what an open request is for stays
    pub kept_open : (told : (q : ℕ) → List (Option Request)) → told ≡ with_closed asked p number →
        ((q : ℕ) → n ≤ q → told q ≡ []) → (q m : ℕ) (f : Request) → opened (told q) m ≡ Some f →
        settlement_at new f.comm f.k ≡ settlement_at rows f.comm f.k
    kept_open told is none q m f e =
        let low : q < n = ⊎_elim
        (λ (low : q < n). low)
        (λ (past : n ≤ q).
        let never : None ≡ Some f = sym (ap (λ l. opened l m) (none q past)) ∙ e in absurd (cc))
        (Rattle.std.proofs.lemmas.Bool.cases_lt q n) in
        let there = open_there f.comm f.k (with_closed asked p number) n q m f low
        (sym (ap (λ (g : ℕ → List (Option Request)). opened (g q) m) is) ∙ e) refl refl in
        let now = counted_left.waiting f.comm f.k in
        (left_at f.comm f.k (f.comm == r.comm && f.k == r.k) refl).holds (omega (arith, there, now))

-- ## under other names

pub counted_as : (asked told : (p : ℕ) → List (Option Request)) (n m : ℕ) (rows : List Places) →
    told ≡ asked → m ≡ n → KeepsCount asked n rows → KeepsCount told m rows
counted_as asked told n m rows is same counted =
    subst (λ (f : ℕ → List (Option Request)). KeepsCount f m rows) (sym is)
    (subst (λ (k : ℕ). KeepsCount asked k rows) (sym same) counted)

-- who is no process has no requests
pub nobody_asks : (asked : List Asked) (n q : ℕ) → length asked ≡ n → n ≤ q →
    requests_of asked q ≡ []
nobody_asks asked n q long past = ap (λ o. option_map_or (λ (a : Asked). a.list) o [])
    (slice_get_past asked q (omega (arith, long, past)))

-- the same places, and the same requests in another table
pub counted_ready :
    (asked told : (p : ℕ) → List (Option Request)) (n m : ℕ) (rows new : List Places) →
    told ≡ asked → m ≡ n → AreSame rows new → KeepsCount asked n rows → KeepsCount told m new
counted_ready asked told n m rows new is long same counted =
    counted_as told told n m new refl long (counted_same asked told n rows new is same counted)

pub settled_same : (rows new : List Places) → AreSame rows new →
    settlement_at new ≡ settlement_at rows
settled_same rows new same = λ i c k. (same c k i).settlement
