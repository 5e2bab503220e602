-- A shift and the shift back.
use Rattle.std.proofs.Common.{◌≡◌, ◌≢◌, ℕ, ◌+◌, ◌-◌, ◌*◌, ◌/◌, ◌%◌, ◌<◌, length, set, get_or, ◌∙◌}
use Rattle.std.proofs.Common.{ap, sym, refl, subst, arith, Bool, true, false, cond, not, Option}
use Rattle.std.proofs.Common.{Some, None, slice_get, option_and_then, nat_eq, nat_lt}
use Rattle.std.specs.Prelude.{ℤ, pos, negsuc, ◌+ℤ◌, ◌≤ℤ◌, ◌<ℤ◌, neg_ℤ, unsigned_abs}
use Rattle.std.specs.Int.{int_rem_euclid}
use Rattle.std.proofs.lemmas.Int.{ints, int_rem_euclid_is}
use Rattle.std.proofs.lemmas.Nat.{mod-mul-add, mod_below, div-add-mod'}
use Rattle.std.proofs.lemmas.Option.{slice_get_within, get_or_from_slice_get, slice_get-get_or}
use Rattle.std.proofs.lemmas.List.{set-set, set-get_or, get_or-set_same, length-set}
use Rattle.mpi_cart.specs.Grids.{Topology, volume, coords, rank_at, coordinate, further, shifted}
use Rattle.mpi_cart.specs.Grids.{neighbour}
use Rattle.mpi_cart.specs.Laws.{ShiftsLeadBack, NeighboursAreOpposite}
use Rattle.mpi_cart.proofs.CellLemmas.{in_range_at}
use Rattle.mpi_cart.proofs.GridLemmas.{stands_at, rank_at-coords, coords_in_range}

-- a whole number names m in a dimension of size n: it is some turns away, none where the dimension
-- is not periodic
pub record Names (n : ℕ) (periodic : Bool) (z : ℤ) (m : ℕ) : Type 0 where
  pub below : m < n
  pub turns : ℕ
  pub back : ℕ
  pub is : z +ℤ pos (turns * n) ≡ pos (m + back * n)
  pub no_turns : periodic ≡ false → (turns ≡ 0) × (back ≡ 0)

named_periodic : (n : ℕ) (z : ℤ) → 0 < n → Names n true z (unsigned_abs (int_rem_euclid z (pos n)))
named_periodic n (pos x) h =
    let split = div-add-mod' x n in
    record {
      below = mod_below x n h;
      turns = 0;
      back = x / n;
      is = ap pos (let same : x + 0 * n ≡ x % n + x / n * n = omega arith in same);
      no_turns = λ e. absurd (cc);
    }
named_periodic n (negsuc x) h =
    let split = div-add-mod' x n in
    let low = mod_below x n h in
    record {
      below = omega arith;
      turns = x / n + 1;
      back = 0;
      is = (let rows : (x / n + 1) * n ≡ x / n * n + n = omega arith in omega (arith, ints));
      no_turns = λ e. absurd (cc);
    }

named_inside : (n x : ℕ) → x < n → Names n false (pos x) x
named_inside n x h = record {
  below = h;
  turns = 0;
  back = 0;
  is = refl;
  no_turns = λ _. (refl, refl);
}

pub coordinate_names : (n : ℕ) (periodic : Bool) (z : ℤ) (m : ℕ) → 0 < n →
    coordinate n periodic z ≡ Some m → Names n periodic z m
coordinate_names n true z m h e = (let same : unsigned_abs (int_rem_euclid z (pos n)) ≡ m = cc in
    subst (Names n true z) same (named_periodic n z h))
coordinate_names n false (negsuc x) m h e = absurd (cc)
coordinate_names n false (pos x) m h e = at (nat_lt x n) refl e
  where
    at : (b : Bool) → nat_lt x n ≡ b → cond b (Some x) None ≡ Some m → Names n false (pos x) m
    at true is f = (let same : x ≡ m = cc in
        subst (Names n false (pos x)) same (named_inside n x (grind arith)))
    at false is f = absurd (cc)

pub names_coordinate : (n : ℕ) (periodic : Bool) (z : ℤ) (m : ℕ) → Names n periodic z m →
    coordinate n periodic z ≡ Some m
names_coordinate n true z m w =
    ap (λ y. Some (unsigned_abs y)) (int_rem_euclid_is z (pos n) n w.turns (m + w.back * n)
    (let some : 0 < n = (let b = w.below in omega arith) in some) refl w.is)
    ∙ ap Some (ap (λ k. k % n)
    (let turned : m + w.back * n ≡ w.back * n + m = omega arith in turned)
    ∙ mod-mul-add w.back n m w.below)
names_coordinate n false z m w = ap (coordinate n false) is ∙ inside
  where
    is : z ≡ pos m
    is = (let none = w.no_turns refl in
        let there = w.is in
        let k : w.turns * n ≡ 0 * n = ap (λ t. t * n) none.0 in
        let l : w.back * n ≡ 0 * n = ap (λ t. t * n) none.1 in omega (arith, ints))

    inside : coordinate n false (pos m) ≡ Some m
    inside = (let b = w.below in
        let low : nat_lt m n ≡ true = grind arith in ap (λ t. cond t (Some m) None) low)

-- a number inside names itself
pub coordinate_inside : (n : ℕ) (periodic : Bool) (z : ℤ) → pos 0 ≤ℤ z → z <ℤ pos n →
    coordinate n periodic z ≡ Some (unsigned_abs z)
coordinate_inside n periodic (pos x) low high = names_coordinate n periodic (pos x) x
    (record {
      below = (omega (arith, ints));
      turns = 0;
      back = 0;
      is = refl;
      no_turns = λ _. (refl, refl);
    })
coordinate_inside n periodic (negsuc x) low high = absurd (omega (arith, ints))

-- as far the other way
pub names_back : (n : ℕ) (periodic : Bool) (z : ℤ) (c m : ℕ) → c < n →
    Names n periodic (pos c +ℤ z) m → Names n periodic (pos m +ℤ neg_ℤ z) c
names_back n periodic z c m h w = record {
  below = h;
  turns = w.back;
  back = w.turns;
  is = (let is = w.is in omega (arith, ints));
  no_turns = λ e. (let none = w.no_turns e in (none.1, none.0));
}

module _ (g : Topology) (r d q : ℕ) (z : ℤ) (h : r < volume g.dims) where
  shifted_is : (n : ℕ) (periodic : Bool) (c : ℕ) → slice_get g.dims d ≡ Some n →
      slice_get g.periods d ≡ Some periodic → slice_get (coords g r) d ≡ Some c → (m : ℕ) →
      coordinate n periodic (pos c +ℤ z) ≡ Some m → rank_at g (set (coords g r) d m) ≡ Some q →
      (q < volume g.dims) × (shifted g q d (neg_ℤ z) ≡ Some r)
  unfolding shifted
  shifted_is n periodic c at_dims at_periods at_coords m names e =
      let w = stands_at g q (set (coords g r) d m) e in
      let within : d < length (coords g r) = slice_get_within (coords g r) d c at_coords in
      let size : get_or g.dims d 0 ≡ n = get_or_from_slice_get g.dims d n 0 at_dims in
      let low : c < n = (let low = in_range_at g.dims (coords g r) d c (coords_in_range g r h)
      at_coords in omega arith) in
      let there : slice_get (coords g q) d ≡ Some m = ap (λ l. slice_get l d) w.are ∙
      (slice_get-get_or (set (coords g r) d m) d 0
      (let long = length-set (coords g r) d m in omega arith)
      ∙ ap Some (get_or-set_same (coords g r) d m 0 within)) in
      let returns = names_coordinate n periodic (pos m +ℤ neg_ℤ z) c (names_back n periodic z c m
      low (coordinate_names n periodic (pos c +ℤ z) m (omega arith) names)) in
      let restored : set (coords g q) d c ≡ coords g r = ap (λ l. set l d c) w.are ∙
      (set-set (coords g r) d m c
      ∙ (ap (set (coords g r) d)
      (sym (get_or_from_slice_get (coords g r) d c 0 at_coords))
      ∙ set-get_or (coords g r) d 0)) in (
        w.below,
        (λ i. option_and_then (λ c. rank_at g (set (coords g q) d c))
            (further (at_dims i) (at_periods i) (there i) (neg_ℤ z)))
            ∙ (ap (option_and_then (λ c. rank_at g (set (coords g q) d c))) returns
            ∙ (ap (rank_at g) restored ∙ rank_at-coords g r h)),
      )

  lookups : (on : Option ℕ) (op : Option Bool) (oc : Option ℕ) → slice_get g.dims d ≡ on →
      slice_get g.periods d ≡ op → slice_get (coords g r) d ≡ oc → (om : Option ℕ) →
      further on op oc z ≡ om →
      option_and_then (λ m. rank_at g (set (coords g r) d m)) om ≡ Some q →
      (q < volume g.dims) × (shifted g q d (neg_ℤ z) ≡ Some r)
  lookups on op oc at_dims at_periods at_coords None is e = absurd (cc)
  lookups None op oc at_dims at_periods at_coords (Some m) is e = absurd (cc)
  lookups (Some n) None oc at_dims at_periods at_coords (Some m) is e = absurd (cc)
  lookups (Some n) (Some periodic) None at_dims at_periods at_coords (Some m) is e = absurd (cc)
  lookups (Some n) (Some periodic) (Some c) at_dims at_periods at_coords (Some m) is e =
      shifted_is n periodic c at_dims at_periods at_coords m is e

pub shifts_lead_back : ShiftsLeadBack
unfolding shifted
shifts_lead_back g r d q z h e = lookups g r d q z h (slice_get g.dims d) (slice_get g.periods d)
    (slice_get (coords g r) d) refl refl refl
    (further (slice_get g.dims d) (slice_get g.periods d) (slice_get (coords g r) d) z) refl e

pub neighbours_are_opposite : NeighboursAreOpposite
unfolding neighbour
neighbours_are_opposite g r slot q h e = at (nat_eq (slot % 2) 0) refl e
  where
    there : Bool → ℤ
    there b = cond b (negsuc 0) (pos 1)

    other : (b : Bool) → nat_eq (slot % 2) 0 ≡ b → (cond b (slot + 1) (slot - 1) / 2 ≡ slot / 2)
        × (nat_eq (cond b (slot + 1) (slot - 1) % 2) 0 ≡ not b)
    other true is = (let even : slot % 2 ≡ 0 = grind arith in
        (omega arith, (let odd : (slot + 1) % 2 ≡ 1 = omega arith in ap (λ k. nat_eq k 0) odd)))
    other false is = (let odd : slot % 2 ≡ 1 = (let ne : slot % 2 ≢ 0 = grind arith in omega arith)
        in
        (omega arith, (let even : (slot - 1) % 2 ≡ 0 = omega arith in ap (λ k. nat_eq k 0) even)))

    turned : (b : Bool) → neg_ℤ (there b) ≡ there (not b)
    turned true = refl
    turned false = refl

    at : (b : Bool) → nat_eq (slot % 2) 0 ≡ b → shifted g r (slot / 2) (there b) ≡ Some q →
        (q < volume g.dims)
        × (shifted g q (cond b (slot + 1) (slot - 1) / 2)
        (there (nat_eq (cond b (slot + 1) (slot - 1) % 2) 0)) ≡ Some r)
    at b is f =
        let w = shifts_lead_back g r (slot / 2) q (there b) h f in
        let o = other b is in (
          w.0,
          (λ i. shifted g q (o.0 i) (there (o.1 i)))
              ∙ (ap (shifted g q (slot / 2)) (sym (turned b)) ∙ w.1),
        )
