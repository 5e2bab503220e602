-- What a roll that is fit knows of each rank.
use Rattle.std.proofs.Common.{◌≡◌, ℕ, ◌<◌, List, length, Option, Some, None, Bool, true, false, not}
use Rattle.std.proofs.Common.{◌&&◌, ◌||◌, nat_eq, ap, sym, subst, IsSome, refl, arith, ⊎_elim}
use Rattle.std.specs.Prelude.{IsTrue, ◌↔◌, slice_get, is_some, is_none}
use Rattle.std.specs.List.{list_any}
use Rattle.std.proofs.lemmas.Bool.{eqb-true, eq-eqb, and_parts, and_from, not-true, not-false}
use Rattle.std.proofs.lemmas.Bool.{cases_Bool}
use Rattle.std.proofs.lemmas.Option.{slice_get_within}
use Rattle.wall_labels.proofs.WallLabelsLemmas.{is_none-None}
use Rattle.mpi_cart.specs.Grids.{Topology, volume}
use Rattle.coll_routes.specs.Signatures.{same_signature}
use Rattle.coll_routes.proofs.SignatureLemmas.{same_signatures_are_equal}
use Rattle.coll_routes.proofs.AnyLemmas.{any_at, any_none}
use Rattle.coll_routes.specs.declared.roll.Roll.{Roll}
use Rattle.coll_routes.specs.declared.statement.Stated.{Stated}
use Rattle.coll_routes.specs.Rolls.{stated_in, stated_by, given, given_in, counts_in}
use Rattle.coll_routes.specs.Rolls.{sends, ranks}
use Rattle.coll_routes.specs.Faults.{shape_fault, stated_type, stated_fault}
use Rattle.coll_routes.specs.Fit.{IsFit, IsSizedGrid, IsStatement, is_fit, is_unfit}
use Rattle.coll_routes.specs.Fit.{is_unfit_at, is_statement, is_sized_grid}
use Rattle.coll_routes.specs.Lanes.{sends_by}

pub is_there : (roll : Roll) (i : ℕ) → IsFit roll → i < roll.shape.size → IsSome (stated_by roll i)
is_there roll i fit h = fit.full i h

pub no_fault : (roll : Roll) (i : ℕ) (s : Stated) → IsFit roll → stated_by roll i ≡ Some s →
    shape_fault roll.shape i roll.sig s.own (stated_type roll.sig) s.given ≡ None
no_fault roll i s fit e =
    let statement = fit.sound.statements i s e in
    subst (λ sig. shape_fault roll.shape i sig s.own (stated_type sig) s.given ≡ None) statement.sig
    statement.fault

pub given_is : (roll : Roll) (i : ℕ) (s : Stated) → stated_by roll i ≡ Some s →
    given roll i ≡ s.given
given_is roll i s e = ap given_in e

pub sends_is : (roll : Roll) (i j t : ℕ) (s : Stated) → stated_by roll i ≡ Some s →
    sends roll i j t ≡ sends_by roll.sig roll.shape (counts_in s.own) s.given i j t
unfolding sends_by
sends_is roll i j t s e = rw e refl

pub ruleset of_rank = (is_there)

-- ## the test of a roll

open_sized : (n : ℕ) (o : Option Topology) → is_sized_grid n o ≡ true → IsSizedGrid n o
open_sized n (Some g) e = eqb-true (volume g.dims) n e
open_sized n None e = tt

shut_sized : (n : ℕ) (o : Option Topology) → IsSizedGrid n o → is_sized_grid n o ≡ true
shut_sized n (Some g) e = eq-eqb (volume g.dims) n e
shut_sized n None e = refl

label_there : (barred labelled : Bool) → (not barred || labelled) ≡ true → barred ≡ true →
    labelled ≡ true
label_there true labelled e b = e
label_there false labelled e b = absurd (cc)

label_holds : (barred labelled : Bool) → (barred ≡ true → labelled ≡ true) →
    (not barred || labelled) ≡ true
label_holds true labelled f = f refl
label_holds false labelled f = refl

open_statement : (roll : Roll) (i : ℕ) (s : Stated) → is_statement roll i s ≡ true →
    IsStatement roll i s
open_statement roll i s e =
    let same = same_signature s.sig roll.sig in
    let good = is_none (stated_fault roll.shape i s) in
    let two = and_parts (same && good) (not s.barred || is_some s.label) e in
    let one = and_parts same good two.0 in
    record {
      sig = (same_signatures_are_equal s.sig roll.sig).0 one.0;
      fault = is_none-None (stated_fault roll.shape i s) one.1;
      labelled = label_there s.barred (is_some s.label) two.1;
    }

shut_statement : (roll : Roll) (i : ℕ) (s : Stated) → IsStatement roll i s →
    is_statement roll i s ≡ true
shut_statement roll i s h =
    and_from (same_signature s.sig roll.sig && is_none (stated_fault roll.shape i s))
    (not s.barred || is_some s.label)
    (and_from (same_signature s.sig roll.sig) (is_none (stated_fault roll.shape i s))
    ((same_signatures_are_equal s.sig roll.sig).1 h.sig) (ap is_none h.fault))
    (label_holds s.barred (is_some s.label) h.labelled)

-- what a rank that passes has stated
passed_by : (roll : Roll) (i : ℕ) (o : Option Stated) → is_unfit_at roll i o ≡ false →
    (s : Stated) × (o ≡ Some s) × IsStatement roll i s
passed_by roll i (Some s) e =
    (s, refl, open_statement roll i s (not-false (is_statement roll i s) e))
passed_by roll i None e = absurd (cc)

passes_by : (roll : Roll) (i : ℕ) (o : Option Stated) → IsSome o →
    ((s : Stated) → o ≡ Some s → IsStatement roll i s) → is_unfit_at roll i o ≡ false
passes_by roll i (Some s) there good = ap not (shut_statement roll i s (good s refl))
passes_by roll i None there good = absurd (cc)

-- a row of a rank past the last has no statement
within : (rows : List (Option Stated)) (i : ℕ) (s : Stated) (o : Option (Option Stated)) →
    slice_get rows i ≡ o → stated_in o ≡ Some s → i < length rows
within rows i s (Some row) e f = slice_get_within rows i row e
within rows i s None e f = absurd (cc)

passed : (roll : Roll) → list_any (is_unfit roll) (ranks roll) ≡ false → (i : ℕ) →
    i < roll.shape.size → is_unfit roll i ≡ false
passed roll none i h = ⊎_elim (λ bad. let some = any_at (is_unfit roll) 0 roll.shape.size i
    (omega arith) (omega arith) bad in absurd (cc)) (λ good. good)
    (cases_Bool (is_unfit roll i))

open_fit : (roll : Roll) → is_fit roll ≡ true → IsFit roll
unfolding is_fit
open_fit roll e =
    let members = nat_eq (length roll.members) roll.shape.size in
    let grid = is_sized_grid roll.shape.size roll.shape.grid in
    let rows = nat_eq (length roll.stated) roll.shape.size in
    let three = and_parts (members && grid && rows) (not (list_any (is_unfit roll) (ranks roll))) e
    in
    let two = and_parts (members && grid) rows three.0 in
    let one = and_parts members grid two.0 in
    let long : length roll.stated ≡ roll.shape.size = eqb-true (length roll.stated) roll.shape.size
    two.1 in
    let all : (i : ℕ) → i < roll.shape.size → is_unfit roll i ≡ false = passed roll
    (not-true (list_any (is_unfit roll) (ranks roll)) three.1) in
    record {
      sound = record {
        members = eqb-true (length roll.members) roll.shape.size one.0;
        grid = open_sized roll.shape.size roll.shape.grid one.1;
        rows = long;
        statements = λ i s f. (let inside = within roll.stated i s (slice_get roll.stated i) refl f
            in
            let it = passed_by roll i (stated_by roll i) (all i (omega arith)) in
            let same : it.0 ≡ s = (let g = it.1 in cc) in
            subst (λ z. IsStatement roll i z) same it.2);
      };
      full = λ i h. (let it = passed_by roll i (stated_by roll i) (all i h) in
          subst (λ o. IsSome o) (sym it.1) refl);
    }

shut_fit : (roll : Roll) → IsFit roll → is_fit roll ≡ true
unfolding is_fit
shut_fit roll fit =
    let members = nat_eq (length roll.members) roll.shape.size in
    let grid = is_sized_grid roll.shape.size roll.shape.grid in
    let rows = nat_eq (length roll.stated) roll.shape.size in
    and_from (members && grid && rows) (not (list_any (is_unfit roll) (ranks roll)))
    (and_from (members && grid) rows
    (and_from members grid (eq-eqb (length roll.members) roll.shape.size fit.sound.members)
    (shut_sized roll.shape.size roll.shape.grid fit.sound.grid))
    (eq-eqb (length roll.stated) roll.shape.size fit.sound.rows))
    (ap not (any_none (is_unfit roll) 0 roll.shape.size (λ i h.
    passes_by roll i (stated_by roll i) (fit.full i (omega arith))
    (fit.sound.statements i))))

pub fit_decides : (roll : Roll) → IsTrue (is_fit roll) ↔ IsFit roll
fit_decides roll = (open_fit roll, shut_fit roll)
