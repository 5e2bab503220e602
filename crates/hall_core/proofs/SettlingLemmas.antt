-- Places for instances.
use Rattle.std.proofs.Common.{◌≡◌, ◌≢◌, ℕ, zero, suc, ◌<◌, ◌≤◌, ◌&&◌, List, [], ◌∷◌, ◌++◌, length, set}
use Rattle.std.proofs.Common.{refl, sym, ap, ◌∙◌, ⊎_elim, eqb-true, eq-eqb, arith}
use Rattle.std.specs.Prelude.{◌==◌}
use Rattle.std.proofs.lemmas.Bool.{cases_Bool, cond-true, cond-false, false≢true, and_from, and_left}
use Rattle.std.proofs.lemmas.Bool.{and_right}
use Rattle.std.proofs.lemmas.List.{get_or-set_same, get_or-set_other, get_or_past}
use Rattle.hall_core.specs.declared.settled.Place.{Place}
use Rattle.hall_core.specs.Settling.{Places, nothing, no_places, place_in, place_at, places_of}
use Rattle.hall_core.specs.Settling.{IsPlaced, open_at}
use Rattle.hall_core.specs.Windows.{KeepAlike}

-- an empty row more
pub row_pushed : (rows : List Places) (row : Places) (c k : ℕ) → row.list ≡ [] →
    place_at (rows ++ row ∷ []) c k ≡ place_at rows c k
row_pushed [] row zero k empty = ap (λ list. place_in list k) empty
row_pushed [] row (suc c) k empty = refl
row_pushed (first ∷ rows) row zero k empty = refl
row_pushed (first ∷ rows) row (suc c) k empty = row_pushed rows row c k empty

-- and all are kept that were
pub row_kept : (old : Places) (rows : List Places) (row : Places) (c : ℕ) →
    KeepAlike old (places_of rows c) → row.numbers ≡ [] → row.list ≡ [] →
    KeepAlike old (places_of (rows ++ row ∷ []) c)
row_kept old [] row zero kept none empty = record {
  numbers = none ∙ kept.numbers;
  list = empty ∙ kept.list;
}
row_kept old [] row (suc c) kept none empty = kept
row_kept old (first ∷ rows) row zero kept none empty = kept
row_kept old (first ∷ rows) row (suc c) kept none empty = row_kept old rows row c kept none empty

-- ## another row

pub row_set : (rows : List Places) (c : ℕ) (row : Places) → c < length rows →
    places_of (set rows c row) c ≡ row
row_set rows c row low = get_or-set_same rows c row no_places low

-- what counts a request has a row
pub row_there : (rows : List Places) (c k : ℕ) → 0 < open_at rows c k → c < length rows
row_there rows c k some = ⊎_elim
    (λ (low : c < length rows). low)
    (λ (past : length rows ≤ c).
    let none : open_at rows c k ≡ 0 = ap (λ (r : Places). (place_in r.list k).waiting)
    (get_or_past rows c no_places past) in
    absurd (omega (arith, some, none)))
    (Rattle.std.proofs.lemmas.Bool.cases_lt c (length rows))

-- one place of a row is another
pub placed_in : (rows : List Places) (c k : ℕ) (row : Places) (place : Place) → c < length rows →
    k < length (places_of rows c).list → row.list ≡ set (places_of rows c).list k place →
    IsPlaced rows (set rows c row) c k place
placed_in rows c k row place low within list d j = ⊎_elim
    (λ yes.
    let here : d ≡ c = eqb-true d c yes in
    let old = (places_of rows c).list in
    (ap (λ n. place_at (set rows c row) n j) here
    ∙ (ap (λ (r : Places). place_in r.list j) (row_set rows c row low)
    ∙ ap (λ l. place_in l j) list))
    ∙ ⊎_elim
    (λ same.
    let at : j ≡ k = eqb-true j k same in
    (ap (λ n. place_in (set old k place) n) at ∙ get_or-set_same old k place nothing within)
    ∙ sym (cond-true (d == c && j == k) place (place_at rows d j)
    (and_from (d == c) (j == k) yes same)))
    (λ apart.
    let away : j ≢ k = (λ e. false≢true (sym apart ∙ eq-eqb j k e)) in
    get_or-set_other old k j place nothing away
    ∙ (ap (λ n. place_at rows n j) (sym here)
    ∙ sym (cond-false (d == c && j == k) place (place_at rows d j)
    (and_right (d == c) (j == k) apart))))
    (cases_Bool (j == k)))
    (λ no.
    let away : d ≢ c = (λ e. false≢true (sym no ∙ eq-eqb d c e)) in
    ap (λ (r : Places). place_in r.list j) (get_or-set_other rows c d row no_places away)
    ∙ sym (cond-false (d == c && j == k) place (place_at rows d j)
    (and_left (d == c) (j == k) no)))
    (cases_Bool (d == c))
