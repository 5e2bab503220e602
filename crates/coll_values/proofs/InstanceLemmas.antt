-- The test of an instance tells whole ones.
use Rattle.std.proofs.Common.{◌≡◌, ◌↔◌, IsTrue, ℕ, zero, suc, ◌<◌, List, [], ◌∷◌, length, ◌∙◌, ap}
use Rattle.std.proofs.Common.{sym, refl, arith, Bool, true, false, not, ◌&&◌, Option, Some, None}
use Rattle.std.proofs.Common.{slice_get, nat_eq, ⊎_elim}
use Rattle.std.specs.List.{list_any}
use Rattle.std.proofs.lemmas.Bool.{eqb-true, eq-eqb, and_parts, and_from, not-true, not-false}
use Rattle.std.proofs.lemmas.Bool.{cases_Bool}
use Rattle.std.proofs.lemmas.Option.{slice_get_within}
use Rattle.mpi_elems.specs.declared.elem_type.ElemType.{ElemType}
use Rattle.mpi_elems.specs.Types.{type_number}
use Rattle.mpi_elems.specs.Contents.{Contents, elements}
use Rattle.coll_routes.specs.declared.roll.Roll.{Roll}
use Rattle.coll_routes.specs.Signatures.{elem_type}
use Rattle.coll_routes.specs.Rolls.{given, ranks}
use Rattle.coll_routes.specs.Faults.{is_of_type}
use Rattle.coll_routes.specs.Fit.{IsFit, is_fit}
use Rattle.coll_routes.proofs.CollRoutesLemmas.{any_at, any_none, type_is, fit_decides}
use Rattle.coll_values.specs.declared.full.Full.{Full}
use Rattle.coll_values.specs.Instances.{IsPart, IsWhole, is_part, is_no_part, is_whole}

of_type_open : (o : Option ElemType) (given_type ty : ElemType) → is_of_type o given_type ≡ true →
    o ≡ Some ty → given_type ≡ ty
of_type_open (Some t) given_type ty e f =
    let same : t ≡ ty = cc in
    sym (type_is t given_type (eqb-true (type_number t) (type_number given_type) e)) ∙ same
of_type_open None given_type ty e f = absurd (cc)

of_type_shut : (o : Option ElemType) (given_type : ElemType) →
    ((ty : ElemType) → o ≡ Some ty → given_type ≡ ty) → is_of_type o given_type ≡ true
of_type_shut (Some t) given_type h =
    eq-eqb (type_number t) (type_number given_type) (ap type_number (sym (h t refl)))
of_type_shut None given_type h = refl

open_part : (roll : Roll) (i : ℕ) (p : Contents) → is_part roll i p ≡ true → IsPart roll i p
open_part roll i p e =
    let both = and_parts (nat_eq (length (elements p)) (given roll i))
    (is_of_type (elem_type roll.sig) p.elem_type) e in
    record {
      number = eqb-true (length (elements p)) (given roll i) both.0;
      of_type = λ ty f. of_type_open (elem_type roll.sig) p.elem_type ty both.1 f;
    }

shut_part : (roll : Roll) (i : ℕ) (p : Contents) → IsPart roll i p → is_part roll i p ≡ true
shut_part roll i p h = and_from (nat_eq (length (elements p)) (given roll i))
    (is_of_type (elem_type roll.sig) p.elem_type)
    (eq-eqb (length (elements p)) (given roll i) h.number)
    (of_type_shut (elem_type roll.sig) p.elem_type h.of_type)

passed_by : (roll : Roll) (i : ℕ) (p : Contents) (o : Option Contents) → o ≡ Some p →
    is_no_part roll i o ≡ false → is_part roll i p ≡ true
passed_by roll i p (Some q) e h = let same : q ≡ p = cc in
    not-false (is_part roll i p) (ap (λ z. not (is_part roll i z)) (sym same) ∙ h)
passed_by roll i p None e h = absurd (cc)

pub not_past : (xs : List Contents) (k : ℕ) → slice_get xs k ≡ None → k < length xs → ⊥
not_past [] k e h = omega arith
not_past (x ∷ xs) zero e h = absurd (cc)
not_past (x ∷ xs) (suc k) e h = not_past xs k e (omega arith)

module _ (F : Full Contents) where
  abbrev pub lacks : ℕ → Bool
  lacks i = is_no_part F.roll i (slice_get F.parts i)

  open_whole : is_whole F ≡ true → IsWhole F
  unfolding is_whole
  open_whole e =
      let two = and_parts (is_fit F.roll && nat_eq (length F.parts) F.roll.shape.size)
      (not (list_any lacks (ranks F.roll))) e in
      let one = and_parts (is_fit F.roll) (nat_eq (length F.parts) F.roll.shape.size) two.0 in
      let long : length F.parts ≡ F.roll.shape.size = eqb-true (length F.parts) F.roll.shape.size
      one.1 in
      let none : list_any lacks (ranks F.roll) ≡ false = not-true (list_any lacks (ranks F.roll))
      two.1 in
      record {
        roll = (fit_decides F.roll).0 one.0;
        parts = long;
        each = λ i p there.
            (let low : i < length F.parts = slice_get_within F.parts i p there in
            let good : lacks i ≡ false = ⊎_elim (λ bad. let some = any_at lacks 0 F.roll.shape.size
            i (omega arith) (omega arith) bad in absurd (cc)) (λ fine. fine)
            (cases_Bool (lacks i)) in
            open_part F.roll i p (passed_by F.roll i p (slice_get F.parts i) there good));
      }

  has_it : (i : ℕ) (o : Option Contents) → slice_get F.parts i ≡ o → i < length F.parts →
      IsWhole F → is_no_part F.roll i o ≡ false
  has_it i (Some p) there low whole = ap not (shut_part F.roll i p (whole.each i p there))
  has_it i None there low whole = absurd (not_past F.parts i there low)

  shut_whole : IsWhole F → is_whole F ≡ true
  unfolding is_whole
  shut_whole whole =
      let long = whole.parts in
      and_from (is_fit F.roll && nat_eq (length F.parts) F.roll.shape.size)
      (not (list_any lacks (ranks F.roll)))
      (and_from (is_fit F.roll) (nat_eq (length F.parts) F.roll.shape.size)
      ((fit_decides F.roll).1 whole.roll) (eq-eqb (length F.parts) F.roll.shape.size long))
      (ap not (any_none lacks 0 F.roll.shape.size
      (λ i low. has_it i (slice_get F.parts i) refl (omega arith) whole)))

  pub whole_decides : IsTrue (is_whole F) ↔ IsWhole F
  whole_decides = (open_whole, shut_whole)

pub fit_of : (F : Full Contents) → IsWhole F → IsFit F.roll
fit_of F whole = whole.roll

pub parts_of : (F : Full Contents) → IsWhole F → length F.parts ≡ F.roll.shape.size
parts_of F whole = whole.parts

pub ruleset of_whole = (fit_of, parts_of)
