-- One slot, and what a post makes of it.
use Rattle.std.proofs.Common.{◌≡◌, ◌≢◌, ℕ, zero, suc, ◌+◌, ◌<◌, ◌≤◌, true, false, List, [], ◌∷◌}
use Rattle.std.proofs.Common.{length, set, replicate, Option, Some, None, slice_get, refl}
use Rattle.std.proofs.Common.{sym, ap, ◌∙◌, subst, arith, eqb, count_by, is_some, ⊎_elim}
use Rattle.std.proofs.Common.{◌⊎◌, inl, inr, length-set, Bool}
use Rattle.std.specs.Prelude.{if◌then◌else◌}
use Rattle.std.proofs.lemmas.Bool.{cases_Bool}
use Rattle.std.proofs.lemmas.Bool.Decides.{nat_tests}
use Rattle.std.proofs.lemmas.List.{get_or-set_other, length-replicate}
use Rattle.coll_routes.specs.declared.signature.Signature.{Signature}
use Rattle.coll_routes.specs.declared.statement.Stated.{Stated}
use Rattle.coll_routes.specs.declared.roll.Roll.{Roll}
use Rattle.coll_routes.specs.Signatures.{same_signature}
use Rattle.coll_routes.specs.Rolls.{stated_in}
use Rattle.coll_routes.proofs.CollRoutesLemmas.{same_signatures_are_equal}
use Rattle.coll_pending.specs.declared.arrival.Next.TheVariants.{Joins, Fills, Mismatch}
use Rattle.coll_pending.specs.declared.slot.Slot.{Slot}
use Rattle.coll_routes.specs.Rolls.{is_full}
use Rattle.coll_pending.specs.Instances.{Communicator, is_full_but_for, next_by, IsAgreed}
use Rattle.coll_pending.specs.Queues.{IsSlot, IsFree, IsVacant, posted, lacks_one, has_posted}
use Rattle.coll_pending.specs.Queues.{marks}
use Rattle.coll_pending.proofs.RowLemmas.{marks_none, marks_set, full_marks}
use Rattle.coll_pending.proofs.RowLemmas.{count_none, count_set, full_set, full_but, not_full_but}
use Rattle.coll_pending.proofs.RowLemmas.{posted_none, posted_here}

-- ## what is told of it

pub lacks_told : {X : Type 0} (o : Slot X) (rank : ℕ) → IsSlot o → rank < length o.roll.members →
    has_posted o.roll.stated rank ≡ false → is_full_but_for o.roll.stated rank ≡ lacks_one o
lacks_told o rank is lt free =
    full_but o.roll.stated rank (omega (arith, is.rows, lt)) free
    ∙ (λ i. eqb (sym is.counted i + 1) (is.rows i))

pub past_told : {X : Type 0} (o : Slot X) (rank : ℕ) → IsSlot o → length o.roll.members ≤ rank →
    is_full_but_for o.roll.stated rank ≡ false
past_told o rank is past =
    not_full_but o.roll.stated rank (omega (arith, is.rows, past))
    (omega (arith, is.rows, is.counted, is.missing))

-- ## a vacant one

pub stated_none : (n i : ℕ) (t : Stated) → stated_in (slice_get (replicate n None) i) ≡ Some t → ⊥
stated_none zero i t e = absurd (cc)
stated_none (suc n) zero t e = absurd (cc)
stated_none (suc n) (suc i) t e = stated_none n i t e

pub vacant_is_slot : {X : Type 0} (comm : Communicator) (o : Slot X) → IsVacant comm o →
    0 < length comm.members → IsSlot o
vacant_is_slot {X} comm o is some = record {
  rows = ap length is.stated
      ∙ (length-replicate {A = Option Stated} (length comm.members) None
      ∙ sym (ap length is.members));
  marked = ap (λ (rows : List (Option X)). marks rows) is.parts
      ∙ (marks_none X Stated (length comm.members)
      ∙ sym (ap (λ (rows : List (Option Stated)). marks rows) is.stated));
  counted =
      is.arrived
      ∙ sym (ap (λ (rows : List (Option Stated)). count_by is_some rows) is.stated
      ∙ count_none Stated (length comm.members));
  missing = omega (arith, is.arrived, ap length is.members, some);
  agreed =
      λ i t e. absurd
      (stated_none (length comm.members) i t
      (subst (λ rows. stated_in (slice_get rows i) ≡ Some t) is.stated e));
}

pub vacant_is_free : {X : Type 0} (comm : Communicator) (o : Slot X) (r : ℕ) → IsVacant comm o →
    has_posted o.roll.stated r ≡ false
vacant_is_free comm o r is = ap (λ (rows : List (Option Stated)). has_posted rows r) is.stated
    ∙ posted_none Stated (length comm.members) r

-- ## after a post

stated_set : (rows : List (Option Stated)) (r i : ℕ) (s t : Stated) →
    stated_in (slice_get (set rows r (Some s)) i) ≡ Some t →
    (s ≡ t) ⊎ (stated_in (slice_get rows i) ≡ Some t)
stated_set [] r i s t e = inr e
stated_set (row ∷ rows) zero zero s t e = inl (cc)
stated_set (row ∷ rows) zero (suc i) s t e = inr e
stated_set (row ∷ rows) (suc r) zero s t e = inr e
stated_set (row ∷ rows) (suc r) (suc i) s t e = stated_set rows r i s t e

module _ {X : Type 0} (o : Slot X) (rank : ℕ) (s : Stated) (x : X) (is : IsFree rank o) where
  row : rank < length o.roll.stated
  row = omega (arith, is.slot.rows, is.member)

  pub full_told : is_full (posted rank s x o).roll.stated ≡ lacks_one o
  full_told = full_set o.roll.stated rank s row is.free
      ∙ (λ i. eqb (sym is.slot.counted i + 1) (is.slot.rows i))

  marked_still : marks (posted rank s x o).parts ≡ marks (posted rank s x o).roll.stated
  marked_still = marks_set o.parts o.roll.stated rank x s is.slot.marked

  pub full_parts : lacks_one o ≡ true → is_full (posted rank s x o).parts ≡ true
  full_parts last =
      full_marks (posted rank s x o).parts (posted rank s x o).roll.stated marked_still
      ∙ (full_told ∙ last)

  pub agreed_still : s.sig ≡ o.roll.sig → IsAgreed (posted rank s x o).roll
  agreed_still same = λ i t e. ⊎_elim
      (λ (own : s ≡ t). ap (λ (z : Stated). z.sig) (sym own) ∙ same)
      (λ (old : stated_in (slice_get o.roll.stated i) ≡ Some t). is.slot.agreed i t old)
      (stated_set o.roll.stated rank i s t e)

  pub slot_still : s.sig ≡ o.roll.sig → lacks_one o ≡ false → IsSlot (posted rank s x o)
  slot_still same more = record {
    rows = length-set o.roll.stated rank (Some s) ∙ is.slot.rows;
    marked = marked_still;
    counted = ap (λ n. n + 1) is.slot.counted ∙ sym (count_set o.roll.stated rank s row is.free);
    missing =
        let differs : o.arrived + 1 ≢ length o.roll.members = grind (arith, nat_tests) in
        omega (arith, differs, is.slot.missing);
    agreed = agreed_still same;
  }

  pub posted_now : has_posted (posted rank s x o).roll.stated rank ≡ true
  posted_now = posted_here o.roll.stated rank s row

  pub posted_else : (r : ℕ) → r ≢ rank →
      has_posted (posted rank s x o).roll.stated r ≡ has_posted o.roll.stated r
  posted_else r other =
      ap (λ v. is_some v) (get_or-set_other o.roll.stated rank r (Some s) None other)

-- who does not mismatch has the signature of the roll
pub same_sig : (roll : Roll) (rank : ℕ) (sig : Signature) →
    next_by (Some roll) rank sig ≢ Mismatch → sig ≡ roll.sig
same_sig roll rank sig agrees = ⊎_elim
    (λ (same : same_signature roll.sig sig ≡ true). sym
    ((same_signatures_are_equal roll.sig sig).0 same))
    (λ (other : same_signature roll.sig sig ≡ false). absurd (agrees (rw other refl)))
    (cases_Bool (same_signature roll.sig sig))

-- who joins leaves another row empty
joins_by : (same full : Bool) →
    (if same then (if full then Fills else Joins) else Mismatch) ≡ Joins → full ≡ false
joins_by true true e = absurd (cc)
joins_by true false e = refl
joins_by false full e = absurd (cc)

pub joins_but : (roll : Roll) (rank : ℕ) (sig : Signature) →
    next_by (Some roll) rank sig ≡ Joins → is_full_but_for roll.stated rank ≡ false
joins_but roll rank sig joins =
    joins_by (same_signature roll.sig sig) (is_full_but_for roll.stated rank) joins
