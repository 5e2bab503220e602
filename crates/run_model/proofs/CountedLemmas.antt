-- Posts that count, one by one.
use Rattle.std.proofs.Common.{◌≡◌, ℕ, ◌<◌, List, [], ◌∷◌, ◌++◌, length, refl, sym, ap, ◌∙◌, subst}
use Rattle.std.proofs.Common.{⊎_elim, Bool, true, false, Option, Some, None, slice_get, option_map}
use Rattle.std.proofs.Common.{nat_lt, ltb-true, append_assoc, cond}
use Rattle.std.proofs.lemmas.Bool.{cases_Bool, cond-true, cond-false}
use Rattle.wall_policy.specs.Policy.{ChineseWall}
use Rattle.mpi_group.specs.Groups.{rank_in}
use Rattle.mpi_elems.specs.declared.elem_type.ElemType.{ElemType}
use Rattle.coll_routes.specs.declared.signature.Signature.{Signature}
use Rattle.coll_routes.specs.declared.statement.Own.{Own}
use Rattle.coll_routes.specs.declared.roll.Shape.{Shape}
use Rattle.coll_routes.specs.declared.fault.ShapeFault.{ShapeFault}
use Rattle.coll_routes.specs.declared.fault.ShapeFault.TheVariants.{NoTopology, BadRoot, BadOp}
use Rattle.coll_routes.specs.declared.fault.ShapeFault.TheVariants.{BadCount, BadColour}
use Rattle.coll_routes.specs.declared.fault.ShapeFault.TheVariants.{NotSubgroup, BadDims}
use Rattle.coll_routes.specs.Faults.{shape_fault, stated_type, first_that, no_topology, bad_root}
use Rattle.coll_routes.specs.Faults.{bad_op, bad_count, bad_colour, not_subgroup, bad_dims}
use Rattle.run_model.specs.declared.refusal.Refusal.{Refusal}
use Rattle.run_model.specs.declared.refusal.Refusal.TheVariants.{NoSuchProcess, Mismatch}
use Rattle.run_model.specs.Comms.{Comm, processes, shape_of, added}
use Rattle.run_model.specs.Posts.{Post, posts_on, kth_posts, filled, comms}
use Rattle.run_model.specs.Refusals.{refused_for, or_else, mismatches, fault_as, fault_on, fault}
use Rattle.run_model.specs.Books.{IsCounted, AreCounted}
use Rattle.run_model.specs.Holding.{IsMoment}
use Rattle.run_model.proofs.CommLemmas.{at_prefix}

-- what a post without a refusal is
pub record IsAccepted (wall : ChineseWall) (past : List Post) (p c : ℕ) (sig : Signature)
    (own : Own) (ty : ElemType) (given : ℕ) : Type 0 where
  pub comm : Comm
  pub rank : ℕ
  pub process : p < processes wall
  pub at : slice_get (comms wall past) c ≡ Some comm
  pub is_member : rank_in comm.members p ≡ Some rank
  pub fits : shape_fault (shape_of comm) rank sig own ty given ≡ None
  pub agrees : mismatches sig (kth_posts comm c (length (posts_on c p past)) past) ≡ false

or_else_none : (o other : Option Refusal) → or_else o other ≡ None → (o ≡ None) × (other ≡ None)
or_else_none None other e = (refl, e)
or_else_none (Some r) other e = absurd (cc)

pub mapped_none : (o : Option ShapeFault) → option_map refused_for o ≡ None → o ≡ None
mapped_none None e = refl
mapped_none (Some f) e = absurd (cc)

no_mismatch : (b : Bool) → cond b (Some Mismatch) None ≡ None → b ≡ false
no_mismatch true e = absurd (cc)
no_mismatch false e = refl

module _ (wall : ChineseWall) (past : List Post) (p c : ℕ) (sig : Signature) (own : Own)
    (ty : ElemType) (given : ℕ) where
  accepted_by : p < processes wall → (comm : Comm) → slice_get (comms wall past) c ≡ Some comm →
      (o : Option ℕ) → rank_in comm.members p ≡ o →
      fault_as comm o sig own ty given (kth_posts comm c (length (posts_on c p past)) past) ≡ None →
      IsAccepted wall past p c sig own ty given
  accepted_by low comm at None is e = absurd (cc)
  accepted_by low comm at (Some rank) is e =
      let parts = or_else_none
      (option_map refused_for (shape_fault (shape_of comm) rank sig own ty given)) _ e in
      record {
        comm = comm;
        rank = rank;
        process = low;
        at = at;
        is_member = is;
        fits = mapped_none _ parts.0;
        agrees =
            no_mismatch (mismatches sig (kth_posts comm c (length (posts_on c p past)) past))
            parts.1;
      }

  accepted_on : p < processes wall → (o : Option Comm) → slice_get (comms wall past) c ≡ o →
      fault_on past p c o sig own ty given ≡ None → IsAccepted wall past p c sig own ty given
  accepted_on low None at e = absurd (cc)
  accepted_on low (Some comm) at e = accepted_by low comm at (rank_in comm.members p) refl e

  pub accepted : fault wall past p c sig own ty given ≡ None →
      IsAccepted wall past p c sig own ty given
  unfolding fault
  accepted e = ⊎_elim
      (λ t. accepted_on (ltb-true p (processes wall) t) (slice_get (comms wall past) c) refl
      (sym (cond-true (nat_lt p (processes wall))
      (fault_on past p c (slice_get (comms wall past) c) sig own ty given)
      (Some NoSuchProcess) t) ∙ e))
      (λ f. let some = sym (cond-false (nat_lt p (processes wall))
      (fault_on past p c (slice_get (comms wall past) c) sig own ty given)
      (Some NoSuchProcess) f) ∙ e in absurd (cc))
      (cases_Bool (nat_lt p (processes wall)))

abbrev pub IsAcceptedPost : ChineseWall → Post → List Post → Type 0
IsAcceptedPost wall x past = IsAccepted wall past x.process x.comm x.stated.sig x.stated.own
    (stated_type x.stated.sig) x.stated.given

pub taken_accepted : (wall : ChineseWall) (x : Post) (past : List Post) → IsCounted wall x past →
    IsAcceptedPost wall x past
taken_accepted wall x past taken = accepted wall past x.process x.comm x.stated.sig x.stated.own
    (stated_type x.stated.sig) x.stated.given taken.accepted

---- The tests of a post with no fault fail.

next_test : (test : Bool) (fault : ShapeFault) (rest : List (Bool × ShapeFault)) →
    first_that ((test, fault) ∷ rest) ≡ None → (test ≡ false) × (first_that rest ≡ None)
next_test true fault rest e = absurd (cc)
next_test false fault rest e = (refl, e)

pub record HasNoFault (shape : Shape) (rank : ℕ) (sig : Signature) (own : Own) (ty : ElemType)
    (given : ℕ) : Type 0 where
  pub topology : no_topology shape sig ≡ false
  pub root : bad_root shape sig ≡ false
  pub op : bad_op sig ≡ false
  pub count : bad_count shape rank sig own ty given ≡ false
  pub colour : bad_colour own ≡ false
  pub subgroup : not_subgroup shape sig ≡ false
  pub dims : bad_dims shape sig ≡ false

pub no_fault_has :
    (shape : Shape) (rank : ℕ) (sig : Signature) (own : Own) (ty : ElemType) (given : ℕ) →
    shape_fault shape rank sig own ty given ≡ None → HasNoFault shape rank sig own ty given
unfolding shape_fault
no_fault_has shape rank sig own ty given e =
    let a = next_test (no_topology shape sig) NoTopology ((bad_root shape sig, BadRoot)
    ∷ (bad_op sig, BadOp) ∷ (bad_count shape rank sig own ty given, BadCount)
    ∷ (bad_colour own, BadColour) ∷ (not_subgroup shape sig, NotSubgroup)
    ∷ (bad_dims shape sig, BadDims) ∷ []) e in
    let b = next_test (bad_root shape sig) BadRoot ((bad_op sig, BadOp)
    ∷ (bad_count shape rank sig own ty given, BadCount) ∷ (bad_colour own, BadColour)
    ∷ (not_subgroup shape sig, NotSubgroup) ∷ (bad_dims shape sig, BadDims) ∷ []) a.1 in
    let c = next_test (bad_op sig) BadOp ((bad_count shape rank sig own ty given, BadCount)
    ∷ (bad_colour own, BadColour) ∷ (not_subgroup shape sig, NotSubgroup)
    ∷ (bad_dims shape sig, BadDims) ∷ []) b.1 in
    let d = next_test (bad_count shape rank sig own ty given) BadCount
    ((bad_colour own, BadColour) ∷ (not_subgroup shape sig, NotSubgroup)
    ∷ (bad_dims shape sig, BadDims) ∷ []) c.1 in
    let f = next_test (bad_colour own) BadColour
    ((not_subgroup shape sig, NotSubgroup) ∷ (bad_dims shape sig, BadDims) ∷ []) d.1 in
    let g = next_test (not_subgroup shape sig) NotSubgroup ((bad_dims shape sig, BadDims) ∷ []) f.1
    in
    let h = next_test (bad_dims shape sig) BadDims ([]) g.1 in
    record {
      topology = a.0;
      root = b.0;
      op = c.0;
      count = d.0;
      colour = f.0;
      subgroup = g.0;
      dims = h.0;
    }

---- Older posts.

pub taken_older : (wall : ChineseWall) (later past : List Post) → AreCounted wall (later ++ past) →
    AreCounted wall past
taken_older wall [] past h = h
taken_older wall (x ∷ later) past h = taken_older wall later past h.0

pub taken_at : (wall : ChineseWall) (past : List Post) (y : Post) (then : List Post) →
    IsMoment past y then → AreCounted wall past → AreCounted wall (y ∷ then)
taken_at wall past y then m h =
    taken_older wall m.0 (y ∷ then) (subst (AreCounted wall) (sym m.1) h)

pub comms_stay : (wall : ChineseWall) (later past : List Post) →
    (new : List Comm) × (comms wall (later ++ past) ≡ comms wall past ++ new)
comms_stay wall [] past = ([], sym (Rattle.std.proofs.lemmas.List.append-nil (comms wall past)))
comms_stay wall (x ∷ later) past =
    let rest = comms_stay wall later past in
    let more = added (length (comms wall (later ++ past)))
    (filled (comms wall (later ++ past)) x (later ++ past)) in (
      rest.0 ++ more,
      ap (λ table. table ++ more) rest.1 ∙ append_assoc (comms wall past) rest.0 more,
    )

pub comm_stays : (wall : ChineseWall) (later past : List Post) (c : ℕ) (comm : Comm) →
    slice_get (comms wall past) c ≡ Some comm → slice_get (comms wall (later ++ past)) c ≡ Some comm
comm_stays wall later past c comm at =
    let s = comms_stay wall later past in
    ap (λ table. slice_get table c) s.1 ∙ at_prefix (comms wall past) s.0 c comm at

pub comm_later : (wall : ChineseWall) (past : List Post) (y : Post) (then : List Post) (c : ℕ)
    (comm : Comm) → IsMoment past y then → slice_get (comms wall then) c ≡ Some comm →
    slice_get (comms wall past) c ≡ Some comm
comm_later wall past y then c comm m at = ap (λ ps. slice_get (comms wall ps) c) (sym m.1)
    ∙ comm_stays wall m.0 (y ∷ then) c comm (comm_stays wall (y ∷ []) then c comm at)
