-- The steps of an arrival, as callers see them.
use Rattle.std.proofs.Common.{◌≡◌, ◌≢◌, ℕ, ◌+◌, ◌<◌, ◌≤◌, ◌^◌, Bool, true, false, length}
use Rattle.std.proofs.Common.{Option, Some, None, IsSome, is_some, refl, sym, ap, ◌∙◌, subst, arith}
use Rattle.std.proofs.Common.{inl, inr, Result, Ok, Err, nat_le}
use Rattle.std.specs.Prelude.{IfOk, OnOk, OnErr, IfSome, if◌then◌else◌}
use Rattle.std.proofs.lemmas.Bool.{cases_eq, false≢true, and_from, and_parts, leb-true}
use Rattle.std.proofs.lemmas.Bool.{le-leb}
use Rattle.coll_routes.specs.declared.signature.Signature.{Signature}
use Rattle.coll_routes.specs.declared.statement.Stated.{Stated}
use Rattle.coll_routes.specs.declared.roll.Shape.{Shape}
use Rattle.coll_routes.specs.declared.roll.Roll.{Roll}
use Rattle.coll_routes.specs.Signatures.{same_signature, numbers, flags}
use Rattle.coll_routes.proofs.CollRoutesLemmas.{same_signatures_are_equal}
use Rattle.coll_pending.specs.declared.arrival.Arrived.{Arrived}
use Rattle.coll_pending.specs.declared.arrival.Arrived.TheVariants.{Waiting, Full}
use Rattle.coll_pending.specs.declared.arrival.Meeting.{Meeting}
use Rattle.coll_pending.specs.declared.arrival.Next.{Next}
use Rattle.coll_pending.specs.declared.arrival.Next.TheVariants as nexts
use Rattle.coll_pending.specs.declared.arrival.Unarrived.{Unarrived}
use Rattle.coll_pending.specs.declared.slot.Slot.{Slot}
use Rattle.coll_routes.specs.Rolls.{is_full}
use Rattle.coll_pending.specs.Instances.{Instance, Communicator, is_full_but_for, joined}
use Rattle.coll_pending.specs.Instances.{next_by, roll_in, vacant}
use Rattle.coll_pending.specs.Keyed.{updated}
use Rattle.coll_pending.specs.Lists.{ListRoom, fits, room_by}
use Rattle.coll_pending.specs.Queues.{Queue, Queues, communicator, queue_at, known_in, count_in}
use Rattle.coll_pending.specs.Queues.{slot_of, instance_in, IsVacant}
use Rattle.coll_pending.specs.Spares.{Spare, members_of, IsQueueOf, IsQueueFor, IsSlotFor}
use Rattle.coll_pending.specs.Spares.{AreListsFor}
use Rattle.coll_pending.specs.Waiting.{updated_at, PendingView, State, view_of_pending, seen, next}
use Rattle.coll_pending.specs.Waiting.{before, after, place, Arrives, HasArrived, IsKnownAs}
use Rattle.coll_pending.specs.Waiting.{HasPlace, CanOpen, HasRoom, Opens, CanArrive}
use Rattle.coll_pending.specs.Waiting.{IsOpened, IsMeetingOf, meeting_of, IsAwaited}
use Rattle.coll_pending.specs.Waiting.{IsMet, IsExpected}
use Rattle.coll_pending.proofs.ArriveLemmas.{waits, waits_known, waits_can, is_known}
use Rattle.coll_pending.proofs.ArriveLemmas.{member_of}
use Rattle.coll_pending.proofs.RowLemmas.{none_of}
use Rattle.coll_pending.proofs.TableLemmas.{updated_here, updated_other, updated_twice}
use Rattle.coll_pending.proofs.TableLemmas.{updated_at_here, updated_at_twice}

-- ## an arrival after the opening

module _ {X : Type 0} (old mid new : PendingView X) (c rank : ℕ) (comm : Communicator)
    (stated : Stated) (part : X) (agrees : next old c rank stated.sig ≢ nexts.Mismatch)
    (none : before old c rank ≡ None)
    (opens : Opens old mid c (place old c rank) comm stated.sig) where
  place_same : place mid c rank ≡ place old c rank
  place_same = ap (λ (f : ℕ → ℕ → ℕ). f c rank) opens.arrivals

  before_mid : before mid c rank ≡ Some (vacant comm stated.sig)
  before_mid =
      ap (λ n. mid.pending c n) place_same
      ∙ (ap (λ (f : ℕ → ℕ → Option (Instance X)). f c (place old c rank)) opens.pending
      ∙ updated_at_here old.pending c (place old c rank) (Some (vacant comm stated.sig)))

  after_same : after mid c rank comm stated part ≡ after old c rank comm stated part
  after_same = ap (λ w. joined comm rank stated part w) before_mid
      ∙ sym (ap (λ w. joined comm rank stated part w) none)

  arrives : (waits : Option (Instance X)) → Arrives mid new c rank comm stated part waits →
      Arrives old new c rank comm stated part waits
  arrives waits it = record {
    agrees = agrees;
    arrivals =
        it.arrivals ∙ ap (λ (f : ℕ → ℕ → ℕ). updated_at f c rank (f c rank + 1)) opens.arrivals;
    known = it.known
        ∙ (ap (λ (f : ℕ → Option Communicator). updated f c (Some comm)) opens.known
        ∙ updated_twice old.known c (Some comm) (Some comm));
    pending =
        it.pending
        ∙ (ap (λ n. updated_at mid.pending c n waits) place_same
        ∙ (ap (λ (f : ℕ → ℕ → Option (Instance X)). updated_at f c (place old c rank) waits)
        opens.pending
        ∙ updated_at_twice old.pending c (place old c rank) (Some (vacant comm stated.sig)) waits));
  }

  fresh_arrives : (a : Arrived X) → HasArrived mid new c rank comm stated part a →
      HasArrived old new c rank comm stated part a
  fresh_arrives Waiting h = (
    ap (λ (i : Instance X). is_full i.roll.stated) (sym after_same) ∙ h.0,
    subst (λ i. Arrives old new c rank comm stated part (Some i)) after_same
        (arrives (Some (after mid c rank comm stated part)) h.1),
  )
  fresh_arrives (Full full) h = (
    ap (λ (i : Instance X). is_full i.roll.stated) (sym after_same) ∙ h.0,
    h.1 ∙ ap (λ (i : Instance X). i.roll) after_same,
    h.2 ∙ ap (λ (i : Instance X). i.parts) after_same,
    h.3,
    arrives None h.4,
  )

pub opened_arrives : {X : Type 0} (old mid new : PendingView X) (c rank : ℕ) (comm : Communicator)
    (stated : Stated) (part : X) (a : Arrived X) → next old c rank stated.sig ≢ nexts.Mismatch →
    IsOpened old mid c rank comm stated.sig → HasArrived mid new c rank comm stated part a →
    HasArrived old new c rank comm stated part a
opened_arrives {X} old mid new c rank comm stated part a agrees (inl was) arrived =
    subst (λ (v : PendingView X). HasArrived v new c rank comm stated part a) was.2 arrived
opened_arrives old mid new c rank comm stated part a agrees (inr fresh) arrived =
    fresh_arrives old mid new c rank comm stated part agrees fresh.0 fresh.1 a arrived

pub opened_place : {X : Type 0} (old mid : PendingView X) (c rank : ℕ) (comm : Communicator)
    (sig : Signature) → IsOpened old mid c rank comm sig → mid.arrivals c rank ≡ old.arrivals c rank
opened_place {X} old mid c rank comm sig (inl was) =
    ap (λ (v : PendingView X). v.arrivals c rank) was.2
opened_place old mid c rank comm sig (inr fresh) = ap (λ (f : ℕ → ℕ → ℕ). f c rank) fresh.1.arrivals

-- ## the opening

some_not_none : {A : Type 0} {P : Type 0} (w : Option A) → IsSome w → w ≡ None → P
some_not_none w some none = absurd (false≢true (subst (λ v. IsSome v) none some))

some_slot : {X : Type 0} (w : Option (Slot X)) → IsSome w → IsSome (instance_in w)
some_slot None some = absurd (false≢true some)
some_slot (Some o) some = refl

some_instance : {X : Type 0} (w : Option (Slot X)) → IsSome (instance_in w) → IsSome w
some_instance None some = absurd (false≢true some)
some_instance (Some o) some = refl

pub room_opens : {X : Type 0} (s : State X) (c rank : ℕ) (comm : Communicator) →
    HasRoom s c rank comm →
    slot_of s.queues c (count_in (queue_at s.queues.queues c) rank) ≡ None → CanOpen s c comm
unfolding HasRoom
room_opens s c rank comm (inl meets) none =
    some_not_none (slot_of s.queues c (count_in (queue_at s.queues.queues c) rank)) meets.1 none
room_opens s c rank comm (inr can) none = can

-- what a look told of the instance
opens_by : (same full : Bool) →
    (if same then (if full then nexts.Fills else nexts.Joins) else nexts.Mismatch) ≡ nexts.Opens → ⊥
opens_by true true e = absurd (cc)
opens_by true false e = absurd (cc)
opens_by false full e = absurd (cc)

opens_none : {X : Type 0} (w : Option (Slot X)) (rank : ℕ) (sig : Signature) →
    next_by (roll_in (instance_in w)) rank sig ≡ nexts.Opens → w ≡ None
opens_none None rank sig e = refl
opens_none (Some o) rank sig e = absurd (opens_by (same_signature o.roll.sig sig)
    (is_full_but_for o.roll.stated rank) e)

-- it is to be opened, and there is room
module _ {X : Type 0} (s inside : State X) (view : inside ≡ s) (comm : Communicator)
    (sig : Signature) (m : Meeting) (met : IsMeetingOf (view_of_pending s) sig m)
    (opens : m.does ≡ nexts.Opens) where
  pub free_inside : slot_of inside.queues m.comm
      (count_in (queue_at inside.queues.queues m.comm) m.rank) ≡ None
  unfolding view_of_pending
  free_inside =
      subst (λ (v : State X). slot_of v.queues m.comm
      (count_in (queue_at v.queues.queues m.comm) m.rank) ≡ None) (sym view)
      (opens_none (slot_of s.queues m.comm (count_in (queue_at s.queues.queues m.comm) m.rank))
      m.rank sig (sym (ap (λ (z : Meeting). z.does) met) ∙ opens))

  pub can_open : HasRoom s m.comm m.rank comm → CanOpen inside m.comm comm
  can_open room = room_opens inside m.comm m.rank comm
      (subst (λ (v : State X). HasRoom v m.comm m.rank comm) (sym view) room) free_inside

-- it waits already
module _ {X : Type 0} (s : State X) (comm : Communicator) (sig : Signature) (m : Meeting)
    (expected : IsExpected s m comm sig) (stays : m.does ≢ nexts.Opens)
    (agrees : m.does ≢ nexts.Mismatch) where
  other : (n : Next) → m.does ≢ n → next (view_of_pending s) m.comm m.rank sig ≢ n
  other n off = λ e. off (ap (λ (z : Meeting). z.does) expected.met ∙ e)

  waits_as : known_in (queue_at s.queues.queues m.comm) ≡ Some comm
  unfolding view_of_pending
  waits_as = is_known (known_in (queue_at s.queues.queues m.comm)) comm
      (waits_known s.queues m.comm m.rank sig (other nexts.Opens stays)
      (other nexts.Mismatch agrees)) expected.known

  pub waits_met : IsMet s s m comm sig
  unfolding view_of_pending
  waits_met = record {
    opened = inl (
      some_slot (slot_of s.queues m.comm (count_in (queue_at s.queues.queues m.comm) m.rank))
          (waits s.queues m.comm m.rank sig (other nexts.Opens stays)
          (other nexts.Mismatch agrees)),
      waits_as,
      refl,
    );
    meets = waits_can s.queues m.comm m.rank sig (other nexts.Opens stays)
        (other nexts.Mismatch agrees) comm expected.rank waits_as;
  }

joins : (b : Bool) (roll : Roll) (rank : ℕ) (sig : Signature) →
    is_full_but_for roll.stated rank ≡ b → same_signature roll.sig sig ≡ true →
    next_by (Some roll) rank sig ≢ nexts.Mismatch
joins true roll rank sig full same = rw (same, full) (λ e. absurd (cc))
joins false roll rank sig full same = rw (same, full) (λ e. absurd (cc))

-- the instance has been opened
module _ {X : Type 0} (s : Queues X) (t : Queues X) (old : PendingView X) (c rank : ℕ)
    (comm : Communicator) (sig : Signature) (same : seen s ≡ old)
    (none : slot_of s c (count_in (queue_at s.queues c) rank) ≡ None)
    (opens : Opens (seen s) (seen t) c (count_in (queue_at s.queues c) rank) comm sig) where
  pub new_opened : IsOpened old (seen t) c rank comm sig
  new_opened = inr (
    subst (λ (v : PendingView X). before v c rank ≡ None) same (ap (λ w. instance_in w) none),
    subst (λ (v : PendingView X). Opens v (seen t) c (place v c rank) comm sig) same opens,
  )

  number : (seen t).arrivals c rank ≡ count_in (queue_at s.queues c) rank
  number = ap (λ (f : ℕ → ℕ → ℕ). f c rank) opens.arrivals

  stood : before (seen t) c rank ≡ Some (vacant comm sig)
  stood =
      ap (λ n. (seen t).pending c n) number
      ∙ (ap (λ (f : ℕ → ℕ → Option (Instance X)). f c (count_in (queue_at s.queues c) rank))
      opens.pending
      ∙ updated_at_here (seen s).pending c (count_in (queue_at s.queues c) rank)
      (Some (vacant comm sig)))

  pub new_meets : rank < length comm.members → CanArrive t c rank comm sig
  new_meets lt = record {
    meets = (
      ap (λ (f : ℕ → Option Communicator). f c) opens.known
          ∙ updated_here (seen s).known c (Some comm),
      some_instance (slot_of t c (count_in (queue_at t.queues c) rank)) (ap (λ w. is_some w) stood),
    );
    member = lt;
    agrees = subst (λ w. next_by (roll_in w) rank sig ≢ nexts.Mismatch) (sym stood)
        (joins _ (vacant {X = X} comm sig).roll rank sig refl
        ((same_signatures_are_equal sig sig).1 refl));
  }

-- ## what a look told, within the queues

module _ {X : Type 0} (s inside : State X) (view : inside ≡ s) (sig : Signature) (m : Meeting)
    (met : IsMeetingOf (view_of_pending s) sig m) where
  number_inside : m.k ≡ count_in (queue_at inside.queues.queues m.comm) m.rank
  unfolding view_of_pending
  number_inside = ap (λ (z : Meeting). z.k) met
      ∙ sym (ap (λ (v : State X). count_in (queue_at v.queues.queues m.comm) m.rank) view)

  does_inside : m.does ≡ next (seen inside.queues) m.comm m.rank sig
  unfolding view_of_pending
  does_inside = ap (λ (z : Meeting). z.does) met
      ∙ sym (ap (λ (v : State X). next (seen v.queues) m.comm m.rank sig) view)

  not_inside : (n : Next) → m.does ≢ n → next (seen inside.queues) m.comm m.rank sig ≢ n
  not_inside n off = λ e. off (does_inside ∙ e)

  -- it waits already
  module _ (stays : m.does ≢ nexts.Opens) (agrees : m.does ≢ nexts.Mismatch) where
    inside_known : IsSome (known_in (queue_at inside.queues.queues m.comm))
    inside_known = waits_known inside.queues m.comm m.rank sig (not_inside nexts.Opens stays)
        (not_inside nexts.Mismatch agrees)

    pub inside_as : (of : Communicator) → IsKnownAs of ((view_of_pending s).known m.comm) →
        known_in (queue_at inside.queues.queues m.comm) ≡ Some of
    unfolding view_of_pending
    inside_as of known = is_known (known_in (queue_at inside.queues.queues m.comm)) of inside_known
        (subst (λ (v : State X). IsKnownAs of (known_in (queue_at v.queues.queues m.comm)))
        (sym view) known)

    awaited_by : ((of : Communicator) →
        known_in (queue_at inside.queues.queues m.comm) ≡ Some of → m.rank < length of.members) →
        m.k < 2 ^ 62 → IsAwaited inside.queues m sig
    awaited_by member few = record {
      known = inside_known;
      ready = λ of e. waits_can inside.queues m.comm m.rank sig (not_inside nexts.Opens stays)
          (not_inside nexts.Mismatch agrees) of (member of e) e;
      number = number_inside;
      few = few;
    }

    pub still_awaited : (of : Communicator) → IsKnownAs of ((view_of_pending s).known m.comm) →
        m.rank < length of.members → m.k < 2 ^ 62 → IsAwaited inside.queues m sig
    still_awaited of known lt = awaited_by (λ other e.
        let same : of ≡ other = (let both = sym (inside_as of known) ∙ e in cc) in
        subst (λ (z : Communicator). m.rank < length z.members) same lt)

  -- it waits for others too
  module _ (joins : m.does ≡ nexts.Joins) where
    pub joins_stays : m.does ≢ nexts.Opens
    joins_stays e = (let both = sym joins ∙ e in absurd (cc))

    pub joins_agrees : m.does ≢ nexts.Mismatch
    joins_agrees e = (let both = sym joins ∙ e in absurd (cc))

    pub joins_inside : next (seen inside.queues) m.comm m.rank sig ≡ nexts.Joins
    joins_inside = sym does_inside ∙ joins

    pub joins_awaited : IfSome ((view_of_pending s).known m.comm)
        (λ of. m.rank < length of.members) → m.k < 2 ^ 62 → IsAwaited inside.queues m sig
    unfolding view_of_pending
    joins_awaited member = awaited_by joins_stays joins_agrees
        (member_of (known_in (queue_at inside.queues.queues m.comm)) m.rank
        (subst (λ (v : State X). IfSome (known_in (queue_at v.queues.queues m.comm))
        (λ of. m.rank < length of.members)) (sym view) member))

-- it waits now
module _ {X : Type 0} (s mid inside : State X) (view : inside ≡ mid) (comm : Communicator)
    (sig : Signature) (m : Meeting) (told : IsMeetingOf (view_of_pending s) sig m)
    (met : IsMet s mid m comm sig) where
  pub met_known : known_in (queue_at inside.queues.queues m.comm) ≡ Some comm
  met_known =
      ap (λ (v : State X). known_in (queue_at v.queues.queues m.comm)) view ∙ met.meets.meets.0

  opened_number : m.k ≡ count_in (queue_at inside.queues.queues m.comm) m.rank
  unfolding view_of_pending
  opened_number = ap (λ (z : Meeting). z.k) told
      ∙ (sym (opened_place (view_of_pending s) (view_of_pending mid) m.comm m.rank comm sig
      met.opened)
      ∙ sym (ap (λ (v : State X). count_in (queue_at v.queues.queues m.comm) m.rank) view))

  pub now_awaited : m.k < 2 ^ 62 → IsAwaited inside.queues m sig
  now_awaited few = record {
    known = subst (λ w. IsSome w) (sym met_known) refl;
    ready = λ of e.
        let same : comm ≡ of = (let both = sym met_known ∙ e in cc) in
        subst (λ z. CanArrive inside.queues m.comm m.rank z sig) same
        (subst (λ (v : State X). CanArrive v.queues m.comm m.rank comm sig) (sym view) met.meets);
    number = opened_number;
    few = few;
  }

pub arrived_by : {X : Type 0} (s mid inside : State X) (view : inside ≡ mid) (new : PendingView X)
    (comm : Communicator) (m : Meeting) (stated : Stated) (part : X) (a : Arrived X) →
    IsMeetingOf (view_of_pending s) stated.sig m → m.does ≢ nexts.Mismatch →
    IsMet s mid m comm stated.sig →
    HasArrived (seen inside.queues) new m.comm m.rank comm stated part a →
    HasArrived (view_of_pending s) new m.comm m.rank comm stated part a
unfolding view_of_pending
arrived_by {X} s mid inside view new comm m stated part a told agrees met arrived =
    opened_arrives (view_of_pending s) (view_of_pending mid) new m.comm m.rank comm stated part a
    (λ e. agrees (ap (λ (z : Meeting). z.does) told ∙ e)) met.opened
    (subst (λ (v : State X). HasArrived (seen v.queues) new m.comm m.rank comm stated part a) view
    arrived)

pub is_meeting : {X : Type 0} (v : PendingView X) (c rank : ℕ) (sig : Signature) (m : Meeting) →
    m ≡ meeting_of v c rank sig → IsMeetingOf v sig m
is_meeting v c rank sig m e =
    subst (λ (z : Meeting). z ≡ meeting_of v z.comm z.rank sig) (sym e) refl

-- ## room for it

fits_more : (small large : ListRoom) (sig : Signature) → small.numbers ≤ large.numbers →
    small.flags ≤ large.flags → fits small sig ≡ true → fits large sig ≡ true
fits_more small large sig more others it =
    let both =
    and_parts (nat_le (length (numbers sig)) small.numbers)
    (nat_le (length (flags sig)) small.flags) it in
    let one : nat_le (length (numbers sig)) large.numbers ≡ true =
    le-leb (length (numbers sig)) large.numbers
    (omega (arith, leb-true (length (numbers sig)) small.numbers both.0, more)) in
    let two : nat_le (length (flags sig)) large.flags ≡ true =
    le-leb (length (flags sig)) large.flags
    (omega (arith, leb-true (length (flags sig)) small.flags both.1, others)) in
    and_from (nat_le (length (numbers sig)) large.numbers)
    (nat_le (length (flags sig)) large.flags) one two

pub lists_fit : (shape : Shape) (lists : ListRoom) (sig : Signature) → AreListsFor shape lists →
    fits (room_by shape) sig ≡ true → fits lists sig ≡ true
lists_fit shape lists sig are it = fits_more (room_by shape) lists sig are.numbers are.flags it

pub slot_for_some : {X : Type 0} (comm : Communicator) (w : Option (Slot X)) → IsSlotFor comm w →
    IsSome w
slot_for_some comm None it = absurd it
slot_for_some comm (Some o) it = refl

pub members_are : {X : Type 0} (comm : Communicator) (o : Slot X) → IsVacant comm o →
    members_of o ≡ comm
members_are comm o is = λ i. record { members = is.members i; shape = is.shape i }

pub queue_for : (comm : Communicator) (w spare fresh : Option Queue) (known : Bool) →
    known ≡ is_some w → (known ≡ false → fresh ≡ spare) → IsQueueOf comm w spare →
    IsQueueOf comm w fresh
queue_for comm (Some q) spare fresh known e took of = of
queue_for comm None spare fresh known e took of = subst (λ v. IsQueueFor comm v) (sym (took e)) of

-- a communicator that is known is the one handed in
pub known_of : (comm : Communicator) (w spare : Option Queue) → IsKnownAs comm (known_in w) →
    (w ≡ None → IsQueueFor comm spare) → IsQueueOf comm w spare
known_of comm (Some q) spare known fresh = known
known_of comm None spare known fresh = fresh refl

pub still_none : (w v : Option Queue) → known_in v ≡ known_in w → v ≡ None → w ≡ None
still_none None v same none = refl
still_none (Some q) v same none =
    (let e : None ≡ Some (communicator q) = sym (ap (λ x. known_in x) none) ∙ same in absurd (cc))

pub spare_for : (comm : Communicator) (w spare : Option Queue) → w ≡ None →
    IsQueueOf comm w spare → IsQueueFor comm spare
spare_for comm w spare none of = subst (λ v. IsQueueOf comm v spare) none of

pub both_ok : {T E A B C D : Type 0} (r : Result T E) → OnOk r A → OnOk r B → OnOk r C →
    (A → B → C → D) → OnOk r D
both_ok (Ok t) a b c go = go a b c
both_ok (Err e) a b c go = tt

pub room_made : {X T E : Type 0} (r : Result T E) (queues : Queues X) (spare : Spare X)
    (c rank : ℕ) (comm : Communicator) (known : Bool) → OnOk r (IsSlotFor comm spare.slot) →
    OnOk r (AreListsFor comm.shape spare.lists) → known ≡ is_some (queue_at queues.queues c) →
    (known ≡ false → OnOk r (IsQueueFor comm spare.queue)) → HasPlace queues c →
    IsKnownAs comm (known_in (queue_at queues.queues c)) →
    OnOk r (HasRoom (record { queues = queues; spare = spare }) c rank comm)
unfolding HasRoom
room_made (Err e) queues spare c rank comm known slot lists is fresh place handed = tt
room_made (Ok t) queues spare c rank comm known slot lists is fresh place handed = inr (record {
  place = place;
  queue = known_of comm (queue_at queues.queues c) spare.queue handed
      (λ none. fresh (is ∙ ap (λ w. is_some w) none));
  slot = slot;
  lists = lists;
})

-- where there was room, nothing was wanted
pub room_kept : {X P : Type 0} (s : State X) (queues : Queues X) (spare : Spare X) (c rank : ℕ)
    (comm : Communicator) (known : Bool) → record { queues = queues; spare = spare } ≡ s →
    HasRoom s c rank comm →
    is_some (slot_of queues c (count_in (queue_at queues.queues c) rank)) ≡ false →
    (now : Queues X) → seen now ≡ seen queues → known ≡ is_some (queue_at now.queues c) →
    (IsSlotFor comm spare.slot → AreListsFor comm.shape spare.lists →
    (known ≡ false → IsQueueFor comm spare.queue) → P) → P
room_kept {X} {P} s queues spare c rank comm known view room free now same is go =
    let was : State X = record { queues = queues; spare = spare } in
    let had : HasRoom was c rank comm =
    subst (λ (v : State X). HasRoom v c rank comm) (sym view) room in
    let can = room_opens was c rank comm had (none_of _ free) in
    go can.slot can.lists (λ e. spare_for comm (queue_at queues.queues c) spare.queue
    (still_none (queue_at queues.queues c) (queue_at now.queues c)
    (ap (λ (v : PendingView X). v.known c) same) (none_of _ (sym is ∙ e)))
    can.queue)

-- what is handed to the queues, where an instance is opened
pub record Opening {X : Type 0} (queues : Queues X) (c : ℕ) (comm : Communicator) (o : Slot X)
    (fresh : Option Queue) : Type 0 where
  pub of : members_of o ≡ comm
  pub vacant : IsVacant (members_of o) o
  pub some : 0 < length o.roll.members
  pub queue : IsQueueOf (members_of o) (queue_at queues.queues c) fresh

pub opening : {X : Type 0} (queues : Queues X) (spare : Spare X) (c rank : ℕ)
    (comm : Communicator) (o : Slot X) (fresh : Option Queue) (known : Bool) →
    rank < length comm.members → CanOpen (record { queues = queues; spare = spare }) c comm →
    IsVacant comm o → known ≡ is_some (queue_at queues.queues c) →
    (known ≡ false → fresh ≡ spare.queue) → Opening queues c comm o fresh
opening queues spare c rank comm o fresh known lt can is knows took = record {
  of = members_are comm o is;
  vacant = subst (λ m. IsVacant m o) (sym (members_are comm o is)) is;
  some = omega (arith, ap length is.members, lt);
  queue = subst (λ m. IsQueueOf m (queue_at queues.queues c) fresh) (sym (members_are comm o is))
      (queue_for comm (queue_at queues.queues c) spare.queue fresh known knows took can.queue);
}

pub opens_as : {X : Type 0} (s t : Queues X) (c k : ℕ) (o : Slot X) (comm : Communicator)
    (sig : Signature) → members_of o ≡ comm → o.roll.sig ≡ sig →
    Opens (seen s) (seen t) c k (members_of o) o.roll.sig → Opens (seen s) (seen t) c k comm sig
opens_as s t c k o comm sig of is opens =
    subst (λ m. Opens (seen s) (seen t) c k m sig) of
    (subst (λ z. Opens (seen s) (seen t) c k (members_of o) z) is opens)

-- ## one communicator's members and shape for all

known_updated : (table : ℕ → Option Communicator) (c q : ℕ) (comm : Communicator) →
    IsKnownAs comm (table q) → IsKnownAs comm (updated table c (Some comm) q)
known_updated table c q comm was = elim (cases_eq q c) [
  | inl same ↦ subst (λ n. IsKnownAs comm (updated table c (Some comm) n)) (sym same)
      (subst (λ (k : Option Communicator). IsKnownAs comm k)
      (sym (updated_here table c (Some comm))) refl)
  | inr other ↦ subst (λ (k : Option Communicator). IsKnownAs comm k)
      (sym (updated_other table c (Some comm) q other)) was
]

-- who hands in one group and shape for each communicator may go on so
pub stays_known : {X : Type 0} (old new : PendingView X) (c rank : ℕ) (comm : Communicator)
    (s : Stated) (x : X) (r : Result (Arrived X) (Unarrived X)) →
    IfOk r (HasArrived old new c rank comm s x) → OnErr r (new ≡ old) →
    ((q : ℕ) → IsKnownAs comm (old.known q)) → (q : ℕ) → IsKnownAs comm (new.known q)
stays_known old new c rank comm s x (Ok Waiting) ok err was =
    λ q. subst (λ (f : ℕ → Option Communicator). IsKnownAs comm (f q)) (sym ok.1.known)
    (known_updated old.known c q comm (was q))
stays_known old new c rank comm s x (Ok (Full full)) ok err was =
    λ q. subst (λ (f : ℕ → Option Communicator). IsKnownAs comm (f q)) (sym ok.4.known)
    (known_updated old.known c q comm (was q))
stays_known {X} old new c rank comm s x (Err e) ok err was =
    λ q. subst (λ (v : PendingView X). IsKnownAs comm (v.known q)) (sym err) (was q)
