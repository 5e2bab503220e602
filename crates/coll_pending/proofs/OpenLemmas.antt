-- What callers see after an instance has been opened.
use Rattle.std.proofs.Common.{◌≡◌, ℕ, zero, suc, ◌+◌, ◌<◌, Bool, true, false}
use Rattle.std.proofs.Common.{length, set, replicate, get_or, Option}
use Rattle.std.proofs.Common.{Some, None, IsSome, refl, sym, ap, ◌∙◌, subst, arith, inl, inr}
use Rattle.std.proofs.Common.{cond, nat_lt}
use Rattle.std.proofs.lemmas.Bool.{cases_eq, false≢true}
use Rattle.std.proofs.lemmas.List.{length_push, get_or_default, length-replicate}
use Rattle.slab.specs.Slab.{Slab, get, Updates}
use Rattle.coll_pending.specs.Instances.{Communicator, vacant}
use Rattle.coll_pending.specs.Keyed.{updated}
use Rattle.coll_pending.specs.declared.slot.Slot.{Slot}
use Rattle.coll_pending.specs.Queues.{Queue, Queues, communicator, count, queue_at, key_in}
use Rattle.coll_pending.specs.Queues.{count_in, slot_in, key_of, slot_of, instance_of}
use Rattle.coll_pending.specs.Queues.{IsOf, IsQueues, IsVacant, pushed, unused, or_fresh}
use Rattle.coll_pending.specs.Spares.{IsQueueOf, IsQueueFor, members_of}
use Rattle.coll_pending.specs.Waiting.{updated_at, seen, Opens, HasPlace}
use Rattle.coll_pending.proofs.KeyLemmas.{pushed_here, pushed_other, key_there, not_less}
use Rattle.coll_pending.proofs.SlotLemmas.{vacant_is_slot, vacant_is_free}
use Rattle.coll_pending.proofs.ChangeLemmas.{Stands, there, Changes, changed_sound, pending_changed}
use Rattle.coll_pending.proofs.ChangeLemmas.{known_changed, counts_here, counts_else}

-- ## a queue at which nobody has arrived

zero_at : (n r : ℕ) → get_or (replicate {A = ℕ} n 0) r 0 ≡ 0
zero_at zero r = refl
zero_at (suc n) zero = refl
zero_at (suc n) (suc r) = zero_at n r

either : {A : Type 0} (b : Bool) (x : A) → cond b x x ≡ x
either true x = refl
either false x = refl

no_slot : {X : Type 0} (s : Queues X) (c k : ℕ) → queue_at s.queues c ≡ None → slot_of s c k ≡ None
no_slot s c k none = ap (λ w. slot_in s.slots (key_in w k)) none

stands_unused : {X : Type 0} (s : Queues X) (c : ℕ) (comm : Communicator) (room : ℕ) →
    queue_at s.queues c ≡ None → Stands s c (unused comm room)
stands_unused s c comm room none = record {
  keys = λ k. ap (λ w. key_in w k) none ∙ sym (either (nat_lt k 0) None);
  counts = λ r. ap (λ w. count_in w r) none ∙ sym (zero_at (length comm.members) r);
  queue = record {
    sized = length-replicate (length comm.members) 0;
    low = λ r lt. omega arith;
    high = λ r lt. omega (arith, zero_at (length comm.members) r);
  };
  sound = λ k o found. let nothing = sym (no_slot s c k none) ∙ found in absurd (cc);
}

-- the queue into which the key goes
pub record Chosen {X : Type 0} (s : Queues X) (c : ℕ) (comm : Communicator)
    (fresh : Option Queue) : Type 0 where
  pub queue : Queue
  pub is : or_fresh (queue_at s.queues c) fresh ≡ Some queue
  pub stands : Stands s c queue
  pub of : communicator queue ≡ comm

pub chosen : {X : Type 0} (s : Queues X) (c : ℕ) (comm : Communicator) (fresh : Option Queue) →
    IsQueues s → IsQueueOf comm (queue_at s.queues c) fresh → Chosen s c comm fresh
chosen {X} s c comm fresh is queue = by_row (queue_at s.queues c) refl queue
  where
    by_fresh : (f : Option Queue) → fresh ≡ f → queue_at s.queues c ≡ None → IsQueueFor comm f →
        Chosen s c comm fresh
    by_fresh None e none it = absurd it
    by_fresh (Some q) e none it = record {
      queue = q;
      is = ap (λ w. or_fresh w fresh) none ∙ e;
      stands = subst (λ p. Stands s c p) (sym it.0) (stands_unused s c comm q.room none);
      of = ap communicator it.0;
    }

    by_row : (w : Option Queue) → queue_at s.queues c ≡ w → IsQueueOf comm w fresh →
        Chosen s c comm fresh
    by_row (Some q) e it = record {
      queue = q;
      is = ap (λ w. or_fresh w fresh) e;
      stands = there s c q is e;
      of = it;
    }
    by_row None e it = by_fresh fresh refl e it

-- ## the instance opened

module _ {X : Type 0} (s : Queues X) (is : IsQueues s) (c : ℕ) (q : Queue)
    (stands : Stands s c q) (slots : Slab (Slot X)) (key : ℕ) (slot : Slot X)
    (row : c < length s.queues) (none : get s.slots key ≡ None)
    (updates : Updates s.slots slots key (Some slot)) (comm : Communicator)
    (its : communicator q ≡ comm) (is_vacant : IsVacant comm slot)
    (some : 0 < length comm.members) where
  abbrev last : ℕ
  last = q.first + length q.keys

  abbrev after : Queues X
  after = record { queues = set s.queues c (Some (pushed q key)); slots = slots }

  change : Changes s c q (pushed q key) slots last key (Some slot)
  change = record {
    row = row;
    updates = updates;
    others = λ l off. pushed_other q key l off;
    alone = λ d l e. absurd (false≢true (subst (λ w. IsSome w) none (is.stand d l key e)));
    here = ap (λ w. slot_in slots w) (pushed_here q key) ∙ updates.changed;
    only = λ other e. let both = sym (pushed_here q key) ∙ e in (cc, refl);
  }

  is_of : IsOf (communicator q) q.counts last slot
  is_of = record {
    slot = vacant_is_slot comm slot is_vacant some;
    members = is_vacant.members ∙ sym (ap (λ (m : Communicator). m.members) its);
    shape = is_vacant.shape ∙ sym (ap (λ (m : Communicator). m.shape) its);
    posted = λ r lt. vacant_is_free comm slot r is_vacant
        ∙ sym (not_less last (count q r) (stands.queue.high r lt));
  }

  pub opened_sound : IsQueues after
  opened_sound = changed_sound s is c q (pushed q key) slots last key (Some slot) stands change
      (record {
        sized = stands.queue.sized;
        low = stands.queue.low;
        high = λ r lt. let more = length_push q.keys key in
            omega (arith, more, stands.queue.high r lt);
      })
      (λ l o off of. of)
      (λ o e. let same : slot ≡ o = cc in
      subst (λ p. IsOf (communicator q) q.counts last p) same is_of)

  instance_is : instance_of slot ≡ vacant comm slot.roll.sig
  instance_is = λ i. record {
    roll = record {
      members = is_vacant.members i;
      shape = is_vacant.shape i;
      sig = slot.roll.sig;
      stated = is_vacant.stated i;
    };
    parts = is_vacant.parts i;
  }

  arrivals_same : (d r : ℕ) → (seen after).arrivals d r ≡ (seen s).arrivals d r
  arrivals_same d r = elim (cases_eq d c) [
    | inr far ↦ counts_else s is c q (pushed q key) slots last key (Some slot) stands change d r far
    | inl near ↦
        ap (λ e. (seen after).arrivals e r) near
        ∙ (counts_here s is c q (pushed q key) slots last key (Some slot) stands change r
        ∙ (sym (stands.counts r) ∙ ap (λ e. (seen s).arrivals e r) (sym near)))
  ]

  opens_last : Opens (seen s) (seen after) c last comm slot.roll.sig
  opens_last = record {
    arrivals = λ j d r. arrivals_same d r j;
    known = subst (λ m. (seen after).known ≡ updated (seen s).known c (Some m)) its
        (known_changed s is c q (pushed q key) slots last key (Some slot) stands change);
    pending =
        subst (λ o. (seen after).pending ≡ updated_at (seen s).pending c last (Some o)) instance_is
        (pending_changed s is c q (pushed q key) slots last key (Some slot) stands change);
  }

  -- who meets no instance has arrived at all that wait
  number_is : (rank : ℕ) → rank < length comm.members →
      slot_of s c (count_in (queue_at s.queues c) rank) ≡ None →
      last ≡ count_in (queue_at s.queues c) rank
  number_is rank lt free =
      let member : rank < length q.members =
      omega (arith, lt, ap (λ (m : Communicator). length m.members) its) in
      let low = stands.queue.low rank member in
      let high = stands.queue.high rank member in
      let same = stands.counts rank in
      elim (cases_eq last (count q rank)) [
        | inl e ↦ e ∙ sym same
        | inr off ↦
            let it = key_there q (count q rank) low (omega (arith, high, off)) in
            let found : key_of s c (count q rank) ≡ Some it.0 = stands.keys (count q rank) ∙ it.1 in
            let slot_none : slot_in s.slots (key_of s c (count q rank)) ≡ None =
            subst (λ n. slot_of s c n ≡ None) same free in
            let gone : get s.slots it.0 ≡ None = sym (ap (λ w. slot_in s.slots w) found)
            ∙ slot_none in
            absurd (false≢true (subst (λ w. IsSome w) gone (is.stand c (count q rank) it.0 found)))
      ]

  pub opens : (rank : ℕ) → rank < length comm.members →
      slot_of s c (count_in (queue_at s.queues c) rank) ≡ None →
      Opens (seen s) (seen after) c (count_in (queue_at s.queues c) rank) comm slot.roll.sig
  opens rank lt free =
      subst (λ k. Opens (seen s) (seen after) c k comm slot.roll.sig) (number_is rank lt free)
      opens_last

-- the same for the fields of the queues, whose value is `now`
pub opened : {X : Type 0} (s now : Queues X) (view : s ≡ now) (is : IsQueues s) (c : ℕ)
    (fresh row new : Option Queue) (slots : Slab (Slot X)) (key : ℕ) (slot : Slot X) →
    row ≡ get_or s.queues c row → HasPlace now c →
    IsQueueOf (members_of slot) (queue_at now.queues c) fresh → IsVacant (members_of slot) slot →
    0 < length slot.roll.members → get s.slots key ≡ None →
    Updates s.slots slots key (Some slot) →
    ((q : Queue) → or_fresh row fresh ≡ Some q → new ≡ Some (pushed q key)) →
    IsQueues (record { queues = set s.queues c new; slots = slots })
    × ((rank : ℕ) → rank < length slot.roll.members →
    slot_of now c (count_in (queue_at now.queues c) rank) ≡ None →
    Opens (seen now) (seen (record { queues = set s.queues c new; slots = slots })) c
    (count_in (queue_at now.queues c) rank) (members_of slot) slot.roll.sig)
opened {X} s now view is c fresh row new slots key slot read place queue is_vacant some none
    updates pushes =
    let within : c < length s.queues =
    subst (λ (v : Queues X). c < length v.queues) (sym view) place.row in
    let here : queue_at s.queues c ≡ row = get_or_default s.queues c None row within ∙ sym read in
    let it =
    chosen s c (members_of slot) fresh is
    (subst (λ (v : Queues X). IsQueueOf (members_of slot) (queue_at v.queues c) fresh)
    (sym view) queue) in
    let new_is : new ≡ Some (pushed it.queue key) =
    pushes it.queue (sym (ap (λ w. or_fresh w fresh) here) ∙ it.is) in
    let sound =
    opened_sound s is c it.queue it.stands slots key slot within none updates
    (members_of slot) it.of is_vacant some in
    let seen_so =
    opens s is c it.queue it.stands slots key slot within none updates (members_of slot)
    it.of is_vacant some in (
      subst (λ w. IsQueues (record { queues = set s.queues c w; slots = slots })) (sym new_is)
          sound,
      λ rank lt free.
          subst (λ (v : Queues X). Opens (seen v)
          (seen (record { queues = set s.queues c new; slots = slots })) c
          (count_in (queue_at v.queues c) rank) (members_of slot) slot.roll.sig) view
          (subst (λ w. Opens (seen s) (seen (record { queues = set s.queues c w; slots = slots })) c
          (count_in (queue_at s.queues c) rank) (members_of slot) slot.roll.sig) (sym new_is)
          (seen_so rank lt
          (subst (λ (v : Queues X). slot_of v c (count_in (queue_at v.queues c) rank) ≡ None)
          (sym view) free))),
    )
