-- What callers see after a member has posted to an instance that waits.
use Rattle.std.proofs.Common.{◌≡◌, ◌≢◌, ℕ, zero, suc, ◌+◌, ◌-◌, ◌<◌, ◌≤◌, ◌^◌, true, false}
use Rattle.std.proofs.Common.{List, [], ◌∷◌, length, set, map, get_or, Bool}
use Rattle.std.proofs.Common.{Option, Some, None, IsSome, is_some, refl, sym, ap, ◌∙◌, subst, arith}
use Rattle.std.proofs.Common.{inl, inr, nat_lt, length-set}
use Rattle.std.specs.Prelude.{IfSome, IsSomeAnd, if◌then◌else◌}
use Rattle.std.proofs.lemmas.Bool.{cases_eq, false≢true}
use Rattle.std.proofs.lemmas.Bool.Decides.{nat_tests}
use Rattle.std.proofs.lemmas.List.{get_or_default, get_or-set_same, get_or-set_other}
use Rattle.slab.specs.Slab.{Slab, get, Updates}
use Rattle.coll_values.specs.declared.full.Full.{Full as FullOf}
use Rattle.coll_routes.specs.declared.signature.Signature.{Signature}
use Rattle.coll_routes.specs.declared.statement.Stated.{Stated}
use Rattle.coll_pending.specs.declared.arrival.Arrived.{Arrived}
use Rattle.coll_pending.specs.declared.arrival.Arrived.TheVariants.{Waiting, Full}
use Rattle.coll_pending.specs.declared.arrival.Meeting.{Meeting}
use Rattle.coll_pending.specs.declared.arrival.Next.TheVariants.{Opens, Joins, Mismatch}
use Rattle.coll_routes.specs.Rolls.{is_full}
use Rattle.coll_pending.specs.Instances.{Instance, Communicator, joined, roll_in, IsAgreed}
use Rattle.coll_pending.specs.Instances.{next_by, is_full_but_for}
use Rattle.coll_pending.specs.declared.slot.Slot.{Slot}
use Rattle.coll_pending.specs.Queues.{Queue, Queues, communicator, count, counted, popped, key_at}
use Rattle.coll_pending.specs.Queues.{queue_at, key_in, known_in, count_in, slot_in, key_of}
use Rattle.coll_pending.specs.Queues.{slot_of, instance_of, instance_in, IsFree}
use Rattle.coll_pending.specs.Queues.{IsOf, IsOfIn, IsQueues, CanTell, CanPost, Posts, PostsTo}
use Rattle.coll_pending.specs.Queues.{posted, has_posted, lacks_one, Enters}
use Rattle.coll_pending.specs.Waiting.{updated_at, PendingView, seen, next, before, after}
use Rattle.coll_pending.specs.Waiting.{HasArrived, HasArrivedAt, CanArrive, IsAwaited, IsKnownAs}
use Rattle.coll_pending.proofs.KeyLemmas.{key_within, key_there, popped_here, popped_other}
use Rattle.coll_pending.proofs.KeyLemmas.{length_drop_one, less_is, not_less}
use Rattle.coll_pending.proofs.TableLemmas.{updated_at_is}
use Rattle.coll_pending.proofs.RowLemmas.{posted_all, all_posted, full_counted}
use Rattle.coll_pending.proofs.SlotLemmas.{full_told, agreed_still, slot_still, posted_now}
use Rattle.coll_pending.proofs.SlotLemmas.{posted_else, same_sig, lacks_told, joins_but}
use Rattle.coll_pending.proofs.ChangeLemmas.{Stands, there, Changes, changed_sound, pending_changed}
use Rattle.coll_pending.proofs.ChangeLemmas.{known_changed, counts_here, counts_else}

-- ## what a rank meets

-- a rank has not posted to the instance that it meets
pub meets_free : {X : Type 0} (s : Queues X) (c rank : ℕ) (o : Slot X) → IsQueues s →
    slot_of s c (count_in (queue_at s.queues c) rank) ≡ Some o → CanTell rank o
meets_free {X} s c rank o is found =
    by_row (queue_at s.queues c) (is.sound c (count_in (queue_at s.queues c) rank) o found)
  where
    by_row : (w : Option Queue) → IsOfIn w (count_in w rank) o → CanTell rank o
    by_row None it = absurd it
    by_row (Some q) it = record {
      slot = it.slot;
      free = λ lt. it.posted rank (omega (arith, lt, ap length it.members))
          ∙ not_less (count q rank) (count q rank) (omega arith);
    }

if_some : {A : Type 0} (v : Option A) (P : A → Type 0) → ((x : A) → v ≡ Some x → P x) → IfSome v P
if_some None P each = tt
if_some (Some x) P each = each x refl

pub can_tell : {X : Type 0} (s : Queues X) (c rank : ℕ) → IsQueues s →
    IfSome (slot_of s c (count_in (queue_at s.queues c) rank)) (CanTell rank)
can_tell s c rank is =
    if_some (slot_of s c (count_in (queue_at s.queues c) rank)) (CanTell rank)
    (λ o found. meets_free s c rank o is found)

-- ## the slots

some_and : {A : Type 0} (v : Option A) (P : A → Type 0) → IsSomeAnd v P → (x : A) × (v ≡ Some x)
    × P x
some_and None P h = absurd h
some_and (Some x) P h = (x, refl, h)

-- the key and the slot
to_free : {X : Type 0} (slots : Slab (Slot X)) (w : Option ℕ) (rank : ℕ) →
    IsSomeAnd (slot_in slots w) (IsFree rank) → (key : ℕ) × (o : Slot X) × (w ≡ Some key)
    × (get slots key ≡ Some o) × IsFree rank o
to_free slots None rank h = absurd h
to_free slots (Some key) rank h =
    let it = some_and (get slots key) (IsFree rank) h in (key, it.0, refl, it.1, it.2)

pub stands_there : {X : Type 0} (slots : Slab (Slot X)) (key : ℕ) (o : Slot X) →
    get slots key ≡ Some o → IsSome (get slots key)
stands_there slots key o at = ap (λ w. is_some w) at

-- a post that is not the last one
none_more : (b : Bool) (key : ℕ) → None ≡ (if b then Some key else None) → b ≡ false
none_more true key e = absurd (cc)
none_more false key e = refl

abbrev pub HasEntered : {X : Type 0} → (row new : Option Queue) → (slots slots' : Slab (Slot X)) →
    (rank : ℕ) → Stated → X → (last : Option ℕ) → Type 0
HasEntered row new slots slots' rank stated part last =
    (q : Queue) → row ≡ Some q → (new ≡ Some (counted q rank))
    × Enters q slots slots' rank stated part last

abbrev pub HasPosted : {X : Type 0} → (row new : Option Queue) → (slots slots' : Slab (Slot X)) →
    (rank : ℕ) → Stated → X → Arrived X → Type 0
HasPosted row new slots slots' rank stated part arrived =
    (q : Queue) → row ≡ Some q → (p : Queue) × (new ≡ Some p)
    × PostsTo q p slots slots' rank stated part arrived

pub goes_on : {X : Type 0} (row new : Option Queue) (slots slots' : Slab (Slot X)) (rank : ℕ)
    (stated : Stated) (part : X) (last : Option ℕ) →
    HasEntered row new slots slots' rank stated part last →
    ((q : Queue) → row ≡ Some q → (key : ℕ) (o : Slot X) → key_at q (count q rank) ≡ Some key →
    get slots key ≡ Some o → lacks_one o ≡ false) →
    HasPosted row new slots slots' rank stated part Waiting
goes_on row new slots slots' rank stated part last entered more = λ q at.
    let it = entered q at in (
      counted q rank,
      it.0,
      λ key o leads found. (more q at key o leads found, refl, (it.1 key o leads found).1),
    )

pub none_waits : {X : Type 0} (row new : Option Queue) (slots slots' : Slab (Slot X)) (rank : ℕ)
    (stated : Stated) (part : X) (last : Option ℕ) → last ≡ None →
    HasEntered row new slots slots' rank stated part last →
    HasPosted row new slots slots' rank stated part Waiting
none_waits row new slots slots' rank stated part last none entered =
    goes_on row new slots slots' rank stated part last entered
    (λ q at key o leads found. none_more (lacks_one o) key
    (sym none ∙ ((entered q at).1 key o leads found).0))

-- the last post
some_last : (b : Bool) (key other : ℕ) → Some key ≡ (if b then Some other else None) → (b ≡ true)
    × (key ≡ other)
some_last true key other e = (refl, cc)
some_last false key other e = absurd (cc)

pub record Filled {X : Type 0} (row now : Option Queue) (slots entered : Slab (Slot X))
    (rank key : ℕ) (stated : Stated) (part : X) : Type 0 where
  pub queue : Queue
  pub at : row ≡ Some queue
  pub low : queue.first < 2 ^ 62
  pub counts : now ≡ Some (counted queue rank)
  pub slot : Slot X
  pub leads : key_at queue (count queue rank) ≡ Some key
  pub found : get slots key ≡ Some slot
  pub free : IsFree rank slot
  pub last : lacks_one slot ≡ true
  pub updates : Updates slots entered key (Some (posted rank stated part slot))

pub filled_by : {X : Type 0} (row now : Option Queue) (slots entered : Slab (Slot X))
    (rank k key : ℕ) (stated : Stated) (part : X) (last : Option ℕ) →
    IsSomeAnd row (λ q. CanPost q slots rank k) → last ≡ Some key →
    HasEntered row now slots entered rank stated part last →
    Filled row now slots entered rank key stated part
filled_by {X} row now slots entered rank k key stated part last can told enters =
    let it = some_and row (λ q. CanPost q slots rank k) can in
    let q = it.0 in
    let so = to_free slots (key_at q k) rank it.2.waits in
    let leads = subst (λ n. key_at q n ≡ Some so.0) it.2.number so.2 in
    let all = enters q it.1 in
    let got = all.1 so.0 so.1 leads so.3 in
    let is = some_last (lacks_one so.1) key so.0 (sym told ∙ got.0) in
    record {
      queue = q;
      at = it.1;
      low = it.2.low;
      counts = all.0;
      slot = so.1;
      leads = leads ∙ ap (λ n. Some n) (sym is.1);
      found = ap (λ n. get slots n) is.1 ∙ so.3;
      free = so.4;
      last = is.0;
      updates = subst (λ n. Updates slots entered n (Some (posted rank stated part so.1)))
          (sym is.1) got.1;
    }

pub filled_low : {X : Type 0} (row now : Option Queue) (slots entered : Slab (Slot X))
    (rank key : ℕ) (stated : Stated) (part : X) →
    Filled row now slots entered rank key stated part → IfSome now (λ q. q.first < 2 ^ 62)
filled_low row now slots entered rank key stated part filled =
    subst (λ w. IfSome w (λ q. q.first < 2 ^ 62)) (sym filled.counts) filled.low

-- then the slot is empty
pub taken_out : {X : Type 0} (row now new : Option Queue) (slots entered out : Slab (Slot X))
    (rank key : ℕ) (stated : Stated) (part : X) (removed : Slot X) (full : FullOf X) →
    Filled row now slots entered rank key stated part →
    ((q : Queue) → now ≡ Some q → (room : ℕ) × (new ≡ Some (popped q room))) →
    get entered key ≡ Some removed → Updates entered out key None →
    full.roll ≡ removed.roll → map (λ x. Some x) full.parts ≡ removed.parts →
    HasPosted row new slots out rank stated part (Full full)
taken_out {X} row now new slots entered out rank key stated part removed full filled pops removes
    empties roll parts = λ q at.
    let own : filled.queue ≡ q = (let both = sym filled.at ∙ at in cc) in
    let popping = pops (counted filled.queue rank) filled.counts in
    let it : removed ≡ posted rank stated part filled.slot =
    (let both = sym removes ∙ filled.updates.changed in cc) in
    let posts : PostsTo filled.queue (popped (counted filled.queue rank) popping.0) slots out rank
    stated part (Full full) =
    (λ other o leads found.
    let same : key ≡ other = (let both = sym filled.leads ∙ leads in cc) in
    let there' : get slots key ≡ Some o = subst (λ n. get slots n ≡ Some o) (sym same) found in
    let its : filled.slot ≡ o = (let both = sym filled.found ∙ there' in cc) in
    subst (λ n. Posts filled.queue (popped (counted filled.queue rank) popping.0) slots out n rank
    stated part o (Full full)) same
    (subst (λ z. Posts filled.queue (popped (counted filled.queue rank) popping.0) slots out key
    rank stated part z (Full full)) its (
      filled.last,
      roll ∙ ap (λ (z : Slot X). z.roll) it,
      parts ∙ ap (λ (z : Slot X). z.parts) it,
      refl,
      record {
        changed = empties.changed;
        others = λ other' off. empties.others other' off ∙ filled.updates.others other' off;
      },
    ))) in
    subst (λ z. (p : Queue) × (new ≡ Some p) × PostsTo z p slots out rank stated part (Full full))
    own (popped (counted filled.queue rank) popping.0, popping.1, posts)

-- ## the post

module _ {X : Type 0} (s : Queues X) (is : IsQueues s) (c : ℕ) (q : Queue)
    (at : queue_at s.queues c ≡ Some q) (rank : ℕ) (member : rank < length q.members) (key : ℕ)
    (o : Slot X) (leads : key_at q (count q rank) ≡ Some key) (found : get s.slots key ≡ Some o)
    (stated : Stated) (part : X) (agrees : next (seen s) c rank stated.sig ≢ Mismatch)
    (row : c < length s.queues) where
  abbrev k : ℕ
  k = count q rank

  stands : Stands s c q
  stands = there s c q is at

  number : count_in (queue_at s.queues c) rank ≡ k
  number = stands.counts rank

  stood : slot_of s c k ≡ Some o
  stood = ap (λ w. slot_in s.slots w) (stands.keys k ∙ leads) ∙ found

  of : IsOf (communicator q) q.counts k o
  of = stands.sound k o stood

  pub free : IsFree rank o
  free = record {
    slot = of.slot;
    member = omega (arith, member, ap length of.members);
    free = of.posted rank member ∙ not_less k k (omega arith);
  }

  met : before (seen s) c rank ≡ Some (instance_of o)
  met = ap (λ n. (seen s).pending c n) number ∙ ap (λ w. instance_in w) stood

  same : stated.sig ≡ o.roll.sig
  same = same_sig o.roll rank stated.sig
      (subst (λ w. Rattle.coll_pending.specs.Instances.next_by (roll_in w) rank
      stated.sig ≢ Mismatch) met agrees)

  -- who joins leaves another to come
  pub leaves_one : next (seen s) c rank stated.sig ≡ Joins → lacks_one o ≡ false
  leaves_one joins = sym (lacks_told o rank free.slot free.member free.free)
      ∙ joins_but o.roll rank stated.sig
      (subst (λ w. next_by (roll_in w) rank stated.sig ≡ Joins) met joins)

  after_is : after (seen s) c rank (communicator q) stated part ≡ instance_of
      (posted rank stated part o)
  after_is = ap (λ w. joined (communicator q) rank stated part w) met

  alone : (d l : ℕ) → key_of s d l ≡ Some key → (d ≡ c) × (l ≡ k)
  alone d l e = is.one d l c k key e (stands.keys k ∙ leads)

  -- ### the counts

  count_now : get_or (counted q rank).counts rank 0 ≡ k + 1
  count_now = get_or-set_same q.counts rank (k + 1) 0 (omega (arith, member, stands.queue.sized))

  count_else : (r : ℕ) → r ≢ rank → get_or (counted q rank).counts r 0 ≡ count q r
  count_else r off = get_or-set_other q.counts rank r (k + 1) 0 off

  within : k < q.first + length q.keys
  within = (key_within q k key leads).1

  sized_still : length (counted q rank).counts ≡ length q.members
  sized_still = length-set q.counts rank (k + 1) ∙ stands.queue.sized

  high_still : (r : ℕ) → r < length q.members →
      get_or (counted q rank).counts r 0 ≤ q.first + length q.keys
  high_still r lt = elim (cases_eq r rank) [
    | inl e ↦ subst (λ m. get_or (counted q rank).counts m 0 ≤ q.first + length q.keys) (sym e)
        (omega (arith, count_now, within))
    | inr off ↦ omega (arith, count_else r off, stands.queue.high r lt)
  ]

  low_still : (r : ℕ) → r < length q.members → q.first ≤ get_or (counted q rank).counts r 0
  low_still r lt = elim (cases_eq r rank) [
    | inl e ↦ subst (λ m. q.first ≤ get_or (counted q rank).counts m 0) (sym e)
        (omega (arith, count_now, stands.queue.low rank member))
    | inr off ↦ omega (arith, count_else r off, stands.queue.low r lt)
  ]

  -- at another instance the count tells what it told
  told_else : (l r : ℕ) → l ≢ k →
      nat_lt l (get_or (counted q rank).counts r 0) ≡ nat_lt l (count q r)
  told_else l r off = elim (cases_eq r rank) [
    | inr other ↦ ap (λ n. nat_lt l n) (count_else r other)
    | inl e ↦
        subst (λ m. nat_lt l (get_or (counted q rank).counts m 0) ≡ nat_lt l (count q m)) (sym e)
        (ap (λ n. nat_lt l n) count_now ∙ one_more)
  ]
    where
      one_more : nat_lt l (k + 1) ≡ nat_lt l k
      one_more = grind (arith, nat_tests)

  others : (l : ℕ) (p : Slot X) → l ≢ k → IsOf (communicator q) q.counts l p →
      IsOf (communicator q) (counted q rank).counts l p
  others l p off it = record {
    slot = it.slot;
    members = it.members;
    shape = it.shape;
    posted = λ r lt. it.posted r lt ∙ sym (told_else l r off);
  }

  -- once it is posted, each row of this instance is told by the count
  told_here : (r : ℕ) → r < length q.members →
      has_posted (posted rank stated part o).roll.stated r ≡ nat_lt k
      (get_or (counted q rank).counts r 0)
  told_here r lt = elim (cases_eq r rank) [
    | inl e ↦
        subst (λ m. has_posted (posted rank stated part o).roll.stated m ≡ nat_lt k
        (get_or (counted q rank).counts m 0)) (sym e)
        (posted_now o rank stated part free ∙ sym (ap (λ n. nat_lt k n) count_now ∙ less_more))
    | inr off ↦ posted_else o rank stated part free r off
        ∙ (of.posted r lt ∙ sym (ap (λ n. nat_lt k n) (count_else r off)))
  ]
    where
      less_more : nat_lt k (k + 1) ≡ true
      less_more = grind (arith, nat_tests)

  here : lacks_one o ≡ false →
      IsOf (communicator q) (counted q rank).counts k (posted rank stated part o)
  here more = record {
    slot = slot_still o rank stated part free same more;
    members = of.members;
    shape = of.shape;
    posted = told_here;
  }

  arrivals_now : (p : Queue) → p.counts ≡ (counted q rank).counts → (now : PendingView X) →
      ((r : ℕ) → now.arrivals c r ≡ count p r) →
      ((d r : ℕ) → d ≢ c → now.arrivals d r ≡ (seen s).arrivals d r) →
      now.arrivals ≡ updated_at (seen s).arrivals c rank ((seen s).arrivals c rank + 1)
  arrivals_now p counts now row_now else_now =
      updated_at_is (seen s).arrivals now.arrivals c rank ((seen s).arrivals c rank + 1)
      (row_now rank
      ∙ (ap (λ ns. get_or ns rank 0) counts ∙ (count_now ∙ ap (λ n. n + 1) (sym number))))
      (λ d r off. elim (cases_eq d c) [
        | inr far ↦ else_now d r far
        | inl near ↦
            let other : r ≢ rank = λ e. off (near, e) in
            ap (λ e. now.arrivals e r) near
            ∙ (row_now r
            ∙ (ap (λ ns. get_or ns r 0) counts
            ∙ (count_else r other
            ∙ (sym (stands.counts r) ∙ ap (λ e. (seen s).arrivals e r) (sym near)))))
      ])

  is_told : is_full (after (seen s) c rank (communicator q) stated part).roll.stated ≡ lacks_one o
  is_told = ap (λ (i : Instance X). is_full i.roll.stated) after_is
      ∙ full_told o rank stated part free

  -- ### the instance waits on

  module _ (slots : Slab (Slot X))
      (updates : Updates s.slots slots key (Some (posted rank stated part o)))
      (more : lacks_one o ≡ false) where
    abbrev waits_on : Queues X
    waits_on = record { queues = set s.queues c (Some (counted q rank)); slots = slots }

    change_on : Changes s c q (counted q rank) slots k key (Some (posted rank stated part o))
    change_on = record {
      row = row;
      updates = updates;
      others = λ l off. refl;
      alone = alone;
      here = ap (λ w. slot_in slots w) leads ∙ updates.changed;
      only = λ other e. let both = sym leads ∙ e in (cc, refl);
    }

    pub waits_sound : IsQueues waits_on
    waits_sound =
        changed_sound s is c q (counted q rank) slots k key (Some (posted rank stated part o))
        stands change_on
        (record { sized = sized_still; low = low_still; high = high_still })
        others
        (λ p e. let eq : posted rank stated part o ≡ p = cc in
        subst (λ z. IsOf (communicator q) (counted q rank).counts k z) eq (here more))

    pub waits_seen : HasArrived (seen s) (seen waits_on) c rank (communicator q) stated part Waiting
    waits_seen = (
      is_told ∙ more,
      record {
        agrees = agrees;
        arrivals = arrivals_now (counted q rank) refl (seen waits_on)
            (counts_here s is c q (counted q rank) slots k key (Some (posted rank stated part o))
            stands change_on)
            (counts_else s is c q (counted q rank) slots k key (Some (posted rank stated part o))
            stands change_on);
        known = known_changed s is c q (counted q rank) slots k key
            (Some (posted rank stated part o)) stands change_on;
        pending =
            subst (λ n. (seen waits_on).pending ≡ updated_at (seen s).pending c n
            (Some (after (seen s) c rank (communicator q) stated part))) (sym number)
            (subst (λ i. (seen waits_on).pending ≡ updated_at (seen s).pending c k (Some i))
            (sym after_is)
            (pending_changed s is c q (counted q rank) slots k key
            (Some (posted rank stated part o)) stands change_on));
      },
    )

  -- ### the instance is full

  module _ (last : lacks_one o ≡ true) where
    full_now : is_full (posted rank stated part o).roll.stated ≡ true
    full_now = full_told o rank stated part free ∙ last

    -- each member has arrived at it
    reached : (r : ℕ) → r < length q.members → k + 1 ≤ get_or (counted q rank).counts r 0
    reached r lt =
        let rows = length-set o.roll.stated rank (Some stated) in
        let in_row : r < length (posted rank stated part o).roll.stated =
        omega (arith, rows, of.slot.rows, ap length of.members, lt) in
        let told : nat_lt k (get_or (counted q rank).counts r 0) ≡ true = sym (told_here r lt)
        ∙ posted_all (posted rank stated part o).roll.stated r full_now in_row in
        grind (arith, nat_tests)

    -- so it is the first: of an earlier one some member would be missing
    is_first : k ≡ q.first
    is_first = elim (cases_eq k q.first) [
      | inl e ↦ e
      | inr off ↦
          let low = stands.queue.low rank member in
          let early : q.first < k = omega (arith, off, low) in
          let it = key_there q q.first (omega arith) (omega (arith, early, within)) in
          absurd (none_before early it.0 (stands.keys q.first ∙ it.1))
    ]
      where
        none_of : q.first < k → (w : Option (Slot X)) (key' : ℕ) → get s.slots key' ≡ w →
            IsSome w → key_of s c q.first ≡ Some key' → ⊥
        none_of early None key' e some leads' = false≢true some
        none_of early (Some p) key' e some leads' =
            let its = stands.sound q.first p (ap (λ w. slot_in s.slots w) leads' ∙ e) in
            let full : is_full p.roll.stated ≡ true = all_posted p.roll.stated (λ r lt.
            let lt' : r < length q.members =
            omega (arith, lt, its.slot.rows, ap length its.members) in
            its.posted r lt' ∙ beyond r lt' early) in
            let told = sym (full_counted p.roll.stated) ∙ full in
            let eq : Rattle.std.proofs.Common.count_by is_some p.roll.stated ≡ length
            p.roll.stated = Rattle.std.proofs.Common.eqb-true _ _ told in
            omega (arith, eq, its.slot.rows, its.slot.counted, its.slot.missing)
          where
            beyond : (r : ℕ) → r < length q.members → q.first < k →
                nat_lt q.first (count q r) ≡ true
            beyond r lt' early' = elim (cases_eq r rank) [
              | inl e ↦ subst (λ m. nat_lt q.first (count q m) ≡ true) (sym e)
                  (less_is q.first k early')
              | inr other ↦ less_is q.first (count q r)
                  (let got = reached r lt' in omega (arith, got, count_else r other, early'))
            ]

        none_before : q.first < k → (key' : ℕ) → key_of s c q.first ≡ Some key' → ⊥
        none_before early key' leads' =
            none_of early (get s.slots key') key' refl (is.stand c q.first key' leads') leads'

    module _ (room : ℕ) (slots : Slab (Slot X)) (updates : Updates s.slots slots key None) where
      abbrev gone : Queues X
      gone = record { queues = set s.queues c (Some (popped (counted q rank) room)); slots = slots }

      nothing_here : key_at (popped (counted q rank) room) k ≡ None
      nothing_here =
          subst (λ n. key_at (popped (counted q rank) room) n ≡ None) (sym is_first)
          (popped_here (counted q rank) room)

      change_out : Changes s c q (popped (counted q rank) room) slots k key None
      change_out = record {
        row = row;
        updates = updates;
        others = λ l off. popped_other (counted q rank) room l (λ e. off (e ∙ sym is_first));
        alone = alone;
        here = ap (λ w. slot_in slots w) nothing_here;
        only = λ other e. let none = sym nothing_here ∙ e in absurd (cc);
      }

      some_key : 0 < length q.keys
      some_key = omega (arith, within, is_first)

      pub gone_sound : IsQueues gone
      gone_sound =
          changed_sound s is c q (popped (counted q rank) room) slots k key None stands change_out
          (record {
            sized = sized_still;
            low = λ r lt. let got = reached r lt in omega (arith, got, is_first);
            high = λ r lt. let fewer = length_drop_one q.keys some_key in let top =
                high_still r lt in omega (arith, fewer, top);
          })
          others
          (λ p e. absurd (cc))

      pub gone_seen : (full : FullOf X) → full.roll ≡ (posted rank stated part o).roll →
          map (λ p. Some p) full.parts ≡ (posted rank stated part o).parts →
          HasArrived (seen s) (seen gone) c rank (communicator q) stated part (Full full)
      gone_seen full roll parts = (
        is_told ∙ last,
        roll ∙ sym (ap (λ (i : Instance X). i.roll) after_is),
        parts ∙ sym (ap (λ (i : Instance X). i.parts) after_is),
        subst IsAgreed (sym roll) (agreed_still o rank stated part free same),
        record {
          agrees = agrees;
          arrivals = arrivals_now (popped (counted q rank) room) refl (seen gone)
              (counts_here s is c q (popped (counted q rank) room) slots k key None stands
              change_out)
              (counts_else s is c q (popped (counted q rank) room) slots k key None stands
              change_out);
          known = known_changed s is c q (popped (counted q rank) room) slots k key None stands
              change_out;
          pending =
              subst (λ n. (seen gone).pending ≡ updated_at (seen s).pending c n None) (sym number)
              (pending_changed s is c q (popped (counted q rank) room) slots k key None stands
              change_out);
        },
      )

-- ## as the queues see it

in_known : (w : Option Queue) → IsSome (known_in w) → (q : Queue) × (w ≡ Some q)
in_known None some = absurd (false≢true some)
in_known (Some q) some = (q, refl)

row_within : (rows : List (Option Queue)) (c : ℕ) (q : Queue) → get_or rows c None ≡ Some q →
    c < length rows
row_within [] c q at = absurd (cc)
row_within (row ∷ rows) zero q at = omega arith
row_within (row ∷ rows) (suc c) q at = omega (arith, row_within rows c q at)

to_slot : {X : Type 0} (slots : Slab (Slot X)) (w : Option ℕ) → IsSome (slot_in slots w) →
    (key : ℕ) × (o : Slot X) × (w ≡ Some key) × (get slots key ≡ Some o)
to_slot slots None some = absurd (false≢true some)
to_slot {X} slots (Some key) some = by_slot (get slots key) refl some
  where
    by_slot : (v : Option (Slot X)) → get slots key ≡ v → IsSome v → (n : ℕ) × (o : Slot X)
        × (Some key ≡ Some n) × (get slots n ≡ Some o)
    by_slot None e some' = absurd (false≢true some')
    by_slot (Some o) e some' = (key, o, refl, e)

-- what a member meets
pub record Met {X : Type 0} (s : Queues X) (c rank : ℕ) (sig : Signature) : Type 0 where
  pub queue : Queue
  pub at : queue_at s.queues c ≡ Some queue
  pub member : rank < length queue.members
  pub key : ℕ
  pub slot : Slot X
  pub leads : key_at queue (count queue rank) ≡ Some key
  pub found : get s.slots key ≡ Some slot
  pub agrees : next (seen s) c rank sig ≢ Mismatch
  pub row : c < length s.queues

met_by : {X : Type 0} (s : Queues X) (m : Meeting) (sig : Signature) → IsAwaited s m sig →
    Met s m.comm m.rank sig
met_by {X} s m sig awaited =
    let c = m.comm in
    let rank = m.rank in
    let it = in_known (queue_at s.queues c) awaited.known in
    let q = it.0 in
    let so = awaited.ready (communicator q) (ap (λ w. known_in w) it.1) in
    let some : IsSome (slot_in s.slots (key_at q (count q rank))) =
    subst (λ w. IsSome (slot_in s.slots (key_in w (count_in w rank)))) it.1 so.meets.1 in
    let stood = to_slot s.slots (key_at q (count q rank)) some in
    record {
      queue = q;
      at = it.1;
      member = so.member;
      key = stood.0;
      slot = stood.1;
      leads = stood.2;
      found = stood.3;
      agrees = so.agrees;
      row = row_within s.queues c q it.1;
    }

pub can_post : {X : Type 0} (s : Queues X) (is : IsQueues s) (c rank k : ℕ) (stated : Stated)
    (part : X) (row : Option Queue) → row ≡ get_or s.queues c row → Met s c rank stated.sig →
    k ≡ count_in (queue_at s.queues c) rank → k < 2 ^ 62 →
    IsSomeAnd row (λ q. CanPost q s.slots rank k)
can_post {X} s is c rank k stated part row read met its few =
    let here : Some met.queue ≡ row =
    sym met.at ∙ (get_or_default s.queues c None row met.row ∙ sym read) in
    let stands = there s c met.queue is met.at in
    let count_is : k ≡ count met.queue rank = its ∙ stands.counts rank in
    let it =
    free s is c met.queue met.at rank met.member met.key met.slot met.leads met.found stated
    part met.agrees met.row in
    let slot_is : slot_in s.slots (key_at met.queue k) ≡ Some met.slot =
    ap (λ n. slot_in s.slots (key_at met.queue n)) count_is
    ∙ (ap (λ w. slot_in s.slots w) met.leads ∙ met.found) in
    subst (λ w. IsSomeAnd w (λ q. CanPost q s.slots rank k)) here (record {
      member = omega (arith, met.member, stands.queue.sized);
      number = count_is;
      few = few;
      low = omega (arith, few, count_is, stands.queue.low rank met.member);
      waits = subst (λ w. IsSomeAnd w (IsFree rank)) (sym slot_is) it;
    })

module _ {X : Type 0} (s : Queues X) (is : IsQueues s) (c rank : ℕ) (stated : Stated) (part : X)
    (met : Met s c rank stated.sig) (slots : Slab (Slot X)) where
  abbrev IsAfter : Option Queue → Arrived X → Type 0
  IsAfter new arrived = IsQueues (record { queues = set s.queues c new; slots = slots })
      × HasArrived (seen s) (seen (record { queues = set s.queues c new; slots = slots })) c rank
      (communicator met.queue) stated part arrived

  after_post : (p : Queue) (arrived : Arrived X) →
      Posts met.queue p s.slots slots met.key rank stated part met.slot arrived →
      IsAfter (Some p) arrived
  after_post p Waiting posts = subst (λ z. IsAfter (Some z) Waiting) (sym posts.1) (
    waits_sound s is c met.queue met.at rank met.member met.key met.slot met.leads met.found
        stated part met.agrees met.row slots posts.2 posts.0,
    waits_seen s is c met.queue met.at rank met.member met.key met.slot met.leads met.found
        stated part met.agrees met.row slots posts.2 posts.0,
  )
  after_post p (Full full) posts = subst (λ z. IsAfter (Some z) (Full full)) (sym posts.3) (
    gone_sound s is c met.queue met.at rank met.member met.key met.slot met.leads met.found
        stated part met.agrees met.row posts.0 p.room slots posts.4,
    gone_seen s is c met.queue met.at rank met.member met.key met.slot met.leads met.found stated
        part met.agrees met.row posts.0 p.room slots posts.4 full posts.1 posts.2,
  )

  pub after_row : (row new : Option Queue) (arrived : Arrived X) → row ≡ get_or s.queues c row →
      ((q : Queue) → row ≡ Some q → (p : Queue) × (new ≡ Some p)
      × PostsTo q p s.slots slots rank stated part arrived) → IsAfter new arrived
  after_row row new arrived read posts =
      let here : row ≡ Some met.queue =
      sym (get_or_default s.queues c None row met.row ∙ sym read) ∙ met.at in
      let it = posts met.queue here in
      subst (λ w. IsAfter w arrived) (sym it.1)
      (after_post it.0 arrived (it.2 met.key met.slot met.leads met.found))

-- and of the fields of the queues, whose value is `now`
pub arrived_at : {X : Type 0} (s now : Queues X) (view : s ≡ now) (is : IsQueues s) (m : Meeting)
    (stated : Stated) (part : X) (row new : Option Queue) (slots : Slab (Slot X))
    (arrived : Arrived X) → row ≡ get_or s.queues m.comm row → IsAwaited now m stated.sig →
    HasPosted row new s.slots slots m.rank stated part arrived →
    IsQueues (record { queues = set s.queues m.comm new; slots = slots })
    × HasArrivedAt now (record { queues = set s.queues m.comm new; slots = slots }) m stated part
    arrived
arrived_at {X} s now view is m stated part row new slots arrived read awaited posts =
    let c = m.comm in
    let rank = m.rank in
    let was =
    subst (λ (v : Queues X). Met v c rank stated.sig) (sym view)
    (met_by now m stated.sig awaited) in
    let so = after_row s is c rank stated part was slots row new arrived read posts in (
      so.0,
      λ of e.
          let there' : known_in (queue_at now.queues c) ≡ Some (communicator was.queue) =
          subst (λ (v : Queues X). known_in (queue_at v.queues c) ≡ Some
          (communicator was.queue)) view (ap (λ w. known_in w) was.at) in
          let same : communicator was.queue ≡ of = (let both = sym there' ∙ e in cc) in
          subst (λ z. HasArrived (seen now)
          (seen (record { queues = set s.queues c new; slots = slots })) c rank z stated part
          arrived) same
          (subst (λ (v : Queues X). HasArrived (seen v)
          (seen (record { queues = set s.queues c new; slots = slots })) c rank
          (communicator was.queue) stated part arrived) view so.1),
    )

pub can_post_at : {X : Type 0} (s now : Queues X) (view : s ≡ now) (is : IsQueues s)
    (m : Meeting) (stated : Stated) (part : X) (row : Option Queue) →
    row ≡ get_or s.queues m.comm row → IsAwaited now m stated.sig →
    IsSomeAnd row (λ q. CanPost q s.slots m.rank m.k)
can_post_at {X} s now view is m stated part row read awaited =
    let was =
    subst (λ (v : Queues X). Met v m.comm m.rank stated.sig) (sym view)
    (met_by now m stated.sig awaited) in
    can_post s is m.comm m.rank m.k stated part row read was
    (subst (λ (v : Queues X). m.k ≡ count_in (queue_at v.queues m.comm) m.rank) (sym view)
    awaited.number) awaited.few

pub joined_at : {X : Type 0} (s now : Queues X) (view : s ≡ now) (is : IsQueues s) (m : Meeting)
    (stated : Stated) (part : X) (row new : Option Queue) (slots : Slab (Slot X))
    (last : Option ℕ) → row ≡ get_or s.queues m.comm row → IsAwaited now m stated.sig →
    next (seen now) m.comm m.rank stated.sig ≡ Joins →
    HasEntered row new s.slots slots m.rank stated part last →
    HasPosted row new s.slots slots m.rank stated part Waiting
joined_at {X} s now view is m stated part row new slots last read awaited joins entered =
    let c = m.comm in
    let rank = m.rank in
    let met = subst (λ (v : Queues X). Met v c rank stated.sig) (sym view)
    (met_by now m stated.sig awaited) in
    let here : row ≡ Some met.queue =
    sym (get_or_default s.queues c None row met.row ∙ sym read) ∙ met.at in
    let more : lacks_one met.slot ≡ false = leaves_one s is c met.queue met.at rank met.member
    met.key met.slot met.leads met.found stated part met.agrees met.row
    (subst (λ (v : Queues X). next (seen v) c rank stated.sig ≡ Joins) (sym view) joins) in
    goes_on row new s.slots slots rank stated part last entered (λ q at.
    let same : met.queue ≡ q = (let both = sym here ∙ at in cc) in
    subst (λ (p : Queue). (key : ℕ) (o : Slot X) → key_at p (count p rank) ≡ Some key →
    get s.slots key ≡ Some o → lacks_one o ≡ false) same (λ key o leads found.
    let its : met.key ≡ key = (let both = sym met.leads ∙ leads in cc) in
    let there' : get s.slots met.key ≡ Some o = subst (λ n. get s.slots n ≡ Some o) (sym its) found
    in
    let it : met.slot ≡ o = (let both = sym met.found ∙ there' in cc) in
    subst (λ z. lacks_one z ≡ false) it more))

-- who opens none, and mismatches none, meets an instance that waits
waits_by : {X : Type 0} (w : Option (Slot X)) (rank : ℕ) (sig : Signature) →
    next_by (roll_in (instance_in w)) rank sig ≢ Opens → IsSome w
waits_by None rank sig other = absurd (other refl)
waits_by (Some o) rank sig other = refl

-- and its communicator is known
known_row : {X : Type 0} (slots : Slab (Slot X)) (w : Option Queue) (k : ℕ) →
    IsSome (slot_in slots (key_in w k)) → IsSome (known_in w)
known_row slots None k some = absurd (false≢true some)
known_row slots (Some q) k some = refl

pub is_known : (w : Option Communicator) (comm : Communicator) → IsSome w → IsKnownAs comm w →
    w ≡ Some comm
is_known None comm some known = absurd (false≢true some)
is_known (Some first) comm some known = ap (λ m. Some m) known

pub member_of : (w : Option Communicator) (rank : ℕ) → IfSome w (λ of. rank < length of.members) →
    (comm : Communicator) → w ≡ Some comm → rank < length comm.members
member_of None rank member comm e = absurd (cc)
member_of (Some first) rank member comm e =
    (let same : first ≡ comm = cc in subst (λ m. rank < length m.members) same member)

module _ {X : Type 0} (s : Queues X) (c rank : ℕ) (sig : Signature)
    (stays : next (seen s) c rank sig ≢ Opens) (agrees : next (seen s) c rank sig ≢ Mismatch) where
  pub waits : IsSome (slot_of s c (count_in (queue_at s.queues c) rank))
  waits = waits_by (slot_of s c (count_in (queue_at s.queues c) rank)) rank sig stays

  pub waits_known : IsSome (known_in (queue_at s.queues c))
  waits_known = known_row s.slots (queue_at s.queues c) (count_in (queue_at s.queues c) rank) waits

  pub waits_can : (comm : Communicator) → rank < length comm.members →
      known_in (queue_at s.queues c) ≡ Some comm → CanArrive s c rank comm sig
  waits_can comm member e = record { meets = (e, waits); member = member; agrees = agrees }
