-- What callers see after one queue and one slot have changed.
use Rattle.std.proofs.Common.{◌≡◌, ◌≢◌, ℕ, ◌<◌, List, length, set}
use Rattle.std.proofs.Common.{Option, Some, None, IsSome, refl, sym, ap, ◌∙◌, subst}
use Rattle.std.proofs.Common.{◌⊎◌, inl, inr}
use Rattle.std.proofs.lemmas.Bool.{cases_eq}
use Rattle.std.proofs.lemmas.List.{get_or-set_same, get_or-set_other}
use Rattle.slab.specs.Slab.{Slab, get, Updates}
use Rattle.coll_pending.specs.Keyed.{updated}
use Rattle.coll_pending.specs.declared.slot.Slot.{Slot}
use Rattle.coll_pending.specs.Queues.{Queue, Queues, communicator, count, key_at, queue_at}
use Rattle.coll_pending.specs.Queues.{known_in, count_in, key_in, slot_in, key_of, slot_of}
use Rattle.coll_pending.specs.Queues.{instance_in, IsQueue, IsQueueIn, IsOf, IsOfIn, IsQueues}
use Rattle.coll_pending.specs.Queues.{IsRoomier}
use Rattle.coll_pending.specs.Waiting.{updated_at, seen}
use Rattle.coll_pending.proofs.TableLemmas.{updated_is, updated_at_is}

-- the queue of a communicator that stands, or one in its place that tells the same
pub record Stands {X : Type 0} (s : Queues X) (c : ℕ) (q : Queue) : Type 0 where
  pub keys : (k : ℕ) → key_of s c k ≡ key_at q k
  pub counts : (r : ℕ) → count_in (queue_at s.queues c) r ≡ count q r
  pub queue : IsQueue q.members q.counts q.first (length q.keys)
  pub sound : (k : ℕ) (o : Slot X) → slot_of s c k ≡ Some o → IsOf (communicator q) q.counts k o

pub there : {X : Type 0} (s : Queues X) (c : ℕ) (q : Queue) → IsQueues s →
    queue_at s.queues c ≡ Some q → Stands s c q
there {X} s c q is at = record {
  keys = λ k. ap (λ w. key_in w k) at;
  counts = λ r. ap (λ w. count_in w r) at;
  queue = subst (λ w. IsQueueIn w) at (is.queue c);
  sound = λ k o found. subst (λ w. IsOfIn w k o) at (is.sound c k o found);
}

-- what stands at one key after a change, and at all other keys
pub record Changes {X : Type 0} (s : Queues X) (c : ℕ) (q p : Queue) (slots : Slab (Slot X))
    (k key : ℕ) (v : Option (Slot X)) : Type 0 where
  pub row : c < length s.queues
  pub updates : Updates s.slots slots key v
  pub others : (l : ℕ) → l ≢ k → key_at p l ≡ key_at q l
  -- no other instance stands there
  pub alone : (d l : ℕ) → key_of s d l ≡ Some key → (d ≡ c) × (l ≡ k)
  pub here : slot_in slots (key_at p k) ≡ v
  pub only : (other : ℕ) → key_at p k ≡ Some other → (other ≡ key) × IsSome v

module _ {X : Type 0} (s : Queues X) (is : IsQueues s) (c : ℕ) (q p : Queue)
    (slots : Slab (Slot X)) (k key : ℕ) (v : Option (Slot X)) (stands : Stands s c q)
    (change : Changes s c q p slots k key v) where
  abbrev after : Queues X
  after = record { queues = set s.queues c (Some p); slots = slots }

  queue_here : queue_at after.queues c ≡ Some p
  queue_here = get_or-set_same s.queues c (Some p) None change.row

  queue_else : (d : ℕ) → d ≢ c → queue_at after.queues d ≡ queue_at s.queues d
  queue_else d other = get_or-set_other s.queues c d (Some p) None other

  -- each key is as it was, but the one
  abbrev IsHere : ℕ → ℕ → Type 0
  IsHere d l = (d ≡ c) × (l ≡ k)

  keys_same : (d l : ℕ) → (IsHere d l → ⊥) → key_of after d l ≡ key_of s d l
  keys_same d l off = elim (cases_eq d c) [
    | inr far ↦ ap (λ w. key_in w l) (queue_else d far)
    | inl near ↦
        ap (λ e. key_of after e l) near
        ∙ (ap (λ w. key_in w l) queue_here
        ∙ (change.others l (λ e. off (near, e))
        ∙ (sym (stands.keys l) ∙ ap (λ e. key_of s e l) (sym near))))
  ]

  keys_here : key_of after c k ≡ key_at p k
  keys_here = ap (λ w. key_in w k) queue_here

  cases_here : (d l : ℕ) → IsHere d l ⊎ (IsHere d l → ⊥)
  cases_here d l = elim (cases_eq d c) [
    | inr far ↦ inr (λ e. far e.0)
    | inl near ↦ elim (cases_eq l k) [
      | inr off ↦ inr (λ e. off e.1)
      | inl on ↦ inl (near, on)
    ]
  ]

  kept_at : (w : Option ℕ) → (w ≡ Some key → ⊥) → slot_in slots w ≡ slot_in s.slots w
  kept_at None differs = refl
  kept_at (Some other) differs = change.updates.others other (λ e. differs (ap (λ n. Some n) e))

  slots_same : (d l : ℕ) → (IsHere d l → ⊥) → slot_of after d l ≡ slot_of s d l
  slots_same d l off =
      ap (λ w. slot_in slots w) (keys_same d l off)
      ∙ kept_at (key_of s d l) (λ e. off (change.alone d l e))

  slots_here : slot_of after c k ≡ v
  slots_here = ap (λ w. slot_in slots w) keys_here ∙ change.here

  pub slots_changed : (λ d l. slot_of after d l) ≡ updated_at (λ d l. slot_of s d l) c k v
  slots_changed =
      updated_at_is (λ d l. slot_of s d l) (λ d l. slot_of after d l) c k v slots_here slots_same

  pub pending_changed : (seen after).pending ≡ updated_at (seen s).pending c k (instance_in v)
  pending_changed = updated_at_is (seen s).pending (seen after).pending c k (instance_in v)
      (ap (λ w. instance_in w) slots_here)
      (λ d l off. ap (λ w. instance_in w) (slots_same d l off))

  pub known_changed : (seen after).known ≡ updated (seen s).known c (Some (communicator p))
  known_changed = updated_is (seen s).known (seen after).known c (Some (communicator p))
      (ap (λ w. known_in w) queue_here)
      (λ d far. ap (λ w. known_in w) (queue_else d far))

  pub counts_here : (r : ℕ) → (seen after).arrivals c r ≡ count p r
  counts_here r = ap (λ w. count_in w r) queue_here

  pub counts_else : (d r : ℕ) → d ≢ c → (seen after).arrivals d r ≡ (seen s).arrivals d r
  counts_else d r far = ap (λ w. count_in w r) (queue_else d far)

  -- a key at a place after the change leads there or stood there before
  still : (d l at : ℕ) → key_of after d l ≡ Some at →
      (IsHere d l × (at ≡ key) × IsSome v) ⊎ ((IsHere d l → ⊥) × (key_of s d l ≡ Some at))
  still d l at found = elim (cases_here d l) [
    | inl here ↦
        let moved : key_of after c k ≡ Some at =
        subst (λ e. key_of after e k ≡ Some at) here.0
        (subst (λ m. key_of after d m ≡ Some at) here.1 found) in
        let it = change.only at (sym keys_here ∙ moved) in
        inl (here, it.0, it.1)
    | inr off ↦ inr (off, sym (keys_same d l off) ∙ found)
  ]

  stand_still : (d l at : ℕ) → key_of after d l ≡ Some at → IsSome (get slots at)
  stand_still d l at found = elim (still d l at found) [
    | inl here ↦ subst (λ w. IsSome w)
        (sym (ap (λ n. get slots n) here.1 ∙ change.updates.changed)) here.2
    | inr was ↦
        let differs : at ≢ key = λ e. was.0 (change.alone d l (was.1 ∙ ap (λ n. Some n) e)) in
        subst (λ w. IsSome w) (sym (change.updates.others at differs)) (is.stand d l at was.1)
  ]

  one_still : (d l e m at : ℕ) → key_of after d l ≡ Some at → key_of after e m ≡ Some at →
      (d ≡ e) × (l ≡ m)
  one_still d l e m at left right = elim (still d l at left) [
    | inl here ↦ elim (still e m at right) [
      | inl both ↦ (here.0.0 ∙ sym both.0.0, here.0.1 ∙ sym both.0.1)
      | inr was ↦ absurd (was.0 (change.alone e m (was.1 ∙ ap (λ n. Some n) here.1)))
    ]
    | inr was ↦ elim (still e m at right) [
      | inl here ↦ absurd (was.0 (change.alone d l (was.1 ∙ ap (λ n. Some n) here.1)))
      | inr both ↦ is.one d l e m at was.1 both.1
    ]
  ]

  -- the queues are sound again, if the new queue is and what stands in it
  pub changed_sound : IsQueue p.members p.counts p.first (length p.keys) →
      ((l : ℕ) (o : Slot X) → l ≢ k → IsOf (communicator q) q.counts l o →
      IsOf (communicator p) p.counts l o) →
      ((o : Slot X) → v ≡ Some o → IsOf (communicator p) p.counts k o) → IsQueues after
  changed_sound queue others new = record {
    queue = λ d. elim (cases_eq d c) [
      | inr far ↦ subst (λ w. IsQueueIn w) (sym (queue_else d far)) (is.queue d)
      | inl near ↦ subst (λ w. IsQueueIn w)
          (sym (ap (λ e. queue_at after.queues e) near ∙ queue_here)) queue
    ];
    stand = stand_still;
    one = one_still;
    sound = λ d l o found. elim (cases_eq d c) [
      | inr far ↦
          subst (λ w. IsOfIn w l o) (sym (queue_else d far))
          (is.sound d l o (sym (slots_same d l (λ e. far e.0)) ∙ found))
      | inl near ↦
          subst (λ w. IsOfIn w l o) (sym (ap (λ e. queue_at after.queues e) near ∙ queue_here))
          (in_row l o (subst (λ e. slot_of after e l ≡ Some o) near found))
    ];
  }
    where
      in_row : (l : ℕ) (o : Slot X) → slot_of after c l ≡ Some o →
          IsOf (communicator p) p.counts l o
      in_row l o found = elim (cases_eq l k) [
        | inl on ↦
            let found' : slot_of after c k ≡ Some o =
            subst (λ m. slot_of after c m ≡ Some o) on found in
            subst (λ m. IsOf (communicator p) p.counts m o) (sym on)
            (new o (sym slots_here ∙ found'))
        | inr off ↦
            let was : slot_of s c l ≡ Some o = sym (slots_same c l (λ e. off e.1)) ∙ found in
            others l o off (stands.sound l o was)
      ]

-- ## room alone

same_in : (w v : Option Queue) → IsRoomier w v → (known_in v ≡ known_in w)
    × ((r : ℕ) → count_in v r ≡ count_in w r) × ((k : ℕ) → key_in v k ≡ key_in w k)
same_in None v same =
    (ap (λ x. known_in x) same, λ r. ap (λ x. count_in x r) same, λ k. ap (λ x. key_in x k) same)
same_in (Some q) None same = absurd same
same_in (Some q) (Some p) same = (
  ap (λ (x : Queue). Some (communicator x)) same,
  λ r. ap (λ (x : Queue). count x r) same,
  λ k. ap (λ (x : Queue). key_at x k) same,
)

sound_in : (w v : Option Queue) → IsRoomier w v → IsQueueIn w → IsQueueIn v
sound_in None v same is = subst (λ x. IsQueueIn x) (sym same) is
sound_in (Some q) None same is = absurd same
sound_in (Some q) (Some p) same is = subst (λ (x : Queue). IsQueueIn (Some x)) (sym same) is

of_in : {X : Type 0} (w v : Option Queue) (k : ℕ) (o : Slot X) → IsRoomier w v → IsOfIn w k o →
    IsOfIn v k o
of_in None v k o same is = absurd is
of_in (Some q) None k o same is = absurd same
of_in (Some q) (Some p) k o same is = subst (λ (x : Queue). IsOfIn (Some x) k o) (sym same) is

pub roomier_sound : {X : Type 0} (s : Queues X) (rows : List (Option Queue))
    (slots : Slab (Slot X)) → IsQueues s →
    ((c : ℕ) → IsRoomier (queue_at s.queues c) (queue_at rows c)) →
    ((key : ℕ) → get slots key ≡ get s.slots key) →
    IsQueues (record { queues = rows; slots = slots })
roomier_sound {X} s rows slots is same kept = record {
  queue = λ c. sound_in (queue_at s.queues c) (queue_at rows c) (same c) (is.queue c);
  stand = λ c k key e. subst (λ w. IsSome w) (sym (kept key))
      (is.stand c k key (sym (keys c k) ∙ e));
  one = λ c k d l key e f. is.one c k d l key (sym (keys c k) ∙ e) (sym (keys d l) ∙ f);
  sound = λ c k o e. of_in (queue_at s.queues c) (queue_at rows c) k o (same c)
      (is.sound c k o (sym (slots_same c k) ∙ e));
}
  where
    keys : (c k : ℕ) → key_in (queue_at rows c) k ≡ key_of s c k
    keys c k = (same_in (queue_at s.queues c) (queue_at rows c) (same c)).2 k

    slot_kept : (w : Option ℕ) → slot_in slots w ≡ slot_in s.slots w
    slot_kept None = refl
    slot_kept (Some key) = kept key

    slots_same : (c k : ℕ) → slot_in slots (key_in (queue_at rows c) k) ≡ slot_of s c k
    slots_same c k = ap (λ w. slot_in slots w) (keys c k) ∙ slot_kept (key_of s c k)
