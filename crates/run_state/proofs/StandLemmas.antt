-- One more post: what a state then stands for.
use Rattle.std.proofs.Common.{◌≡◌, ◌≢◌, ℕ, suc, ◌+◌, ◌<◌, ◌≤◌, List, [], ◌∷◌, ◌++◌, length, refl}
use Rattle.std.proofs.Common.{sym, ap, ◌∙◌, subst, arith, true, false, not, ◌&&◌, Option, Some}
use Rattle.std.proofs.Common.{None, slice_get, get_or, ⊎_elim, ◌⊎◌, inl, inr, eqb, eqb-true, eq-eqb}
use Rattle.std.proofs.Common.{ne_eqb, length-append, Result, Ok, Err}
use Rattle.std.specs.Prelude.{IfOk}
use Rattle.std.specs.Option.{option_map}
use Rattle.std.proofs.lemmas.Bool.{cases_Bool, cond-true, cond-false, false≢true}
use Rattle.std.proofs.lemmas.Option.{slice_get_within, slice_get_cases}
use Rattle.std.proofs.lemmas.List.{length-map}
use Rattle.wall_policy.specs.Policy.{ChineseWall}
use Rattle.wall_rules.specs.Histories.{has}
use Rattle.coll_routes.specs.declared.statement.Stated.{Stated}
use Rattle.coll_routes.specs.Rolls.{is_full}
use Rattle.coll_pending.specs.Instances.{Instance, is_begun}
use Rattle.coll_pending.specs.Keyed.{updated}
use Rattle.coll_pending.specs.Waiting.{updated_at}
use Rattle.coll_pending.proofs.CollPendingLemmas.{begun_set}
use Rattle.run_model.specs.Comms.{Comm, added}
use Rattle.run_model.specs.Posts.{Post, posts_on, kth_posts, instance, filled, comms, histories}
use Rattle.run_model.specs.Posts.{outcome, outcome_of, labelled, with_delivery}
use Rattle.run_state.specs.declared.entered.Entered.{Entered}
use Rattle.run_state.specs.declared.entered.Unentered.{Unentered}
use Rattle.run_state.specs.declared.entered.Entered.TheVariants.{Waiting, Settled}
use Rattle.run_model.specs.Contributions.{Contribution, posts_of, parts_on, kth_parts, parts_in}
use Rattle.run_model.specs.Contributions.{full_at}
use Rattle.run_state.specs.Views.{PostStateView}
use Rattle.run_state.specs.Entering.{Spot, Answers, Enters, place_at, after, fills, if_waiting}
use Rattle.run_state.specs.Stands.{StandsForPosts, Tells, arrivals_in, arrivals_as, waiting_by}
use Rattle.run_state.specs.Stands.{waiting_in}
use Rattle.run_state.proofs.RowLemmas.{length_snoc, get-prefix, map-same, rows-other, begun_nothing}
use Rattle.run_state.proofs.RowLemmas.{parts_back}
use Rattle.run_state.proofs.ContributionLemmas.{posts-grow, parts-grow, posts-elsewhere}
use Rattle.run_state.proofs.ContributionLemmas.{parts-elsewhere}
use Rattle.run_model.proofs.RunModelLemmas.{lengths}
use Rattle.run_state.proofs.AfterLemmas.{instance_by, own_rank, once, place_is, rows-now, after_is}
use Rattle.run_state.proofs.AfterLemmas.{filled_is}

-- a table by two numbers, where one value was written over
pub at_own : {A : Type 0} (table : ℕ → ℕ → A) (c k : ℕ) (a : A) → updated_at table c k a c k ≡ a
at_own table c k a =
    (λ i. cond-true (eqb c c) (updated (table c) k a) (table c) (eq-eqb c c refl) i k)
    ∙ cond-true (eqb k k) a (table c k) (eq-eqb k k refl)

pub at_beside : {A : Type 0} (table : ℕ → ℕ → A) (c k : ℕ) (a : A) (l : ℕ) → l ≢ k →
    updated_at table c k a c l ≡ table c l
at_beside table c k a l apart =
    (λ i. cond-true (eqb c c) (updated (table c) k a) (table c) (eq-eqb c c refl) i l)
    ∙ cond-false (eqb l k) a (table c l) (ne_eqb l k apart)

pub at_other : {A : Type 0} (table : ℕ → ℕ → A) (c k : ℕ) (a : A) (d l : ℕ) → d ≢ c →
    updated_at table c k a d l ≡ table d l
at_other table c k a d l apart =
    λ i. cond-false (eqb d c) (updated (table c) k a) (table d) (ne_eqb d c apart) i l

pub same_or_not : (a b : ℕ) → (a ≡ b) ⊎ (a ≢ b)
same_or_not a b = ⊎_elim (λ t. inl (eqb-true a b t))
    (λ f. inr (λ e. false≢true (sym f ∙ eq-eqb a b e))) (cases_Bool (eqb a b))

-- a look-up in a list that grew: what was there, or, past the old end, anything
pub grown : {A : Type 0} (xs ys : List A) (n : ℕ) → ((x : A) × (slice_get xs n ≡ Some x)
    × (slice_get (xs ++ ys) n ≡ Some x)) ⊎ ((length xs ≤ n) × (slice_get xs n ≡ None))
grown {A} xs ys n = ⊎_elim
    (λ (there : (x : A) × (n < length xs) × (slice_get xs n ≡ Some x) × (get_or xs n x ≡ x)).
    inl (there.0, there.2, get-prefix xs ys n there.0 there.2))
    (λ past. inr past)
    (slice_get_cases xs n).1

-- an instance with begun rows, where it waits
if_waiting_is :
    {X : Type 0} (comm : Comm) (stated : List (Option Stated)) (parts : List (Option X)) →
    is_begun stated ≡ true →
    if_waiting (instance_by comm stated parts) ≡ waiting_by comm stated parts
if_waiting_is {X} comm stated parts begun = ⊎_elim
    (λ t. cond-true (is_full stated) none now t
    ∙ sym (cond-false (is_begun stated && not (is_full stated)) now none
    (λ i. begun i && not (t i))))
    (λ f. cond-false (is_full stated) none now f
    ∙ sym (cond-true (is_begun stated && not (is_full stated)) now none
    (λ i. begun i && not (f i))))
    (cases_Bool (is_full stated))
  where
    now : Option (Instance X)
    now = Some (instance_by comm stated parts)

    none : Option (Instance X)
    none = None

-- the rows of a communicator on which nobody has posted
pub unused_waits : {X : Type 0} (o : Option Comm) (c k : ℕ) (past : List (Contribution X)) →
    ((m : ℕ) → posts_on c m (posts_of past) ≡ []) → waiting_in o c k past ≡ None
unused_waits None c k past none = refl
unused_waits {X} (Some comm) c k past none =
    let rows = kth_posts comm c k (posts_of past) in
    let gone : Option (Instance X) = None in
    let bare : is_begun rows ≡ false = begun_nothing (λ m. posts_on c m (posts_of past)) k
    comm.members none in
    cond-false (is_begun rows && not (is_full rows))
    (Some (instance_by comm rows (kth_parts comm c k past))) gone
    (λ i. bare i && not (is_full rows))

pub unused_arrivals : (o : Option Comm) (c rank : ℕ) (posts : List Post) →
    ((m : ℕ) → posts_on c m posts ≡ []) → arrivals_in o c rank posts ≡ 0
unused_arrivals None c rank posts none = refl
unused_arrivals (Some comm) c rank posts none = by (slice_get comm.members rank)
  where
    by : (o : Option ℕ) → arrivals_as o c posts ≡ 0
    by None = refl
    by (Some m) = ap length (none m)

arrivals_elsewhere : (o : Option ℕ) (c : ℕ) (x : Post) (posts : List Post) → x.comm ≢ c →
    arrivals_as o c posts ≡ arrivals_as o c (x ∷ posts)
arrivals_elsewhere None c x posts apart = refl
arrivals_elsewhere (Some m) c x posts apart = ap length (sym (posts-elsewhere c m x posts apart))

module _ {X : Type 0} (wall : ChineseWall) (old new : PostStateView X)
    (past : List (Contribution X)) (stands : StandsForPosts wall old past) (g : Contribution X)
    (entered : Entered X) (moves : Enters wall old new g entered) where
  abbrev posts : List Post
  posts = posts_of past

  abbrev spot : Spot
  spot = moves.spot

  abbrev c : ℕ
  c = g.post.comm

  abbrev before : ℕ
  before = length (posts_on c g.post.process posts)

  place_was : place_at old spot g ≡ before
  place_was = place_is wall old past stands spot g moves.at

  after_now : after old spot g
      ≡ instance_by spot.comm (kth_posts spot.comm c before (g.post ∷ posts))
      (kth_parts spot.comm c before (g ∷ past))
  after_now = after_is wall old past stands spot g moves.at moves.agrees

  filled_now : filled (comms wall posts) g.post posts ≡ fills old spot g
  filled_now = filled_is wall old past stands spot g moves.at moves.agrees

  filled_old : filled old.comms g.post posts ≡ fills old spot g
  filled_old = ap (λ table. filled table g.post posts) stands.comms ∙ filled_now

  comms_now : new.comms ≡ comms wall (g.post ∷ posts)
  comms_now =
      moves.comms
      ∙ ((λ i. old.comms ++ added (length old.comms) (sym filled_old i))
      ∙ ap (λ table. table ++ added (length table) (filled table g.post posts)) stands.comms)

  histories_now : has new.accesses ≡ histories wall (g.post ∷ posts)
  histories_now =
      moves.changes.histories
      ∙ ((λ i. with_delivery wall (labelled (stands.histories i) g.post) (length (stands.comms i))
      (sym filled_now i)))

  -- the posted communicator is still there
  there_now : slice_get new.comms c ≡ Some spot.comm
  there_now = ap (λ table. slice_get table c) moves.comms
      ∙ get-prefix old.comms (added (length old.comms) (fills old spot g)) c spot.comm
      moves.at.there

  -- ## arrivals

  abbrev ArrivalsAt : (d rank : ℕ) → Type 0
  ArrivalsAt d rank =
      new.waiting.arrivals d rank ≡ arrivals_in (slice_get new.comms d) d rank (g.post ∷ posts)

  arrivals_changed : (d rank : ℕ) →
      new.waiting.arrivals d rank
      ≡ updated_at old.waiting.arrivals c spot.rank (place_at old spot g + 1) d rank
  arrivals_changed d rank = λ i. moves.changes.arrivals i d rank

  arrivals_own : ArrivalsAt c spot.rank
  arrivals_own =
      arrivals_changed c spot.rank
      ∙ (at_own old.waiting.arrivals c spot.rank (place_at old spot g + 1)
      ∙ (ap (λ n. n + 1) place_was
      ∙ (let one : before + 1 ≡ suc before = omega arith in one
      ∙ (sym (length_snoc (posts_on c g.post.process posts) g.post.stated)
      ∙ (ap length (sym (posts-grow g.post posts).own)
      ∙ (ap (λ o. arrivals_as o c (g.post ∷ posts))
      (sym (own_rank wall old past stands spot g moves.at))
      ∙ ap (λ o. arrivals_in o c spot.rank (g.post ∷ posts)) (sym there_now)))))))

  arrivals_beside : (rank : ℕ) → rank ≢ spot.rank → ArrivalsAt c rank
  arrivals_beside rank apart =
      arrivals_changed c rank
      ∙ (at_beside old.waiting.arrivals c spot.rank (place_at old spot g + 1) rank apart
      ∙ (stands.arrivals c rank
      ∙ (ap (λ o. arrivals_in o c rank posts) moves.at.there
      ∙ (by (slice_get spot.comm.members rank) refl
      ∙ ap (λ o. arrivals_in o c rank (g.post ∷ posts)) (sym there_now)))))
    where
      by : (o : Option ℕ) → slice_get spot.comm.members rank ≡ o →
          arrivals_as o c posts ≡ arrivals_as o c (g.post ∷ posts)
      by None at = refl
      by (Some m) at =
          let other : g.post.process ≢ m = λ e. apart
          (once wall old past stands spot g moves.at rank (at ∙ ap (λ q. Some q) (sym e))) in
          ap length (sym ((posts-grow g.post posts).others m other))

  arrivals_other : (d rank : ℕ) → d ≢ c → ArrivalsAt d rank
  arrivals_other d rank apart = ⊎_elim
      (λ (there : (comm : Comm) × (slice_get old.comms d ≡ Some comm)
      × (slice_get (old.comms ++ added (length old.comms) (fills old spot g)) d ≡ Some comm)).
      was
      ∙ (ap (λ o. arrivals_in o d rank posts) there.1
      ∙ (arrivals_elsewhere (slice_get there.0.members rank) d g.post posts not_here
      ∙ ap (λ o. arrivals_in o d rank (g.post ∷ posts))
      (sym (ap (λ table. slice_get table d) moves.comms ∙ there.2)))))
      (λ (past_end : (length old.comms ≤ d) × (slice_get old.comms d ≡ None)).
      was
      ∙ (ap (λ o. arrivals_in o d rank posts) past_end.1
      ∙ sym (unused_arrivals (slice_get new.comms d) d rank (g.post ∷ posts)
      (λ m. posts-elsewhere d m g.post posts not_here ∙ stands.there d m past_end.0))))
      (grown old.comms (added (length old.comms) (fills old spot g)) d)
    where
      not_here : c ≢ d
      not_here e = apart (sym e)

      was : new.waiting.arrivals d rank ≡ arrivals_in (slice_get old.comms d) d rank posts
      was = arrivals_changed d rank
          ∙ (at_other old.waiting.arrivals c spot.rank (place_at old spot g + 1) d rank apart
          ∙ stands.arrivals d rank)

  arrivals_now : (d rank : ℕ) → ArrivalsAt d rank
  arrivals_now d rank = ⊎_elim
      (λ is. subst (λ e. ArrivalsAt e rank) (sym is) (⊎_elim
      (λ own. subst (λ r. ArrivalsAt c r) (sym own) arrivals_own) (arrivals_beside rank)
      (same_or_not rank spot.rank)))
      (arrivals_other d rank)
      (same_or_not d c)

  -- ## instances that wait

  abbrev PendingAt : (d k : ℕ) → Type 0
  PendingAt d k = new.waiting.pending d k ≡ waiting_in (slice_get new.comms d) d k (g ∷ past)

  pending_changed : (d k : ℕ) →
      new.waiting.pending d k
      ≡ updated_at old.waiting.pending c (place_at old spot g) (if_waiting (after old spot g)) d
      k
  pending_changed d k = λ i. moves.changes.pending i d k

  begun_now : is_begun (kth_posts spot.comm c before (g.post ∷ posts)) ≡ true
  begun_now =
      let rows = kth_posts spot.comm c before posts in
      let own = own_rank wall old past stands spot g moves.at in
      let within : spot.rank < length rows = subst (λ n. spot.rank < n)
      (sym (length-map spot.comm.members (λ m. slice_get (posts_on c m posts) before)))
      (slice_get_within spot.comm.members spot.rank g.post.process own) in
      ap is_begun (rows-now wall old past stands spot g moves.at)
      ∙ begun_set rows spot.rank g.post.stated within

  pending_own : PendingAt c before
  pending_own =
      pending_changed c before
      ∙ (ap (λ k. updated_at old.waiting.pending c (place_at old spot g)
      (if_waiting (after old spot g)) c k) (sym place_was)
      ∙ (at_own old.waiting.pending c (place_at old spot g) (if_waiting (after old spot g))
      ∙ (ap if_waiting after_now
      ∙ (if_waiting_is spot.comm (kth_posts spot.comm c before (g.post ∷ posts))
      (kth_parts spot.comm c before (g ∷ past)) begun_now
      ∙ ap (λ o. waiting_in o c before (g ∷ past)) (sym there_now)))))

  pending_beside : (k : ℕ) → k ≢ before → PendingAt c k
  pending_beside k apart =
      pending_changed c k
      ∙ (at_beside old.waiting.pending c (place_at old spot g) (if_waiting (after old spot g)) k
      (λ e. apart (e ∙ place_was))
      ∙ (stands.pending c k
      ∙ (ap (λ o. waiting_in o c k past) moves.at.there
      ∙ ((λ i. waiting_by spot.comm (sym rows i) (sym parts i))
      ∙ ap (λ o. waiting_in o c k (g ∷ past)) (sym there_now)))))
    where
      rows : kth_posts spot.comm c k (g.post ∷ posts) ≡ kth_posts spot.comm c k posts
      rows = rows-other (λ m. posts_on c m posts) (λ m. posts_on c m (g.post ∷ posts))
          g.post.process g.post.stated spot.comm.members k (posts-grow g.post posts) apart

      parts : kth_parts spot.comm c k (g ∷ past) ≡ kth_parts spot.comm c k past
      parts = rows-other (λ m. parts_on c m past) (λ m. parts_on c m (g ∷ past)) g.post.process
          g.part spot.comm.members k (parts-grow g past)
          (λ e. apart (e ∙ lengths c g.post.process past))

  pending_other : (d k : ℕ) → d ≢ c → PendingAt d k
  pending_other d k apart = ⊎_elim
      (λ (there : (comm : Comm) × (slice_get old.comms d ≡ Some comm)
      × (slice_get (old.comms ++ added (length old.comms) (fills old spot g)) d ≡ Some comm)).
      was
      ∙ (ap (λ o. waiting_in o d k past) there.1
      ∙ ((λ i. waiting_by there.0 (sym (rows there.0) i) (sym (parts there.0) i))
      ∙ ap (λ o. waiting_in o d k (g ∷ past))
      (sym (ap (λ table. slice_get table d) moves.comms ∙ there.2)))))
      (λ (past_end : (length old.comms ≤ d) × (slice_get old.comms d ≡ None)).
      was
      ∙ (ap (λ o. waiting_in o d k past) past_end.1
      ∙ sym (unused_waits (slice_get new.comms d) d k (g ∷ past)
      (λ m. posts-elsewhere d m g.post posts not_here ∙ stands.there d m past_end.0))))
      (grown old.comms (added (length old.comms) (fills old spot g)) d)
    where
      not_here : c ≢ d
      not_here e = apart (sym e)

      was : new.waiting.pending d k ≡ waiting_in (slice_get old.comms d) d k past
      was = pending_changed d k
          ∙ (at_other old.waiting.pending c (place_at old spot g) (if_waiting (after old spot g)) d
          k apart ∙ stands.pending d k)

      rows : (comm : Comm) → kth_posts comm d k (g.post ∷ posts) ≡ kth_posts comm d k posts
      rows comm = map-same (λ m. slice_get (posts_on d m (g.post ∷ posts)) k)
          (λ m. slice_get (posts_on d m posts) k) comm.members
          (λ m. ap (λ xs. slice_get xs k) (posts-elsewhere d m g.post posts not_here))

      parts : (comm : Comm) → kth_parts comm d k (g ∷ past) ≡ kth_parts comm d k past
      parts comm = map-same (λ m. slice_get (parts_on d m (g ∷ past)) k)
          (λ m. slice_get (parts_on d m past) k) comm.members
          (λ m. ap (λ xs. slice_get xs k) (parts-elsewhere d m g past not_here))

  pending_now : (d k : ℕ) → PendingAt d k
  pending_now d k = ⊎_elim
      (λ is. subst (λ e. PendingAt e k) (sym is) (⊎_elim
      (λ own. subst (λ n. PendingAt c n) (sym own) pending_own) (pending_beside k)
      (same_or_not k before)))
      (pending_other d k)
      (same_or_not d c)

  -- ## the whole

  unposted_now : (d m : ℕ) → length new.comms ≤ d → posts_on d m (g.post ∷ posts) ≡ []
  unposted_now d m past_end =
      let more : length new.comms ≡ length old.comms + length
      (added (length old.comms) (fills old spot g)) = ap length moves.comms ∙ length-append
      old.comms (added (length old.comms) (fills old spot g)) in
      let low : c < length old.comms = slice_get_within old.comms c spot.comm moves.at.there in
      let old_end : length old.comms ≤ d = omega (arith, more, past_end) in
      let apart : c ≢ d = omega (arith, low, old_end) in
      posts-elsewhere d m g.post posts apart ∙ stands.there d m old_end

  pub stands_now : StandsForPosts wall new (g ∷ past)
  stands_now = record {
    comms = comms_now;
    histories = histories_now;
    processes = moves.changes.processes ∙ stands.processes;
    classes = moves.changes.classes ∙ stands.classes;
    arrivals = arrivals_now;
    pending = pending_now;
    there = unposted_now;
  }

  instance_now : (after old spot g).roll ≡ instance spot.comm c before (g.post ∷ posts)
  instance_now = ap (λ (w : Instance X). w.roll) after_now

  there_then : slice_get (comms wall posts) c ≡ Some spot.comm
  there_then = sym (ap (λ table. slice_get table c) stands.comms) ∙ moves.at.there

  told : (e : Entered X) → Answers wall (length old.comms) old spot g e → Tells wall g past e
  told (Waiting k) (is, waits) = (
    is ∙ place_was,
    filled_now
        ∙ cond-false (is_full (after old spot g).roll.stated) (Some (after old spot g).roll)
        None waits,
  )
  told (Settled full k o) (is, all, roll, parts, comes, fit) =
      let fills_it : filled (comms wall posts) g.post posts ≡ Some full.roll = filled_now ∙
      (cond-true (is_full (after old spot g).roll.stated) (Some (after old spot g).roll) None
      all ∙ ap (λ r. Some r) (sym roll)) in
      let k_is : k ≡ before = is ∙ place_was in
      let same_roll : instance spot.comm c k (g.post ∷ posts) ≡ full.roll = ap
      (λ n. instance spot.comm c n (g.post ∷ posts)) k_is ∙ (sym instance_now ∙ sym roll) in
      let same_parts : parts_in (kth_parts spot.comm c k (g ∷ past)) ≡ full.parts = ap
      (λ n. parts_in (kth_parts spot.comm c n (g ∷ past))) k_is ∙
      (ap (λ (w : Instance X). parts_in w.parts) (sym after_now)
      ∙ (ap parts_in (sym parts) ∙ parts_back full.parts)) in
      let same : full_at spot.comm c k (g ∷ past) ≡ full = λ i. record
      { roll = same_roll i; parts = same_parts i } in
      let out : outcome wall g.post posts ≡ Some o =
      ap (λ r. option_map
      (outcome_of wall (labelled (histories wall posts) g.post) (length (comms wall posts)))
      r) fills_it
      ∙ ap (λ v. Some v) ((λ i. outcome_of wall (labelled (sym stands.histories i) g.post)
      (length (sym stands.comms i)) (roll i)) ∙ sym comes) in (
        is ∙ place_was,
        fills_it,
        ap (λ o. option_map (λ comm. full_at comm c k (g ∷ past)) o) there_then
            ∙ ap (λ v. Some v) same,
        out,
        fit,
      )

  pub tells_now : Tells wall g past entered
  tells_now = told entered moves.answers

-- the step by what is seen, as a step of the posts that the state stands for
pub lifted : {X : Type 0} (wall : ChineseWall) (old new : PostStateView X) (g : Contribution X)
    (result : Result (Entered X) (Unentered X)) →
    IfOk result (λ entered. Enters wall old new g entered) →
    IfOk result (λ entered. (past : List (Contribution X)) → StandsForPosts wall old past →
    StandsForPosts wall new (g ∷ past) × Tells wall g past entered)
lifted wall old new g (Ok entered) moves = λ past stands. (
  stands_now wall old new past stands g
      entered moves,
  tells_now wall old new past stands g entered moves,
)
lifted wall old new g (Err refused) moves = tt
