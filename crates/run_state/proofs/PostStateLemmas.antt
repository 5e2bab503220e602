-- What is so of every state stays so, and what one post changes.
use Rattle.std.proofs.Common.{◌≡◌, ◌≢◌, ℕ, ◌+◌, ◌<◌, ◌≤◌, List, [], ◌∷◌, ◌++◌, length, refl, sym}
use Rattle.std.proofs.Common.{ap, ◌∙◌, subst, arith, Bool, true, false, not, ◌&&◌, Option, Some}
use Rattle.std.proofs.Common.{None, slice_get, ⊎_elim, ◌⊎◌, inl, inr, eqb, eq-eqb, ne_eqb}
use Rattle.std.proofs.Common.{length-append}
use Rattle.std.proofs.lemmas.Bool.{cases_Bool, cond-true, cond-false, and_left, and_right, and_from}
use Rattle.std.proofs.lemmas.Option.{slice_get_within}
use Rattle.std.proofs.lemmas.List.{append-nil}
use Rattle.wall_policy.specs.Policy.{ChineseWall}
use Rattle.wall_rules.specs.Histories.{History, Accesses, has, opening}
use Rattle.mpi_comm.specs.declared.values.Ask.{Ask}
use Rattle.coll_values.specs.declared.full.Full.{Full}
use Rattle.coll_routes.specs.declared.statement.Stated.{Stated}
use Rattle.coll_routes.specs.declared.roll.Roll.{Roll}
use Rattle.coll_routes.specs.Fit.{IsSound}
use Rattle.coll_routes.specs.Signatures.{is_constructor}
use Rattle.coll_pending.specs.declared.arrival.Arrived.{Arrived}
use Rattle.coll_pending.specs.declared.arrival.Arrived.TheVariants as arrived
use Rattle.coll_routes.specs.Rolls.{is_full}
use Rattle.coll_pending.specs.Instances.{Instance}
use Rattle.coll_pending.specs.Keyed.{updated}
use Rattle.coll_pending.specs.Waiting.{PendingView, IsKnownAs, updated_at, HasArrived}
use Rattle.wall_verdict.specs.Star.{star, with_label}
use Rattle.run_model.specs.Comms.{Comm, world, processes, added, new_comms, asks, new_comms_by}
use Rattle.run_model.specs.Comms.{if_fit}
use Rattle.run_model.specs.Posts.{if_full, with_delivery, constructor_outcome}
use Rattle.run_model.specs.declared.outcome.Outcome.{Outcome}
use Rattle.run_state.specs.declared.entered.Entered.{Entered}
use Rattle.run_state.specs.declared.entered.Entered.TheVariants.{Waiting, Settled}
use Rattle.run_model.specs.Contributions.{Contribution}
use Rattle.run_state.specs.Making.{Makes}
use Rattle.run_state.specs.Views.{PostStateView, IsPostState, IsInstanceOf, IsUnused}
use Rattle.run_state.specs.Views.{communicator_of}
use Rattle.run_state.specs.Entering.{Spot, IsAt, Enters, Changes, Answers, place_at, after, fills}
use Rattle.run_state.specs.Entering.{if_waiting, written}
use Rattle.run_state.specs.Upcoming.{IsNext, IsPrepared, roll_next, constructed}
use Rattle.run_state.specs.Stands.{StandsForPosts}
use Rattle.run_state.proofs.RowLemmas.{get-prefix, some_same}
use Rattle.run_state.proofs.StandLemmas.{at_own, at_beside, at_other, same_or_not, grown}
use Rattle.run_state.proofs.StandLemmas.{unused_waits, unused_arrivals}
use Rattle.run_state.proofs.SeenLemmas.{roll_is, sig_is, members_is, shape_is, sound_next}
use Rattle.run_state.proofs.MadeLemmas.{new_comms_are, plain_adds_none}

-- ## what every state keeps

module _ {X : Type 0} (old new : PostStateView X) (c k : ℕ) (comm : Comm) (more : List Comm)
    (inst : Instance X) (post_state : IsPostState old) (there : slice_get old.comms c ≡ Some comm)
    (comms : new.comms ≡ old.comms ++ more)
    (known : new.waiting.known ≡ updated old.waiting.known c (Some (communicator_of comm)))
    (pending : new.waiting.pending ≡ updated_at old.waiting.pending c k (if_waiting inst))
    (of : IsInstanceOf comm inst) where
  there_now : slice_get new.comms c ≡ Some comm
  there_now = ap (λ table. slice_get table c) comms ∙ get-prefix old.comms more c comm there

  known_own : new.waiting.known c ≡ Some (communicator_of comm)
  known_own = (λ i. known i c)
      ∙ cond-true (eqb c c) (Some (communicator_of comm)) (old.waiting.known c) (eq-eqb c c refl)

  known_other : (d : ℕ) → d ≢ c → new.waiting.known d ≡ old.waiting.known d
  known_other d apart = (λ i. known i d)
      ∙ cond-false (eqb d c) (Some (communicator_of comm)) (old.waiting.known d) (ne_eqb d c apart)

  pending_at : (d l : ℕ) →
      new.waiting.pending d l ≡ updated_at old.waiting.pending c k (if_waiting inst) d l
  pending_at d l = λ i. pending i d l

  -- a communicator that is there now, and has another number, was there before or is new
  was_or_new : (d : ℕ) (other : Comm) → slice_get new.comms d ≡ Some other →
      (slice_get old.comms d ≡ Some other) ⊎ (length old.comms ≤ d)
  was_or_new d other e = ⊎_elim
      (λ (was : (a : Comm) × (slice_get old.comms d ≡ Some a)
      × (slice_get (old.comms ++ more) d ≡ Some a)).
      inl (was.1
      ∙ ap (λ a. Some a) (some_same was.0 other
      (sym was.2 ∙ (ap (λ table. slice_get table d) (sym comms) ∙ e)))))
      (λ (past : (length old.comms ≤ d) × (slice_get old.comms d ≡ None)). inr past.0)
      (grown old.comms more d)

  waits_is : (w : Instance X) → if_waiting inst ≡ Some w → inst ≡ w
  waits_is w e = ⊎_elim
      (λ t. let bad = sym (cond-true (is_full inst.roll.stated) None (Some inst) t) ∙ e in
      absurd (cc))
      (λ f. some_same inst w (sym (cond-false (is_full inst.roll.stated) None (Some inst) f) ∙ e))
      (cases_Bool (is_full inst.roll.stated))

  known_now : (d : ℕ) (other : Comm) → slice_get new.comms d ≡ Some other →
      IsKnownAs (communicator_of other) (new.waiting.known d)
  known_now d other e = ⊎_elim here elsewhere (same_or_not d c)
    where
      here : d ≡ c → IsKnownAs (communicator_of other) (new.waiting.known d)
      here is =
          let same : comm ≡ other = some_same comm other
          (sym there_now ∙ (ap (λ n. slice_get new.comms n) (sym is) ∙ e)) in
          subst (λ o. IsKnownAs (communicator_of other) o)
          (sym (ap new.waiting.known is ∙ known_own)) (ap communicator_of same)

      elsewhere : d ≢ c → IsKnownAs (communicator_of other) (new.waiting.known d)
      elsewhere apart =
          subst (λ o. IsKnownAs (communicator_of other) o) (sym (known_other d apart)) (⊎_elim
          (λ was. post_state.known d other was)
          (λ past. subst (λ o. IsKnownAs (communicator_of other) o)
          (sym (post_state.unused d past).known) tt)
          (was_or_new d other e))

  sound_now : (d l : ℕ) (other : Comm) (w : Instance X) → slice_get new.comms d ≡ Some other →
      new.waiting.pending d l ≡ Some w → IsInstanceOf other w
  sound_now d l other w e waits = ⊎_elim here elsewhere (same_or_not d c)
    where
      here : d ≡ c → IsInstanceOf other w
      here is =
          let same : comm ≡ other = some_same comm other
          (sym there_now ∙ (ap (λ n. slice_get new.comms n) (sym is) ∙ e)) in
          let waits_here : new.waiting.pending c l ≡ Some w = ap (λ n. new.waiting.pending n l)
          (sym is) ∙ waits in
          subst (λ a. IsInstanceOf a w) same (⊎_elim
          (λ own. subst (λ v. IsInstanceOf comm v) (waits_is w (sym
          (at_own old.waiting.pending c k (if_waiting inst))
          ∙ (ap (λ n. updated_at old.waiting.pending c k (if_waiting inst) c n)
          (sym own) ∙ (sym (pending_at c l) ∙ waits_here)))) of)
          (λ beside. post_state.sound c l comm w there (sym
          (at_beside old.waiting.pending c k (if_waiting inst) l beside)
          ∙ (sym (pending_at c l) ∙ waits_here)))
          (same_or_not l k))

      elsewhere : d ≢ c → IsInstanceOf other w
      elsewhere apart =
          let before : old.waiting.pending d l ≡ Some w = sym
          (at_other old.waiting.pending c k (if_waiting inst) d l apart) ∙
          (sym (pending_at d l) ∙ waits) in
          ⊎_elim
          (λ was. post_state.sound d l other w was before)
          (λ past. let bad = sym ((post_state.unused d past).pending l) ∙ before in absurd (cc))
          (was_or_new d other e)

  unused_now : (d : ℕ) → length new.comms ≤ d → IsUnused new.waiting d
  unused_now d past =
      let count : length new.comms ≡ length old.comms + length more = ap length comms ∙
      length-append old.comms more in
      let low : c < length old.comms = slice_get_within old.comms c comm there in
      let old_end : length old.comms ≤ d = omega (arith, count, past) in
      let apart : d ≢ c = omega (arith, low, old_end) in
      let was = post_state.unused d old_end in
      record {
        known = known_other d apart ∙ was.known;
        pending = λ l. pending_at d l
            ∙ (at_other old.waiting.pending c k (if_waiting inst) d l apart ∙ was.pending l);
      }

  pub course_now : IsPostState new
  course_now = record { known = known_now; sound = sound_now; unused = unused_now }

-- a state at the start
pub course_first : {X : Type 0} (seen : PostStateView X) → ((c : ℕ) → seen.waiting.known c ≡ None) →
    ((c k : ℕ) → seen.waiting.pending c k ≡ None) → IsPostState seen
course_first {X} seen known pending = record {
  known = λ c comm e. subst (λ o. IsKnownAs (communicator_of comm) o) (sym (known c)) tt;
  sound = λ c k comm w e waits. (let bad = sym (pending c k) ∙ waits in absurd (cc));
  unused = λ c past. record { known = known c; pending = λ k. pending c k };
}

pub stands_first : {X : Type 0} (wall : ChineseWall) (seen : PostStateView X) →
    seen.comms ≡ world wall ∷ [] → has seen.accesses ≡ opening wall →
    seen.accesses.processes ≡ processes wall → seen.accesses.classes ≡ wall.classes →
    ((c rank : ℕ) → seen.waiting.arrivals c rank ≡ 0) →
    ((c k : ℕ) → seen.waiting.pending c k ≡ None) → StandsForPosts wall seen []
stands_first wall seen comms histories procs classes arrivals pending = record {
  comms = comms;
  histories = histories;
  processes = procs;
  classes = classes;
  arrivals = λ c rank.
      arrivals c rank ∙ sym (unused_arrivals (slice_get seen.comms c) c rank [] (λ m. refl));
  pending = λ c k. pending c k ∙ sym (unused_waits (slice_get seen.comms c) c k [] (λ m. refl));
  there = λ c p past. refl;
}

-- ## what is made for a post

module _ {X : Type 0} (waiting : PendingView X) (c rank : ℕ) (comm : Comm) (s : Stated)
    (is : IsNext waiting c rank comm s) where
  abbrev roll : Roll
  roll = roll_next waiting c rank comm s

  constructs : is_constructor roll.sig ≡ is_constructor s.sig
  constructs = ap is_constructor (sig_is waiting c rank comm s is)

  news : new_comms roll ≡ new_comms_by s.sig comm (asks roll)
  news = new_comms_are roll.sig roll comm (members_is waiting c rank comm s is)
      (shape_is waiting c rank comm s is)
      ∙ ap (λ sig. new_comms_by sig comm (asks roll)) (sig_is waiting c rank comm s is)

  -- of another kind
  pub prepared_plain : (table : List Comm) → is_constructor s.sig ≡ false →
      IsPrepared table table None roll
  prepared_plain table plain = record {
    outcome = sym (cond-false (is_constructor roll.sig && is_full roll.stated)
        (Some (constructor_outcome (length table) (new_comms roll))) None
        (and_left (is_constructor roll.sig) (is_full roll.stated) (constructs ∙ plain)));
    comms = sym (append-nil table)
        ∙ ap (λ new. table ++ new) (sym (plain_adds_none (length table) roll comm
        (members_is waiting c rank comm s is) (shape_is waiting c rank comm s is)
        (constructs ∙ plain)));
  }

  -- where the instance waits on
  pub prepared_waiting : (table : List Comm) → is_full roll.stated ≡ false →
      IsPrepared table table None roll
  prepared_waiting table waits = record {
    outcome = sym (cond-false (is_constructor roll.sig && is_full roll.stated)
        (Some (constructor_outcome (length table) (new_comms roll))) None
        (and_right (is_constructor roll.sig) (is_full roll.stated) waits));
    comms = sym (append-nil table)
        ∙ ap (λ o. table ++ added (length table) o)
        (sym (cond-false (is_full roll.stated) (Some roll) None waits));
  }

  -- where it is full
  pub prepared_made : (table after : List Comm) (outcome : Outcome) (qs : List Ask) →
      qs ≡ asks roll → is_constructor s.sig ≡ true → is_full roll.stated ≡ true →
      Makes (new_comms_by s.sig comm qs) table after outcome →
      IsPrepared table after (Some outcome) roll
  prepared_made table after outcome qs asked constructor full makes =
      let new : new_comms_by s.sig comm qs ≡ new_comms roll = ap (λ xs. new_comms_by s.sig comm xs)
      asked ∙ sym news in
      record {
        outcome = ap (λ o. Some o)
            (makes.told ∙ ap (λ xs. constructor_outcome (length table) xs) new)
            ∙ sym (cond-true (is_constructor roll.sig && is_full roll.stated)
            (Some (constructor_outcome (length table) (new_comms roll))) None
            (and_from (is_constructor roll.sig) (is_full roll.stated)
            (constructs ∙ constructor) full));
        comms = makes.grown
            ∙ (ap (λ xs. table ++ if_fit (length table) xs) new
            ∙ ap (λ o. table ++ added (length table) o)
            (sym (cond-true (is_full roll.stated) (Some roll) None full)));
      }

  -- the instance with the post is one of the communicator
  pub of_next : (w : Instance X) → w.roll ≡ roll → IsInstanceOf comm w
  of_next w e = record {
    members = ap (λ (r : Roll). r.members) e ∙ members_is waiting c rank comm s is;
    shape = ap (λ (r : Roll). r.shape) e ∙ shape_is waiting c rank comm s is;
    sound = subst IsSound (sym e) (sound_next waiting c rank comm s is);
  }

-- ## what is changed by it

not_not : (b : Bool) → not (not b) ≡ b
not_not true = refl
not_not false = refl

module _ {X : Type 0} (wall : ChineseWall) (count : ℕ) (old new : PostStateView X) (spot : Spot)
    (g : Contribution X) (processes : new.accesses.processes ≡ old.accesses.processes)
    (classes : new.accesses.classes ≡ old.accesses.classes)
    (word : g.post.stated.barred ≡ not (star (has old.accesses) g.post.process g.post.stated.label))
  where
    pub written_is : (passed : Bool) (mid : History) →
        passed ≡ star (has old.accesses) g.post.process g.post.stated.label →
        mid ≡ with_label (has old.accesses) g.post.process g.post.stated.label passed →
        mid ≡ written old g
    written_is passed mid tells is = is
        ∙ ap (λ b. with_label (has old.accesses) g.post.process g.post.stated.label b)
        (tells
        ∙ (sym (not_not (star (has old.accesses) g.post.process g.post.stated.label))
        ∙ ap not (sym word)))

    abbrev Arrival : Arrived X → Type 0
    Arrival a = HasArrived old.waiting new.waiting g.post.comm spot.rank (communicator_of spot.comm)
        g.post.stated g.part a

    pub changes_waiting : Arrival arrived.Waiting → has new.accesses ≡ written old g →
        Changes wall count old new spot g
    changes_waiting (waits, arrives) written_now = record {
      arrivals = arrives.arrivals;
      known = arrives.known;
      pending = arrives.pending
          ∙ ap (λ o. updated_at old.waiting.pending g.post.comm (place_at old spot g) o)
          (sym (cond-false (is_full (after old spot g).roll.stated) None (Some (after old spot g))
          waits));
      histories = written_now
          ∙ ((λ i p d. written old g p d)
          ∙ ap (λ o. with_delivery wall (written old g) count o) (sym
          (cond-false (is_full (after old spot g).roll.stated)
          (Some (after old spot g).roll) None waits)));
      processes = processes;
      classes = classes;
    }

    pub changes_full : (full : Full X) → Arrival (arrived.Full full) →
        has new.accesses ≡ with_delivery wall (written old g) count (Some full.roll) →
        Changes wall count old new spot g
    changes_full full (all, roll, parts, agreed, arrives) settled = record {
      arrivals = arrives.arrivals;
      known = arrives.known;
      pending = arrives.pending
          ∙ ap (λ o. updated_at old.waiting.pending g.post.comm (place_at old spot g) o)
          (sym (cond-true (is_full (after old spot g).roll.stated) None (Some (after old spot g))
          all));
      histories = settled
          ∙ (ap (λ r. with_delivery wall (written old g) count (Some r)) roll
          ∙ ap (λ o. with_delivery wall (written old g) count o) (sym
          (cond-true (is_full (after old spot g).roll.stated)
          (Some (after old spot g).roll) None all)));
      processes = processes;
      classes = classes;
    }

-- ## the whole step

-- what is seen by its parts
abbrev pub parts_seen : {X : Type 0} → List Comm → Accesses → PendingView X → PostStateView X
parts_seen table accesses waiting = record { comms = table; accesses = accesses; waiting = waiting }

changes_same : {X : Type 0} (wall : ChineseWall) (count : ℕ) (table table' : List Comm)
    (accesses : Accesses) (waiting waiting' : PendingView X) (new : PostStateView X)
    (spot : Spot) (g : Contribution X) → waiting' ≡ waiting →
    Changes wall count (parts_seen table' accesses waiting') new spot g →
    Changes wall count (parts_seen table accesses waiting) new spot g
changes_same {X} wall count table table' accesses waiting waiting' new spot g same changes =
    let now = subst
    (λ (w : PendingView X). Changes wall count (parts_seen table' accesses w) new spot g) same
    changes in
    record {
      arrivals = now.arrivals;
      known = now.known;
      pending = now.pending;
      histories = now.histories;
      processes = now.processes;
      classes = now.classes;
    }

answers_same : {X : Type 0} (wall : ChineseWall) (count : ℕ) (table table' : List Comm)
    (accesses : Accesses) (waiting waiting' : PendingView X) (spot : Spot)
    (g : Contribution X) (e : Entered X) → waiting' ≡ waiting →
    Answers wall count (parts_seen table' accesses waiting') spot g e →
    Answers wall count (parts_seen table accesses waiting) spot g e
answers_same {X} wall count table table' accesses waiting waiting' spot g e same answers =
    by e (subst (λ (w : PendingView X). Answers wall count (parts_seen table' accesses w) spot g e)
    same answers)
  where
    by : (e : Entered X) → Answers wall count (parts_seen table' accesses waiting) spot g e →
        Answers wall count (parts_seen table accesses waiting) spot g e
    by (Waiting k) a = a
    by (Settled full k o) a = a

-- what one step has changed and tells
pub record IsStep {X : Type 0} (wall : ChineseWall) (old new : PostStateView X) (g : Contribution X)
    (entered : Entered X) : Type 0 where
  pub moves : Enters wall old new g entered
  pub post_state : IsPostState new

pub counted : {X : Type 0} (wall : ChineseWall) (table table' : List Comm)
    (waiting waiting' waiting'' : PendingView X) (accesses accesses' : Accesses) (spot : Spot)
    (g : Contribution X) (outcome : Option Outcome) (entered : Entered X) →
    IsPostState (parts_seen table accesses waiting) →
    IsAt (parts_seen table accesses waiting) spot g →
    IsNext waiting g.post.comm spot.rank spot.comm g.post.stated → waiting' ≡ waiting →
    IsPrepared table table' outcome
    (roll_next waiting g.post.comm spot.rank spot.comm g.post.stated) →
    (outcome ≡ constructed (length table)
    (roll_next waiting' g.post.comm spot.rank spot.comm g.post.stated) →
    Changes wall (length table) (parts_seen table' accesses waiting')
    (parts_seen table' accesses' waiting'') spot g
    × Answers wall (length table) (parts_seen table' accesses waiting') spot g entered) →
    IsStep wall (parts_seen table accesses waiting) (parts_seen table' accesses' waiting'') g
    entered
counted {X} wall table table' waiting waiting' waiting'' accesses accesses' spot g outcome entered
    post_state at is same prepared changed =
    let c = g.post.comm in
    let old = parts_seen table accesses waiting in
    let new = parts_seen table' accesses' waiting'' in
    let told : outcome ≡ constructed (length table)
    (roll_next waiting' c spot.rank spot.comm g.post.stated) = prepared.outcome ∙ ap
    (λ (w : PendingView X).
    constructed (length table) (roll_next w c spot.rank spot.comm g.post.stated)) (sym same)
    in
    let both = changed told in
    let changes : Changes wall (length table) old new spot g = changes_same wall (length table)
    table table' accesses waiting waiting' new spot g same both.0 in
    let answers : Answers wall (length table) old spot g entered = answers_same wall (length table)
    table table' accesses waiting waiting' spot g entered same both.1 in
    let joins : (after old spot g).roll ≡ roll_next waiting c spot.rank spot.comm g.post.stated =
    roll_is spot.comm spot.rank g.post.stated g.part
    (Rattle.coll_pending.specs.Waiting.before waiting c spot.rank) in
    let grows : table' ≡ table ++ added (length table) (fills old spot g) = prepared.comms ∙ ap
    (λ r. table ++ added (length table) (if_full r)) (sym joins) in
    record {
      moves = record {
        spot = spot;
        at = at;
        agrees = is.agrees;
        comms = grows;
        changes = changes;
        answers = answers;
      };
      post_state = course_now old new c (place_at old spot g) spot.comm
          (added (length table) (fills old spot g)) (after old spot g) post_state at.there grows
          changes.known changes.pending
          (of_next waiting c spot.rank spot.comm g.post.stated is (after old spot g) joins);
    }
