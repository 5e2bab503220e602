-- The next post, by what is seen: what a refusal is, and what the post makes of its instance.
use Rattle.std.proofs.Common.{◌≡◌, ◌≢◌, ℕ, zero, suc, ◌+◌, ◌<◌, ◌≤◌, List, [], ◌∷◌, ◌++◌, length}
use Rattle.std.proofs.Common.{refl, sym, ap, ◌∙◌, subst, arith, Bool, true, false, not, ◌&&◌, ◌||◌}
use Rattle.std.proofs.Common.{Option, Some, None, slice_get, map, set, replicate, is_some, take}
use Rattle.std.proofs.Common.{drop, cond, ⊎_elim, ◌⊎◌, inl, inr, eqb, eqb-true, eq-eqb, ne_eqb}
use Rattle.std.proofs.Common.{length-set}
use Rattle.std.specs.Prelude.{◌==◌, nat_lt, if◌then◌else◌, IsSome}
use Rattle.std.specs.Option.{option_map}
use Rattle.std.specs.List.{list_any, range_with_len}
use Rattle.std.proofs.lemmas.Bool.{cases_Bool, cond-true, cond-false, false≢true, and_parts}
use Rattle.std.proofs.lemmas.Option.{slice_get_within, slice_get-map}
use Rattle.std.proofs.lemmas.List.{length-map, length-replicate}
use Rattle.std.proofs.Math.Bool.{and_assoc}
use Rattle.wall_labels.specs.declared.label.Label.{Label}
use Rattle.wall_policy.specs.Policy.{ChineseWall}
use Rattle.wall_rules.specs.Histories.{History, has}
use Rattle.mpi_elems.specs.declared.elem_type.ElemType.{ElemType}
use Rattle.mpi_group.specs.Groups.{rank_in}
use Rattle.mpi_cart.specs.Grids.{below}
use Rattle.coll_routes.specs.declared.signature.Signature.{Signature}
use Rattle.coll_routes.specs.declared.statement.Own.{Own}
use Rattle.coll_routes.specs.declared.statement.Stated.{Stated}
use Rattle.coll_routes.specs.declared.roll.Roll.{Roll}
use Rattle.coll_routes.specs.declared.fault.ShapeFault.{ShapeFault}
use Rattle.coll_routes.specs.Signatures.{same_signature}
use Rattle.coll_routes.specs.Rolls.{stated_by, stated_in}
use Rattle.coll_routes.specs.Faults.{shape_fault, stated_fault, stated_type}
use Rattle.coll_routes.specs.Fit.{IsSized, IsSound, IsStatement, IsFit}
use Rattle.coll_pending.specs.declared.arrival.Meeting.{Meeting}
use Rattle.coll_pending.specs.declared.arrival.Next.{Next}
use Rattle.coll_pending.specs.declared.arrival.Next.TheVariants.{Opens, Joins, Fills, Mismatch}
use Rattle.coll_routes.specs.Rolls.{is_full}
use Rattle.coll_pending.specs.Instances.{Instance, is_begun, is_full_but_for, next_by}
use Rattle.coll_pending.specs.Instances.{roll_in}
use Rattle.coll_pending.specs.Waiting.{PendingView, next, before}
use Rattle.coll_pending.proofs.CollPendingLemmas.{stated_none}
use Rattle.wall_verdict.specs.Star.{star}
use Rattle.run_model.specs.Comms.{Comm, shape_of, processes, ask_by, ask_in, asks}
use Rattle.run_model.specs.Posts.{Post, posts_on, kth_posts, signature_in}
use Rattle.run_model.specs.Refusals.{refused_for, differs, mismatches, or_else, fault}
use Rattle.run_model.specs.Refusals.{fault_as as told_as, fault_on as told_on}
use Rattle.run_model.specs.declared.refusal.Refusal.TheVariants as refusals
use Rattle.run_model.specs.Contributions.{Contribution, posts_of, kth_parts}
use Rattle.run_state.specs.declared.seat.Seat.{Seat}
use Rattle.run_state.specs.Views.{PostStateView, IsPostState, communicator_of, is_mismatch}
use Rattle.run_state.specs.Views.{fault_after, fault_as, fault_on, fault_of, LookedAt}
use Rattle.run_state.specs.Stands.{StandsForPosts, arrivals_in, arrivals_as, waiting_by, waiting_in}
use Rattle.run_state.specs.Upcoming.{IsNext, roll_with, roll_next, is_last}
use Rattle.run_state.specs.Upcoming.{stated_in as stated_among, ask_of, asks_with}
use Rattle.run_state.proofs.RowLemmas.{row-empty, not_full, some_same}
use Rattle.run_state.proofs.AfterLemmas.{member_at, agreed, instance_by}

-- ## refusals

none_differs : (sig : Signature) (rows : List (Option Stated)) → is_begun rows ≡ false →
    list_any (differs sig) rows ≡ false
none_differs sig [] f = refl
none_differs sig (None ∷ rows) f = none_differs sig rows f
none_differs sig (Some s ∷ rows) f = absurd (false≢true (sym f))

-- statements of one signature differ from another all alike
all_differ : (own sig : Signature) (rows : List (Option Stated)) →
    ((i : ℕ) (s : Stated) → stated_in (slice_get rows i) ≡ Some s → s.sig ≡ own) →
    is_begun rows ≡ true → list_any (differs sig) rows ≡ not (same_signature own sig)
all_differ own sig [] same t = absurd (false≢true t)
all_differ own sig (None ∷ rows) same t = all_differ own sig rows (λ i s e. same (suc i) s e) t
all_differ own sig (Some s ∷ rows) same t =
    (λ i. not (same_signature (same 0 s refl i) sig) || list_any (differs sig) rows) ∙ ⊎_elim
    (λ more. (λ i. not (same_signature own sig)
    || all_differ own sig rows (λ i r e. same (suc i) r e) more i)
    ∙ twice (not (same_signature own sig)))
    (λ none. (λ i. not (same_signature own sig) || none_differs sig rows none i)
    ∙ once_more (not (same_signature own sig)))
    (cases_Bool (is_begun rows))
  where
    twice : (b : Bool) → (b || b) ≡ b
    twice true = refl
    twice false = refl

    once_more : (b : Bool) → (b || false) ≡ b
    once_more true = refl
    once_more false = refl

mismatch_by : (roll : Roll) (rank : ℕ) (sig : Signature) →
    is_mismatch (next_by (Some roll) rank sig) ≡ not (same_signature roll.sig sig)
mismatch_by roll rank sig = ⊎_elim
    (λ t. ap is_mismatch (cond-true (same_signature roll.sig sig)
    (cond (is_full_but_for roll.stated rank) Fills Joins) Mismatch t)
    ∙ (none (is_full_but_for roll.stated rank) ∙ sym (ap not t)))
    (λ f. ap is_mismatch (cond-false (same_signature roll.sig sig)
    (cond (is_full_but_for roll.stated rank) Fills Joins) Mismatch f) ∙ sym (ap not f))
    (cases_Bool (same_signature roll.sig sig))
  where
    none : (b : Bool) → is_mismatch (cond b Fills Joins) ≡ false
    none true = refl
    none false = refl

-- how often a member has arrived is how often it has posted
arrivals_are : {X : Type 0} (wall : ChineseWall) (seen : PostStateView X)
    (past : List (Contribution X)) → StandsForPosts wall seen past →
    (c p rank : ℕ) (comm : Comm) → slice_get seen.comms c ≡ Some comm →
    rank_in comm.members p ≡ Some rank →
    seen.waiting.arrivals c rank ≡ length (posts_on c p (posts_of past))
arrivals_are wall seen past stands c p rank comm there at = stands.arrivals c rank
    ∙ (ap (λ o. arrivals_in o c rank (posts_of past)) there
    ∙ ap (λ o. arrivals_as o c (posts_of past)) (member_at comm.members p rank at))

module _ {X : Type 0} (wall : ChineseWall) (seen : PostStateView X) (past : List (Contribution X))
    (stands : StandsForPosts wall seen past) (post_state : IsPostState seen) where
  abbrev posts : List Post
  posts = posts_of past

  module _ (c p rank : ℕ) (comm : Comm) (there : slice_get seen.comms c ≡ Some comm)
      (at : rank_in comm.members p ≡ Some rank) where
    abbrev count : ℕ
    count = length (posts_on c p posts)

    abbrev rows : List (Option Stated)
    rows = kth_posts comm c count posts

    own : slice_get comm.members rank ≡ Some p
    own = member_at comm.members p rank at

    arrivals_is : seen.waiting.arrivals c rank ≡ count
    arrivals_is = arrivals_are wall seen past stands c p rank comm there at

    waits_is : before seen.waiting c rank ≡ waiting_by comm rows (kth_parts comm c count past)
    waits_is = ap (λ k. seen.waiting.pending c k) arrivals_is
        ∙ (stands.pending c count ∙ ap (λ o. waiting_in o c count past) there)

    mismatch_is : (sig : Signature) →
        is_mismatch (next seen.waiting c rank sig) ≡ mismatches sig rows
    mismatch_is sig = ⊎_elim begun bare (cases_Bool (is_begun rows))
      where
        some : is_full rows ≡ false
        some = not_full rows rank
            (row-empty (λ m. posts_on c m posts) p comm.members rank count refl own)

        begun : is_begun rows ≡ true →
            is_mismatch (next seen.waiting c rank sig) ≡ mismatches sig rows
        begun t =
            let inst = instance_by comm rows (kth_parts comm c count past) in
            let both : (is_begun rows && not (is_full rows)) ≡ true = λ i. t i && not (some i) in
            let now : before seen.waiting c rank ≡ Some inst = waits_is ∙ cond-true
            (is_begun rows && not (is_full rows)) (Some inst) None both in
            let is = post_state.sound c (seen.waiting.arrivals c rank) comm inst there now in
            ap (λ o. is_mismatch (next_by (roll_in o) rank sig)) now
            ∙ (mismatch_by inst.roll rank sig
            ∙ sym (all_differ (signature_in rows) sig rows
            (λ i s e. (is.sound.statements i s e).sig) t))

        bare : is_begun rows ≡ false →
            is_mismatch (next seen.waiting c rank sig) ≡ mismatches sig rows
        bare f =
            let inst = instance_by comm rows (kth_parts comm c count past) in
            let both : (is_begun rows && not (is_full rows)) ≡ false = λ i. f i && not
            (is_full rows) in
            let now : before seen.waiting c rank ≡ None = waits_is ∙ cond-false
            (is_begun rows && not (is_full rows)) (Some inst) None both in
            ap (λ o. is_mismatch (next_by (roll_in o) rank sig)) now ∙ sym (none_differs sig rows f)

  as_is : (c p : ℕ) (comm : Comm) (sig : Signature) (own : Own) (ty : ElemType) (given : ℕ)
      (o : Option ℕ) → slice_get seen.comms c ≡ Some comm → rank_in comm.members p ≡ o →
      fault_as seen.waiting c comm o sig own ty given
      ≡ told_as comm o sig own ty given (kth_posts comm c (length (posts_on c p posts)) posts)
  as_is c p comm sig stated ty given None there at = refl
  as_is c p comm sig stated ty given (Some rank) there at = λ i.
      or_else (option_map refused_for (shape_fault (shape_of comm) rank sig stated ty given))
      (if mismatch_is c p rank comm there at sig i then Some refusals.Mismatch else None)

  on_is : (c p : ℕ) (sig : Signature) (own : Own) (ty : ElemType) (given : ℕ) (o : Option Comm) →
      slice_get seen.comms c ≡ o →
      fault_on seen.waiting p c o sig own ty given ≡ told_on posts p c o sig own ty given
  on_is c p sig stated ty given None there = refl
  on_is c p sig stated ty given (Some comm) there =
      as_is c p comm sig stated ty given (rank_in comm.members p) there refl

  -- the refusal by what is seen is that of the posts
  pub fault_is : (p c : ℕ) (sig : Signature) (own : Own) (ty : ElemType) (given : ℕ) →
      fault_of wall seen p c sig own ty given ≡ fault wall posts p c sig own ty given
  unfolding fault
  fault_is p c sig own ty given =
      ap (λ o. if nat_lt p (processes wall) then o else Some refusals.NoSuchProcess)
      (on_is c p sig own ty given (slice_get seen.comms c) refl
      ∙ ap (λ table. told_on posts p c (slice_get table c) sig own ty given) stands.comms)

-- ## places

posts_few : (c m : ℕ) (xs : List Post) → length (posts_on c m xs) ≤ length xs
posts_few c m [] = omega arith
posts_few c m (x ∷ xs) =
    let less = posts_few c m xs in
    ⊎_elim
    (λ t. subst (λ ys. length ys ≤ suc (length xs)) (sym (cond-true
    (x.comm == c && x.process == m) (posts_on c m xs ++ x.stated ∷ [])
    (posts_on c m xs) t)) (let one = Rattle.run_state.proofs.RowLemmas.length_snoc
    (posts_on c m xs) x.stated in omega (arith, less, one)))
    (λ f. subst (λ ys. length ys ≤ suc (length xs)) (sym (cond-false
    (x.comm == c && x.process == m) (posts_on c m xs ++ x.stated ∷ [])
    (posts_on c m xs) f)) (omega (arith, less)))
    (cases_Bool (x.comm == c && x.process == m))

length_posts : {X : Type 0} (xs : List (Contribution X)) → length (posts_of xs) ≡ length xs
length_posts [] = refl
length_posts (x ∷ xs) = ap suc (length_posts xs)

module _ {X : Type 0} (wall : ChineseWall) (seen : PostStateView X) (past : List (Contribution X))
    (stands : StandsForPosts wall seen past) (seat : Seat) (sig : Signature) (own : Own)
    (ty : ElemType) (given : ℕ) (at : LookedAt seen seat sig own ty given) where
  -- the number of its instance is how often its member has posted
  pub place_is_count :
      seat.meeting.k ≡ length (posts_on seat.meeting.comm seat.process (posts_of past))
  place_is_count = ap (λ (m : Meeting). m.k) at.met ∙ arrivals_are wall seen past stands
      seat.meeting.comm seat.process seat.meeting.rank at.comm at.there at.rank

  pub place_is_small : seat.meeting.k ≤ length past
  place_is_small = (let is = place_is_count in
      let few = posts_few seat.meeting.comm seat.process (posts_of past) in
      let all = length_posts past in
      omega (arith, is, few, all))

-- ## a post that meets no refusal

pub no_fault_after : (fault : Option ShapeFault) (upcoming : Next) → fault_after fault upcoming ≡
    None →
    (fault ≡ None) × (upcoming ≢ Mismatch)
no_fault_after (Some f) upcoming e = absurd (cc)
no_fault_after None Opens e = (refl, λ is. absurd (cc))
no_fault_after None Joins e = (refl, λ is. absurd (cc))
no_fault_after None Fills e = (refl, λ is. absurd (cc))
no_fault_after None Mismatch e = absurd (cc)

-- what is barred has a label
barred_labelled : (held : History) (p : ℕ) (label : Option Label) (barred : Bool) →
    barred ≡ not (star held p label) → barred ≡ true → IsSome label
barred_labelled held p None barred word t = absurd (false≢true (sym word ∙ t))
barred_labelled held p (Some label) barred word t = refl

pub is_next : {X : Type 0} (seen : PostStateView X) (seat : Seat) (stated : Stated) →
    IsPostState seen → (at : LookedAt seen seat stated.sig stated.own (stated_type stated.sig)
    stated.given) → stated.barred ≡ not (star (has seen.accesses) seat.process stated.label) →
    IsSized (shape_of at.comm) →
    IsNext seen.waiting seat.meeting.comm seat.meeting.rank at.comm stated
is_next seen seat stated post_state at word sized =
    let c = seat.meeting.comm in
    let rank = seat.meeting.rank in
    record {
      member = slice_get_within at.comm.members rank seat.process
          (member_at at.comm.members seat.process rank at.rank);
      sized = sized;
      known = post_state.known c at.comm at.there;
      sound = λ inst e.
          post_state.sound c (seen.waiting.arrivals c rank) at.comm inst at.there e;
      agrees = λ e. at.agrees (ap (λ (m : Meeting). m.does) at.met ∙ e);
      faultless = at.faultless;
      labelled = barred_labelled (has seen.accesses) seat.process stated.label stated.barred word;
    }

-- ## its instance

pub roll_is : {X : Type 0} (comm : Comm) (rank : ℕ) (s : Stated) (part : X)
    (waits : Option (Instance X)) → (Rattle.coll_pending.specs.Instances.joined
    (communicator_of comm) rank s part waits).roll ≡ roll_with comm rank s (roll_in waits)
roll_is comm rank s part (Some w) = refl
roll_is comm rank s part None = refl

pub full_set : {A : Type 0} (rows : List (Option A)) (r : ℕ) (a : A) → r < length rows →
    is_full (set rows r (Some a)) ≡ is_full_but_for rows r
full_set [] r a lt = absurd (omega (arith, lt))
full_set (row ∷ rows) zero a lt = refl
full_set (row ∷ rows) (suc r) a lt =
    let e : suc (r + 1) ≡ suc r + 1 = omega arith in
    ap (λ b. is_some row && b) (full_set rows r a (omega (arith, lt)))
    ∙ (sym (and_assoc (is_some row) (is_full (take r rows)) (is_full (drop (r + 1) rows)))
    ∙ ap (λ n. (is_some row && is_full (take r rows)) && is_full (drop n (row ∷ rows))) e)

full_none : (n r : ℕ) (s : Stated) → r < n → is_full (set (replicate n None) r (Some s)) ≡ (n == 1)
full_none zero r s lt = absurd (omega (arith, lt))
full_none (suc zero) zero s lt = refl
full_none (suc (suc n)) zero s lt = sym (ne_eqb (suc (suc n)) 1 (λ e. absurd (omega (arith, e))))
full_none (suc zero) (suc r) s lt = absurd (omega (arith, lt))
full_none (suc (suc n)) (suc r) s lt = sym (ne_eqb (suc (suc n)) 1 (λ e. absurd (omega (arith, e))))

-- the post is the last one exactly where the arrival says so
pub last_is : {X : Type 0} (waiting : PendingView X) (c rank : ℕ) (comm : Comm) (s : Stated) →
    IsNext waiting c rank comm s →
    is_full (roll_next waiting c rank comm s).stated
    ≡ is_last (next waiting c rank s.sig) (length comm.members)
last_is {X} waiting c rank comm s is = by (before waiting c rank) refl is.agrees
  where
    by : (w : Option (Instance X)) → before waiting c rank ≡ w →
        next_by (roll_in w) rank s.sig ≢ Mismatch →
        is_full (roll_with comm rank s (roll_in w)).stated
        ≡ is_last (next_by (roll_in w) rank s.sig) (length comm.members)
    by None e agrees = full_none (length comm.members) rank s is.member
    by (Some w) e agrees =
        let of = is.sound w e in
        let rows : length w.roll.stated ≡ length comm.members = of.sound.rows ∙ ap
        (λ (shape : Rattle.coll_routes.specs.declared.roll.Shape.Shape). shape.size) of.shape in
        let same : same_signature w.roll.sig s.sig ≡ true = ⊎_elim (λ t. t)
        (λ f. absurd (agrees (cond-false (same_signature w.roll.sig s.sig)
        (cond (is_full_but_for w.roll.stated rank) Fills Joins) Mismatch f)))
        (cases_Bool (same_signature w.roll.sig s.sig)) in
        full_set w.roll.stated rank s (subst (λ n. rank < n) (sym rows) is.member)
        ∙ (said (is_full_but_for w.roll.stated rank)
        ∙ sym (ap (λ n. is_last n (length comm.members)) (cond-true
        (same_signature w.roll.sig s.sig)
        (cond (is_full_but_for w.roll.stated rank) Fills Joins) Mismatch same)))
      where
        said : (b : Bool) → b ≡ is_last (cond b Fills Joins) (length comm.members)
        said true = refl
        said false = refl

pub sig_is : {X : Type 0} (waiting : PendingView X) (c rank : ℕ) (comm : Comm) (s : Stated) →
    IsNext waiting c rank comm s → (roll_next waiting c rank comm s).sig ≡ s.sig
sig_is {X} waiting c rank comm s is = by (before waiting c rank) is.agrees
  where
    by : (w : Option (Instance X)) → next_by (roll_in w) rank s.sig ≢ Mismatch →
        (roll_with comm rank s (roll_in w)).sig ≡ s.sig
    by None agrees = refl
    by (Some w) agrees = agreed w.roll rank s.sig agrees

pub members_is : {X : Type 0} (waiting : PendingView X) (c rank : ℕ) (comm : Comm) (s : Stated) →
    IsNext waiting c rank comm s → (roll_next waiting c rank comm s).members ≡ comm.members
members_is {X} waiting c rank comm s is = by (before waiting c rank) refl
  where
    by : (w : Option (Instance X)) → before waiting c rank ≡ w →
        (roll_with comm rank s (roll_in w)).members ≡ comm.members
    by None e = refl
    by (Some w) e = (is.sound w e).members

pub shape_is : {X : Type 0} (waiting : PendingView X) (c rank : ℕ) (comm : Comm) (s : Stated) →
    IsNext waiting c rank comm s → (roll_next waiting c rank comm s).shape ≡ shape_of comm
shape_is {X} waiting c rank comm s is = by (before waiting c rank) refl
  where
    by : (w : Option (Instance X)) → before waiting c rank ≡ w →
        (roll_with comm rank s (roll_in w)).shape ≡ shape_of comm
    by None e = refl
    by (Some w) e = (is.sound w e).shape

pub rows_is : {X : Type 0} (waiting : PendingView X) (c rank : ℕ) (comm : Comm) (s : Stated) →
    IsNext waiting c rank comm s →
    length (roll_next waiting c rank comm s).stated ≡ length comm.members
rows_is {X} waiting c rank comm s is = by (before waiting c rank) refl
  where
    nothing : Option Stated
    nothing = None

    by : (w : Option (Instance X)) → before waiting c rank ≡ w →
        length (roll_with comm rank s (roll_in w)).stated ≡ length comm.members
    by None e = length-set (replicate (length comm.members) nothing) rank (Some s)
        ∙ length-replicate (length comm.members) nothing
    by (Some w) e = length-set w.roll.stated rank (Some s)
        ∙ ((is.sound w e).sound.rows
        ∙ ap (λ (shape : Rattle.coll_routes.specs.declared.roll.Shape.Shape). shape.size)
        (is.sound w e).shape)

-- a row after one was set is that one, or as it was
stated_set : (rows : List (Option Stated)) (r i : ℕ) (s t : Stated) →
    stated_in (slice_get (set rows r (Some s)) i) ≡ Some t →
    ((i ≡ r) × (s ≡ t)) ⊎ (stated_in (slice_get rows i) ≡ Some t)
stated_set [] zero i s t e = inr e
stated_set [] (suc r) i s t e = inr e
stated_set (row ∷ rest) zero zero s t e = inl (refl, some_same s t e)
stated_set (row ∷ rest) zero (suc i) s t e = inr e
stated_set (row ∷ rest) (suc r) zero s t e = inr e
stated_set (row ∷ rest) (suc r) (suc i) s t e = ⊎_elim
    (λ (own : (i ≡ r) × (s ≡ t)). inl (ap suc own.0, own.1)) (λ old. inr old)
    (stated_set rest r i s t e)

pub sound_next : {X : Type 0} (waiting : PendingView X) (c rank : ℕ) (comm : Comm) (s : Stated) →
    IsNext waiting c rank comm s → IsSound (roll_next waiting c rank comm s)
sound_next {X} waiting c rank comm s is = record {
  members = ap length (members_is waiting c rank comm s is)
      ∙ sym (ap (λ (shape : Rattle.coll_routes.specs.declared.roll.Shape.Shape). shape.size)
      (shape_is waiting c rank comm s is));
  grid = subst IsSized (sym (shape_is waiting c rank comm s is)) is.sized;
  rows = rows_is waiting c rank comm s is
      ∙ sym (ap (λ (shape : Rattle.coll_routes.specs.declared.roll.Shape.Shape). shape.size)
      (shape_is waiting c rank comm s is));
  statements = λ i t e. by (before waiting c rank) refl is.agrees i t e;
}
  where
    by : (w : Option (Instance X)) → before waiting c rank ≡ w →
        next_by (roll_in w) rank s.sig ≢ Mismatch → (i : ℕ) (t : Stated) →
        stated_by (roll_with comm rank s (roll_in w)) i ≡ Some t →
        IsStatement (roll_with comm rank s (roll_in w)) i t
    by None w-is agrees i t e = ⊎_elim
        (λ (own : (i ≡ rank) × (s ≡ t)). subst (λ z. IsStatement (roll_with comm rank s None) i z)
        own.1 (record {
          sig = refl;
          fault = ap (λ r. stated_fault (shape_of comm) r s) own.0 ∙ is.faultless;
          labelled = is.labelled;
        }))
        (λ old. absurd (stated_none (length comm.members) i t old))
        (stated_set (replicate (length comm.members) None) rank i s t e)
    by (Some w) w-is agrees i t e =
        let of = is.sound w w-is in
        ⊎_elim
        (λ (own : (i ≡ rank) × (s ≡ t)). subst
        (λ z. IsStatement (roll_with comm rank s (Some w.roll)) i z) own.1
        (record {
          sig = sym (agreed w.roll rank s.sig agrees);
          fault = (λ j. stated_fault (of.shape j) (own.0 j) s) ∙ is.faultless;
          labelled = is.labelled;
        }))
        (λ old. let was = of.sound.statements i t old in
        record { sig = was.sig; fault = was.fault; labelled = was.labelled })
        (stated_set w.roll.stated rank i s t e)

full_at : (rows : List (Option Stated)) (i : ℕ) → is_full rows ≡ true → i < length rows →
    IsSome (stated_in (slice_get rows i))
full_at [] i all lt = absurd (omega (arith, lt))
full_at (None ∷ rows) zero all lt = absurd (false≢true all)
full_at (Some s ∷ rows) zero all lt = refl
full_at (row ∷ rows) (suc i) all lt =
    full_at rows i (and_parts (is_some row) (is_full rows) all).1 (omega (arith, lt))

pub fit_next : {X : Type 0} (waiting : PendingView X) (c rank : ℕ) (comm : Comm) (s : Stated) →
    IsNext waiting c rank comm s → is_full (roll_next waiting c rank comm s).stated ≡ true →
    IsFit (roll_next waiting c rank comm s)
fit_next waiting c rank comm s is all =
    let sound = sound_next waiting c rank comm s is in
    record {
      sound = sound;
      full = λ i lt. full_at (roll_next waiting c rank comm s).stated i all
          (subst (λ n. i < n) (sym sound.rows) lt);
    }

-- ## what the members ask

map_range : {A : Type 0} (f : ℕ → A) (a n : ℕ) (xs : List A) → length xs ≡ n →
    ((k : ℕ) → k < n → slice_get xs k ≡ Some (f (a + k))) → map f (range_with_len a n) ≡ xs
map_range f a zero [] e at = refl
map_range f a zero (x ∷ xs) e at = absurd (omega (arith, e))
map_range f a (suc n) [] e at = absurd (omega (arith, e))
map_range f a (suc n) (x ∷ xs) e at =
    let here : a + 0 ≡ a = omega arith in
    let first : f a ≡ x = sym (some_same x (f a) (at 0 (omega arith) ∙ ap (λ m. Some (f m)) here))
    in
    let rest = map_range f (a + 1) n xs (omega (arith, e)) (λ k lt.
    at (suc k) (omega (arith, lt))
    ∙ ap (λ m. Some (f m)) (let next : a + suc k ≡ (a + 1) + k = omega arith in next)) in
    λ i. first i ∷ rest i

map_below : {A : Type 0} (f : ℕ → A) (n : ℕ) (xs : List A) → length xs ≡ n →
    ((k : ℕ) → k < n → slice_get xs k ≡ Some (f k)) → map f (below n) ≡ xs
map_below f n xs e at = map_range f 0 n xs e
    (λ k lt. at k lt ∙ ap (λ m. Some (f m)) (let here : k ≡ 0 + k = omega arith in here))

get-set : {A : Type 0} (xs : List A) (r k : ℕ) (x : A) → k < length xs →
    slice_get (set xs r x) k ≡ cond (k == r) (Some x) (slice_get xs k)
get-set [] r k x lt = absurd (omega (arith, lt))
get-set (y ∷ xs) zero zero x lt = refl
get-set (y ∷ xs) zero (suc k) x lt = sym (cond-false (suc k == 0) (Some x)
    (slice_get (y ∷ xs) (suc k)) (ne_eqb (suc k) 0 (λ e. absurd (omega (arith, e)))))
get-set (y ∷ xs) (suc r) zero x lt = sym
    (cond-false (0 == suc r) (Some x) (Some y) (ne_eqb 0 (suc r) (λ e. absurd (omega (arith, e)))))
get-set (y ∷ xs) (suc r) (suc k) x lt =
    get-set xs r k x (omega (arith, lt)) ∙ ap (λ b. cond b (Some x) (slice_get xs k)) (shift k r)
  where
    shift : (a b : ℕ) → eqb a b ≡ eqb (suc a) (suc b)
    shift a b = ⊎_elim
        (λ t. t ∙ sym (eq-eqb (suc a) (suc b) (ap suc (eqb-true a b t))))
        (λ f. f
        ∙ sym
        (ne_eqb (suc a) (suc b) (λ e. false≢true (sym f ∙ eq-eqb a b (omega (arith, e))))))
        (cases_Bool (eqb a b))

-- the asks of rows with one set
asks_set : (rows : List (Option Stated)) (o : Option Roll) (n rank : ℕ) (s : Stated) →
    length rows ≡ n → ((k : ℕ) → k < n → slice_get rows k ≡ Some (stated_among o k)) →
    map (ask_of o rank s.own) (below n) ≡ map ask_in (set rows rank (Some s))
asks_set rows o n rank s len at = map_below (ask_of o rank s.own) n
    (map ask_in (set rows rank (Some s)))
    (length-map (set rows rank (Some s)) ask_in ∙ (length-set rows rank (Some s) ∙ len)) each
  where
    each : (k : ℕ) → k < n →
        slice_get (map ask_in (set rows rank (Some s))) k ≡ Some (ask_of o rank s.own k)
    each k lt =
        slice_get-map ask_in (set rows rank (Some s)) k
        ∙ (ap (λ v. option_map ask_in v)
        (get-set rows rank k (Some s) (subst (λ m. k < m) (sym len) lt))
        ∙ by (k == rank))
      where
        by : (b : Bool) →
            option_map ask_in (cond b (Some (Some s)) (slice_get rows k))
            ≡ Some (cond b (ask_by s.own) (ask_in (stated_among o k)))
        by true = refl
        by false = ap (λ v. option_map ask_in v) (at k lt)

pub asks_are : {X : Type 0} (waiting : PendingView X) (c rank : ℕ) (comm : Comm) (s : Stated) →
    IsNext waiting c rank comm s →
    asks_with (roll_in (before waiting c rank)) (length comm.members) rank s.own
    ≡ asks (roll_next waiting c rank comm s)
asks_are {X} waiting c rank comm s is = by (before waiting c rank) refl
  where
    by : (w : Option (Instance X)) → before waiting c rank ≡ w →
        asks_with (roll_in w) (length comm.members) rank s.own
        ≡ asks (roll_with comm rank s (roll_in w))
    by None e = asks_set (replicate (length comm.members) nothing) None (length comm.members) rank s
        (length-replicate (length comm.members) nothing) (λ k lt. bare (length comm.members) k lt)
      where
        nothing : Option Stated
        nothing = None

        bare : (n k : ℕ) → k < n → slice_get (replicate n nothing) k ≡ Some nothing
        bare zero k lt = absurd (omega (arith, lt))
        bare (suc n) zero lt = refl
        bare (suc n) (suc k) lt = bare n k (omega (arith, lt))
    by (Some w) e =
        let len : length w.roll.stated ≡ length comm.members = (is.sound w e).sound.rows ∙ ap
        (λ (shape : Rattle.coll_routes.specs.declared.roll.Shape.Shape). shape.size)
        (is.sound w e).shape in
        asks_set w.roll.stated (Some w.roll) (length comm.members) rank s len
        (λ k lt. row_at w.roll.stated k (subst (λ n. k < n) (sym len) lt))
      where
        row_at : (rows : List (Option Stated)) (k : ℕ) → k < length rows →
            slice_get rows k ≡ Some (stated_in (slice_get rows k))
        row_at [] k lt = absurd (omega (arith, lt))
        row_at (row ∷ rows) zero lt = refl
        row_at (row ∷ rows) (suc k) lt = row_at rows k (omega (arith, lt))

-- ## for the steps

pub asks_length : {X : Type 0} (waiting : PendingView X) (c rank : ℕ) (comm : Comm) (s : Stated) →
    IsNext waiting c rank comm s →
    length (asks (roll_next waiting c rank comm s)) ≡ length comm.members
asks_length waiting c rank comm s is =
    length-map (roll_next waiting c rank comm s).stated ask_in ∙ rows_is waiting c rank comm s is
