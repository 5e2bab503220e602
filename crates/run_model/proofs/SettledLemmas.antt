-- Instances that are full stay as they are, and so do their outcomes. A list of posts has the
-- newest first.
use Rattle.std.proofs.Common.{◌≡◌, ◌≢◌, ℕ, zero, suc, List, [], ◌∷◌, ◌++◌, length, map, refl, sym}
use Rattle.std.proofs.Common.{ap, ◌∙◌, arith, Bool, true, ◌&&◌, ⊎_elim, ◌⊎◌, Option, Some, None}
use Rattle.std.proofs.Common.{slice_get, option_map, eqb-true, eq-eqb, ne_eqb}
use Rattle.std.specs.Prelude.{◌==◌, is_some, unwrap_or}
use Rattle.std.specs.List.{list_all}
use Rattle.std.proofs.lemmas.Bool.{cases_Bool, cond-true, cond-false, false≢true, and_parts}
use Rattle.std.proofs.lemmas.Bool.{and_from, and_left, and_right}
use Rattle.std.proofs.lemmas.Option.{slice_get-map}
use Rattle.std.proofs.lemmas.List.{append-nil}
use Rattle.wall_labels.proofs.WallLabelsLemmas.{is_some-Some}
use Rattle.wall_policy.specs.Policy.{ChineseWall}
use Rattle.coll_routes.specs.declared.statement.Stated.{Stated}
use Rattle.coll_routes.specs.declared.roll.Roll.{Roll}
use Rattle.coll_values.specs.declared.full.Full.{Full}
use Rattle.run_model.specs.declared.outcome.Outcome.{Outcome}
use Rattle.run_model.specs.Comms.{Comm}
use Rattle.coll_routes.specs.Rolls.{is_full}
use Rattle.run_model.specs.Posts.{Post, posts_on, kth_posts, roll_by, instance, place}
use Rattle.run_model.specs.Posts.{filled, comms, outcome, outcome_at}
use Rattle.run_model.specs.Books.{IsCounted, AreCounted}
use Rattle.run_model.specs.Holding.{IsMoment}
use Rattle.mpi_group.proofs.MpiGroupLemmas.{rank_is}
use Rattle.run_model.proofs.PostLemmas.{get_prefix, filled_is}
use Rattle.run_model.proofs.CountedLemmas.{taken_accepted, comm_stays}
use Rattle.run_model.specs.Contributions.{Contribution, posts_of, parts_on, kth_parts, parts_in}
use Rattle.run_model.specs.Contributions.{full_at, full_in}
use Rattle.run_model.specs.Replies.{no_comm, comm_at}

-- ## rows: the k-th of each member's list

-- lists that only grow keep the rows in which nobody is missing
pub rows_stay : {X : Type 0} (f g : ℕ → List X) (k : ℕ) (members : List ℕ) →
    ((m : ℕ) → (more : List X) × (g m ≡ f m ++ more)) →
    list_all is_some (map (λ m. slice_get (f m) k) members) ≡ true →
    map (λ m. slice_get (g m) k) members ≡ map (λ m. slice_get (f m) k) members
rows_stay f g k [] grow full = refl
rows_stay {X} f g k (m ∷ members) grow full =
    let parts = and_parts (is_some (slice_get (f m) k))
    (list_all is_some (map (λ n. slice_get (f n) k) members)) full in
    let first : slice_get (g m) k ≡ slice_get (f m) k = ap (λ xs. slice_get xs k) (grow m).1 ∙ kept
    (slice_get (f m) k) refl parts.0 in
    λ i. first i ∷ rows_stay f g k members grow parts.1 i
  where
    kept : (o : Option X) → slice_get (f m) k ≡ o → is_some o ≡ true →
        slice_get (f m ++ (grow m).0) k ≡ slice_get (f m) k
    kept (Some x) e h = get_prefix (f m) (grow m).0 k x e ∙ sym e
    kept None e h = absurd (false≢true h)

same_length : {X Y : Type 0} (xs : List X) (ys : List Y) (k : ℕ) → length xs ≡ length ys →
    is_some (slice_get xs k) ≡ is_some (slice_get ys k)
same_length [] [] k e = refl
same_length [] (y ∷ ys) k e = absurd (cc)
same_length (x ∷ xs) [] k e = absurd (cc)
same_length (x ∷ xs) (y ∷ ys) zero e = refl
same_length (x ∷ xs) (y ∷ ys) (suc k) e =
    same_length xs ys k (let s : length xs ≡ length ys = omega (arith, e) in s)

pub rows_alike : {X Y : Type 0} (f : ℕ → List X) (g : ℕ → List Y) (k : ℕ) (members : List ℕ) →
    ((m : ℕ) → length (f m) ≡ length (g m)) →
    list_all is_some (map (λ m. slice_get (f m) k) members)
    ≡ list_all is_some (map (λ m. slice_get (g m) k) members)
rows_alike f g k [] long = refl
rows_alike f g k (m ∷ members) long =
    λ i. same_length (f m) (g m) k (long m) i && rows_alike f g k members long i

pub all_at : {X : Type 0} (rows : List (Option X)) (j : ℕ) (o : Option X) →
    list_all is_some rows ≡ true → slice_get rows j ≡ Some o → is_some o ≡ true
all_at [] j o full e = absurd (cc)
all_at (r ∷ rows) zero o full e = let same : r ≡ o = cc in
    sym (ap is_some same) ∙ (and_parts (is_some r) (list_all is_some rows) full).0
all_at (r ∷ rows) (suc j) o full e =
    all_at rows j o (and_parts (is_some r) (list_all is_some rows) full).1 e

pub past_end : {X : Type 0} (xs : List X) → slice_get xs (length xs) ≡ None
past_end [] = refl
past_end (x ∷ xs) = past_end xs

-- ## one post more

posts_more : (c m : ℕ) (x : Post) (past : List Post) →
    (more : List Stated) × (posts_on c m (x ∷ past) ≡ posts_on c m past ++ more)
posts_more c m x past = ⊎_elim
    (λ t. (
      x.stated ∷ [],
      cond-true (x.comm == c && x.process == m) (posts_on c m past ++ x.stated ∷ [])
          (posts_on c m past) t,
    ))
    (λ f. (
      [],
      cond-false (x.comm == c && x.process == m) (posts_on c m past ++ x.stated ∷ [])
          (posts_on c m past) f ∙ sym (append-nil (posts_on c m past)),
    ))
    (cases_Bool (x.comm == c && x.process == m))

parts_more : {X : Type 0} (c m : ℕ) (g : Contribution X) (past : List (Contribution X)) →
    (more : List X) × (parts_on c m (g ∷ past) ≡ parts_on c m past ++ more)
parts_more c m g past = ⊎_elim
    (λ t. (
      g.part ∷ [],
      cond-true (g.post.comm == c && g.post.process == m) (parts_on c m past ++ g.part ∷ [])
          (parts_on c m past) t,
    ))
    (λ f. (
      [],
      cond-false (g.post.comm == c && g.post.process == m) (parts_on c m past ++ g.part ∷ [])
          (parts_on c m past) f ∙ sym (append-nil (parts_on c m past)),
    ))
    (cases_Bool (g.post.comm == c && g.post.process == m))

length_snoc : {X : Type 0} (xs : List X) (x : X) → length (xs ++ x ∷ []) ≡ suc (length xs)
length_snoc [] x = refl
length_snoc (y ∷ xs) x = ap suc (length_snoc xs x)

-- there are as many parts as statements
pub lengths : {X : Type 0} (c m : ℕ) (past : List (Contribution X)) →
    length (parts_on c m past) ≡ length (posts_on c m (posts_of past))
lengths c m [] = refl
lengths c m (g ∷ past) = ⊎_elim
    (λ t. ap length (cond-true (g.post.comm == c && g.post.process == m)
    (parts_on c m past ++ g.part ∷ []) (parts_on c m past) t)
    ∙ (length_snoc (parts_on c m past) g.part
    ∙
    (ap suc (lengths c m past) ∙ (sym (length_snoc (posts_on c m (posts_of past)) g.post.stated)
    ∙ sym (ap length (cond-true (g.post.comm == c && g.post.process == m)
    (posts_on c m (posts_of past) ++ g.post.stated ∷ []) (posts_on c m (posts_of past))
    t))))))
    (λ f. ap length (cond-false (g.post.comm == c && g.post.process == m)
    (parts_on c m past ++ g.part ∷ []) (parts_on c m past) f)
    ∙ (lengths c m past
    ∙ sym (ap length (cond-false (g.post.comm == c && g.post.process == m)
    (posts_on c m (posts_of past) ++ g.post.stated ∷ []) (posts_on c m (posts_of past))
    f))))
    (cases_Bool (g.post.comm == c && g.post.process == m))

-- the statements of a full instance stay
pub kth_stay : (comm : Comm) (c k : ℕ) (x : Post) (past : List Post) →
    is_full (kth_posts comm c k past) ≡ true →
    kth_posts comm c k (x ∷ past) ≡ kth_posts comm c k past
kth_stay comm c k x past full = rows_stay (λ m. posts_on c m past) (λ m. posts_on c m (x ∷ past)) k
    comm.members (λ m. posts_more c m x past) full

pub kth_later : (comm : Comm) (c k : ℕ) (later past : List Post) →
    is_full (kth_posts comm c k past) ≡ true →
    kth_posts comm c k (later ++ past) ≡ kth_posts comm c k past
kth_later comm c k [] past full = refl
kth_later comm c k (x ∷ later) past full =
    let rest = kth_later comm c k later past full in
    kth_stay comm c k x (later ++ past) (ap is_full rest ∙ full) ∙ rest

-- and its parts
pub parts_stay :
    {X : Type 0} (comm : Comm) (c k : ℕ) (g : Contribution X) (past : List (Contribution X)) →
    is_full (kth_posts comm c k (posts_of past)) ≡ true →
    kth_parts comm c k (g ∷ past) ≡ kth_parts comm c k past
parts_stay comm c k g past full =
    rows_stay (λ m. parts_on c m past) (λ m. parts_on c m (g ∷ past)) k comm.members
    (λ m. parts_more c m g past)
    (rows_alike (λ m. parts_on c m past) (λ m. posts_on c m (posts_of past)) k comm.members
    (λ m. lengths c m past) ∙ full)

-- so it stays whole
pub full_stays :
    {X : Type 0} (comm : Comm) (c k : ℕ) (g : Contribution X) (past : List (Contribution X)) →
    is_full (kth_posts comm c k (posts_of past)) ≡ true →
    full_at comm c k (g ∷ past) ≡ full_at comm c k past
full_stays comm c k g past full =
    let rows = kth_stay comm c k g.post (posts_of past) full in
    let parts = parts_stay comm c k g past full in
    λ i. record { roll = roll_by comm (rows i); parts = parts_in (parts i) }

pub full_later : {X : Type 0} (comm : Comm) (c k : ℕ) (later past : List (Contribution X)) →
    is_full (kth_posts comm c k (posts_of past)) ≡ true →
    full_at comm c k (later ++ past) ≡ full_at comm c k past
full_later comm c k [] past full = refl
full_later comm c k (g ∷ later) past full =
    let rest = full_later comm c k later past full in
    full_stays comm c k g (later ++ past) (ap (λ (f : Full _). is_full f.roll.stated) rest ∙ full)
    ∙ rest

-- ## outcomes of instances

-- instance (c, k) was filled by post x, made after the posts `before`, and this is its outcome
pub record IsSettled (wall : ChineseWall) (c k : ℕ) (past : List Post) (o : Outcome) : Type 0 where
  pub x : Post
  pub before : List Post
  pub roll : Roll
  pub moment : IsMoment past x before
  pub there : x.comm ≡ c
  pub kth : place x before ≡ k
  pub fills : filled (comms wall before) x before ≡ Some roll
  pub came : outcome wall x before ≡ Some o

sooner : (wall : ChineseWall) (c k : ℕ) (z : Post) (past : List Post) (o : Outcome) →
    IsSettled wall c k past o → IsSettled wall c k (z ∷ past) o
sooner wall c k z past o h = record {
  x = h.x;
  before = h.before;
  roll = h.roll;
  moment = (z ∷ h.moment.0, ap (λ ps. z ∷ ps) h.moment.1);
  there = h.there;
  kth = h.kth;
  fills = h.fills;
  came = h.came;
}

-- whether post x settles instance (c, k)
abbrev pub settles : ChineseWall → (c k : ℕ) → Post → List Post → Bool
settles wall c k x past =
    x.comm == c && place x past == k && is_some (filled (comms wall past) x past)

pub settled_from : (wall : ChineseWall) (c k : ℕ) (past : List Post) (o : Outcome) →
    outcome_at wall c k past ≡ Some o → IsSettled wall c k past o
settled_from wall c k [] o e = absurd (cc)
settled_from wall c k (z ∷ past) o e = ⊎_elim
    (λ t.
    let outer = and_parts (z.comm == c && place z past == k)
    (is_some (filled (comms wall past) z past)) t in
    let inner = and_parts (z.comm == c) (place z past == k) outer.0 in
    let roll = is_some-Some (filled (comms wall past) z past) outer.1 in
    record {
      x = z;
      before = past;
      roll = roll.0;
      moment = ([], refl);
      there = eqb-true z.comm c inner.0;
      kth = eqb-true (place z past) k inner.1;
      fills = roll.1;
      came =
          sym (cond-true (settles wall c k z past) (outcome wall z past)
          (outcome_at wall c k past) t) ∙ e;
    })
    (λ f. sooner wall c k z past o (settled_from wall c k past o (sym
    (cond-false (settles wall c k z past) (outcome wall z past)
    (outcome_at wall c k past) f) ∙ e)))
    (cases_Bool (settles wall c k z past))

-- an instance of which something came is full
pub record IsThere (wall : ChineseWall) (c k : ℕ) (past : List Post) : Type 0 where
  pub comm : Comm
  pub at : slice_get (comms wall past) c ≡ Some comm
  pub full : is_full (kth_posts comm c k past) ≡ true

pub settled_full : (wall : ChineseWall) (c k : ℕ) (past : List Post) (o : Outcome) →
    outcome_at wall c k past ≡ Some o → IsThere wall c k past
settled_full wall c k past o e =
    let h = settled_from wall c k past o e in
    let f = filled_is (comms wall h.before) h.x h.before h.roll h.fills in
    let now : slice_get (comms wall (h.x ∷ h.before)) c ≡ Some f.comm = comm_stays wall (h.x ∷ [])
    h.before c f.comm (ap (λ n. slice_get (comms wall h.before) n) (sym h.there) ∙ f.at) in
    let full : is_full (kth_posts f.comm c k (h.x ∷ h.before)) ≡ true =
    (λ i. is_full (kth_posts f.comm (sym h.there i) (sym h.kth i) (h.x ∷ h.before))) ∙
    (ap (λ (r : Roll). is_full r.stated) f.is ∙ f.full) in
    record {
      comm = f.comm;
      at = ap (λ ps. slice_get (comms wall ps) c) (sym h.moment.1)
          ∙ comm_stays wall h.moment.0 (h.x ∷ h.before) c f.comm now;
      full = ap (λ ps. is_full (kth_posts f.comm c k ps)) (sym h.moment.1)
          ∙ (ap is_full (kth_later f.comm c k h.moment.0 (h.x ∷ h.before) full) ∙ full);
    }

-- ## what one post more settles

pub settled_now : (wall : ChineseWall) (x : Post) (past : List Post) (roll : Roll) →
    filled (comms wall past) x past ≡ Some roll →
    outcome_at wall x.comm (place x past) (x ∷ past) ≡ outcome wall x past
settled_now wall x past roll fills = cond-true (settles wall x.comm (place x past) x past)
    (outcome wall x past) (outcome_at wall x.comm (place x past) past)
    (and_from (x.comm == x.comm && place x past == place x past)
    (is_some (filled (comms wall past) x past)) (and_from (x.comm == x.comm)
    (place x past == place x past) (eq-eqb x.comm x.comm refl)
    (eq-eqb (place x past) (place x past) refl)) (ap is_some fills))

pub settled_none : (wall : ChineseWall) (c k : ℕ) (x : Post) (past : List Post) →
    filled (comms wall past) x past ≡ None →
    outcome_at wall c k (x ∷ past) ≡ outcome_at wall c k past
settled_none wall c k x past fills = cond-false (settles wall c k x past) (outcome wall x past)
    (outcome_at wall c k past) (and_right (x.comm == c && place x past == k)
    (is_some (filled (comms wall past) x past)) (ap is_some fills))

pub settled_other : (wall : ChineseWall) (c k : ℕ) (x : Post) (past : List Post) →
    (x.comm ≢ c) ⊎ (place x past ≢ k) → outcome_at wall c k (x ∷ past) ≡ outcome_at wall c k past
settled_other wall c k x past apart = cond-false (settles wall c k x past) (outcome wall x past)
    (outcome_at wall c k past)
    (and_left (x.comm == c && place x past == k) (is_some (filled (comms wall past) x past)) (⊎_elim
    (λ a. and_left (x.comm == c) (place x past == k) (ne_eqb x.comm c a))
    (λ b. and_right (x.comm == c) (place x past == k) (ne_eqb (place x past) k b))
    apart))

-- the instance of a post that counts was not full before it
pub not_full_before : (wall : ChineseWall) (x : Post) (past : List Post) (comm : Comm) →
    IsCounted wall x past → slice_get (comms wall past) x.comm ≡ Some comm →
    is_full (kth_posts comm x.comm (place x past) past) ≡ true → ⊥
not_full_before wall x past comm taken at full =
    let free = taken_accepted wall x past taken in
    let same : free.comm ≡ comm = (let both : Some free.comm ≡ Some comm = sym free.at ∙ at in cc)
    in
    let rank = rank_is comm.members x.process free.rank (ap
    (λ (n : Comm). Rattle.mpi_group.specs.Groups.rank_in n.members x.process) (sym same)
    ∙ free.is_member) in
    let row : slice_get (kth_posts comm x.comm (place x past) past) free.rank ≡ Some
    (slice_get (posts_on x.comm x.process past) (place x past)) =
    slice_get-map (λ m. slice_get (posts_on x.comm m past) (place x past)) comm.members free.rank
    ∙ ap (λ o. option_map (λ m. slice_get (posts_on x.comm m past) (place x past)) o) rank.0 in
    false≢true (sym (ap is_some (past_end (posts_on x.comm x.process past)))
    ∙ all_at (kth_posts comm x.comm (place x past) past) free.rank _ full row)

-- the outcome of an instance stays
pub settled_stays : (wall : ChineseWall) (c k : ℕ) (o : Outcome) (x : Post) (past : List Post) →
    IsCounted wall x past → outcome_at wall c k past ≡ Some o →
    outcome_at wall c k (x ∷ past) ≡ Some o
settled_stays wall c k o x past taken e = ⊎_elim
    (λ t.
    let outer = and_parts (x.comm == c && place x past == k)
    (is_some (filled (comms wall past) x past)) t in
    let inner = and_parts (x.comm == c) (place x past == k) outer.0 in
    let there = settled_full wall c k past o e in
    let c_is : c ≡ x.comm = sym (eqb-true x.comm c inner.0) in
    let k_is : k ≡ place x past = sym (eqb-true (place x past) k inner.1) in
    absurd (not_full_before wall x past there.comm taken
    (ap (λ n. slice_get (comms wall past) n) (sym c_is) ∙ there.at)
    ((λ i. is_full (kth_posts there.comm (sym c_is i) (sym k_is i) past)) ∙ there.full)))
    (λ f.
    cond-false (settles wall c k x past) (outcome wall x past) (outcome_at wall c k past) f ∙ e)
    (cases_Bool (settles wall c k x past))

pub settled_later : (wall : ChineseWall) (c k : ℕ) (o : Outcome) (later past : List Post) →
    AreCounted wall (later ++ past) → outcome_at wall c k past ≡ Some o →
    outcome_at wall c k (later ++ past) ≡ Some o
settled_later wall c k o [] past taken e = e
settled_later wall c k o (x ∷ later) past taken e = settled_stays wall c k o x (later ++ past)
    taken.1 (settled_later wall c k o later past taken.0 e)

-- ## the instance with its parts

pub comm_at_is : (wall : ChineseWall) (past : List Post) (c : ℕ) (comm : Comm) →
    slice_get (comms wall past) c ≡ Some comm → comm_at wall past c ≡ comm
comm_at_is wall past c comm at = ap (λ (o : Option Comm). unwrap_or o no_comm) at

pub posts_of-append : {X : Type 0} (later past : List (Contribution X)) →
    posts_of (later ++ past) ≡ posts_of later ++ posts_of past
posts_of-append [] past = refl
posts_of-append (g ∷ later) past = ap (λ ps. g.post ∷ ps) (posts_of-append later past)

module _ {X : Type 0} (wall : ChineseWall) (c k : ℕ) (o : Outcome) where
  -- an instance of which something came stays, with its parts, as a take looks at it
  pub instance_later : (later past : List (Contribution X)) →
      outcome_at wall c k (posts_of past) ≡ Some o →
      full_at (comm_at wall (posts_of (later ++ past)) c) c k (later ++ past)
      ≡ full_at (comm_at wall (posts_of past) c) c k past
  instance_later later past e =
      let there = settled_full wall c k (posts_of past) o e in
      let still : slice_get (comms wall (posts_of (later ++ past))) c ≡ Some there.comm = ap
      (λ ps. slice_get (comms wall ps) c) (posts_of-append later past) ∙ comm_stays wall
      (posts_of later) (posts_of past) c there.comm there.at in
      ap (λ comm. full_at comm c k (later ++ past))
      (comm_at_is wall (posts_of (later ++ past)) c there.comm still)
      ∙ (full_later there.comm c k later past there.full
      ∙ sym (ap (λ comm. full_at comm c k past)
      (comm_at_is wall (posts_of past) c there.comm there.at)))

  pub instance_stays : (g : Contribution X) (past : List (Contribution X)) →
      outcome_at wall c k (posts_of past) ≡ Some o →
      full_at (comm_at wall (posts_of (g ∷ past)) c) c k (g ∷ past)
      ≡ full_at (comm_at wall (posts_of past) c) c k past
  instance_stays g past e = instance_later (g ∷ []) past e

  -- the same among the communicators
  pub full_in_is : (past : List (Contribution X)) → outcome_at wall c k (posts_of past) ≡ Some o →
      full_in (comms wall (posts_of past)) c k past
      ≡ Some (full_at (comm_at wall (posts_of past) c) c k past)
  full_in_is past e =
      let there = settled_full wall c k (posts_of past) o e in
      ap (λ (n : Option Comm). option_map (λ comm. full_at comm c k past) n) there.at
      ∙ ap (λ comm. Some (full_at comm c k past))
      (sym (comm_at_is wall (posts_of past) c there.comm there.at))

-- what a post that fills an instance hands out is that instance, as a take looks at it from then on
pub filled_at : {X : Type 0} (wall : ChineseWall) (g : Contribution X)
    (past : List (Contribution X)) (k : ℕ) (full : Full X) →
    full_in (comms wall (posts_of past)) g.post.comm k (g ∷ past) ≡ Some full →
    full_at (comm_at wall (posts_of (g ∷ past)) g.post.comm) g.post.comm k (g ∷ past) ≡ full
filled_at {X} wall g past k full e =
    by_comm (slice_get (comms wall (posts_of past)) g.post.comm) refl e
  where
    by_comm : (n : Option Comm) → slice_get (comms wall (posts_of past)) g.post.comm ≡ n →
        option_map (λ comm. full_at comm g.post.comm k (g ∷ past)) n ≡ Some full →
        full_at (comm_at wall (posts_of (g ∷ past)) g.post.comm) g.post.comm k (g ∷ past) ≡ full
    by_comm None at is = absurd (cc)
    by_comm (Some comm) at is =
        ap (λ n. full_at n g.post.comm k (g ∷ past)) (comm_at_is wall (posts_of (g ∷ past))
        g.post.comm comm
        (comm_stays wall (g.post ∷ []) (posts_of past) g.post.comm comm at))
        ∙ (let same : full_at comm g.post.comm k (g ∷ past) ≡ full = cc in same)

-- its roll is the one that was filled
pub settled_roll :
    {X : Type 0} (wall : ChineseWall) (c k : ℕ) (o : Outcome) (past : List (Contribution X)) →
    (h : IsSettled wall c k (posts_of past) o) →
    (full_at (comm_at wall (posts_of past) c) c k past).roll ≡ h.roll
settled_roll wall c k o past h =
    let f = filled_is (comms wall h.before) h.x h.before h.roll h.fills in
    let after : slice_get (comms wall (h.x ∷ h.before)) c ≡ Some f.comm = comm_stays wall (h.x ∷ [])
    h.before c f.comm (ap (λ n. slice_get (comms wall h.before) n) (sym h.there) ∙ f.at) in
    let now : slice_get (comms wall (posts_of past)) c ≡ Some f.comm = ap
    (λ ps. slice_get (comms wall ps) c) (sym h.moment.1) ∙ comm_stays wall h.moment.0
    (h.x ∷ h.before) c f.comm after in
    let rows_are : kth_posts f.comm c k (h.x ∷ h.before) ≡ kth_posts f.comm h.x.comm
    (place h.x h.before) (h.x ∷ h.before) = λ i. kth_posts f.comm (sym h.there i) (sym h.kth i)
    (h.x ∷ h.before) in
    let full : is_full (kth_posts f.comm c k (h.x ∷ h.before)) ≡ true = ap is_full rows_are ∙
    (ap (λ (r : Roll). is_full r.stated) f.is ∙ f.full) in
    let rows : kth_posts f.comm c k (posts_of past) ≡ kth_posts f.comm c k (h.x ∷ h.before) = ap
    (λ ps. kth_posts f.comm c k ps) (sym h.moment.1) ∙ kth_later f.comm c k h.moment.0
    (h.x ∷ h.before) full in
    ap (λ (n : Comm). instance n c k (posts_of past)) (comm_at_is wall (posts_of past) c f.comm now)
    ∙ (ap (λ ss. roll_by f.comm ss) (rows ∙ rows_are) ∙ f.is)
