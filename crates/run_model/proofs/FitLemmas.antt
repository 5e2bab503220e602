-- Instances that posts fill are fit: of one signature, without a fault, and full; and the
-- communicators are such on which this holds.
use Rattle.std.proofs.Common.{◌≡◌, ℕ, zero, suc, ◌<◌, List, [], ◌∷◌, ◌++◌, length, refl, sym}
use Rattle.std.proofs.Common.{ap, ◌∙◌, subst, arith, inl, inr, ◌⊎◌, ⊎_elim, true, false, not, ◌&&◌}
use Rattle.std.proofs.Common.{Option, Some, None, slice_get, option_map, eqb-true}
use Rattle.std.specs.Prelude.{is_some, IsSome, ◌==◌}
use Rattle.std.specs.List.{list_all}
use Rattle.std.proofs.lemmas.Bool.{cases_Bool, cond-true, cond-false, false≢true, true≢false}
use Rattle.std.proofs.lemmas.Bool.{and_parts, or_left, or_right}
use Rattle.std.proofs.lemmas.Option.{slice_get-map}
use Rattle.std.proofs.lemmas.List.{length-map}
use Rattle.wall_policy.specs.Policy.{ChineseWall, IsPolicy}
use Rattle.mpi_group.specs.Groups.{rank_in}
use Rattle.mpi_comm.specs.Comms.{fits}
use Rattle.coll_routes.specs.declared.signature.Signature.{Signature}
use Rattle.coll_routes.specs.declared.statement.Stated.{Stated}
use Rattle.coll_routes.specs.declared.roll.Roll.{Roll}
use Rattle.coll_routes.specs.Signatures.{same_signature}
use Rattle.coll_routes.specs.Rolls.{stated_in}
use Rattle.coll_routes.specs.Faults.{stated_fault, stated_type, not_subgroup, bad_dims}
use Rattle.coll_routes.specs.Fit.{IsFit, IsSound, IsStatement}
use Rattle.coll_routes.proofs.CollRoutesLemmas.{same_signatures_are_equal}
use Rattle.wall_verdict.specs.Star.{star}
use Rattle.run_model.specs.Comms.{Comm, world, shape_of, new_comms, added}
use Rattle.run_model.specs.Posts.{Post, posts_on, kth_posts, signature_in, place, roll_by, instance}
use Rattle.coll_routes.specs.Rolls.{is_full}
use Rattle.run_model.specs.Posts.{filled, comms, histories}
use Rattle.run_model.specs.Refusals.{differs, mismatches}
use Rattle.run_model.specs.Books.{IsCounted, AreCounted}
use Rattle.run_model.specs.PostLaws.{FilledInstancesAreFit}
use Rattle.run_model.proofs.PostLemmas.{filled_is, kth_from, get_either}
use Rattle.run_model.proofs.CommLemmas.{IsComm, AreComms, both_comms, world_is, new_are_comms}
use Rattle.run_model.proofs.CommLemmas.{at_one}
use Rattle.mpi_group.proofs.MpiGroupLemmas.{ranked}
use Rattle.mpi_group.proofs.MpiGroupLemmas.{rank_is}
use Rattle.run_model.proofs.CountedLemmas.{taken_accepted, no_fault_has, taken_at, comm_later}

---- Signatures within an instance.

-- a list of statements that has none of another signature
all_agree : (sig : Signature) (rows : List (Option Stated)) (i : ℕ) (s : Stated) →
    mismatches sig rows ≡ false → slice_get rows i ≡ Some (Some s) → s.sig ≡ sig
all_agree sig [] i s none at = absurd (cc)
all_agree sig (row ∷ rows) zero s none at =
    let is : row ≡ Some s = cc in
    let here : not (same_signature s.sig sig) ≡ false = ⊎_elim
    (λ t. absurd (false≢true
    (sym none ∙ or_left (differs sig row) (mismatches sig rows) (ap (differs sig) is ∙ t))))
    (λ f. f)
    (cases_Bool (not (same_signature s.sig sig))) in
    (same_signatures_are_equal s.sig sig).0 (⊎_elim (λ t. t)
    (λ f. absurd (true≢false (sym (ap not f) ∙ here)))
    (cases_Bool (same_signature s.sig sig)))
all_agree sig (row ∷ rows) (suc i) s none at =
    all_agree sig rows i s (⊎_elim (λ t.
    absurd (false≢true (sym none ∙ or_right (differs sig row) (mismatches sig rows) t)))
    (λ f. f) (cases_Bool (mismatches sig rows))) at

-- who has posted on a communicator is a member of it
pub posted_member : (wall : ChineseWall) (past : List Post) (c m k : ℕ) (s : Stated) (comm : Comm) →
    AreCounted wall past → slice_get (comms wall past) c ≡ Some comm →
    slice_get (posts_on c m past) k ≡ Some s → (r : ℕ) × (slice_get comm.members r ≡ Some m)
posted_member wall past c m k s comm taken there at =
    let kth = kth_from c m k s past at in
    let accepted = taken_accepted wall kth.y kth.then
    (taken_at wall past kth.y kth.then kth.moment taken).1 in
    let now : slice_get (comms wall past) c ≡ Some accepted.comm = ap
    (λ n. slice_get (comms wall past) n) (sym kth.there) ∙ comm_later wall past kth.y kth.then
    kth.y.comm accepted.comm kth.moment accepted.at in
    let same : accepted.comm ≡ comm = (let both = sym now ∙ there in cc) in (
      accepted.rank,
      ap (λ (q : Comm). slice_get q.members accepted.rank) (sym same)
          ∙ ((rank_is accepted.comm.members kth.y.process accepted.rank accepted.is_member).0
          ∙ ap (λ n. Some n) kth.by),
    )

row_at : (comm : Comm) (c k : ℕ) (past : List Post) (r m : ℕ) (s : Stated) →
    slice_get comm.members r ≡ Some m → slice_get (posts_on c m past) k ≡ Some s →
    slice_get (kth_posts comm c k past) r ≡ Some (Some s)
row_at comm c k past r m s member at =
    slice_get-map (λ n. slice_get (posts_on c n past) k) comm.members r
    ∙ (ap (λ o. option_map (λ n. slice_get (posts_on c n past) k) o) member ∙ ap (λ o. Some o) at)

-- a new post has the signature of those that it meets
meets_alike : (wall : ChineseWall) (x : Post) (past : List Post) (n : ℕ) (t : Stated) →
    AreCounted wall (x ∷ past) → slice_get (posts_on x.comm n past) (place x past) ≡ Some t →
    t.sig ≡ x.stated.sig
meets_alike wall x past n t taken at =
    let accepted = taken_accepted wall x past taken.1 in
    let member = posted_member wall past x.comm n (place x past) t accepted.comm taken.0 accepted.at
    at in
    all_agree x.stated.sig (kth_posts accepted.comm x.comm (place x past) past) member.0 t
    accepted.agrees (row_at accepted.comm x.comm (place x past) past member.0 n t member.1 at)

-- what a post adds to the posts of a process on a communicator
pub posts_on-either : (c m k : ℕ) (x : Post) (past : List Post) (s : Stated) →
    slice_get (posts_on c m (x ∷ past)) k ≡ Some s →
    (slice_get (posts_on c m past) k ≡ Some s)
    ⊎ ((x.comm ≡ c) × (x.process ≡ m) × (k ≡ length (posts_on c m past)) × (x.stated ≡ s))
posts_on-either c m k x past s at = ⊎_elim
    (λ t.
    let parts = and_parts (x.comm == c) (x.process == m) t in
    ⊎_elim (λ old. inl old)
    (λ (new : (k ≡ length (posts_on c m past)) × (x.stated ≡ s)).
    inr (eqb-true x.comm c parts.0, eqb-true x.process m parts.1, new.0, new.1))
    (get_either (posts_on c m past) x.stated k s (sym (ap (λ ps. slice_get ps k)
    (cond-true (x.comm == c && x.process == m) (posts_on c m past ++ x.stated ∷ [])
    (posts_on c m past) t)) ∙ at)))
    (λ f. inl (sym (ap (λ ps. slice_get ps k) (cond-false (x.comm == c && x.process == m)
    (posts_on c m past ++ x.stated ∷ []) (posts_on c m past) f)) ∙ at))
    (cases_Bool (x.comm == c && x.process == m))

-- the new post is the k-th of q on the communicator, and states this
abbrev IsNew : Post → List Post → (c k q : ℕ) → Stated → Type 0
IsNew x past c k q u =
    (x.comm ≡ c) × (x.process ≡ q) × (k ≡ length (posts_on c q past)) × (x.stated ≡ u)

-- the k-th posts on a communicator are of one signature
pub one_signature : (wall : ChineseWall) (past : List Post) → AreCounted wall past →
    (c k m n : ℕ) (s t : Stated) → slice_get (posts_on c m past) k ≡ Some s →
    slice_get (posts_on c n past) k ≡ Some t → s.sig ≡ t.sig
one_signature wall [] taken c k m n s t one other = absurd (cc)
one_signature wall (x ∷ past) taken c k m n s t one other = both
    (λ a b. one_signature wall past taken.0 c k m n s t a b) (posts_on-either c m k x past s one)
    (posts_on-either c n k x past t other)
  where
    -- an older one meets the new one
    meets : (q r : ℕ) (u v : Stated) → slice_get (posts_on c q past) k ≡ Some u →
        IsNew x past c k r v → u.sig ≡ v.sig
    meets q r u v old new =
        let k_is : k ≡ place x past = new.2 ∙ (ap (λ d. length (posts_on d r past)) (sym new.0)
        ∙ ap (λ p. length (posts_on x.comm p past)) (sym new.1)) in
        let at : slice_get (posts_on x.comm q past) (place x past) ≡ Some u = ap
        (λ d. slice_get (posts_on d q past) (place x past)) new.0 ∙
        (ap (λ j. slice_get (posts_on c q past) j) (sym k_is) ∙ old) in
        meets_alike wall x past q u taken at ∙ ap (λ (w : Stated). w.sig) new.3

    both : (slice_get (posts_on c m past) k ≡ Some s → slice_get (posts_on c n past) k ≡ Some t →
        s.sig ≡ t.sig) →
        (slice_get (posts_on c m past) k ≡ Some s) ⊎ IsNew x past c k m s →
        (slice_get (posts_on c n past) k ≡ Some t) ⊎ IsNew x past c k n t → s.sig ≡ t.sig
    both older (inl a) (inl b) = older a b
    both older (inl a) (inr b) = meets m n s t a b
    both older (inr a) (inl b) = sym (meets n m t s b a)
    both older (inr a) (inr b) =
        sym (ap (λ (w : Stated). w.sig) a.3) ∙ ap (λ (w : Stated). w.sig) b.3

-- the signature of a list of statements is that of one of them
pub signature_of_one : (rows : List (Option Stated)) (i : ℕ) (s : Stated) →
    slice_get rows i ≡ Some (Some s) →
    (j : ℕ) × (t : Stated) × (slice_get rows j ≡ Some (Some t)) × (signature_in rows ≡ t.sig)
signature_of_one [] i s at = absurd (cc)
signature_of_one (Some t ∷ rows) i s at = (0, t, refl, refl)
signature_of_one (None ∷ rows) zero s at = absurd (cc)
signature_of_one (None ∷ rows) (suc i) s at =
    let rest = signature_of_one rows i s at in (suc rest.0, rest.1, rest.2, rest.3)

kth_go : (f : ℕ → Option Stated) (s : Stated) (o : Option ℕ) → option_map f o ≡ Some (Some s) →
    (m : ℕ) × (o ≡ Some m) × (f m ≡ Some s)
kth_go f s None e = absurd (cc)
kth_go f s (Some m) e = (m, refl, cc)

-- a statement of an instance is the k-th of a member
pub kth_of_member : (comm : Comm) (c k : ℕ) (past : List Post) (i : ℕ) (s : Stated) →
    slice_get (kth_posts comm c k past) i ≡ Some (Some s) →
    (m : ℕ) × (slice_get comm.members i ≡ Some m) × (slice_get (posts_on c m past) k ≡ Some s)
kth_of_member comm c k past i s at = kth_go (λ m. slice_get (posts_on c m past) k) s
    (slice_get comm.members i)
    (sym (slice_get-map (λ m. slice_get (posts_on c m past) k) comm.members i) ∙ at)

pub signature_is : (wall : ChineseWall) (past : List Post) (comm : Comm) (c k i : ℕ) (s : Stated) →
    AreCounted wall past → slice_get (kth_posts comm c k past) i ≡ Some (Some s) →
    s.sig ≡ signature_in (kth_posts comm c k past)
signature_is wall past comm c k i s taken at =
    let first = signature_of_one (kth_posts comm c k past) i s at in
    let one = kth_of_member comm c k past i s at in
    let other = kth_of_member comm c k past first.0 first.1 first.2 in
    one_signature wall past taken c k one.0 other.0 s first.1 one.2 other.2 ∙ sym first.3

---- The statements of an instance.

not_barred : (wall : ChineseWall) (y : Post) (then : List Post) (label : _) →
    y.stated.label ≡ label → IsCounted wall y then → y.stated.barred ≡ true → IsSome label
not_barred wall y then None is taken barred = absurd (true≢false
    (sym barred ∙ (taken.word ∙ ap (λ l. not (star (histories wall then) y.process l)) is)))
not_barred wall y then (Some label) is taken barred = refl

-- what a member of a communicator has posted k-th
pub statement_is : (wall : ChineseWall) (past : List Post) (comm : Comm) (c k i : ℕ) (s : Stated) →
    AreCounted wall past → AreComms (comms wall past) → slice_get (comms wall past) c ≡ Some comm →
    slice_get (kth_posts comm c k past) i ≡ Some (Some s) → IsStatement (instance comm c k past) i s
statement_is wall past comm c k i s taken are there at =
    let of_member = kth_of_member comm c k past i s at in
    let kth = kth_from c of_member.0 k s past of_member.2 in
    let was = (taken_at wall past kth.y kth.then kth.moment taken).1 in
    let accepted = taken_accepted wall kth.y kth.then was in
    let now : slice_get (comms wall past) c ≡ Some accepted.comm = ap
    (λ n. slice_get (comms wall past) n) (sym kth.there) ∙ comm_later wall past kth.y kth.then
    kth.y.comm accepted.comm kth.moment accepted.at in
    let same : accepted.comm ≡ comm = (let both = sym now ∙ there in cc) in
    let rank : accepted.rank ≡ i = (let both = sym accepted.is_member ∙
    (ap (λ (q : Comm). rank_in q.members kth.y.process) same
    ∙ (ap (λ m. rank_in comm.members m) kth.by
    ∙ ranked comm.members i of_member.0 (are c comm there).group of_member.1))
    in cc) in
    record {
      sig = signature_is wall past comm c k i s taken at;
      fault = ap (λ (q : Comm). stated_fault (shape_of q) i s) (sym same)
          ∙ (ap (λ r. stated_fault (shape_of accepted.comm) r s) (sym rank)
          ∙ (ap (λ t. stated_fault (shape_of accepted.comm) accepted.rank t) (sym kth.states)
          ∙ accepted.fits));
      labelled = λ barred. subst (λ (t : Stated). IsSome t.label) kth.states
          (not_barred wall kth.y kth.then kth.y.stated.label refl was
          (ap (λ (t : Stated). t.barred) kth.states ∙ barred));
    }

stated_some : (o : Option (Option Stated)) (s : Stated) → stated_in o ≡ Some s → o ≡ Some (Some s)
stated_some None s e = absurd (cc)
stated_some (Some row) s e = ap (λ r. Some r) e

pub sound_instance : (wall : ChineseWall) (past : List Post) (comm : Comm) (c k : ℕ) →
    AreCounted wall past → AreComms (comms wall past) → slice_get (comms wall past) c ≡ Some comm →
    IsSound (instance comm c k past)
sound_instance wall past comm c k taken are there = record {
  members = refl;
  grid = (are c comm there).sized;
  rows = length-map comm.members (λ m. slice_get (posts_on c m past) k);
  statements = λ i s at. statement_is wall past comm c k i s taken are there
      (stated_some (slice_get (kth_posts comm c k past) i) s at);
}

full_at : (rows : List (Option Stated)) (i : ℕ) → list_all is_some rows ≡ true → i < length rows →
    IsSome (stated_in (slice_get rows i))
full_at [] i full low = absurd (omega arith)
full_at (Some s ∷ rows) zero full low = refl
full_at (None ∷ rows) zero full low = absurd (false≢true full)
full_at (row ∷ rows) (suc i) full low =
    full_at rows i (and_parts (is_some row) (list_all is_some rows) full).1 (omega arith)

pub fit_instance : (wall : ChineseWall) (past : List Post) (comm : Comm) (c k : ℕ) →
    AreCounted wall past → AreComms (comms wall past) → slice_get (comms wall past) c ≡ Some comm →
    is_full (kth_posts comm c k past) ≡ true → IsFit (instance comm c k past)
fit_instance wall past comm c k taken are there full = record {
  sound = sound_instance wall past comm c k taken are there;
  full = λ i low. full_at (kth_posts comm c k past) i full
      (let long = length-map comm.members (λ m. slice_get (posts_on c m past) k) in omega arith);
}

---- All communicators.

no_new : (before : ℕ) (roll : Roll) → AreComms (new_comms roll) →
    AreComms (added before (Some roll))
no_new before roll new = ⊎_elim
    (λ t. subst AreComms
    (sym (cond-true (fits before (length (new_comms roll))) (new_comms roll) [] t)) new)
    (λ f. subst AreComms
    (sym (cond-false (fits before (length (new_comms roll))) (new_comms roll) [] f))
    (λ c comm e. absurd (cc)))
    (cases_Bool (fits before (length (new_comms roll))))

-- what x adds
added_are : (wall : ChineseWall) (x : Post) (past : List Post) → AreCounted wall (x ∷ past) →
    AreComms (comms wall past) → (o : Option Roll) → filled (comms wall past) x past ≡ o →
    AreComms (added (length (comms wall past)) o)
added_are wall x past taken are None e = λ c comm at. absurd (cc)
added_are wall x past taken are (Some roll) e =
    let fills = filled_is (comms wall past) x past roll e in
    let accepted = taken_accepted wall x past taken.1 in
    let same : accepted.comm ≡ fills.comm = (let both = sym accepted.at ∙ fills.at in cc) in
    let none = no_fault_has (shape_of accepted.comm) accepted.rank x.stated.sig x.stated.own
    (stated_type x.stated.sig) x.stated.given accepted.fits in
    let rows = kth_posts fills.comm x.comm (place x past) (x ∷ past) in
    let mine = Rattle.run_model.proofs.PostLemmas.posts_kth x.comm x.process [] x past refl refl in
    let member : slice_get fills.comm.members accepted.rank ≡ Some x.process = ap
    (λ (q : Comm). slice_get q.members accepted.rank) (sym same) ∙
    (rank_is accepted.comm.members x.process accepted.rank accepted.is_member).0 in
    let here = row_at fills.comm x.comm (place x past) (x ∷ past) accepted.rank x.process x.stated
    member mine in
    let sig : x.stated.sig ≡ signature_in rows = signature_is wall (x ∷ past) fills.comm x.comm
    (place x past) accepted.rank x.stated taken here in
    let ranks : not_subgroup (shape_of fills.comm) (signature_in rows) ≡ false = ap
    (λ (q : Comm). not_subgroup (shape_of q) (signature_in rows)) (sym same) ∙
    (ap (not_subgroup (shape_of accepted.comm)) (sym sig) ∙ none.subgroup) in
    let dims : bad_dims (shape_of fills.comm) (signature_in rows) ≡ false = ap
    (λ (q : Comm). bad_dims (shape_of q) (signature_in rows)) (sym same) ∙
    (ap (bad_dims (shape_of accepted.comm)) (sym sig) ∙ none.dims) in
    no_new (length (comms wall past)) roll (subst (λ (r : Roll). AreComms (new_comms r)) fills.is
    (new_are_comms fills.comm (are x.comm fills.comm fills.at) (signature_in rows) rows ranks dims
    (roll_by fills.comm rows) refl))

pub are_comms : (wall : ChineseWall) (past : List Post) → IsPolicy wall → AreCounted wall past →
    AreComms (comms wall past)
are_comms wall [] policy taken =
    λ c comm e. subst IsComm (sym (at_one (world wall) c comm e)) (world_is wall policy)
are_comms wall (x ∷ past) policy taken =
    let before = are_comms wall past policy taken.0 in
    both_comms (comms wall past)
    (added (length (comms wall past)) (filled (comms wall past) x past)) before
    (added_are wall x past taken before (filled (comms wall past) x past) refl)

pub filled_is_fit : FilledInstancesAreFit
filled_is_fit wall x past roll policy taken e =
    let fills = filled_is (comms wall past) x past roll e in
    let are = are_comms wall (x ∷ past) policy taken in
    let there = Rattle.run_model.proofs.CountedLemmas.comm_stays wall (x ∷ []) past x.comm
    fills.comm fills.at in
    let full : is_full (kth_posts fills.comm x.comm (place x past) (x ∷ past)) ≡ true = ap
    (λ (r : Roll). is_full r.stated) fills.is ∙ fills.full in
    subst IsFit fills.is
    (fit_instance wall (x ∷ past) fills.comm x.comm (place x past) taken are there full)
