-- What is known of an instance that was filled.
use Rattle.std.proofs.Common.{◌≡◌, ℕ, ◌+◌, ◌≤◌, Bool, true, false, List, [], ◌∷◌, ◌++◌, length}
use Rattle.std.proofs.Common.{refl, sym, ap, ◌∙◌, subst, arith, Option, Some, slice_get, option_map}
use Rattle.std.proofs.Common.{take, drop, cond, length-append, append_assoc}
use Rattle.wall_policy.specs.Policy.{ChineseWall}
use Rattle.mpi_elems.specs.Contents.{Contents}
use Rattle.mpi_comm.specs.Comms.{fits}
use Rattle.coll_routes.specs.declared.roll.Roll.{Roll}
use Rattle.coll_routes.specs.Signatures.{is_constructor}
use Rattle.coll_values.specs.declared.full.Full.{Full}
use Rattle.coll_values.specs.Instances.{IsWhole}
use Rattle.wall_rules.specs.Histories.{History}
use Rattle.wall_verdict.specs.Verdicts.{verdict}
use Rattle.run_model.specs.declared.outcome.Outcome.{Outcome}
use Rattle.run_model.specs.declared.outcome.Outcome.TheVariants.{Made as MadeComms, NoRoom}
use Rattle.run_model.specs.Comms.{Comm, new_comms, added}
use Rattle.run_model.specs.Posts.{Post, comms, outcome_of, constructor_outcome, by_verdict}
use Rattle.coll_routes.specs.Rolls.{is_full}
use Rattle.run_model.specs.Posts.{labelled, histories, instance, kth_posts, roll_by}
use Rattle.run_model.proofs.RunModelLemmas.{filled_is, comms_stay, comm_stays, IsSettled}
use Rattle.run_model.proofs.RunModelLemmas.{settled_from, kth_later, comm_at_is, granted_whole}
use Rattle.run_model.proofs.RunModelLemmas.{verdict_makes_none}
use Rattle.run_model.specs.Replies.{posts_made, comm_at}
use Rattle.hall_core.specs.declared.requests.Request.{Request}
use Rattle.hall_core.specs.declared.settled.Settlement.{Settlement}
use Rattle.hall_core.specs.Asking.{opened}
use Rattle.hall_core.specs.Halls.{HallView}
use Rattle.hall_core.specs.Invariant.{IsHallView}
use Rattle.hall_core.specs.Moves.{IsTellable, row_at}
use Rattle.hall_core.proofs.LookLemmas.{row_between}
use Rattle.hall_core.proofs.TakeLemmas.{known_as}

-- ## communicators that a constructor made

pub record IsMadeAt (before first number : ℕ) (new : List Comm) : Type 0 where
  pub fit : fits before (length new) ≡ true
  pub start : first ≡ before
  pub long : number ≡ length new

made_is : (before first number : ℕ) (new : List Comm) →
    constructor_outcome before new ≡ MadeComms first number → IsMadeAt before first number new
made_is before first number new e = go (fits before (length new)) refl e
  where
    go : (b : Bool) → fits before (length new) ≡ b →
        cond b (MadeComms before (length new)) NoRoom ≡ MadeComms first number →
        IsMadeAt before first number new
    go true t e = record {
      fit = t;
      start = (let s : before ≡ first = cc in sym s);
      long = (let s : length new ≡ number = cc in sym s);
    }
    go false f e = absurd (cc)

outcome_made : (wall : ChineseWall) (has : History) (before first number : ℕ) (roll : Roll) →
    outcome_of wall has before roll ≡ MadeComms first number →
    IsMadeAt before first number (new_comms roll)
outcome_made wall has before first number roll e = go (is_constructor roll.sig) e
  where
    go : (b : Bool) →
        cond b (constructor_outcome before (new_comms roll)) (by_verdict (verdict wall has roll))
        ≡ MadeComms first number → IsMadeAt before first number (new_comms roll)
    go true e = made_is before first number (new_comms roll) e
    go false e = absurd (verdict_makes_none (verdict wall has roll) first number e)

-- they stand in the table, from that number on
pub record AreThere (table : List Comm) (first number : ℕ) (new : List Comm) : Type 0 where
  pub within : first + number ≤ length table
  pub row : new ≡ row_at table first number

there_by : (xs ys zs table : List Comm) (first number : ℕ) → table ≡ (xs ++ ys) ++ zs →
    first ≡ length xs → number ≡ length ys → AreThere table first number ys
there_by xs ys zs table first number is start long = record {
  within = (let n = length-append (xs ++ ys) zs in
      let k = length-append xs ys in
      let t : length table ≡ length ((xs ++ ys) ++ zs) = ap length is in
      omega (arith, n, k, t, start, long));
  row = sym ((λ i. row_at (is i) (start i) (long i))
      ∙ (ap (λ ts. take (length ys) (drop (length xs) ts)) (append_assoc xs ys zs)
      ∙ row_between xs ys zs));
}

pub made_there : (wall : ChineseWall) (posts : List Post) (c k first number : ℕ)
    (h : IsSettled wall c k posts (MadeComms first number)) →
    AreThere (comms wall posts) first number (new_comms h.roll)
made_there wall posts c k first number h =
    let told : outcome_of wall (labelled (histories wall h.before) h.x)
    (length (comms wall h.before)) h.roll ≡ MadeComms first number =
    (let both : Some (outcome_of wall (labelled (histories wall h.before) h.x)
    (length (comms wall h.before)) h.roll) ≡ Some (MadeComms first number) =
    sym (ap (λ (o : Option Roll). option_map (outcome_of wall
    (labelled (histories wall h.before) h.x) (length (comms wall h.before))) o)
    h.fills) ∙ h.came in cc) in
    let constructor_outcome = outcome_made wall (labelled (histories wall h.before) h.x)
    (length (comms wall h.before)) first number h.roll told in
    let grown : comms wall (h.x ∷ h.before) ≡ comms wall h.before ++ new_comms h.roll =
    ap (λ (o : Option Roll). comms wall h.before ++ added (length (comms wall h.before)) o) h.fills
    ∙ ap (λ (b : Bool). comms wall h.before ++ cond b (new_comms h.roll) []) constructor_outcome.fit
    in
    let stay = comms_stay wall h.moment.0 (h.x ∷ h.before) in
    there_by (comms wall h.before) (new_comms h.roll) stay.0 (comms wall posts) first number
    (ap (λ ps. comms wall ps) (sym h.moment.1) ∙ (stay.1 ∙ ap (λ ts. ts ++ stay.0) grown))
    constructor_outcome.start constructor_outcome.long

-- the instance that was filled then is the one that a take looks at
roll_now : (wall : ChineseWall) (posts : List Post) (c k : ℕ) (o : Outcome)
    (h : IsSettled wall c k posts o) → instance (comm_at wall posts c) c k posts ≡ h.roll
roll_now wall posts c k o h =
    let f = filled_is (comms wall h.before) h.x h.before h.roll h.fills in
    let at_then : slice_get (comms wall h.before) c ≡ Some f.comm = ap
    (λ n. slice_get (comms wall h.before) n) (sym h.there) ∙ f.at in
    let at_now : slice_get (comms wall posts) c ≡ Some f.comm = ap
    (λ ps. slice_get (comms wall ps) c) (sym h.moment.1) ∙ comm_stays wall h.moment.0
    (h.x ∷ h.before) c f.comm (comm_stays wall (h.x ∷ []) h.before c f.comm at_then) in
    let roll_then : instance f.comm c k (h.x ∷ h.before) ≡ h.roll =
    (λ i. instance f.comm (sym h.there i) (sym h.kth i) (h.x ∷ h.before)) ∙ f.is in
    let full_then : is_full (kth_posts f.comm c k (h.x ∷ h.before)) ≡ true = ap
    (λ (r : Roll). is_full r.stated) roll_then ∙ f.full in
    let rows : kth_posts f.comm c k posts ≡ kth_posts f.comm c k (h.x ∷ h.before) = ap
    (λ ps. kth_posts f.comm c k ps) (sym h.moment.1) ∙ kth_later f.comm c k h.moment.0
    (h.x ∷ h.before) full_then in
    ap (λ n. instance n c k posts) (comm_at_is wall posts c f.comm at_now)
    ∙ (ap (λ ss. roll_by f.comm ss) rows ∙ roll_then)

-- ## what a hall may tell

pub tellable : (hall : HallView) → IsHallView hall → (p r : ℕ) (q : Request) (s : Settlement) →
    opened (hall.asked p) r ≡ Some q →
    hall.settled q.comm q.k ≡ Some s → IsTellable hall.post_state.comms s
tellable hall is p r q s waits e =
    let c = q.comm in
    let k = q.k in
    let known = known_as hall is.effects is.stands p r q s waits e in
    let proper = is.is_made.proper in
    let row : (first number : ℕ) → s.outcome ≡ MadeComms first number → AreThere
    hall.post_state.comms first number (new_comms s.full.roll) =
    (λ first number o.
    let h = settled_from hall.policy c k (posts_made is.effects) (MadeComms first number)
    (known.came ∙ ap (λ x. Some x) o) in
    let roll : h.roll ≡ s.full.roll = sym
    (roll_now hall.policy (posts_made is.effects) c k (MadeComms first number) h) ∙ ap
    (λ (f : Full Contents). f.roll) known.full in
    subst (λ (r : Roll). AreThere hall.post_state.comms first number (new_comms r)) roll
    (subst (λ (t : List Comm). AreThere t first number (new_comms h.roll))
    (sym is.stands.post_state.comms)
    (made_there hall.policy (posts_made is.effects) c k first number h))) in
    record {
      whole = λ granted. subst IsWhole known.full (granted_whole hall.policy
          is.effects.contributions c k is.policy proper.posts proper.parts
          (known.came ∙ ap (λ x. Some x) granted));
      within = λ first number o. (row first number o).within;
      made = λ first number o. (row first number o).row;
    }
