-- In a granted instance each rank gave what it stated.
use Rattle.std.proofs.Common.{◌≡◌, ℕ, zero, suc, ◌<◌, List, [], ◌∷◌, ◌++◌, length, refl, sym}
use Rattle.std.proofs.Common.{ap, ◌∙◌, subst, arith, true, false, ◌&&◌, ⊎_elim, Option, Some}
use Rattle.std.proofs.Common.{None, slice_get, option_map}
use Rattle.std.specs.Prelude.{◌==◌, is_some}
use Rattle.std.specs.List.{list_all}
use Rattle.std.proofs.lemmas.Bool.{cases_Bool, cond-true, cond-false, false≢true}
use Rattle.std.proofs.lemmas.Option.{slice_get-map, slice_get_within}
use Rattle.std.proofs.lemmas.List.{length-map}
use Rattle.wall_labels.proofs.WallLabelsLemmas.{is_some-Some}
use Rattle.wall_policy.specs.Policy.{ChineseWall, IsPolicy}
use Rattle.mpi_elems.specs.Contents.{Contents}
use Rattle.coll_routes.specs.declared.statement.Stated.{Stated}
use Rattle.coll_routes.specs.declared.roll.Roll.{Roll}
use Rattle.coll_routes.specs.Signatures.{elem_type}
use Rattle.coll_routes.specs.Rolls.{given_in, barred_in, stated_in}
use Rattle.coll_routes.specs.Fit.{IsFit}
use Rattle.coll_values.specs.Instances.{IsPart, IsWhole}
use Rattle.wall_rules.specs.Histories.{History}
use Rattle.wall_verdict.specs.Meanings.{NobodyIsBarred}
use Rattle.wall_verdict.proofs.WallVerdictLemmas.{verdicts_name_the_least}
use Rattle.run_model.specs.declared.outcome.Outcome.TheVariants.{Granted}
use Rattle.run_model.specs.Comms.{Comm}
use Rattle.coll_routes.specs.Rolls.{is_full}
use Rattle.run_model.specs.Posts.{posts_on, kth_posts, roll_by, instance, comms, labelled}
use Rattle.run_model.specs.Posts.{histories, is_granted, outcome_of, outcome_at}
use Rattle.run_model.specs.Books.{AreCounted}
use Rattle.run_model.proofs.PostLemmas.{get_either, filled_is}
use Rattle.run_model.proofs.CountedLemmas.{taken_at, comm_stays}
use Rattle.run_model.proofs.FitLemmas.{filled_is_fit}
use Rattle.run_model.proofs.PostLawLemmas.{outcome_granted}
use Rattle.run_model.specs.Contributions.{Contribution, posts_of, parts_on, kth_parts, parts_in}
use Rattle.run_model.specs.Contributions.{full_at}
use Rattle.run_model.specs.Replies.{comm_at}
use Rattle.run_model.specs.Proper.{IsAsStated, AreAsStated}
use Rattle.run_model.proofs.SettledLemmas.{lengths, rows_alike, all_at, kth_later, settled_from}
use Rattle.run_model.proofs.SettledLemmas.{comm_at_is}

-- ## parts and statements stand side by side

-- the k-th part of m on c is what the k-th post states, if that passed
brought_at : (c m k : ℕ) (past : List (Contribution Contents)) (part : Contents) (s : Stated) →
    AreAsStated past → slice_get (parts_on c m past) k ≡ Some part →
    slice_get (posts_on c m (posts_of past)) k ≡ Some s → s.barred ≡ false → IsAsStated s part
brought_at c m k [] part s brought at states passed = absurd (cc)
brought_at c m k (g ∷ past) part s brought at states passed = ⊎_elim
    (λ t.
    let at_now : slice_get (parts_on c m past ++ g.part ∷ []) k ≡ Some part = sym
    (ap (λ xs. slice_get xs k) (cond-true (g.post.comm == c && g.post.process == m)
    (parts_on c m past ++ g.part ∷ []) (parts_on c m past) t)) ∙ at in
    let states_now : slice_get (posts_on c m (posts_of past) ++ g.post.stated ∷ []) k ≡ Some s = sym
    (ap (λ xs. slice_get xs k) (cond-true (g.post.comm == c && g.post.process == m)
    (posts_on c m (posts_of past) ++ g.post.stated ∷ []) (posts_on c m (posts_of past))
    t)) ∙ states in
    let long = lengths c m past in
    ⊎_elim
    (λ old_part. ⊎_elim
    (λ old. brought_at c m k past part s brought.0 old_part old passed)
    (λ (new : (k ≡ length (posts_on c m (posts_of past))) × (g.post.stated ≡ s)).
    absurd (let low = slice_get_within (parts_on c m past) k part old_part in
    let is = new.0 in omega (arith, low, is, long)))
    (get_either (posts_on c m (posts_of past)) g.post.stated k s states_now))
    (λ (new_part : (k ≡ length (parts_on c m past)) × (g.part ≡ part)). ⊎_elim
    (λ old. absurd (let low = slice_get_within (posts_on c m (posts_of past)) k s old in
    let is = new_part.0 in omega (arith, low, is, long)))
    (λ (new : (k ≡ length (posts_on c m (posts_of past))) × (g.post.stated ≡ s)).
    subst (λ q. IsAsStated q part) new.1 (subst (λ x. IsAsStated g.post.stated x) new_part.1
    (brought.1 (ap (λ (q : Stated). q.barred) new.1 ∙ passed))))
    (get_either (posts_on c m (posts_of past)) g.post.stated k s states_now))
    (get_either (parts_on c m past) g.part k part at_now))
    (λ f. brought_at c m k past part s brought.0
    (sym (ap (λ xs. slice_get xs k) (cond-false (g.post.comm == c && g.post.process == m)
    (parts_on c m past ++ g.part ∷ []) (parts_on c m past) f)) ∙ at)
    (sym (ap (λ xs. slice_get xs k) (cond-false (g.post.comm == c && g.post.process == m)
    (posts_on c m (posts_of past) ++ g.post.stated ∷ [])
    (posts_on c m (posts_of past)) f)) ∙ states)
    passed)
    (cases_Bool (g.post.comm == c && g.post.process == m))

-- ## rows in which nobody is missing

parts_long : {X : Type 0} (rows : List (Option X)) → list_all is_some rows ≡ true →
    length (parts_in rows) ≡ length rows
parts_long [] full = refl
parts_long (Some x ∷ rows) full = ap suc (parts_long rows full)
parts_long (None ∷ rows) full = absurd (false≢true full)

part_row : {X : Type 0} (rows : List (Option X)) (i : ℕ) (x : X) → list_all is_some rows ≡ true →
    slice_get (parts_in rows) i ≡ Some x → slice_get rows i ≡ Some (Some x)
part_row [] i x full e = absurd (cc)
part_row (None ∷ rows) i x full e = absurd (false≢true full)
part_row (Some y ∷ rows) zero x full e = ap (λ o. Some o) e
part_row (Some y ∷ rows) (suc i) x full e = part_row rows i x full e

mapped : {Y : Type 0} (f : ℕ → Option Y) (o : Option ℕ) (y : Y) → option_map f o ≡ Some (Some y) →
    (m : ℕ) × (o ≡ Some m) × (f m ≡ Some y)
mapped f None y e = absurd (cc)
mapped f (Some m) y e = (m, refl, cc)

-- ## an instance that is full and has no barred rank

module _ (comm : Comm) (c k : ℕ) (past : List (Contribution Contents))
    (full : is_full (kth_posts comm c k (posts_of past)) ≡ true)
    (fit : IsFit (instance comm c k (posts_of past)))
    (passed : NobodyIsBarred (instance comm c k (posts_of past))) (brought : AreAsStated past) where
  abbrev roll : Roll
  roll = instance comm c k (posts_of past)

  parts_full : list_all is_some (kth_parts comm c k past) ≡ true
  parts_full = rows_alike (λ m. parts_on c m past) (λ m. posts_on c m (posts_of past)) k
      comm.members (λ m. lengths c m past) ∙ full

  parts_count : length (parts_in (kth_parts comm c k past)) ≡ length comm.members
  parts_count = parts_long (kth_parts comm c k past) parts_full
      ∙ length-map comm.members (λ m. slice_get (parts_on c m past) k)

  part_is : (i : ℕ) (part : Contents) →
      slice_get (parts_in (kth_parts comm c k past)) i ≡ Some part → IsPart roll i part
  part_is i part e =
      let row = part_row (kth_parts comm c k past) i part parts_full e in
      let at = mapped (λ m. slice_get (parts_on c m past) k) (slice_get comm.members i) part
      (sym (slice_get-map (λ m. slice_get (parts_on c m past) k) comm.members i) ∙ row) in
      let stated_row : slice_get (kth_posts comm c k (posts_of past)) i ≡ Some
      (slice_get (posts_on c at.0 (posts_of past)) k) =
      slice_get-map (λ m. slice_get (posts_on c m (posts_of past)) k) comm.members i
      ∙ ap (λ o. option_map (λ m. slice_get (posts_on c m (posts_of past)) k) o) at.1 in
      let s = is_some-Some (slice_get (posts_on c at.0 (posts_of past)) k)
      (all_at (kth_posts comm c k (posts_of past)) i
      (slice_get (posts_on c at.0 (posts_of past)) k) full stated_row) in
      let states : slice_get roll.stated i ≡ Some (Some s.0) = stated_row ∙ ap (λ o. Some o) s.1 in
      let low : i < length comm.members = slice_get_within comm.members i at.0 at.1 in
      let unbarred : s.0.barred ≡ false = sym (ap (λ o. barred_in (stated_in o)) states) ∙ passed i
      low in
      let is = brought_at c at.0 k past part s.0 brought at.2 s.1 unbarred in
      let own = fit.sound.statements i s.0 (ap stated_in states) in
      record {
        number = is.number ∙ sym (ap (λ o. given_in (stated_in o)) states);
        of_type = λ ty e. is.of_type ty (ap elem_type own.sig ∙ e);
      }

  pub whole_instance : IsWhole (full_at comm c k past)
  whole_instance = record { roll = fit; parts = parts_count; each = part_is }

-- ## a granted instance

pub granted_whole : (wall : ChineseWall) (past : List (Contribution Contents)) (c k : ℕ) →
    IsPolicy wall → AreCounted wall (posts_of past) → AreAsStated past →
    outcome_at wall c k (posts_of past) ≡ Some Granted →
    IsWhole (full_at (comm_at wall (posts_of past) c) c k past)
granted_whole wall past c k policy taken brought e =
    let h = settled_from wall c k (posts_of past) Granted e in
    let f = filled_is (comms wall h.before) h.x h.before h.roll h.fills in
    let counted = taken_at wall (posts_of past) h.x h.before h.moment taken in
    let at_then : slice_get (comms wall h.before) c ≡ Some f.comm = ap
    (λ n. slice_get (comms wall h.before) n) (sym h.there) ∙ f.at in
    let at_now : slice_get (comms wall (posts_of past)) c ≡ Some f.comm = ap
    (λ ps. slice_get (comms wall ps) c) (sym h.moment.1) ∙ comm_stays wall h.moment.0
    (h.x ∷ h.before) c f.comm (comm_stays wall (h.x ∷ []) h.before c f.comm at_then) in
    let roll_then : instance f.comm c k (h.x ∷ h.before) ≡ h.roll =
    (λ i. instance f.comm (sym h.there i) (sym h.kth i) (h.x ∷ h.before)) ∙ f.is in
    let full_then : is_full (kth_posts f.comm c k (h.x ∷ h.before)) ≡ true = ap
    (λ (r : Roll). is_full r.stated) roll_then ∙ f.full in
    let rows : kth_posts f.comm c k (posts_of past) ≡ kth_posts f.comm c k (h.x ∷ h.before) = ap
    (λ ps. kth_posts f.comm c k ps) (sym h.moment.1) ∙ kth_later f.comm c k h.moment.0
    (h.x ∷ h.before) full_then in
    let roll_now : instance f.comm c k (posts_of past) ≡ h.roll = ap (λ ss. roll_by f.comm ss) rows
    ∙ roll_then in
    let fit_then = filled_is_fit wall h.x h.before h.roll policy counted h.fills in
    let now : History = labelled (histories wall h.before) h.x in
    let came : outcome_of wall now (length (comms wall h.before)) h.roll ≡ Granted =
    (let both = sym (ap (λ o. option_map (outcome_of wall now (length (comms wall h.before))) o)
    h.fills) ∙ h.came in cc) in
    let verdict_is =
    (outcome_granted wall now (length (comms wall h.before)) h.roll (ap is_granted came)).1 in
    let passed_then : NobodyIsBarred h.roll = (subst
    (λ v. Rattle.wall_verdict.specs.Meanings.IsVerdict wall now h.roll v) verdict_is
    (verdicts_name_the_least wall now h.roll fit_then)).0 in
    subst IsWhole
    (ap (λ comm. full_at comm c k past) (sym (comm_at_is wall (posts_of past) c f.comm at_now)))
    (whole_instance f.comm c k past (ap is_full rows ∙ full_then)
    (subst IsFit (sym roll_now) fit_then) (subst NobodyIsBarred (sym roll_now) passed_then)
    brought)
