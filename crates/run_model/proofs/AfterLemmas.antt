-- The policy after posts that count: the pairs of their histories can be what was held before.
use Rattle.std.proofs.Common.{◌≡◌, ℕ, suc, ◌<◌, true, List, [], ◌∷◌, ◌++◌, length, Option, Some}
use Rattle.std.proofs.Common.{None, refl, sym, ap, ◌∙◌, subst, inl, inr, slice_get, arith}
use Rattle.std.specs.Prelude.{All, IsSome}
use Rattle.std.proofs.lemmas.List.{append-nil}
use Rattle.std.proofs.lemmas.Option.{slice_get_within}
use Rattle.wall_labels.specs.declared.label.Label.{Label}
use Rattle.wall_labels.specs.declared.label.Label.TheVariants.{Of}
use Rattle.wall_policy.specs.Policy.{ChineseWall, IsPolicy, HasAtFirst, CanBeHeld, with_held}
use Rattle.wall_policy.specs.Policy.{home_if_any}
use Rattle.wall_rules.specs.Histories.{ArePairsOf}
use Rattle.coll_routes.specs.declared.roll.Roll.{Roll}
use Rattle.coll_routes.specs.declared.statement.Stated.{Stated}
use Rattle.coll_routes.specs.Rolls.{stated_by, stated_in}
use Rattle.coll_routes.specs.Fit.{IsFit}
use Rattle.run_model.specs.Comms.{processes}
use Rattle.run_model.specs.Posts.{Post, posts_on, place, filled, comms, histories}
use Rattle.run_model.specs.declared.entry.Entry.{Entry}
use Rattle.run_model.specs.declared.entry.Entry.TheVariants.{Posted, Settled}
use Rattle.run_model.specs.Books.{posts_in, AreCounted}
use Rattle.run_model.specs.Holding.{Holds, had_at_first, wrote, received, passed_on}
use Rattle.run_model.specs.Holding.{IsMoment, Reaches}
use Rattle.run_model.specs.Known.{IsKnownIfAny, IsKnownEntry, PostsHaveKnownLabels}
use Rattle.run_model.specs.Chains.{GrewFrom, IsPolicyAfter}
use Rattle.run_model.proofs.BookLemmas.{posts_in-append}
use Rattle.mpi_group.proofs.MpiGroupLemmas.{rank_is}
use Rattle.run_model.proofs.PostLemmas.{IsFilled, filled_is, stated_at, kth_from}
use Rattle.run_model.proofs.CountedLemmas.{taken_accepted, taken_at}
use Rattle.run_model.proofs.FitLemmas.{filled_is_fit}
use Rattle.run_model.proofs.PostLawLemmas.{posts_keep_the_wall}
use Rattle.run_model.proofs.HoldingLemmas.{first_in_history, history_is_held, holding_is_history}

---- What is held is of the policy.

labels_older : (wall : ChineseWall) (later past : List Post) →
    PostsHaveKnownLabels wall (later ++ past) → PostsHaveKnownLabels wall past
labels_older wall [] past h = h
labels_older wall (x ∷ later) past h = labels_older wall later past h.0

pub labels_at : (wall : ChineseWall) (past : List Post) (y : Post) (then : List Post) →
    IsMoment past y then → PostsHaveKnownLabels wall past → PostsHaveKnownLabels wall (y ∷ then)
labels_at wall past y then moment h =
    labels_older wall moment.0 (y ∷ then) (subst (PostsHaveKnownLabels wall) (sym moment.1) h)

labels_join : (wall : ChineseWall) (later past : List Post) → PostsHaveKnownLabels wall later →
    PostsHaveKnownLabels wall past → PostsHaveKnownLabels wall (later ++ past)
labels_join wall [] past new old = old
labels_join wall (x ∷ later) past new old = (labels_join wall later past new.0 old, new.1)

entry_labels : (wall : ChineseWall) (e : Entry) → IsKnownEntry wall e →
    PostsHaveKnownLabels wall (posts_in (e ∷ []))
entry_labels wall (Posted p c stated) known = (tt, known.1)
entry_labels wall (Settled c k o) known = tt

-- a book that names what the policy has, has posts with known labels
pub labels_of_entries : (wall : ChineseWall) (entries : List Entry) →
    All (IsKnownEntry wall) entries → PostsHaveKnownLabels wall (posts_in entries)
labels_of_entries wall [] all = tt
labels_of_entries wall (e ∷ entries) all =
    subst (PostsHaveKnownLabels wall) (sym (posts_in-append (e ∷ []) entries))
    (labels_join wall (posts_in entries) (posts_in (e ∷ []))
    (labels_of_entries wall entries (λ k d lt. all (suc k) d (omega arith)))
    (entry_labels wall e (all 0 e (omega arith))))

-- each member of an instance that is filled has posted, and so is a process of the policy
module _ (wall : ChineseWall) (x : Post) (past : List Post) (policy : IsPolicy wall)
    (taken : AreCounted wall (x ∷ past)) (roll : Roll)
    (fills : filled (comms wall past) x past ≡ Some roll) where
  filled_as : IsFilled (comms wall past) x past roll
  filled_as = filled_is (comms wall past) x past roll fills

  fit : IsFit roll
  fit = filled_is_fit wall x past roll policy taken fills

  pub member_known : (j q : ℕ) → slice_get roll.members j ≡ Some q → q < processes wall
  member_known j q at = by_row (slice_get (posts_on x.comm q (x ∷ past)) (place x past)) refl
    where
      low : j < roll.shape.size
      low = subst (λ n. j < n) fit.sound.members (slice_get_within roll.members j q at)

      row : stated_by roll j ≡ slice_get (posts_on x.comm q (x ∷ past)) (place x past)
      row = ap stated_in (stated_at (comms wall past) x past roll j filled_as q at)

      by_row : (o : Option Stated) → slice_get (posts_on x.comm q (x ∷ past)) (place x past) ≡ o →
          q < processes wall
      by_row None e = let none = subst IsSome (row ∙ e) (fit.full j low) in absurd (cc)
      by_row (Some s) e =
          let y = kth_from x.comm q (place x past) s (x ∷ past) e in
          subst (λ p. p < processes wall) y.by (taken_accepted wall y.y y.then
          (taken_at wall (x ∷ past) y.y y.then y.moment taken).1).process

abbrev IsOf : ChineseWall → (p d : ℕ) → Type 0
IsOf wall p d = (p < length wall.process_names) × (d < length wall.dataset_names)

-- a process with a home stands in the list
home_within : (homes : List (Option ℕ)) (p d : ℕ) (o : Option (Option ℕ)) →
    slice_get homes p ≡ o → home_if_any o ≡ Some d → p < length homes
home_within homes p d None at e = absurd (cc)
home_within homes p d (Some home) at e = slice_get_within homes p home at

first_is_known : (wall : ChineseWall) (p d : ℕ) → IsPolicy wall → HasAtFirst wall p d →
    IsOf wall p d
first_is_known wall p d policy (inl home) = (
  subst (λ n. p < n) policy.home_for_each
      (home_within wall.homes p d (slice_get wall.homes p) refl home),
  policy.known_homes p d home,
)
first_is_known wall p d policy (inr before) = policy.known_held p d before

label_known : (wall : ChineseWall) (d : ℕ) (label : Option Label) → label ≡ Some (Of d) →
    IsKnownIfAny wall label → d < length wall.dataset_names
label_known wall d label is known = subst (IsKnownIfAny wall) is known

module _ (wall : ChineseWall) (policy : IsPolicy wall) where
  -- whom a delivery reached is a process of the policy
  receiver_known : (past : List Post) (p : ℕ) (y : Post) (then : List Post) →
      AreCounted wall past → Reaches wall past p y then → p < processes wall
  receiver_known past p y then taken r =
      member_known wall r.x r.before policy (taken_at wall past r.x r.before r.at taken) r.roll
      r.grant.fills r.j p (rank_is r.roll.members p r.j r.receiver).0

  held_is_known : {past : List Post} {p d : ℕ} → AreCounted wall past →
      PostsHaveKnownLabels wall past → Holds wall past p d → IsOf wall p d
  held_is_known {p = p} {d = d} taken labels (had_at_first begins) =
      first_is_known wall p d policy begins
  held_is_known {past = past} {d = d} taken labels (wrote x before m by passed label) = (
    subst (λ p. p < processes wall) by
        (taken_accepted wall x before (taken_at wall past x before m taken).1).process,
    label_known wall d x.stated.label label (labels_at wall past x before m labels).1,
  )
  held_is_known {past = past} {p = p} {d = d} taken labels (received y then r label) =
      let labels_then =
      labels_at wall (r.x ∷ r.before) y then r.part.moment
      (labels_at wall past r.x r.before r.at labels) in (
        receiver_known past p y then taken r,
        label_known wall d y.stated.label label labels_then.1,
      )
  held_is_known {past = past} {p = p} {d = d} taken labels (passed_on y then r held) =
      let labels_then =
      labels_at wall (r.x ∷ r.before) y then r.part.moment
      (labels_at wall past r.x r.before r.at labels) in
      let taken_then =
      taken_at wall (r.x ∷ r.before) y then r.part.moment
      (taken_at wall past r.x r.before r.at taken) in (
        receiver_known past p y then taken r,
        (held_is_known {past = then} {p = y.process} {d = d} taken_then.0 labels_then.0 held).1,
      )

---- The policy after posts.

module _ (wall : ChineseWall) (past : List Post) (pairs : List (ℕ × ℕ))
    (taken : AreCounted wall past) (are : ArePairsOf (histories wall past) pairs) where
  -- what the policy after them begins with stands in their histories
  after_in_history : (p d : ℕ) → HasAtFirst (with_held wall pairs) p d →
      histories wall past p d ≡ true
  after_in_history p d (inl home) = first_in_history wall past p d (inl home)
  after_in_history p d (inr before) = sym (are p d) ∙ before

  pub can_be_held : IsPolicy wall → PostsHaveKnownLabels wall past → CanBeHeld wall pairs
  can_be_held policy labels = record {
    known = λ p d e. held_is_known wall policy taken labels
        (history_is_held wall past p d (sym (are p d) ∙ e));
    kept = λ p d before. are p d ∙ first_in_history wall past p d (inr before);
    apart = λ p d e begins_d begins_e. posts_keep_the_wall wall past policy taken p d e
        (after_in_history p d begins_d) (after_in_history p e begins_e);
  }

  grew : GrewFrom wall (with_held wall pairs)
  grew = record {
    datasets = ([], append-nil wall.dataset_names);
    classes = ([], append-nil wall.classes);
    processes = ([], append-nil wall.process_names);
    homes = ([], append-nil wall.homes);
  }

  pub is_policy_after : IsPolicyAfter wall past (with_held wall pairs)
  is_policy_after = record {
    grew = grew;
    held = λ p d low.
        let is = holding_is_history wall [] past taken p d low in
        (λ before. is.0 (sym (are p d) ∙ before), λ held. are p d ∙ is.1 held);
  }
