-- The posts of a member for an instance, and where they stand.
use Rattle.std.proofs.Common.{◌≡◌, ℕ, ◌+◌, ◌-◌, ◌<◌, true, false, ◌&&◌, List, ◌∷◌, ◌++◌}
use Rattle.std.proofs.Common.{[]}
use Rattle.std.proofs.Common.{length, Option, Some, None, refl, sym, ap, ◌∙◌, subst, arith}
use Rattle.std.proofs.Common.{slice_get}
use Rattle.std.proofs.Common.{eqb-true, length-append}
use Rattle.std.specs.Prelude.{◌==◌, is_some}
use Rattle.std.proofs.lemmas.Bool.{and_parts, cond-true, cond-false, false≢true}
use Rattle.std.proofs.lemmas.Option.{slice_get_within}
use Rattle.wall_policy.specs.Policy.{ChineseWall}
use Rattle.wall_rules.specs.Histories.{History}
use Rattle.coll_routes.specs.declared.statement.Stated.{Stated}
use Rattle.coll_routes.specs.declared.roll.Roll.{Roll}
use Rattle.coll_routes.specs.Fit.{IsFit}
use Rattle.coll_routes.specs.Rolls.{stated_in}
use Rattle.run_model.specs.declared.entry.Entry.{Entry}
use Rattle.run_model.specs.declared.entry.Entry.TheVariants.{Posted, Settled}
use Rattle.run_model.specs.Posts.{posts_on, place, comms}
use Rattle.run_model.proofs.RunModelLemmas.{filled_is, stated_at}
use Rattle.audit_book.specs.Checks.{post_of}
use Rattle.book_report.specs.Held.{posts_to}
use Rattle.book_report.specs.Denials.{IsPartAt, IsFilledAt}
use Rattle.book_report.specs.Reasons.{is_part}
use Rattle.book_report.proofs.HistoryLemmas.{posts_posted, posts_settled}
use Rattle.book_report.proofs.WalkLemmas.{post_at}

module _ (entries : List Entry) (at p c : ℕ) where
  -- how often p has posted on c among the first n entries
  abbrev made : ℕ → ℕ
  made n = length (posts_on c p (posts_to entries n))

  pub part_counts : (e : Entry) → slice_get entries at ≡ Some e → is_part e p c ≡ true →
      made (at + 1) ≡ made at + 1
  part_counts (Posted q d s) there is =
      ap (λ ps. length (posts_on c p ps)) (posts_posted entries at (post_of q d s) there)
      ∙ (ap (λ (ss : List Stated). length ss)
      (cond-true (d == c && q == p) (posts_on c p (posts_to entries at) ++ s ∷ [])
      (posts_on c p (posts_to entries at)) is)
      ∙ length-append (posts_on c p (posts_to entries at)) (s ∷ []))
  part_counts (Settled d k o) there is = absurd (false≢true is)

  pub other_counts : (e : Entry) → slice_get entries at ≡ Some e → is_part e p c ≡ false →
      made (at + 1) ≡ made at
  other_counts (Posted q d s) there is =
      ap (λ ps. length (posts_on c p ps)) (posts_posted entries at (post_of q d s) there)
      ∙ ap (λ (ss : List Stated). length ss)
      (cond-false (d == c && q == p) (posts_on c p (posts_to entries at) ++ s ∷ [])
      (posts_on c p (posts_to entries at)) is)
  other_counts (Settled d k o) there is =
      ap (λ ps. length (posts_on c p ps)) (posts_settled entries at d k o there)

  pub part_is : (e : Entry) (k : ℕ) → slice_get entries at ≡ Some e → is_part e p c ≡ true →
      made at ≡ k → IsPartAt entries (at + 1) p c k
  part_is (Posted q d s) k there is kth =
      let parts = and_parts (d == c) (q == p) is in
      let comm : d ≡ c = eqb-true d c parts.0 in
      let by : q ≡ p = eqb-true q p parts.1 in
      let last : at + 1 - 1 ≡ at = omega arith in
      record {
        x = post_of q d s;
        at = post_at entries at (post_of q d s) there;
        by = by;
        comm = comm;
        kth = ap (λ m. length (posts_on d q (posts_to entries m))) last
            ∙ (ap (λ a. length (posts_on a q (posts_to entries at))) comm
            ∙ (ap (λ a. length (posts_on c a (posts_to entries at))) by ∙ kth));
      }
  part_is (Settled d k o) j there is kth = absurd (false≢true is)

some_within : (xs : List Stated) (k : ℕ) (o : Option Stated) → slice_get xs k ≡ o →
    is_some o ≡ true → k < length xs
some_within xs k None at h = absurd (false≢true h)
some_within xs k (Some s) at h = slice_get_within xs k s at

-- each member of a full instance has posted for it
pub member_posted : (wall : ChineseWall) (entries : List Entry) (n c k : ℕ) (roll : Roll)
    (has : History) (i p : ℕ) → IsFilledAt wall entries n c k roll has → IsFit roll →
    i < roll.shape.size → slice_get roll.members i ≡ Some p →
    k < length (posts_on c p (posts_to entries n))
member_posted wall entries n c k roll has i p f fit low member =
    let past = posts_to entries (n - 1) in
    let counted = f.at.counted in
    let back : n - 1 + 1 ≡ n = omega (arith, counted) in
    let all : posts_to entries n ≡ f.x ∷ past =
    ap (λ m. posts_to entries m) (sym back) ∙ posts_posted entries (n - 1) f.x f.at.entry in
    let stated = stated_at (comms wall past) f.x past roll i
    (filled_is (comms wall past) f.x past roll f.fills) p member in
    let there : is_some (slice_get (posts_on f.x.comm p (f.x ∷ past)) (place f.x past)) ≡ true =
    subst (λ o. is_some (stated_in o) ≡ true) stated (fit.full i low) in
    let within = some_within (posts_on f.x.comm p (f.x ∷ past)) (place f.x past) _ refl there in
    subst (λ ps. k < length (posts_on c p ps)) (sym all)
    (subst (λ d. k < length (posts_on d p (f.x ∷ past))) f.comm
    (subst (λ m. m < length (posts_on f.x.comm p (f.x ∷ past))) f.kth within))
