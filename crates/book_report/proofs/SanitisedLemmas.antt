-- The sanitised results of a book, entry by entry and rank by rank.
use Rattle.std.proofs.Common.{◌≡◌, ℕ, ◌+◌, ◌-◌, ◌<◌, ◌≤◌, true, false, List, []}
use Rattle.std.proofs.Common.{◌∷◌, ◌++◌, length, Some, None, sym, ap, ◌∙◌, subst}
use Rattle.std.proofs.Common.{arith, slice_get, get_or, inl, inr}
use Rattle.std.specs.Prelude.{All, AllPairs}
use Rattle.std.proofs.lemmas.Bool.{false≢true, cases_lt}
use Rattle.std.proofs.lemmas.Option.{slice_get_within}
use Rattle.std.proofs.lemmas.List.Elements.{All-push, All-weaker, All-get_or, Contains-push}
use Rattle.std.proofs.lemmas.List.Elements.{Contains-append_left}
use Rattle.std.proofs.lemmas.List.Quantifiers.{all_pairs_push}
use Rattle.wall_policy.specs.Policy.{ChineseWall}
use Rattle.coll_routes.specs.declared.roll.Roll.{Roll}
use Rattle.wall_verdict.specs.Charges.{sanitised}
use Rattle.run_model.specs.declared.outcome.Outcome.{Outcome}
use Rattle.run_model.specs.declared.outcome.Outcome.TheVariants.{Granted}
use Rattle.run_model.specs.declared.entry.Entry.{Entry}
use Rattle.run_model.specs.declared.entry.Entry.TheVariants.{Settled}
use Rattle.run_model.specs.Posts.{Post, comms, filled, outcome, is_granted}
use Rattle.run_model.specs.Books.{posted}
use Rattle.run_model.specs.Holding.{IsGrant}
use Rattle.book_report.specs.declared.sanitised.Sanitised.{Sanitised}
use Rattle.book_report.specs.Held.{posts_to}
use Rattle.book_report.specs.Sanitised.{IsSanitisedAt, IsSanitised, IsBefore, Precedes}
use Rattle.book_report.specs.Clean.{AreSanitisedTo, AreSanitisedUpTo}
use Rattle.book_report.proofs.SoundLemmas.{post_is}

none_low : (m : ℕ) → 1 ≤ m → m < 0 + 1 → ⊥
none_low m high low = omega arith

---- the order

before_more : (n j : ℕ) (it : Sanitised) → IsBefore n j it → IsBefore n (j + 1) it
before_more n j it (inl low) = inl low
before_more n j it (inr (same, low)) = inr (same, omega (arith, low))

before_next : (n j : ℕ) (it : Sanitised) → IsBefore n j it → IsBefore (n + 1) 0 it
before_next n j it (inl low) = inl (omega (arith, low))
before_next n j it (inr (same, low)) = inl (omega (arith, same))

-- those of an entry have the ranks that such a list is of
module _ (wall : ChineseWall) (entries : List Entry) where
  pub those_none : (those : List Sanitised) → those ≡ [] → AreSanitisedUpTo wall entries 0 those
  those_none those empties = record {
    sound = subst (λ xs. All (IsSanitised wall entries) xs) (sym empties)
        (λ k d low. absurd (omega arith));
    early = subst (λ xs. All (IsBefore (0 + 1) 0) xs) (sym empties)
        (λ k d low. absurd (omega arith));
    whole = λ m c k i p low is. absurd (none_low m is.at.counted low);
    here = λ c k i p low is. absurd (omega arith);
    rising = subst (λ xs. AllPairs Precedes xs) (sym empties)
        (λ i j d earlier low. absurd (omega arith));
  }

  module _ (n j : ℕ) (those : List Sanitised) (are : AreSanitisedTo wall entries n j those) where
    -- no rank of this entry is left
    pub those_next : ((c k i p : ℕ) → IsSanitisedAt wall entries n c k i p → i < j) →
        AreSanitisedTo wall entries (n + 1) 0 those
    those_next below = record {
      sound = are.sound;
      early = All-weaker (IsBefore n j) (IsBefore (n + 1) 0) (λ it. before_next n j it) those
          are.early;
      whole = λ m c k i p low is. elim (cases_lt m n) [
        | inl before ↦ are.whole m c k i p before is
        | inr after ↦
            let same : m ≡ n = omega arith in
            let its = subst (λ l. IsSanitisedAt wall entries l c k i p) same is in
            let one = are.here c k i p (below c k i p its) its in
            (one.0, one.1, one.2 ∙ sym same, one.3)
      ];
      here = λ c k i p low is. absurd (omega arith);
      rising = are.rising;
    }

    -- what the next rank gets isn't sanitised
    pub rank_same : ((c k p : ℕ) → ¬ (IsSanitisedAt wall entries n c k j p)) →
        AreSanitisedTo wall entries n (j + 1) those
    rank_same none = record {
      sound = are.sound;
      early = All-weaker (IsBefore n j) (IsBefore n (j + 1)) (λ it. before_more n j it) those
          are.early;
      whole = are.whole;
      here = λ c k i p low is. elim (cases_lt i j) [
        | inl before ↦ are.here c k i p before is
        | inr after ↦
            let same : i ≡ j = omega arith in
            absurd (none c k p (subst (λ l. IsSanitisedAt wall entries n c k l p) same is))
      ];
      rising = are.rising;
    }

    -- what it gets is
    pub rank_more : (it : Sanitised) → it.entry ≡ n → it.rank ≡ j → IsSanitised wall entries it →
        AreSanitisedTo wall entries n (j + 1) (those ++ it ∷ [])
    rank_more it entry rank is = record {
      sound = All-push (IsSanitised wall entries) those it are.sound is;
      early = All-push (IsBefore n (j + 1)) those it
          (All-weaker (IsBefore n j) (IsBefore n (j + 1)) (λ it. before_more n j it) those
          are.early)
          (inr (entry, omega (arith, rank)));
      whole = λ m c k i p low its.
          let one = are.whole m c k i p low its in
          (one.0, Contains-append_left those (it ∷ []) one.0 one.1, one.2, one.3);
      here = λ c k i p low its. elim (cases_lt i j) [
        | inl before ↦
            let one = are.here c k i p before its in
            (one.0, Contains-append_left those (it ∷ []) one.0 one.1, one.2, one.3)
        | inr after ↦
            let same : j ≡ i = omega arith in
            (it, Contains-push those it, entry, rank ∙ same)
      ];
      rising = all_pairs_push Precedes those it are.rising
          (λ k d within.
          let before = All-get_or (IsBefore n j) those k d within are.early in
          subst (λ m. IsBefore m it.rank (get_or those k d)) (sym entry)
          (subst (λ l. IsBefore n l (get_or those k d)) (sym rank) before));
    }

---- what stands at an entry

module _ (wall : ChineseWall) (entries : List Entry) (n : ℕ) (x : Post)
    (at : slice_get entries n ≡ Some (posted x)) (c k i p : ℕ)
    (is : IsSanitisedAt wall entries (n + 1) c k i p) where
  last : n + 1 - 1 ≡ n
  last = omega arith

  its_post : is.x ≡ x
  its_post =
      let its = subst (λ m. slice_get entries m ≡ Some (posted is.x)) last is.at.entry in
      let both : Some (posted is.x) ≡ Some (posted x) = sym its ∙ at in
      post_is is.x x (let same : posted is.x ≡ posted x = cc in same)

  abbrev past : List Post
  past = posts_to entries n

  its_grant : IsGrant wall x past is.roll
  its_grant = subst (λ (y : Post). IsGrant wall y past is.roll) its_post
      (subst (λ m. IsGrant wall is.x (posts_to entries m) is.roll) last is.grant)

  its_roll : (roll : Roll) → filled (comms wall past) x past ≡ Some roll → is.roll ≡ roll
  its_roll roll fills =
      let both : Some is.roll ≡ Some roll = sym its_grant.fills ∙ fills in cc

  -- a post that fills nothing
  unfilled_none : filled (comms wall past) x past ≡ None → ⊥
  unfilled_none none =
      let both : Some is.roll ≡ None = sym its_grant.fills ∙ none in absurd cc

  -- or whose instance was not granted
  ungranted_none : (o : Outcome) → outcome wall x past ≡ Some o → is_granted o ≡ false → ⊥
  ungranted_none o came not_granted =
      let both : Some Granted ≡ Some o = sym its_grant.granted ∙ came in
      let same : Granted ≡ o = cc in
      false≢true (sym not_granted ∙ ap is_granted (sym same))

  -- the rank is one of the instance
  rank_within : (roll : Roll) → filled (comms wall past) x past ≡ Some roll →
      i < length roll.members
  rank_within roll fills =
      slice_get_within roll.members i p
      (subst (λ (r : Roll). slice_get r.members i ≡ Some p) (its_roll roll fills) is.member)

  is_sanitised : (roll : Roll) → filled (comms wall past) x past ≡ Some roll →
      sanitised wall roll i ≡ true
  is_sanitised roll fills =
      subst (λ (r : Roll). sanitised wall r i ≡ true) (its_roll roll fills) is.sanitised

pub settled_sanitises_none : (wall : ChineseWall) (entries : List Entry) (n c k : ℕ)
    (o : Outcome) → slice_get entries n ≡ Some (Settled c k o) → (d l i p : ℕ) →
    ¬ (IsSanitisedAt wall entries (n + 1) d l i p)
settled_sanitises_none wall entries n c k o at d l i p is =
    let last : n + 1 - 1 ≡ n = omega arith in
    let its = subst (λ m. slice_get entries m ≡ Some (posted is.x)) last is.at.entry in
    let both : Some (Settled c k o) ≡ Some (posted is.x) = sym at ∙ its in cc

module _ (wall : ChineseWall) (entries : List Entry) (n : ℕ) (x : Post)
    (at : slice_get entries n ≡ Some (posted x)) where
  abbrev before_it : List Post
  before_it = posts_to entries n

  pub unfilled_sanitises_none : filled (comms wall before_it) x before_it ≡ None →
      (c k i p : ℕ) → ¬ (IsSanitisedAt wall entries (n + 1) c k i p)
  unfilled_sanitises_none none c k i p is =
      unfilled_none wall entries n x at c k i p is none

  pub ungranted_sanitises_none : (o : Outcome) → outcome wall x before_it ≡ Some o →
      is_granted o ≡ false → (c k i p : ℕ) → ¬ (IsSanitisedAt wall entries (n + 1) c k i p)
  ungranted_sanitises_none o came not_granted c k i p is =
      ungranted_none wall entries n x at c k i p is o came not_granted

  module _ (roll : Roll) (fills : filled (comms wall before_it) x before_it ≡ Some roll) where
    pub ranks_are_within : (c k i p : ℕ) → IsSanitisedAt wall entries (n + 1) c k i p →
        i < length roll.members
    ranks_are_within c k i p is = rank_within wall entries n x at c k i p is roll fills

    pub unsanitised_is_none : (i : ℕ) → sanitised wall roll i ≡ false → (c k p : ℕ) →
        ¬ (IsSanitisedAt wall entries (n + 1) c k i p)
    unsanitised_is_none i not c k p is =
        false≢true (sym not ∙ is_sanitised wall entries n x at c k i p is roll fills)
