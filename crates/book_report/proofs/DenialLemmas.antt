-- The denials of a book, entry by entry.
use Rattle.std.proofs.Common.{◌≡◌, ℕ, ◌+◌, ◌-◌, ◌<◌, ◌≤◌, Bool, true, false, List}
use Rattle.std.proofs.Common.{[]}
use Rattle.std.proofs.Common.{◌∷◌, ◌++◌, length, Option, Some, None, refl, sym, ap, ◌∙◌, subst}
use Rattle.std.proofs.Common.{arith, slice_get, inl, inr, if◌then◌else◌}
use Rattle.std.specs.Prelude.{All, AllPairs}
use Rattle.std.specs.Option.{option_map}
use Rattle.std.proofs.lemmas.Bool.{false≢true, cases_lt}
use Rattle.std.proofs.lemmas.Option.{slice_get_within}
use Rattle.std.proofs.lemmas.List.Elements.{All-push, All-weaker, All-get_or, Contains-push}
use Rattle.std.proofs.lemmas.List.Elements.{Contains-append_left}
use Rattle.std.proofs.lemmas.List.Quantifiers.{all_pairs_push}
use Rattle.wall_labels.specs.declared.label.Label.{Label}
use Rattle.wall_policy.specs.Policy.{ChineseWall}
use Rattle.wall_rules.specs.Histories.{History, has as has_of}
use Rattle.mpi_comm.specs.Comms.{fits}
use Rattle.coll_routes.specs.declared.roll.Roll.{Roll}
use Rattle.coll_routes.specs.Signatures.{is_constructor}
use Rattle.coll_routes.specs.Fit.{IsFit}
use Rattle.coll_values.specs.declared.full.Full.{Full}
use Rattle.wall_rules.specs.declared.rule.Rule.{Rule}
use Rattle.wall_verdict.specs.declared.verdict.Verdict.{Verdict}
use Rattle.wall_verdict.specs.declared.verdict.Verdict.TheVariants as verdicts
use Rattle.wall_verdict.specs.Verdicts.{verdict}
use Rattle.wall_verdict.specs.Meanings.{IsVerdict}
use Rattle.wall_verdict.proofs.WallVerdictLemmas.{verdicts_name_the_least}
use Rattle.run_model.specs.declared.outcome.Outcome.{Outcome}
use Rattle.run_model.specs.declared.outcome.Outcome.TheVariants.{Denied, Made, NoRoom}
use Rattle.run_model.specs.declared.entry.Entry.{Entry}
use Rattle.run_model.specs.declared.entry.Entry.TheVariants.{Settled}
use Rattle.run_model.specs.Comms.{new_comms}
use Rattle.run_model.specs.Posts.{Post, place, comms, filled, outcome, outcome_of, by_verdict}
use Rattle.run_model.specs.Posts.{histories, labelled}
use Rattle.run_model.specs.Books.{posted, IsSound}
use Rattle.run_state.specs.declared.entered.Entered.{Entered}
use Rattle.run_state.specs.declared.entered.Entered.TheVariants.{Waiting as waits}
use Rattle.run_state.specs.declared.entered.Entered.TheVariants.{Settled as settles}
use Rattle.run_state.specs.Views.{PostStateValue}
use Rattle.audit_book.proofs.AuditBookLemmas.{bare_posts}
use Rattle.book_report.specs.declared.denial.Denial.{Denial}
use Rattle.book_report.specs.declared.place.Place.{Place}
use Rattle.book_report.specs.Held.{histories_after, posts_to}
use Rattle.book_report.specs.Walk.{IsTold}
use Rattle.book_report.specs.Denials.{IsDeniedAt, IsFilledAt, IsDenial, HasDenial}
use Rattle.book_report.specs.Reasons.{IsDenied, IsDeniedPost, AreDenialsTo, HasFollowed}
use Rattle.book_report.proofs.HistoryLemmas.{ungranted, written_stays, posts_posted}
use Rattle.book_report.proofs.WalkLemmas.{post_at}
use Rattle.book_report.proofs.SoundLemmas.{post_is, told_behind, told_of_post}

---- what was decided of a post's instance

module _ (wall : ChineseWall) (x : Post) (past : List Post) where
  abbrev before : History
  before = labelled (histories wall past) x

  module _ (roll : Roll) (rule : Rule) (p : ℕ) (label : Label)
      (fills : filled (comms wall past) x past ≡ Some roll)
      (came : outcome wall x past ≡ Some (Denied rule p label)) where
    -- a denial enters nothing
    pub denied_enters_none : histories wall (x ∷ past) ≡ before
    denied_enters_none = λ i q d.
        both_ways (histories wall (x ∷ past) q d) (before q d)
        (ungranted wall x past roll (Denied rule p label) fills came refl q d)
        (written_stays wall x past q d) i
      where
        both_ways : (a b : Bool) → (a ≡ true → b ≡ true) → (b ≡ true → a ≡ true) → a ≡ b
        both_ways true true f g = refl
        both_ways false false f g = refl
        both_ways true false f g = absurd (false≢true (f refl))
        both_ways false true f g = absurd (false≢true (g refl))

    -- a denial is the verdict's
    pub denied_by_verdict : IsFit roll → IsVerdict wall before roll (verdicts.Denied rule p label)
    denied_by_verdict fit =
        subst (IsVerdict wall before roll)
        (verdict_is (is_constructor roll.sig)
        (fits (length (comms wall past)) (length (new_comms roll)))
        (length (comms wall past)) (length (new_comms roll)) (verdict wall before roll) its)
        (verdicts_name_the_least wall before roll fit)
      where
        its : outcome_of wall before (length (comms wall past)) roll ≡ Denied rule p label
        its =
            let both : Some (outcome_of wall before (length (comms wall past)) roll)
            ≡ Some (Denied rule p label) =
            sym (ap (λ f. option_map (outcome_of wall before (length (comms wall past))) f) fills)
            ∙ came in cc

        verdict_is : (b f : Bool) (m n : ℕ) (v : Verdict) →
            (if b then (if f then Made m n else NoRoom) else by_verdict v) ≡ Denied rule p label →
            v ≡ verdicts.Denied rule p label
        verdict_is true true m n v e = absurd (cc)
        verdict_is true false m n v e = absurd (cc)
        verdict_is false f m n verdicts.Granted e = absurd (cc)
        verdict_is false f m n (verdicts.Denied s q l) e =
            let a : s ≡ rule = cc in
            let b : q ≡ p = cc in
            let d : l ≡ label = cc in
            cc

---- what is told of a post

module _ (wall : ChineseWall) (entries : List Entry) (n : ℕ) (x : Post)
    (at : slice_get entries n ≡ Some (posted x)) where
  abbrev past : List Post
  past = posts_to entries n

  last : n ≡ n + 1 - 1
  last = omega arith

  pub filled_at : (c k : ℕ) (roll : Roll) (has : History) → x.comm ≡ c → place x past ≡ k →
      filled (comms wall past) x past ≡ Some roll →
      has ≡ labelled (histories wall past) x → IsFilledAt wall entries (n + 1) c k roll has
  filled_at c k roll has comm kth fills under = record {
    x = x;
    at = post_at entries n x at;
    comm = comm;
    kth = subst (λ m. place x (posts_to entries m) ≡ k) last kth;
    fills = subst
        (λ m. filled (comms wall (posts_to entries m)) x (posts_to entries m) ≡ Some roll) last
        fills;
    under = subst (λ m. has ≡ labelled (histories_after wall entries m) x) last under;
  }

  -- the next entry tells a denial
  pub denied_at : (c k : ℕ) (rule : Rule) (p : ℕ) (label : Label) → IsSound wall entries →
      x.comm ≡ c → place x past ≡ k → outcome wall x past ≡ Some (Denied rule p label) →
      IsDeniedAt entries (n + 1 + 1) c k rule p label
  denied_at c k rule p label sound comm kth came =
      let next : n + 1 ≡ n + 1 + 1 - 1 = omega arith in
      record {
        counted = omega arith;
        entry = subst (λ m. slice_get entries m ≡ Some (Settled c k (Denied rule p label))) next
            (told_behind wall entries n x (Denied rule p label) sound at came
            ∙ (ap (λ a. Some (Settled a (place x past) (Denied rule p label))) comm
            ∙ ap (λ a. Some (Settled c a (Denied rule p label))) kth));
      }

  -- of this post an outcome is no denial
  pub undenied : (v : Option Outcome) → outcome wall x past ≡ v
      → ((rule : Rule) (p : ℕ) (label : Label) → ¬ (v ≡ Some (Denied rule p label))) →
      (y : Post) → ¬ (IsDeniedPost wall entries (n + 1) y)
  undenied v came other y denied =
      let its = subst (λ m. slice_get entries m ≡ Some (posted y)) (sym last) denied.at.entry in
      let both : Some (posted x) ≡ Some (posted y) = sym at ∙ its in
      let same : posted x ≡ posted y = cc in
      other denied.rule denied.process denied.label
      (sym came ∙ (ap (λ z. outcome wall z past) (post_is x y same)
      ∙ subst (λ m. outcome wall y (posts_to entries m)
      ≡ Some (Denied denied.rule denied.process denied.label)) (sym last) denied.denied))

  -- it fills nothing
  pub waiting_undenied : filled (comms wall past) x past ≡ None →
      (y : Post) → ¬ (IsDeniedPost wall entries (n + 1) y)
  waiting_undenied none =
      undenied None
      (ap (λ f. option_map (outcome_of wall (labelled (histories wall past) x)
      (length (comms wall past))) f) none)
      (λ rule p label is. cc)

pub settled_undenied : (wall : ChineseWall) (entries : List Entry) (n c k : ℕ) (o : Outcome) →
    slice_get entries n ≡ Some (Settled c k o) → (x : Post) →
    ¬ (IsDeniedPost wall entries (n + 1) x)
settled_undenied wall entries n c k o at x denied =
    let last : n + 1 - 1 ≡ n = omega arith in
    let its = subst (λ m. slice_get entries m ≡ Some (posted x)) last denied.at.entry in
    let both : Some (Settled c k o) ≡ Some (posted x) = sym at ∙ its in cc

---- a denial, found on the walk

module _ (place : Place) (c : ℕ) (post_state : PostStateValue (Unit {0}))
    (entered : Entered (Unit {0})) (h : HasFollowed place c post_state entered) where
  abbrev wall : ChineseWall
  wall = place.policy.now

  abbrev entries : List Entry
  entries = place.book.now.list

  abbrev n : ℕ
  n = place.at

  abbrev past_of : List Post
  past_of = posts_to entries n

  has_is : has_of post_state.accesses ≡ histories wall (h.x ∷ past_of)
  has_is = h.stands.histories
      ∙ (ap (λ ps. histories wall ps) (bare_posts (posts_to entries (n + 1)))
      ∙ ap (λ ps. histories wall ps) (posts_posted entries n h.x h.here))

  told_as : (e : Entered (Unit {0})) → entered ≡ e → IsTold wall h.x past_of e
  told_as e is = subst (IsTold wall h.x past_of) is h.told

  pub is_denied : (full : Full (Unit {0})) (k : ℕ) (rule : Rule) (p : ℕ) (label : Label) →
      entered ≡ settles full k (Denied rule p label) →
      IsDenied wall entries (n + 1) c k full.roll (has_of post_state.accesses) rule p label
  is_denied full k rule p label is =
      let told = told_as (settles full k (Denied rule p label)) is in
      let under = has_is ∙ denied_enters_none wall h.x past_of full.roll rule p label told.1 told.2
      in
      let low = h.sound.within in
      record {
        told = denied_at wall entries n h.x h.here c k rule p label h.sound.sound h.comm told.0
            told.2;
        filled = filled_at wall entries n h.x h.here c k full.roll (has_of post_state.accesses)
            h.comm told.0 told.1 under;
        fit = told.3;
        verdict = subst (λ a. IsVerdict wall a full.roll (verdicts.Denied rule p label)) (sym under)
            (denied_by_verdict wall h.x past_of full.roll rule p label told.1 told.2 told.3);
        within = omega (arith, low);
      }

  pub none_waiting : (k : ℕ) → entered ≡ waits k →
      (y : Post) → ¬ (IsDeniedPost wall entries (n + 1) y)
  none_waiting k is = waiting_undenied wall entries n h.x h.here (told_as (waits k) is)

  pub none_other : (full : Full (Unit {0})) (k : ℕ) (o : Outcome) → entered ≡ settles full k o
      → ((rule : Rule) (p : ℕ) (label : Label) → ¬ (o ≡ Denied rule p label)) →
      (y : Post) → ¬ (IsDeniedPost wall entries (n + 1) y)
  none_other full k o is other =
      undenied wall entries n h.x h.here (Some o) (told_as (settles full k o) is).2
      (λ rule p label same. other rule p label (let s : o ≡ Denied rule p label = cc in s))

---- the list

module _ (wall : ChineseWall) (entries : List Entry) where
  pub denials_none : (denials : List Denial) → denials ≡ [] → AreDenialsTo wall entries 0 denials
  denials_none denials empties = record {
    sound = subst (λ ds. All (IsDenial wall entries) ds) (sym empties)
        (λ k d low. absurd (omega arith));
    early = subst (λ ds. All (λ (b : Denial). b.entry ≤ 0 + 1) ds) (sym empties)
        (λ k d low. absurd (omega arith));
    whole = λ m x low denied.
        (let counted = denied.at.counted in absurd (omega (arith, counted, low)));
    rising = subst (λ ds. AllPairs (λ (a b : Denial). a.entry < b.entry) ds) (sym empties)
        (λ i j d earlier low. absurd (omega arith));
  }

  module _ (n : ℕ) where
    early_later : (denials : List Denial) → All (λ (b : Denial). b.entry ≤ n + 1) denials →
        All (λ (b : Denial). b.entry ≤ n + 1 + 1) denials
    early_later denials early =
        All-weaker (λ (b : Denial). b.entry ≤ n + 1) (λ (b : Denial). b.entry ≤ n + 1 + 1)
        (λ b le. omega arith) denials early

    -- the next entry brings none
    pub denials_same : (denials : List Denial)
        → ((x : Post) → ¬ (IsDeniedPost wall entries (n + 1) x)) →
        AreDenialsTo wall entries n denials → AreDenialsTo wall entries (n + 1) denials
    denials_same denials none are = record {
      sound = are.sound;
      early = early_later denials are.early;
      whole = λ m x low denied. elim (cases_lt m (n + 1)) [
        | inl before ↦ are.whole m x (omega arith) denied
        | inr after ↦
            let same : m ≡ n + 1 = omega arith in
            absurd (none x (subst (λ k. IsDeniedPost wall entries k x) same denied))
      ];
      rising = are.rising;
    }

    -- it brings one
    pub denials_more : (denials : List Denial) (denial : Denial) → denial.entry ≡ n + 1 + 1 →
        IsDenial wall entries denial → AreDenialsTo wall entries n denials →
        AreDenialsTo wall entries (n + 1) (denials ++ denial ∷ [])
    denials_more denials denial here is are = record {
      sound = All-push (IsDenial wall entries) denials denial are.sound is;
      early = All-push (λ (b : Denial). b.entry ≤ n + 1 + 1) denials denial
          (early_later denials are.early) (omega (arith, here));
      whole = λ m x low denied. elim (cases_lt m (n + 1)) [
        | inl before ↦
            let one = are.whole m x (omega arith) denied in
            (one.0, Contains-append_left denials (denial ∷ []) one.0 one.1, one.2)
        | inr after ↦
            let same : n + 1 + 1 ≡ m + 1 = omega arith in
            (denial, Contains-push denials denial, here ∙ same)
      ];
      rising = all_pairs_push (λ (a b : Denial). a.entry < b.entry) denials denial are.rising
          (λ k d within.
          let low = All-get_or (λ (b : Denial). b.entry ≤ n + 1) denials k d within are.early in
          omega (arith, low, here));
    }

  -- each denial that the book tells has one
  pub all_told : (denials : List Denial) → IsSound wall entries →
      AreDenialsTo wall entries (length entries) denials →
      (n c k : ℕ) (rule : Rule) (p : ℕ) (label : Label) →
      IsDeniedAt entries n c k rule p label → HasDenial denials n
  all_told denials sound are n c k rule p label told =
      let f = told_of_post wall entries (n - 1) c k (Denied rule p label) sound told.entry in
      let last : f.m ≡ f.m + 1 - 1 = omega arith in
      let next = f.next in
      let counted = told.counted in
      let low = slice_get_within entries f.m (posted f.x) f.at in
      let one = are.whole (f.m + 1) f.x (omega (arith, low)) (record {
        at = post_at entries f.m f.x f.at;
        rule = rule;
        process = p;
        label = label;
        denied = subst (λ m. outcome wall f.x (posts_to entries m) ≡ Some (Denied rule p label))
            last f.came;
      }) in
      let same : f.m + 1 + 1 ≡ n = omega (arith, next, counted) in
      (one.0, one.1, one.2 ∙ same)
