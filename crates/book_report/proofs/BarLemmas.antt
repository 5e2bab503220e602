-- The bars of a book, entry by entry.
use Rattle.std.proofs.Common.{◌≡◌, ℕ, ◌+◌, ◌-◌, ◌<◌, ◌≤◌, true, false, not, List}
use Rattle.std.proofs.Common.{[]}
use Rattle.std.proofs.Common.{◌∷◌, ◌++◌, Some, None, refl, sym, ap, ◌∙◌}
use Rattle.std.proofs.Common.{subst, arith, slice_get, inl, inr}
use Rattle.std.specs.Prelude.{All, AllPairs}
use Rattle.std.proofs.lemmas.Bool.{false≢true, cases_lt}
use Rattle.std.proofs.lemmas.List.Elements.{All-push, All-weaker, All-get_or, Contains-push}
use Rattle.std.proofs.lemmas.List.Elements.{Contains-append_left}
use Rattle.std.proofs.lemmas.List.Quantifiers.{all_pairs_push}
use Rattle.wall_labels.specs.declared.ids.TheConstants.{DATASET_LIMIT}
use Rattle.wall_labels.specs.declared.label.Label.{Label}
use Rattle.wall_policy.specs.Policy.{ChineseWall}
use Rattle.wall_rules.specs.Histories.{History, Accesses, has as has_of}
use Rattle.wall_rules.specs.Rules.{IsLowest, IsHeldOther, PassesStar}
use Rattle.wall_rules.proofs.WallRulesLemmas.{first_other-none}
use Rattle.wall_verdict.specs.Star.{star}
use Rattle.coll_routes.specs.declared.statement.Stated.{Stated}
use Rattle.run_model.specs.declared.outcome.Outcome.{Outcome}
use Rattle.run_model.specs.declared.entry.Entry.{Entry}
use Rattle.run_model.specs.declared.entry.Entry.TheVariants.{Settled}
use Rattle.run_model.specs.Posts.{Post, histories}
use Rattle.run_model.specs.Books.{posted, IsCounted}
use Rattle.run_model.specs.Contributions.{Contribution, posts_of}
use Rattle.run_state.specs.Views.{PostStateValue, view_of}
use Rattle.run_state.specs.Stands.{StandsForPosts}
use Rattle.audit_book.specs.Checks.{Stands, bare}
use Rattle.audit_book.proofs.AuditBookLemmas.{bare_posts}
use Rattle.book_report.specs.declared.bar.Bar.{Bar}
use Rattle.book_report.specs.Held.{histories_after, posts_to, IsPostAt}
use Rattle.book_report.specs.Bars.{IsBar, IsBarredAt, AreBarsTo}
use Rattle.book_report.proofs.WalkLemmas.{post_at}

-- the rule as a test passes where the rule does
star_passes : (has : History) (p : ℕ) (label : Label) → PassesStar (has p) label →
    star has p (Some label) ≡ true
star_passes has p label passes = rw (first_other-none DATASET_LIMIT (has p) label passes) refl

none_low : (m : ℕ) → 1 ≤ m → m ≤ 0 → ⊥
none_low m high low = omega arith

module _ (wall : ChineseWall) (entries : List Entry) where
  pub bars_none : (bars : List Bar) → bars ≡ [] → AreBarsTo wall entries 0 bars
  bars_none bars empties = record {
    sound = subst (λ bs. All (IsBar wall entries) bs) (sym empties)
        (λ k d low. absurd (omega arith));
    early = subst (λ bs. All (λ (b : Bar). b.entry ≤ 0) bs) (sym empties)
        (λ k d low. absurd (omega arith));
    whole = λ m x low barred. absurd (none_low m barred.at.counted low);
    rising = subst (λ bs. AllPairs (λ (a b : Bar). a.entry < b.entry) bs) (sym empties)
        (λ i j d earlier low. absurd (omega arith));
  }

  module _ (n : ℕ) where
    early_later : (bars : List Bar) → All (λ (b : Bar). b.entry ≤ n) bars →
        All (λ (b : Bar). b.entry ≤ n + 1) bars
    early_later bars early = All-weaker (λ (b : Bar). b.entry ≤ n) (λ (b : Bar). b.entry ≤ n + 1)
        (λ b le. omega arith) bars early

    -- the next entry is no bar
    pub bars_same : (bars : List Bar) → ((x : Post) → ¬ (IsBarredAt entries (n + 1) x)) →
        AreBarsTo wall entries n bars → AreBarsTo wall entries (n + 1) bars
    bars_same bars none are = record {
      sound = are.sound;
      early = early_later bars are.early;
      whole = λ m x low barred. elim (cases_lt m (n + 1)) [
        | inl before ↦ are.whole m x (omega arith) barred
        | inr after ↦
            let same : m ≡ n + 1 = omega arith in
            absurd (none x (subst (λ k. IsBarredAt entries k x) same barred))
      ];
      rising = are.rising;
    }

    -- the next entry is one
    pub bars_more : (bars : List Bar) (bar : Bar) → bar.entry ≡ n + 1 → IsBar wall entries bar →
        AreBarsTo wall entries n bars → AreBarsTo wall entries (n + 1) (bars ++ bar ∷ [])
    bars_more bars bar here is are = record {
      sound = All-push (IsBar wall entries) bars bar are.sound is;
      early = All-push (λ (b : Bar). b.entry ≤ n + 1) bars bar (early_later bars are.early)
          (omega (arith, here));
      whole = λ m x low barred. elim (cases_lt m (n + 1)) [
        | inl before ↦
            let one = are.whole m x (omega arith) barred in
            (one.0, Contains-append_left bars (bar ∷ []) one.0 one.1, one.2)
        | inr after ↦
            let same : n + 1 ≡ m = omega arith in
            (bar, Contains-push bars bar, here ∙ same)
      ];
      rising = all_pairs_push (λ (a b : Bar). a.entry < b.entry) bars bar are.rising
          (λ k d within.
          let low = All-get_or (λ (b : Bar). b.entry ≤ n) bars k d within are.early in
          omega (arith, low, here));
    }

  -- the post that stands at an entry
  that_post : (n : ℕ) (x y : Post) → slice_get entries n ≡ Some (posted x) →
      IsPostAt entries (n + 1) y → posted x ≡ posted y
  that_post n x y at there =
      let last : n + 1 - 1 ≡ n = omega arith in
      let its = subst (λ m. slice_get entries m ≡ Some (posted y)) last there.entry in
      let both : Some (posted x) ≡ Some (posted y) = sym at ∙ its in cc

  pub settled_is_no_bar : (n c k : ℕ) (o : Outcome) → slice_get entries n ≡ Some (Settled c k o) →
      (x : Post) → ¬ (IsBarredAt entries (n + 1) x)
  settled_is_no_bar n c k o at x barred =
      let last : n + 1 - 1 ≡ n = omega arith in
      let its = subst (λ m. slice_get entries m ≡ Some (posted x)) last barred.at.entry in
      let both : Some (Settled c k o) ≡ Some (posted x) = sym at ∙ its in cc

  pub passed_is_no_bar : (n : ℕ) (x : Post) → slice_get entries n ≡ Some (posted x) →
      x.stated.barred ≡ false → (y : Post) → ¬ (IsBarredAt entries (n + 1) y)
  passed_is_no_bar n x at passed y barred =
      let same = that_post n x y at barred.at in
      let stated : x.stated ≡ y.stated = cc in
      false≢true (sym passed ∙ ap (λ (s : Stated). s.barred) stated ∙ barred.barred)

  module _ (n : ℕ) (x : Post) (counts : IsCounted wall x (posts_to entries n)) where
    abbrev has : History
    has = histories_after wall entries n

    -- a post that the rule lets pass was not barred
    passed_by : star has x.process x.stated.label ≡ true → x.stated.barred ≡ false
    passed_by passes = counts.word ∙ ap not passes

    pub unlabelled_passed : x.stated.label ≡ None → x.stated.barred ≡ false
    unlabelled_passed none = passed_by (ap (λ l. star has x.process l) none)

    pub permitted_passed : (label : Label) → x.stated.label ≡ Some label →
        PassesStar (has x.process) label → x.stated.barred ≡ false
    permitted_passed label is passes =
        passed_by (ap (λ l. star has x.process l) is ∙ star_passes has x.process label passes)

  pub is_bar : (n p : ℕ) (x : Post) (label : Label) (held : ℕ) →
      slice_get entries n ≡ Some (posted x) → x.process ≡ p → x.stated.barred ≡ true →
      x.stated.label ≡ Some label →
      IsLowest (IsHeldOther (histories_after wall entries n p) label) held →
      IsBar wall entries (record { entry = n + 1; process = p; label = label; held = held })
  is_bar n p x label held at by barred is lowest =
      let last : n ≡ n + 1 - 1 = omega arith in
      record {
        x = x;
        post = record { at = post_at entries n x at; barred = barred };
        by = by;
        label = is;
        lowest = subst
            (λ m. IsLowest (IsHeldOther (histories wall (posts_to entries m) p) label) held)
            last lowest;
      }

-- what the state has is what the posts gave
pub state_has : (wall : ChineseWall) (entries : List Entry) (n : ℕ)
    (post_state : PostStateValue (Unit {0})) (h : Accesses)
    → ((w : ChineseWall) (past : List (Contribution (Unit {0}))) →
    StandsForPosts w (view_of post_state) past → has_of h ≡ histories w (posts_of past)) →
    Stands wall post_state (posts_to entries n) → has_of h ≡ histories_after wall entries n
state_has wall entries n post_state h told stands =
    told wall (bare (posts_to entries n)) stands
    ∙ ap (λ past. histories wall past) (bare_posts (posts_to entries n))
