-- A walk through a sound book, entry by entry.
use Rattle.std.proofs.Common.{◌≡◌, ℕ, ◌+◌, ◌-◌, ◌<◌, ◌^◌, Bool, true, false}
use Rattle.std.proofs.Common.{not, List, ◌∷◌, length, take, Some, None}
use Rattle.std.proofs.Common.{refl, sym, ap, inl, inr}
use Rattle.std.proofs.Common.{◌∙◌, subst, arith, slice_get}
use Rattle.std.proofs.lemmas.Bool.{cases_Bool, false≢true, or_left}
use Rattle.std.proofs.lemmas.Option.{slice_get_within}
use Rattle.wall_labels.specs.declared.label.Label.TheVariants.{Of}
use Rattle.wall_policy.specs.Policy.{ChineseWall, IsPolicy}
use Rattle.wall_rules.specs.Histories.{History, opening}
use Rattle.wall_rules.proofs.WallRulesLemmas.{opening-Decides, first_is_known}
use Rattle.coll_routes.specs.declared.roll.Roll.{Roll}
use Rattle.coll_routes.specs.declared.statement.Stated.{Stated}
use Rattle.wall_verdict.specs.Grants.{charged_to}
use Rattle.run_model.specs.declared.outcome.Outcome.{Outcome}
use Rattle.run_model.specs.declared.entry.Entry.{Entry}
use Rattle.run_model.specs.declared.entry.Entry.TheVariants.{Settled}
use Rattle.run_model.specs.Posts.{Post, comms, filled, histories, outcome, labelled, is_granted}
use Rattle.run_model.specs.Posts.{place}
use Rattle.run_model.specs.Books.{posted}
use Rattle.run_model.specs.Holding.{IsGrant}
use Rattle.run_model.specs.Contributions.{posts_of}
use Rattle.run_state.specs.declared.entered.Entered.{Entered}
use Rattle.run_state.specs.declared.entered.Entered.TheVariants.{Waiting as waits}
use Rattle.run_state.specs.declared.entered.Entered.TheVariants.{Settled as settles}
use Rattle.run_state.specs.Views.{PostStateValue, view_of}
use Rattle.run_state.specs.Stands.{StandsForPosts, Tells}
use Rattle.audit_book.specs.Checks.{Stands, bare}
use Rattle.audit_book.proofs.AuditBookLemmas.{posts_few, length_prefix, bare_posts}
use Rattle.book_report.specs.declared.row.Way.TheVariants.{OwnPost}
use Rattle.book_report.specs.declared.known.Known.{Known}
use Rattle.book_report.specs.Held.{posts_to, histories_after, IsFirstAfter, IsPostAt, IsRow}
use Rattle.book_report.specs.Held.{IsOwnPost}
use Rattle.book_report.specs.Walk.{Covers, HasCome, IsGrantAt, IsTold, Grows, knows}
use Rattle.book_report.specs.Walk.{PassedWith, row_of}
use Rattle.book_report.proofs.HistoryLemmas.{posts_posted, posts_settled, first_after}
use Rattle.book_report.proofs.HistoryLemmas.{label_cases, own_is_written, written_stays, unfilled}
use Rattle.book_report.proofs.HistoryLemmas.{granted_enters, granted_only, ungranted, granted_came}
use Rattle.book_report.proofs.KnownLemmas.{known_later}

---- what is told of a post, in its own posts

told_of : (wall : ChineseWall) (x : Post) (past posts : List Post) (e : Entered (Unit {0})) →
    posts_of (bare past) ≡ posts → Tells wall (record { post = x; part = tt }) (bare past) e →
    IsTold wall x posts e
told_of wall x past posts (waits k) same told =
    subst (λ ps. filled (comms wall ps) x ps ≡ None) same told.1
told_of wall x past posts (settles full k o) same told = (
  ap (λ ps. place x ps) (sym same) ∙ sym told.0,
  subst (λ ps. filled (comms wall ps) x ps ≡ Some full.roll) same told.1,
  subst (λ ps. outcome wall x ps ≡ Some o) same told.3,
  told.4,
)

told_is : (wall : ChineseWall) (x : Post) (past : List Post) (e : Entered (Unit {0})) →
    Tells wall (record { post = x; part = tt }) (bare past) e → IsTold wall x past e
told_is wall x past e told = told_of wall x past past e (bare_posts past) told

-- what is told of an equal post, and what the state stands for then
pub entered_is : (wall : ChineseWall) (x y : Post) (past : List Post)
    (post_state : PostStateValue (Unit {0})) (e : Entered (Unit {0})) → y ≡ x →
    StandsForPosts wall (view_of post_state) (record { post = y; part = tt } ∷ bare past)
    × Tells wall (record { post = y; part = tt }) (bare past) e →
    Stands wall post_state (x ∷ past) × IsTold wall x past e
entered_is wall x y past post_state e same now = (
  subst (λ (z : Post). StandsForPosts wall (view_of post_state)
      (record { post = z; part = tt } ∷ bare past)) same now.0,
  told_is wall x past e
      (subst (λ (z : Post). Tells wall (record { post = z; part = tt }) (bare past) e) same now.1),
)

---- there are no more posts than entries

pub few_posts : (entries : List Entry) (n : ℕ) → length entries < 2 ^ 62 →
    length (posts_to entries n) < 2 ^ 62
few_posts entries n few =
    let short = posts_few (take n entries) in
    let prefix = length_prefix entries n in
    omega arith

---- the rows of a post

fresh_is : (has : History) (known : Known) (p d : ℕ) → Covers has known →
    knows known p d ≡ false → has p d ≡ false
fresh_is has known p d covers fresh = elim (cases_Bool (has p d)) [
  | inl t ↦ absurd (false≢true (sym fresh ∙ covers p d t))
  | inr f ↦ f
]

pub post_at : (entries : List Entry) (n : ℕ) (x : Post) → slice_get entries n ≡ Some (posted x) →
    IsPostAt entries (n + 1) x
post_at entries n x at =
    let last : n ≡ n + 1 - 1 = omega arith in
    record {
      counted = omega arith;
      entry = subst (λ m. slice_get entries m ≡ Some (posted x)) last at;
    }

module _ (wall : ChineseWall) (entries : List Entry) (n : ℕ) (x : Post)
    (at : slice_get entries n ≡ Some (posted x)) where
  abbrev has : History
  has = histories_after wall entries n

  abbrev past : List Post
  past = posts_to entries n

  after_is : (p d : ℕ) → histories_after wall entries (n + 1) p d ≡ histories wall (x ∷ past) p d
  after_is p d = ap (λ ps. histories wall ps p d) (posts_posted entries n x at)

  -- a pair that the post brings and that was not known is held after it first
  new_first : (known : Known) (p d : ℕ) → Covers has known → knows known p d ≡ false →
      histories wall (x ∷ past) p d ≡ true → IsFirstAfter wall entries p d (n + 1)
  new_first known p d covers fresh brings =
      first_after wall entries n p d (slice_get_within entries n (posted x) at)
      (fresh_is has known p d covers fresh) (after_is p d ∙ brings)

  -- what a post's own label enters
  pub own_is_row : (known : Known) (d : ℕ) → Covers has known → PassedWith x.stated d →
      knows known x.process d ≡ false → IsRow wall entries (row_of x.process d (n + 1) OwnPost)
  own_is_row known d covers own fresh = record {
    first = new_first known x.process d covers fresh
        (written_stays wall x past x.process d (own_is_written wall x past d own.0 own.1));
    way = record {
      x = x;
      at = post_at entries n x at;
      by = refl;
      passed = own.0;
      label = own.1;
    };
  }

  -- the label is known
  pub covers_label : (old new : Known) → Covers has old → Grows old new
      → ((d : ℕ) → PassedWith x.stated d → knows new x.process d ≡ true) →
      Covers (labelled has x) new
  covers_label old new covers grows there p d h =
      elim (label_cases has x.process x.stated.label (not x.stated.barred) p d h) [
        | inl held ↦ grows p d (covers p d held)
        | inr own ↦ subst (λ q. knows new q d ≡ true) (sym own.0)
            (there d (not_true x.stated.barred own.1, own.2))
      ]
    where
      not_true : (b : Bool) → not b ≡ true → b ≡ false
      not_true true h = absurd cc
      not_true false h = refl

  -- what is not known behind the label is of no own post here
  not_own : (known : Known) → Covers (labelled has x) known → (p d : ℕ) → knows known p d ≡ false →
      ¬ (IsOwnPost entries p d (n + 1))
  not_own known covers p d fresh own =
      let last : n + 1 - 1 ≡ n = omega arith in
      let there : slice_get entries n ≡ Some (posted own.x) =
      subst (λ m. slice_get entries m ≡ Some (posted own.x)) last own.at.entry in
      let both : Some (posted own.x) ≡ Some (posted x) = sym there ∙ at in
      let process : own.x.process ≡ x.process = cc in
      let stated : own.x.stated ≡ x.stated = cc in
      let passed : x.stated.barred ≡ false =
      sym (ap (λ (s : Stated). s.barred) stated) ∙ own.passed in
      let label : x.stated.label ≡ Some (Of d) =
      sym (ap (λ (s : Stated). s.label) stated) ∙ own.label in
      let same : x.process ≡ p = sym process ∙ own.by in
      false≢true (sym fresh
      ∙ subst (λ q. knows known q d ≡ true) same
      (covers x.process d (own_is_written wall x past d passed label)))

  covers_less : (known : Known) → Covers (labelled has x) known → Covers has known
  covers_less known covers p d h = covers p d (or_left (has p d) _ h)

  -- nothing more is brought where the post fills no instance
  pub covers_unfilled : (known : Known) → filled (comms wall past) x past ≡ None →
      Covers (labelled has x) known → Covers (histories_after wall entries (n + 1)) known
  covers_unfilled known none covers p d h =
      covers p d (unfilled wall x past none p d (sym (after_is p d) ∙ h))

  module _ (roll : Roll) (o : Outcome) (fills : filled (comms wall past) x past ≡ Some roll)
      (came : outcome wall x past ≡ Some o) where
    pub covers_ungranted : (known : Known) → is_granted o ≡ false →
        Covers (labelled has x) known → Covers (histories_after wall entries (n + 1)) known
    covers_ungranted known not_granted covers p d h =
        covers p d (ungranted wall x past roll o fills came not_granted p d
        (sym (after_is p d) ∙ h))

    pub covers_granted : (old new : Known) → Covers (labelled has x) old → Grows old new
        → ((p d : ℕ) → charged_to wall roll p d ≡ true → knows new p d ≡ true) →
        Covers (histories_after wall entries (n + 1)) new
    covers_granted old new covers grows there p d h =
        elim (granted_only wall x past roll fills p d (sym (after_is p d) ∙ h)) [
          | inl held ↦ grows p d (covers p d held)
          | inr charge ↦ there p d charge
        ]

    -- what a grant brings and was not known is held after it first, and not by the own post
    pub grant_new : (known : Known) → is_granted o ≡ true → Covers (labelled has x) known →
        (p d : ℕ) → charged_to wall roll p d ≡ true → knows known p d ≡ false →
        IsFirstAfter wall entries p d (n + 1) × ¬ (IsOwnPost entries p d (n + 1))
    grant_new known was_granted covers p d charge fresh = (
      new_first known p d (covers_less known covers) fresh
          (granted_enters wall x past roll fills (granted_came o _ was_granted came) p d charge),
      not_own known covers p d fresh,
    )

    pub grant_at : (c k : ℕ) → x.comm ≡ c → place x past ≡ k → is_granted o ≡ true →
        IsGrantAt wall entries (n + 1) c k roll
    grant_at c k comm kth was_granted =
        let last : n ≡ n + 1 - 1 = omega arith in
        record {
          x = x;
          at = post_at entries n x at;
          comm = comm;
          kth = subst (λ m. place x (posts_to entries m) ≡ k) last kth;
          grant = subst (λ m. IsGrant wall x (posts_to entries m) roll) last
              (record { fills = fills; granted = granted_came o _ was_granted came });
        }

---- how far the walk comes by an entry

pub come_settled : (wall : ChineseWall) (entries : List Entry) (n : ℕ)
    (post_state : PostStateValue (Unit {0})) (known : Known) (c k : ℕ) (o : Outcome) →
    slice_get entries n ≡ Some (Settled c k o) → HasCome wall entries n post_state known →
    HasCome wall entries (n + 1) post_state known
come_settled wall entries n post_state known c k o at come =
    let same : posts_to entries n ≡ posts_to entries (n + 1) =
    sym (posts_settled entries n c k o at) in
    record {
      stands = subst (Stands wall post_state) same come.stands;
      room = come.room;
      rows = known_later wall entries n (n + 1) known (omega arith) come.rows;
      whole = subst (λ ps. Covers (histories wall ps) known) same come.whole;
    }

pub stands_settled : (wall : ChineseWall) (entries : List Entry) (n : ℕ)
    (post_state : PostStateValue (Unit {0})) (c k : ℕ) (o : Outcome) →
    slice_get entries n ≡ Some (Settled c k o) → Stands wall post_state (posts_to entries n) →
    Stands wall post_state (posts_to entries (n + 1))
stands_settled wall entries n post_state c k o at stands =
    subst (Stands wall post_state) (sym (posts_settled entries n c k o at)) stands

pub stands_posted : (wall : ChineseWall) (entries : List Entry) (n : ℕ) (x : Post)
    (post_state : PostStateValue (Unit {0})) → slice_get entries n ≡ Some (posted x) →
    Stands wall post_state (x ∷ posts_to entries n) →
    Stands wall post_state (posts_to entries (n + 1))
stands_posted wall entries n x post_state at stands =
    subst (Stands wall post_state) (sym (posts_posted entries n x at)) stands

---- what is held before the first entry

-- all that is held at first is of the policy's processes and datasets
pub opening_within : (wall : ChineseWall) (p d : ℕ) → IsPolicy wall → opening wall p d ≡ true →
    (p < length wall.process_names) × (d < length wall.dataset_names)
opening_within wall p d policy held =
    first_is_known wall p d policy ((opening-Decides wall p d).0 held)
