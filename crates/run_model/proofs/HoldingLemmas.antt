-- A process holds exactly what stands in its history, so nobody holds two rivals.
use Rattle.std.proofs.Common.{◌≡◌, ℕ, ◌<◌, ◌≤◌, Bool, true, false, not, List, [], ◌∷◌, ◌++◌, length}
use Rattle.std.proofs.Common.{refl, sym, ap, ◌∙◌, subst, arith, ⊎_elim, ◌&&◌, Option, Some, None}
use Rattle.std.proofs.Common.{slice_get, eqb-true, eq-eqb, option_map, cond}
use Rattle.std.specs.Prelude.{◌==◌, is_some, is_none}
use Rattle.std.proofs.lemmas.Bool.{cases_Bool, cond-false, false≢true, and_parts, and_from}
use Rattle.std.proofs.lemmas.Bool.{or_cases, or_right, not-true}
use Rattle.std.proofs.lemmas.Option.{slice_get_within}
use Rattle.std.proofs.lemmas.List.{append-nil}
use Rattle.wall_labels.specs.declared.ids.TheConstants.{DATASET_LIMIT}
use Rattle.wall_labels.specs.declared.label.Label.{Label}
use Rattle.wall_labels.specs.declared.label.Label.TheVariants.{Public, Of}
use Rattle.wall_policy.specs.Policy.{ChineseWall, HasAtFirst}
use Rattle.wall_policy.specs.Rivals.{AreRivals}
use Rattle.wall_policy.proofs.WallPolicyLemmas.{are_rivals-Decides, are_rivals-symmetric}
use Rattle.wall_rules.specs.Rules.{passes_star}
use Rattle.wall_rules.specs.Histories.{History}
use Rattle.wall_rules.proofs.WallRulesLemmas.{opening-Decides}
use Rattle.mpi_group.specs.Groups.{rank_in}
use Rattle.coll_routes.specs.declared.statement.Stated.{Stated}
use Rattle.coll_routes.specs.declared.roll.Roll.{Roll}
use Rattle.coll_routes.specs.Rolls.{given, given_in, label_of, label_in, is_barred, barred_in}
use Rattle.coll_routes.specs.Rolls.{stated_in, routed}
use Rattle.wall_verdict.specs.declared.verdict.Verdict.TheVariants as verdicts
use Rattle.wall_verdict.specs.Charges.{dataset_in, is_that, sanitised, charged}
use Rattle.wall_verdict.specs.Star.{star}
use Rattle.wall_verdict.specs.Verdicts.{first_barred, first_offence, verdict, verdict_by}
use Rattle.wall_verdict.specs.Grants.{charged_at, charged_to}
use Rattle.wall_verdict.specs.Meanings.{IsChargedFrom}
use Rattle.wall_verdict.proofs.WallVerdictLemmas.{charges_are_labels, none_at}
use Rattle.run_model.specs.declared.outcome.Outcome.TheVariants.{Granted}
use Rattle.run_model.specs.Posts.{Post, posts_on, place, comms, filled, outcome_of, labelled}
use Rattle.run_model.specs.Posts.{with_delivery, is_granted, histories}
use Rattle.run_model.specs.Books.{AreCounted}
use Rattle.run_model.specs.Holding.{Holds, had_at_first, wrote, received, passed_on, Reaches}
use Rattle.run_model.specs.Holding.{IsGrant, IsPart, IsMoment}
use Rattle.run_model.specs.PostLaws.{IsWhatIsHeld, HoldingIsHistory, NobodyHoldsTwoRivals}
use Rattle.run_model.proofs.PostLemmas.{posts_kth, IsKth, kth_from, IsFilled, filled_is, stated_at}
use Rattle.run_model.proofs.PostLemmas.{stated_by}
use Rattle.run_model.proofs.CountedLemmas.{taken_older, taken_at}
use Rattle.run_model.proofs.PostLawLemmas.{delivery_keeps, grow, none_other, granted_is}
use Rattle.run_model.proofs.PostLawLemmas.{outcome_granted, rival_parts, passed as passed_star}
use Rattle.run_model.proofs.PostLawLemmas.{posts_keep_the_wall}

---- Labels and datasets.

pub labelled_d : (label : Option Label) (d : ℕ) → is_that (dataset_in label) d ≡ true →
    label ≡ Some (Of d)
labelled_d None d h = absurd (false≢true h)
labelled_d (Some Public) d h = absurd (false≢true h)
labelled_d (Some (Of own)) d h = ap (λ n. Some (Of n)) (eqb-true own d h)

pub is_labelled_d : (label : Option Label) (d : ℕ) → label ≡ Some (Of d) →
    is_that (dataset_in label) d ≡ true
is_labelled_d label d is = subst (λ l. is_that (dataset_in l) d ≡ true) (sym is) (eq-eqb d d refl)

---- Older posts.

grow_to : (wall : ChineseWall) (past : List Post) (x : Post) (before : List Post) (p d : ℕ) →
    IsMoment past x before → histories wall (x ∷ before) p d ≡ true → histories wall past p d ≡ true
grow_to wall past x before p d m h =
    subst (λ ps. histories wall ps p d ≡ true) m.1 (grow wall m.0 (x ∷ before) p d h)

---- What a grant says of its parts.

-- who gives nothing sends nothing
routed_gives : (roll : Roll) (i j : ℕ) → routed roll i j ≡ true → given roll i ≡ 0 → ⊥
routed_gives roll i j r none = false≢true
    (sym (Rattle.coll_routes.proofs.CollRoutesLemmas.empty_ranks_reach_nobody roll i j none) ∙ r)

no_barred : (roll : Roll) (b : Option ℕ) (o : Option (ℕ × ℕ)) →
    verdict_by roll b o ≡ verdicts.Granted → b ≡ None
no_barred roll (Some i) o e = absurd (cc)
no_barred roll None o e = refl

granted_passed : (wall : ChineseWall) (has : History) (roll : Roll) →
    verdict wall has roll ≡ verdicts.Granted → first_barred roll ≡ None
unfolding verdict
granted_passed wall has roll e = no_barred roll (first_barred roll) (first_offence wall has roll) e

module _ (wall : ChineseWall) (x : Post) (before : List Post) (roll : Roll)
    (fills : filled (comms wall before) x before ≡ Some roll) where
  filled_here : IsFilled (comms wall before) x before roll
  filled_here = filled_is (comms wall before) x before roll fills

  pub size_is : roll.shape.size ≡ length roll.members
  size_is =
      sym (ap (λ (r : Roll). r.shape.size) filled_here.is)
      ∙ ap (λ (r : Roll). length r.members) filled_here.is

  module _ (i : ℕ) (y : Post) (then : List Post) (part : IsPart roll x before i y then) where
    -- rank i of the roll states what y did
    pub part_states : slice_get roll.stated i ≡ Some (Some y.stated)
    part_states =
        let kth : slice_get (posts_on x.comm y.process (part.moment.0 ++ y ∷ then))
        (length (posts_on x.comm y.process then)) ≡ Some y.stated = posts_kth x.comm y.process
        part.moment.0 y then part.there refl in
        let place_is : length (posts_on x.comm y.process then) ≡ place x before = ap
        (λ c. length (posts_on c y.process then)) (sym part.there) ∙ part.kth in
        stated_at (comms wall before) x before roll i filled_here y.process part.by_member
        ∙ ap (λ o. Some o) (
        ap (λ k. slice_get (posts_on x.comm y.process (x ∷ before)) k) (sym place_is)
        ∙ (ap (λ ps.
        slice_get (posts_on x.comm y.process ps) (length (posts_on x.comm y.process then)))
        (sym part.moment.1)
        ∙ kth))

    pub part_within : i < roll.shape.size
    part_within =
        let low = slice_get_within roll.members i y.process part.by_member in
        let same = size_is in
        omega arith

    pub part_barred : is_barred roll i ≡ y.stated.barred
    part_barred = ap (λ o. barred_in (stated_in o)) part_states

    part_label : label_of roll i ≡ y.stated.label
    part_label = ap (λ o. label_in (stated_in o)) part_states

    part_given : given roll i ≡ y.stated.given
    part_given = ap (λ o. given_in (stated_in o)) part_states

module _ (wall : ChineseWall) (x : Post) (before : List Post) (roll : Roll)
    (grant : IsGrant wall x before roll) where
  -- the histories with the label of x entered
  abbrev now : History
  now = labelled (histories wall before) x

  abbrev number : ℕ
  number = length (comms wall before)

  outcome_is : outcome_of wall now number roll ≡ Granted
  outcome_is =
      let both = sym (ap (λ o. option_map (outcome_of wall now number) o) grant.fills) ∙
      grant.granted in
      cc

  granted_here : is_granted (outcome_of wall now number roll) ≡ true
  granted_here = ap is_granted outcome_is

  verdict_is : verdict wall now roll ≡ verdicts.Granted
  verdict_is = (outcome_granted wall now number roll granted_here).1

  module _ (i : ℕ) (y : Post) (then : List Post) (part : IsPart roll x before i y then) where
    part_passed : y.stated.barred ≡ false
    part_passed =
        sym (part_barred wall x before roll grant.fills i y then part)
        ∙ none_at (λ k. is_barred roll k) roll.shape.size i
        (part_within wall x before roll grant.fills i y then part)
        (granted_passed wall now roll verdict_is)

    -- an unsanitised part with a dataset's label enters the receiver's history
    part_enters : (p j d : ℕ) → rank_in roll.members p ≡ Some j → routed roll i j ≡ true →
        sanitised wall roll j ≡ false → y.stated.label ≡ Some (Of d) →
        histories wall (x ∷ before) p d ≡ true
    part_enters p j d receiver r whole label =
        let from : IsChargedFrom wall roll j i d = record {
          routed = r;
          label = part_label wall x before roll grant.fills i y then part ∙ label;
          unsanitised = whole;
        } in
        let to_rank : charged wall roll j d ≡ true = (charges_are_labels wall roll j d).1
        (i, part_within wall x before roll grant.fills i y then part, from) in
        let to_process : charged_to wall roll p d ≡ true = ap (λ o. charged_at wall roll o d)
        receiver ∙ to_rank in
        ap (λ o. with_delivery wall now number o p d) grant.fills
        ∙ or_right (now p d) _ (and_from (is_granted (outcome_of wall now number roll))
        (charged_to wall roll p d) granted_here to_process)

---- What is held stands in the history.

pub label_held : (held : ℕ → Bool) (d : ℕ) → d < DATASET_LIMIT → held d ≡ true → (label : Label) →
    passes_star DATASET_LIMIT held label ≡ true → label ≡ Of d
label_held held d low h Public passed = absurd (false≢true
    (sym (none_other DATASET_LIMIT held Public passed d low) ∙ and_from (held d) true h refl))
label_held held d low h (Of own) passed = ⊎_elim
    (λ t. ap (λ n. Of n) (eqb-true own d t))
    (λ f. absurd (false≢true (sym (none_other DATASET_LIMIT held (Of own) passed d low)
    ∙ and_from (held d) (not (own == d)) h (ap not f))))
    (cases_Bool (own == d))

pub label_of_holder : (has : History) (y : Post) (d : ℕ) → d < DATASET_LIMIT →
    has y.process d ≡ true → (label : Option Label) → (label ≡ None → ⊥) →
    star has y.process label ≡ true → label ≡ Some (Of d)
label_of_holder has y d low h None gives passed = absurd (gives refl)
label_of_holder has y d low h (Some label) gives passed =
    ap (λ l. Some l) (label_held (has y.process) d low h label passed)

reached_in_history :
    (wall : ChineseWall) {past : List Post} {p d : ℕ} (y : Post) (then : List Post) →
    Reaches wall past p y then → y.stated.label ≡ Some (Of d) → histories wall past p d ≡ true
reached_in_history wall {past = past} {p = p} {d = d} y then r label =
    grow_to wall past r.x r.before p d r.at (part_enters wall r.x r.before r.roll r.grant r.i y then
    r.part p r.j d r.receiver r.routed r.whole label)

-- a post without a label gives nothing
unlabelled : (given : ℕ) (label : Option Label) →
    cond (given == 0) (is_none label) (is_some label) ≡ true → label ≡ None → given ≡ 0
unlabelled given None h e = ⊎_elim (λ t. eqb-true given 0 t)
    (λ f. absurd (false≢true (sym (cond-false (given == 0) true false f) ∙ h)))
    (cases_Bool (given == 0))
unlabelled given (Some label) h e = absurd (cc)

-- what a process begins with stands in its history ever after
pub first_in_history : (wall : ChineseWall) (past : List Post) (p d : ℕ) → HasAtFirst wall p d →
    histories wall past p d ≡ true
first_in_history wall past p d begins =
    subst (λ ps. histories wall ps p d ≡ true) (append-nil past)
    (grow wall past [] p d ((opening-Decides wall p d).1 begins))

held_in_history : (wall : ChineseWall) {past : List Post} {p d : ℕ} → d < DATASET_LIMIT →
    AreCounted wall past → Holds wall past p d → histories wall past p d ≡ true
held_in_history wall {past = past} {p = p} {d = d} low taken (had_at_first e) =
    first_in_history wall past p d e
held_in_history wall {past = past} {p = p} {d = d} low taken (wrote x before m by unbarred label) =
    let has = histories wall before in
    let mine : (p == x.process && not x.stated.barred && is_that (dataset_in x.stated.label) d) ≡
    true =
    and_from (p == x.process && not x.stated.barred) (is_that (dataset_in x.stated.label) d)
    (and_from (p == x.process) (not x.stated.barred) (eq-eqb p x.process (sym by))
    (ap not unbarred)) (is_labelled_d x.stated.label d label) in
    grow_to wall past x before p d m (delivery_keeps wall (labelled has x)
    (length (comms wall before)) (filled (comms wall before) x before) p d
    (or_right (has p d) _ mine))
held_in_history wall low taken (received y then r label) = reached_in_history wall y then r label
held_in_history wall {d = d} low taken (passed_on y then r held) =
    let taken_then = taken_at wall (r.x ∷ r.before) y then r.part.moment
    (taken_at wall _ r.x r.before r.at taken) in
    let inside = held_in_history wall low taken_then.0 held in
    let unbarred = part_passed wall r.x r.before r.roll r.grant r.i y then r.part in
    let gives : y.stated.label ≡ None → ⊥ = λ none. routed_gives r.roll r.i r.j r.routed
    (part_given wall r.x r.before r.roll r.grant.fills r.i y then r.part
    ∙ unlabelled y.stated.given y.stated.label taken_then.1.label none) in
    reached_in_history wall y then r (label_of_holder (histories wall then) y d low inside
    y.stated.label gives (passed_star wall y then taken_then.1 unbarred))

---- What stands in the history is held.

moment_later : (past : List Post) (z x : Post) (before : List Post) → IsMoment past x before →
    IsMoment (z ∷ past) x before
moment_later past z x before m = (z ∷ m.0, ap (λ ps. z ∷ ps) m.1)

reaches_later :
    (wall : ChineseWall) (past : List Post) (z : Post) (p : ℕ) (y : Post) (then : List Post) →
    Reaches wall past p y then → Reaches wall (z ∷ past) p y then
reaches_later wall past z p y then r = record {
  x = r.x;
  before = r.before;
  roll = r.roll;
  i = r.i;
  j = r.j;
  at = moment_later past z r.x r.before r.at;
  grant = r.grant;
  part = r.part;
  receiver = r.receiver;
  routed = r.routed;
  whole = r.whole;
}

pub held_later : (wall : ChineseWall) {past : List Post} {p d : ℕ} (z : Post) →
    Holds wall past p d → Holds wall (z ∷ past) p d
held_later wall z (had_at_first e) = had_at_first e
held_later wall {past = past} z (wrote x before m by passed label) =
    wrote x before (moment_later past z x before m) by passed label
held_later wall {past = past} {p = p} z (received y then r label) =
    received y then (reaches_later wall past z p y then r) label
held_later wall {past = past} {p = p} z (passed_on y then r held) =
    passed_on y then (reaches_later wall past z p y then r) held

-- who states a label states something
label_states : (o : Option (Option Stated)) (d : ℕ) → label_in (stated_in o) ≡ Some (Of d) →
    (s : Stated) × (o ≡ Some (Some s)) × (s.label ≡ Some (Of d))
label_states None d e = absurd (cc)
label_states (Some None) d e = absurd (cc)
label_states (Some (Some s)) d e = (s, refl, e)

-- the k-th post of a member is its part
kth_is_part : (x : Post) (before : List Post) (roll : Roll) (i q : ℕ) (s : Stated) →
    slice_get roll.members i ≡ Some q → (kth : IsKth x.comm q (place x before) s (x ∷ before)) →
    IsPart roll x before i kth.y kth.then
kth_is_part x before roll i q s at kth = record {
  by_member = subst (λ m. slice_get roll.members i ≡ Some m) (sym kth.by) at;
  there = kth.there;
  kth = ap (λ c. length (posts_on c kth.y.process kth.then)) kth.there
      ∙ (ap (λ m. length (posts_on x.comm m kth.then)) kth.by ∙ kth.kth);
  moment = kth.moment;
}

kth_label : (c q k : ℕ) (s : Stated) (past : List Post) (d : ℕ) (kth : IsKth c q k s past) →
    s.label ≡ Some (Of d) → kth.y.stated.label ≡ Some (Of d)
kth_label c q k s past d kth is = ap (λ (t : Stated). t.label) kth.states ∙ is

-- what is charged to rank j in a grant was received by its process
charged_is_held : (wall : ChineseWall) (x : Post) (before : List Post) (roll : Roll) (p d j : ℕ) →
    IsGrant wall x before roll → rank_in roll.members p ≡ Some j → charged wall roll j d ≡ true →
    Holds wall (x ∷ before) p d
charged_is_held wall x before roll p d j grant receiver h =
    let sender = (charges_are_labels wall roll j d).0 h in
    let i = sender.0 in
    let s = label_states (slice_get roll.stated i) d sender.2.label in
    let q = stated_by (comms wall before) x before roll i
    (filled_is (comms wall before) x before roll grant.fills) s.0 s.1 in
    let kth = kth_from x.comm q.0 (place x before) s.0 (x ∷ before) q.2 in
    let part = kth_is_part x before roll i q.0 s.0 q.1 kth in
    received kth.y kth.then
    (record {
      x = x;
      before = before;
      roll = roll;
      i = i;
      j = j;
      at = ([], refl);
      grant = grant;
      part = part;
      receiver = receiver;
      routed = sender.2.routed;
      whole = sender.2.unsanitised;
    })
    (kth_label x.comm q.0 (place x before) s.0 (x ∷ before) d kth s.2)

charged_to_is_held : (wall : ChineseWall) (x : Post) (before : List Post) (roll : Roll) (p d : ℕ) →
    IsGrant wall x before roll → (o : Option ℕ) → rank_in roll.members p ≡ o →
    charged_at wall roll o d ≡ true → Holds wall (x ∷ before) p d
charged_to_is_held wall x before roll p d grant None e h = absurd (false≢true h)
charged_to_is_held wall x before roll p d grant (Some j) e h =
    charged_is_held wall x before roll p d j grant e h

label_is_held : (wall : ChineseWall) (x : Post) (before : List Post) (p d : ℕ) →
    (histories wall before p d ≡ true → Holds wall before p d) →
    labelled (histories wall before) x p d ≡ true → Holds wall (x ∷ before) p d
label_is_held wall x before p d so_far h = ⊎_elim
    (λ old. held_later wall x (so_far old))
    (λ new.
    let outer = and_parts (p == x.process && not x.stated.barred)
    (is_that (dataset_in x.stated.label) d) new in
    let inner = and_parts (p == x.process) (not x.stated.barred) outer.0 in
    wrote x before ([], refl) (sym (eqb-true p x.process inner.0))
    (not-true x.stated.barred inner.1) (labelled_d x.stated.label d outer.1))
    (or_cases (histories wall before p d) _ h)

delivery_is_held :
    (wall : ChineseWall) (x : Post) (before : List Post) (p d : ℕ) (o : Option Roll) →
    filled (comms wall before) x before ≡ o →
    (labelled (histories wall before) x p d ≡ true → Holds wall (x ∷ before) p d) →
    with_delivery wall (labelled (histories wall before) x) (length (comms wall before)) o p d
    ≡ true → Holds wall (x ∷ before) p d
delivery_is_held wall x before p d None e old h = old h
delivery_is_held wall x before p d (Some roll) e old h = ⊎_elim old
    (λ new.
    let has = labelled (histories wall before) x in
    let parts = and_parts (is_granted (outcome_of wall has (length (comms wall before)) roll))
    (charged_to wall roll p d) new in
    let grant : IsGrant wall x before roll = record {
      fills = e;
      granted = ap (λ o. option_map (outcome_of wall has (length (comms wall before))) o) e
          ∙ ap (λ v. Some v)
          (granted_is (outcome_of wall has (length (comms wall before)) roll) parts.0);
    } in
    charged_to_is_held wall x before roll p d grant (rank_in roll.members p) refl parts.1)
    (or_cases (labelled (histories wall before) x p d) _ h)

pub history_is_held : (wall : ChineseWall) (past : List Post) (p d : ℕ) →
    histories wall past p d ≡ true → Holds wall past p d
history_is_held wall [] p d h = had_at_first ((opening-Decides wall p d).0 h)
history_is_held wall (x ∷ before) p d h =
    delivery_is_held wall x before p d (filled (comms wall before) x before) refl
    (label_is_held wall x before p d (history_is_held wall before p d)) h

---- Whole lists.

held_is_history : (wall : ChineseWall) (past : List Post) → AreCounted wall past →
    IsWhatIsHeld wall past (histories wall past)
held_is_history wall past taken p d low =
    (history_is_held wall past p d, held_in_history wall low taken)

pub holding_is_history : HoldingIsHistory
holding_is_history wall later past taken =
    held_is_history wall past (taken_older wall later past taken)

-- rivals are datasets of the list of classes
pub rival_within : (classes : List ℕ) (d e : ℕ) → AreRivals classes d e → e < length classes
rival_within classes d e rivals =
    (rival_parts classes d e ((are_rivals-Decides classes d e).1 rivals)).1

pub rival_first : (classes : List ℕ) (d e : ℕ) → AreRivals classes d e → d < length classes
rival_first classes d e rivals = (rival_parts classes e d
    (are_rivals-symmetric classes e d ∙ (are_rivals-Decides classes d e).1 rivals)).1

pub nobody_holds_two_rivals : NobodyHoldsTwoRivals
nobody_holds_two_rivals wall later past policy taken p d e rivals holds_d holds_e =
    let few : length wall.classes ≤ DATASET_LIMIT = subst (λ n. n ≤ DATASET_LIMIT)
    (sym policy.class_for_each) policy.few_datasets in
    let d_within = rival_first wall.classes d e rivals in
    let e_within = rival_within wall.classes d e rivals in
    let older = taken_older wall later past taken in
    posts_keep_the_wall wall past policy older p d e
    ((held_is_history wall past older p d (omega (arith, few, d_within))).1 holds_d)
    ((held_is_history wall past older p e (omega (arith, few, e_within))).1 holds_e)
    rivals
