-- Every full collective of a legal run is judged by the two rules.
use Rattle.std.proofs.Common.{◌≡◌, ◌≢◌, ℕ, zero, suc, List, [], ◌∷◌, ◌++◌, length, map, refl}
use Rattle.std.proofs.Common.{sym, ap, ◌∙◌, subst, Bool, true, false, not, ◌&&◌, ◌⊎◌, ⊎_elim}
use Rattle.std.proofs.Common.{inl, inr, Option, Some, None, slice_get, option_map, eqb-true, eq-eqb}
use Rattle.std.specs.Prelude.{◌==◌, ◌↔◌, is_some, is_none}
use Rattle.std.specs.Option.{option_and_then}
use Rattle.std.proofs.lemmas.Bool.{cases_Bool, cond-true, cond-false, false≢true, and_from}
use Rattle.std.proofs.lemmas.Bool.{and_parts}
use Rattle.std.proofs.lemmas.Option.{slice_get-map}
use Rattle.wall_labels.specs.declared.ids.TheConstants.{DATASET_LIMIT}
use Rattle.wall_labels.specs.declared.label.Label.{Label}
use Rattle.wall_labels.specs.declared.label.Label.TheVariants.{Of}
use Rattle.wall_policy.specs.Policy.{ChineseWall, IsPolicy}
use Rattle.wall_rules.specs.Histories.{History}
use Rattle.wall_rules.specs.Rules.{is_held_other, first_other}
use Rattle.wall_rules.proofs.WallRulesLemmas.{none-least}
use Rattle.coll_routes.specs.declared.statement.Stated.{Stated}
use Rattle.coll_routes.specs.declared.roll.Roll.{Roll}
use Rattle.coll_routes.specs.Rolls.{is_barred}
use Rattle.coll_routes.specs.Signatures.{is_constructor}
use Rattle.wall_rules.specs.declared.rule.Rule.{Rule}
use Rattle.wall_verdict.specs.declared.verdict.Verdict.{Verdict}
use Rattle.wall_verdict.specs.declared.verdict.Verdict.TheVariants as verdicts
use Rattle.wall_verdict.specs.Meanings.{NobodyIsBarred, MembersStayApart}
use Rattle.wall_verdict.specs.Star.{star}
use Rattle.wall_verdict.specs.Verdicts.{verdict, member}
use Rattle.wall_verdict.proofs.WallVerdictLemmas.{member_at}
use Rattle.run_model.specs.declared.outcome.Outcome.{Outcome}
use Rattle.run_model.specs.declared.outcome.Outcome.TheVariants.{Granted, Denied as DeniedBy}
use Rattle.run_model.specs.Comms.{Comm, new_comms}
use Rattle.coll_routes.specs.Rolls.{is_full}
use Rattle.run_model.specs.Posts.{Post, posts_on, kth_posts, instance, if_full, place}
use Rattle.run_model.specs.Posts.{filled, comms, labelled, histories, outcome, outcome_of}
use Rattle.run_model.specs.Posts.{by_verdict, constructor_outcome, outcome_at}
use Rattle.run_model.specs.Books.{AreCounted}
use Rattle.run_model.specs.Holding.{IsMoment, IsPart}
use Rattle.run_model.proofs.PostLemmas.{kth_from, IsFilled, filled_is, stated_at}
use Rattle.run_model.proofs.CountedLemmas.{taken_at, taken_accepted}
use Rattle.run_model.proofs.CountedLemmas.{comm_later}
use Rattle.run_model.proofs.HoldingLemmas.{label_held, part_barred, part_within}
use Rattle.run_model.proofs.FitLemmas.{filled_is_fit}
use Rattle.run_model.specs.Runs.{Entry, posts, contributions}
use Rattle.run_model.specs.Replies.{Legal}
use Rattle.run_model.specs.RunLaws as laws
use Rattle.run_model.specs.Headline.{PassesTheStarRule, EachPassedAtItsPost}
use Rattle.run_model.specs.Headline.{IsJudged, IsFullCollective}
use Rattle.run_model.specs.Headline.{Headline}
use Rattle.run_model.proofs.CountLemmas.{legal_posts_count}
use Rattle.run_model.proofs.SettledLemmas.{all_at, IsSettled, settled_from}
use Rattle.run_model.proofs.SettledLemmas.{settled_roll, settles, comm_at_is}
use Rattle.run_model.proofs.RunLemmas.{grants_are_joint_in_runs, nobody_holds_two_rivals_in_runs}
use Rattle.run_model.proofs.TellLemmas.{grants_are_delivered, denials_are_told}
use Rattle.run_model.proofs.TellLemmas.{denials_name_the_least, grants_alone_are_charged}

-- ## the star rule in its own words

pub star_words : (has : History) (p : ℕ) (label : Option Label) → star has p label ≡ true →
    PassesTheStarRule has p label
star_words has p None h = tt
star_words has p (Some label) h = λ d low held. label_held (has p) d low held label h

no_other : (label : Label) (here : Bool) (d : ℕ) → (here ≡ true → label ≡ Of d) →
    (here
    && Rattle.wall_rules.specs.Rules.is_other
    (Rattle.wall_labels.specs.Labels.dataset_of label) d) ≡ false
no_other label false d one = refl
no_other label true d one = subst (λ l. Rattle.wall_rules.specs.Rules.is_other
    (Rattle.wall_labels.specs.Labels.dataset_of l) d ≡ false) (sym (one refl))
    (ap not (eq-eqb d d refl))

pub star_test : (has : History) (p : ℕ) (label : Option Label) → PassesTheStarRule has p label →
    star has p label ≡ true
unfolding first_other
star_test has p None h = refl
star_test has p (Some label) h =
    ap is_none (none-least (is_held_other (has p) label) DATASET_LIMIT
    (λ d low. no_other label (has p d) d (h d low)))

-- ## every contribution passed at its post

module _ (wall : ChineseWall) (x : Post) (before : List Post) (roll : Roll) (policy : IsPolicy wall)
    (counts : AreCounted wall (x ∷ before))
    (fills : filled (comms wall before) x before ≡ Some roll) where
  word : (i : ℕ) (y : Post) (then : List Post) → IsPart roll x before i y then →
      y.stated.barred ≡ not (star (histories wall then) y.process y.stated.label)
  word i y then part = (taken_at wall (x ∷ before) y then part.moment counts).1.word

  not_not : (a b : Bool) → a ≡ not b → a ≡ false → b ≡ true
  not_not a true e f = refl
  not_not a false e f = absurd (false≢true (sym f ∙ e))

  nobody_barred : EachPassedAtItsPost wall roll x before → NobodyIsBarred roll
  nobody_barred each i low = by_member (member roll i)
      (member_at roll i (filled_is_fit wall x before roll policy counts fills) low)
    where
      h : IsFilled (comms wall before) x before roll
      h = filled_is (comms wall before) x before roll fills

      by_statement : (q : ℕ) → slice_get roll.members i ≡ Some q → (o : Option Stated) →
          slice_get (posts_on x.comm q (x ∷ before)) (place x before) ≡ o → is_some o ≡ true →
          is_barred roll i ≡ false
      by_statement q is None at some = absurd (false≢true some)
      by_statement q is (Some s) at some =
          let k = kth_from x.comm q (place x before) s (x ∷ before) at in
          let part : IsPart roll x before i k.y k.then = record {
            by_member = is ∙ ap (λ n. Some n) (sym k.by);
            there = k.there;
            kth = (λ j. length (posts_on (k.there j) (k.by j) k.then)) ∙ k.kth;
            moment = k.moment;
          } in
          part_barred wall x before roll fills i k.y k.then part
          ∙ (word i k.y k.then part
          ∙ ap not (star_test (histories wall k.then) k.y.process k.y.stated.label
          (each i k.y k.then part)))

      by_member : (q : ℕ) → slice_get roll.members i ≡ Some q → is_barred roll i ≡ false
      by_member q is =
          let at = stated_at (comms wall before) x before roll i h q is in
          by_statement q is (slice_get (posts_on x.comm q (x ∷ before)) (place x before)) refl
          (all_at roll.stated i _ h.full at)

  each_passed : NobodyIsBarred roll → EachPassedAtItsPost wall roll x before
  each_passed nobody i y then part =
      star_words (histories wall then) y.process y.stated.label
      (not_not y.stated.barred _ (word i y then part)
      (sym (part_barred wall x before roll fills i y then part)
      ∙ nobody i (part_within wall x before roll fills i y then part)))

-- ## a full instance was filled by a post

-- a post that isn't the k-th of its poster on c leaves the k-th posts as they were
kth_same : (comm : Comm) (c k : ℕ) (z : Post) (past : List Post) →
    (z.comm ≢ c) ⊎ (place z past ≢ k) → kth_posts comm c k (z ∷ past) ≡ kth_posts comm c k past
kth_same comm c k z past apart = rows comm.members
  where
    end_apart : (xs : List Stated) (s : Stated) (k : ℕ) → length xs ≢ k →
        slice_get (xs ++ s ∷ []) k ≡ slice_get xs k
    end_apart [] s zero e = absurd (e refl)
    end_apart [] s (suc k) e = refl
    end_apart (y ∷ xs) s zero e = refl
    end_apart (y ∷ xs) s (suc k) e = end_apart xs s k (λ same. e (ap suc same))

    row : (m : ℕ) → slice_get (posts_on c m (z ∷ past)) k ≡ slice_get (posts_on c m past) k
    row m = ⊎_elim
        (λ t.
        let both = and_parts (z.comm == c) (z.process == m) t in
        let on : z.comm ≡ c = eqb-true z.comm c both.0 in
        let by : z.process ≡ m = eqb-true z.process m both.1 in
        let far : length (posts_on c m past) ≢ k = ⊎_elim (λ a. absurd (a on))
        (λ b same. b ((λ i. length (posts_on (on i) (by i) past)) ∙ same)) apart in
        ap (λ ps. slice_get ps k) (cond-true (z.comm == c && z.process == m)
        (posts_on c m past ++ z.stated ∷ []) (posts_on c m past) t)
        ∙ end_apart (posts_on c m past) z.stated k far)
        (λ f. ap (λ ps. slice_get ps k) (cond-false (z.comm == c && z.process == m)
        (posts_on c m past ++ z.stated ∷ []) (posts_on c m past) f))
        (cases_Bool (z.comm == c && z.process == m))

    rows : (members : List ℕ) →
        map (λ m. slice_get (posts_on c m (z ∷ past)) k) members
        ≡ map (λ m. slice_get (posts_on c m past) k) members
    rows [] = refl
    rows (m ∷ members) = λ i. row m i ∷ rows members i

-- a communicator on which a counted post stands was there before the newest post
there_before : (wall : ChineseWall) (c : ℕ) (comm : Comm) (z : Post) (past : List Post) (y : Post)
    (then : List Post) → AreCounted wall (z ∷ past) →
    slice_get (comms wall (z ∷ past)) c ≡ Some comm →
    IsMoment (z ∷ past) y then → y.comm ≡ c → slice_get (comms wall past) c ≡ Some comm
there_before wall c comm z past y then taken at moment on =
    let free = taken_accepted wall y then (taken_at wall (z ∷ past) y then moment taken).1 in
    let was : slice_get (comms wall then) c ≡ Some free.comm = ap
    (λ n. slice_get (comms wall then) n) (sym on) ∙ free.at in
    let now : slice_get (comms wall (z ∷ past)) c ≡ Some free.comm = comm_later wall (z ∷ past) y
    then c free.comm moment was in
    let same : free.comm ≡ comm = (let both : Some free.comm ≡ Some comm = sym now ∙ at in cc) in
    before moment.0 moment.1 (was ∙ ap (λ n. Some n) same)
  where
    before : (later : List Post) → later ++ y ∷ then ≡ z ∷ past →
        slice_get (comms wall then) c ≡ Some comm → slice_get (comms wall past) c ≡ Some comm
    before [] e was =
        let same : then ≡ past = cc in ap (λ ps. slice_get (comms wall ps) c) (sym same) ∙ was
    before (w ∷ later) e was = let rest : later ++ y ∷ then ≡ past = cc in
        comm_later wall past y then c comm (later, rest) was

module _ (wall : ChineseWall) (c k : ℕ) (comm : Comm) (q : ℕ)
    (first : slice_get comm.members 0 ≡ Some q) where
  first_posted : (past : List Post) → is_full (kth_posts comm c k past) ≡ true →
      is_some (slice_get (posts_on c q past) k) ≡ true
  first_posted past full = all_at (kth_posts comm c k past) 0 (slice_get (posts_on c q past) k) full
      (slice_get-map (λ m. slice_get (posts_on c m past) k) comm.members 0
      ∙ ap (λ o. option_map (λ m. slice_get (posts_on c m past) k) o) first)

  was_there : (z : Post) (past : List Post) → AreCounted wall (z ∷ past) →
      slice_get (comms wall (z ∷ past)) c ≡ Some comm →
      is_full (kth_posts comm c k (z ∷ past)) ≡ true → slice_get (comms wall past) c ≡ Some comm
  was_there z past taken at full =
      by_statement (slice_get (posts_on c q (z ∷ past)) k) refl (first_posted (z ∷ past) full)
    where
      by_statement : (o : Option Stated) → slice_get (posts_on c q (z ∷ past)) k ≡ o →
          is_some o ≡ true → slice_get (comms wall past) c ≡ Some comm
      by_statement None e h = absurd (false≢true h)
      by_statement (Some s) e h = let is = kth_from c q k s (z ∷ past) e in
          there_before wall c comm z past is.y is.then taken at is.moment is.there

  -- the post that makes it full fills it
  fills_now : (z : Post) (past : List Post) → slice_get (comms wall past) c ≡ Some comm →
      is_full (kth_posts comm c k (z ∷ past)) ≡ true → z.comm ≡ c → place z past ≡ k →
      is_some (filled (comms wall past) z past) ≡ true
  unfolding filled
  fills_now z past at full on kth =
      let here : slice_get (comms wall past) z.comm ≡ Some comm = ap
      (λ n. slice_get (comms wall past) n) on ∙ at in
      let whole : is_full (kth_posts comm z.comm (place z past) (z ∷ past)) ≡ true =
      (λ i. is_full (kth_posts comm (on i) (kth i) (z ∷ past))) ∙ full in
      ap (λ (o : Option Comm). is_some
      (option_and_then (λ n. if_full (instance n z.comm (place z past) (z ∷ past))) o)) here
      ∙ ap is_some (cond-true (is_full (kth_posts comm z.comm (place z past) (z ∷ past)))
      (Some (instance comm z.comm (place z past) (z ∷ past))) None whole)

  pub full_is_settled : (past : List Post) → AreCounted wall past →
      slice_get (comms wall past) c ≡ Some comm → is_full (kth_posts comm c k past) ≡ true →
      is_some (outcome_at wall c k past) ≡ true
  full_is_settled [] taken at full = absurd (false≢true (first_posted [] full))
  full_is_settled (z ∷ past) taken at full = ⊎_elim
      (λ t.
      let outer = and_parts (z.comm == c && place z past == k)
      (is_some (filled (comms wall past) z past)) t in
      ap is_some
      (cond-true (settles wall c k z past) (outcome wall z past) (outcome_at wall c k past) t)
      ∙ mapped (filled (comms wall past) z past) outer.1)
      (λ f. ap is_some (cond-false (settles wall c k z past) (outcome wall z past)
      (outcome_at wall c k past) f) ∙ ⊎_elim
      (λ old. full_is_settled past taken.0 (was_there z past taken at full) old)
      (λ new. absurd (false≢true (sym f ∙ settles_now z past taken at full new)))
      (cases_Bool (is_full (kth_posts comm c k past))))
      (cases_Bool (settles wall c k z past))
    where
      mapped : (o : Option Roll) → is_some o ≡ true →
          is_some (option_map (outcome_of wall (labelled (histories wall past) z)
          (length (comms wall past))) o) ≡ true
      mapped (Some roll) h = refl
      mapped None h = absurd (false≢true h)

      settles_now : (z : Post) (past : List Post) → AreCounted wall (z ∷ past) →
          slice_get (comms wall (z ∷ past)) c ≡ Some comm →
          is_full (kth_posts comm c k (z ∷ past)) ≡ true →
          is_full (kth_posts comm c k past) ≡ false → settles wall c k z past ≡ true
      settles_now z past taken at full new = ⊎_elim
          (λ t.
          let both = and_parts (z.comm == c) (place z past == k) t in
          and_from (z.comm == c && place z past == k) (is_some (filled (comms wall past) z past)) t
          (fills_now z past (was_there z past taken at full) full (eqb-true z.comm c both.0)
          (eqb-true (place z past) k both.1)))
          (λ f. absurd (false≢true (sym new
          ∙ (ap is_full (sym (kth_same comm c k z past
          (apart (z.comm == c) (place z past == k) f refl refl)))
          ∙ full))))
          (cases_Bool (z.comm == c && place z past == k))
        where
          apart : (a b : Bool) → (a && b) ≡ false → (z.comm == c) ≡ a → (place z past == k) ≡ b →
              (z.comm ≢ c) ⊎ (place z past ≢ k)
          apart false b h e g = inl (λ same. false≢true (sym e ∙ eq-eqb z.comm c same))
          apart true false h e g = inr (λ same. false≢true (sym g ∙ eq-eqb (place z past) k same))
          apart true true h e g = absurd (false≢true (sym h))

-- ## what comes of it

record IsDenial (o : Outcome) : Type 0 where
  rule : Rule
  process : ℕ
  label : Label
  is : o ≡ DeniedBy rule process label

denied_by : (v : Verdict) → by_verdict v ≢ Granted → IsDenial (by_verdict v)
denied_by verdicts.Granted none = absurd (none refl)
denied_by (verdicts.Denied rule process label) none =
    record { rule = rule; process = process; label = label; is = refl }

denial : (wall : ChineseWall) (has : History) (before : ℕ) (roll : Roll) →
    is_constructor roll.sig ≡ false → outcome_of wall has before roll ≢ Granted →
    IsDenial (outcome_of wall has before roll)
denial wall has before roll plain none =
    let is = cond-false (is_constructor roll.sig) (constructor_outcome before (new_comms roll))
    (by_verdict (verdict wall has roll)) plain in
    subst IsDenial (sym is) (denied_by (verdict wall has roll) (λ e. none (is ∙ e)))

module _ (wall : ChineseWall) (run : List Entry) (c k : ℕ) (policy : IsPolicy wall)
    (h : Legal wall run) (f : IsFullCollective wall run c k) where
  counts : AreCounted wall (posts run)
  counts = legal_posts_count wall run h

  judged_by : (o : Outcome) → outcome_at wall c k (posts run) ≡ Some o → IsJudged wall run c k
  judged_by o e = record {
    x = x;
    before = before;
    roll = roll;
    moment = s.moment;
    there = s.there;
    kth = s.kth;
    fills = s.fills;
    same = same;
    exactly = (
      (λ granted. let both = joint.0 granted in
          (each_passed wall x before roll policy counted s.fills both.0, both.1)),
      (λ both. joint.1 (nobody_barred wall x before roll policy counted s.fills both.0, both.1)),
    );
    delivered = λ granted p request rank given untaken member.
        grants_are_delivered wall run p request c k rank given untaken (e ∙ (sym s.came ∙ granted))
        member;
    denied = λ none. (
        let d = denial wall has number roll plain (λ g. none (told ∙ ap (λ n. Some n) g)) in
        let came : outcome wall x before ≡ Some (DeniedBy d.rule d.process d.label) = told ∙ ap
        (λ n. Some n) d.is in
        record {
          rule = d.rule;
          process = d.process;
          label = d.label;
          named = denials_name_the_least wall run x before roll d.rule d.process d.label policy h
              s.moment s.fills came;
          told = λ p request rank given untaken member.
              denials_are_told wall run p request c k d.rule d.process d.label given untaken
              (e ∙ (sym s.came ∙ came));
        });
    unmoved = λ none p d. grants_alone_are_charged wall x before p d none;
  }
    where
      s : IsSettled wall c k (posts run) o
      s = settled_from wall c k (posts run) o e

      x : Post
      x = s.x

      before : List Post
      before = s.before

      roll : Roll
      roll = s.roll

      has : History
      has = labelled (histories wall before) x

      number : ℕ
      number = length (comms wall before)

      counted : AreCounted wall (x ∷ before)
      counted = taken_at wall (posts run) x before s.moment counts

      same : (laws.instance_in wall run c k).roll ≡ roll
      same = settled_roll wall c k o (contributions run) s

      told : outcome wall x before ≡ Some (outcome_of wall has number roll)
      told = ap (λ n. option_map (outcome_of wall has number) n) s.fills

      plain : is_constructor roll.sig ≡ false
      plain =
          ap (λ (r : Roll). is_constructor r.sig)
          (sym same
          ∙ ap (λ n. instance n c k (posts run)) (comm_at_is wall (posts run) c f.comm f.there))
          ∙ f.collective

      joint : (outcome wall x before ≡ Some Granted) ↔
          (NobodyIsBarred roll × MembersStayApart wall has roll)
      joint = grants_are_joint_in_runs wall run x before roll policy h s.moment s.fills plain

  judged_if : (o : Option Outcome) → outcome_at wall c k (posts run) ≡ o → is_some o ≡ true →
      IsJudged wall run c k
  judged_if None e some = absurd (false≢true some)
  judged_if (Some o) e some = judged_by o e

  judged : IsJudged wall run c k
  judged = judged_if (outcome_at wall c k (posts run)) refl
      (full_is_settled wall c k f.comm f.member f.is_member (posts run) counts f.there f.full)

pub headline : Headline
headline = record {
  instances = λ wall run c k policy h f. judged wall run c k policy h f;
  holders = nobody_holds_two_rivals_in_runs;
}
