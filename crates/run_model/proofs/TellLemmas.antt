-- What takes are told: grants, denials, and new communicators.
use Rattle.std.proofs.Common.{◌≡◌, ◌≢◌, ℕ, suc, ◌+◌, List, [], ◌∷◌, ◌++◌, length, refl, sym, ap}
use Rattle.std.proofs.Common.{◌∙◌, subst, arith, Bool, true, false, ◌||◌, ⊎_elim, inl, inr, Option}
use Rattle.std.proofs.Common.{Some, None, slice_get}
use Rattle.std.specs.Prelude.{unwrap_or, nat_lt, if◌then◌else◌}
use Rattle.std.specs.Option.{option_map}
use Rattle.std.proofs.Math.Bool.{or-false}
use Rattle.std.proofs.lemmas.Bool.{cases_Bool, cond-true, cond-false, and_left}
use Rattle.wall_labels.specs.declared.label.Label.{Label}
use Rattle.wall_policy.specs.Policy.{ChineseWall}
use Rattle.wall_rules.specs.Histories.{History}
use Rattle.mpi_elems.specs.Contents.{Contents}
use Rattle.mpi_group.specs.Groups.{rank_in}
use Rattle.mpi_comm.specs.Comms.{fits}
use Rattle.coll_routes.specs.declared.roll.Roll.{Roll}
use Rattle.coll_routes.specs.Signatures.{is_constructor}
use Rattle.coll_values.specs.declared.full.Full.{Full}
use Rattle.coll_values.specs.Values.{value}
use Rattle.wall_rules.specs.declared.rule.Rule.{Rule}
use Rattle.wall_verdict.specs.declared.verdict.Verdict.{Verdict}
use Rattle.wall_verdict.specs.declared.verdict.Verdict.TheVariants as verdicts
use Rattle.wall_verdict.specs.Star.{star}
use Rattle.wall_verdict.specs.Grants.{charged_to}
use Rattle.wall_verdict.specs.Meanings.{IsVerdict}
use Rattle.wall_verdict.specs.Verdicts.{verdict}
use Rattle.wall_verdict.proofs.WallVerdictLemmas.{verdicts_name_the_least}
use Rattle.run_model.specs.declared.outcome.Outcome.{Outcome}
use Rattle.run_model.specs.declared.outcome.Outcome.TheVariants.{Granted, Denied as DeniedBy}
use Rattle.run_model.specs.declared.outcome.Outcome.TheVariants.{Made as MadeComms}
use Rattle.run_model.specs.declared.outcome.Outcome.TheVariants.{NoRoom as NoneMade}
use Rattle.run_model.specs.declared.refusal.Refusal.{Refusal}
use Rattle.run_model.specs.declared.refusal.Refusal.TheVariants.{NoSuchRequest}
use Rattle.run_model.specs.Comms.{Comm, processes, new_comms, added}
use Rattle.run_model.specs.Posts.{Post, comms, filled, labelled, constructor_outcome, by_verdict}
use Rattle.run_model.specs.Posts.{is_granted, with_delivery, histories, outcome_of, outcome}
use Rattle.run_model.specs.Posts.{outcome_at}
use Rattle.run_model.proofs.CountedLemmas.{taken_at, comm_stays}
use Rattle.run_model.proofs.FitLemmas.{filled_is_fit}
use Rattle.run_model.proofs.PostLawLemmas.{granted_is}
use Rattle.run_model.specs.declared.call.Posting.{Posting}
use Rattle.run_model.specs.declared.call.Act.{Act}
use Rattle.run_model.specs.declared.call.Act.TheVariants.{Post as ToPost, Take, Info as ToInfo}
use Rattle.run_model.specs.declared.reply.Reply.{Reply}
use Rattle.run_model.specs.declared.reply.Reply.TheVariants.{Delivered, NewComm, Refused}
use Rattle.run_model.specs.Runs.{Entry, Effects, effects, posts, contributions, label_in, requests}
use Rattle.run_model.specs.Runs.{is_taken}
use Rattle.run_model.specs.Replies.{posts_made, refusal, reply_to_post, join, joined}
use Rattle.run_model.specs.Replies.{reply_by_outcome, reply_to_take, info_by, info_on}
use Rattle.run_model.specs.Replies.{reply_to_info, reply_by, reply, IsAnswer}
use Rattle.run_model.specs.RunLaws as laws
use Rattle.run_model.proofs.CountLemmas.{legal_posts_count}
use Rattle.run_model.proofs.SettledLemmas.{IsSettled, settled_from, settled_roll}

-- ## an untaken request

untaken_reply : (wall : ChineseWall) (run : List Entry) (p r c k : ℕ) (o : Outcome) →
    slice_get (requests p (posts run)) r ≡ Some (c, k) → is_taken p r run ≡ false →
    outcome_at wall c k (posts run) ≡ Some o →
    reply wall run (record { process = p; act = Take r })
    ≡ reply_by_outcome p (laws.instance_in wall run c k) (Some o)
unfolding reply
untaken_reply wall run p r c k o at f e =
    ap (λ n. reply_to_take wall (effects run) p r n) at
    ∙ (cond-false (is_taken p r run) (Refused NoSuchRequest)
    (reply_by_outcome p (laws.instance_in wall run c k) (outcome_at wall c k (posts run))) f
    ∙ ap (λ n. reply_by_outcome p (laws.instance_in wall run c k) n) e)

pub grants_are_delivered : laws.GrantsAreDelivered
grants_are_delivered wall run p r c k rank at f e is =
    untaken_reply wall run p r c k Granted at f e
    ∙ ap (λ (n : Option ℕ). Delivered (value (laws.instance_in wall run c k) (unwrap_or n 0))) is

pub denials_are_told : laws.DenialsAreTold
denials_are_told wall run p r c k rule q label at f e =
    untaken_reply wall run p r c k (DeniedBy rule q label) at f e

-- ## denials

either_made : (fit : Bool) (first number : ℕ) (rule : Rule) (q : ℕ) (label : Label) →
    (if fit then MadeComms first number else NoneMade) ≡ DeniedBy rule q label → ⊥
either_made true first number rule q label e = absurd (cc)
either_made false first number rule q label e = absurd (cc)

verdict_denied : (v : Verdict) (rule : Rule) (q : ℕ) (label : Label) →
    by_verdict v ≡ DeniedBy rule q label → v ≡ verdicts.Denied rule q label
verdict_denied verdicts.Granted rule q label e = absurd (cc)
verdict_denied (verdicts.Denied r p l) rule q label e =
    (let a : r ≡ rule = cc in let b : p ≡ q = cc in let c : l ≡ label = cc in cc)

denied_by : (wall : ChineseWall) (has : History) (before : ℕ) (roll : Roll) (rule : Rule) (q : ℕ)
    (label : Label) → outcome_of wall has before roll ≡ DeniedBy rule q label →
    verdict wall has roll ≡ verdicts.Denied rule q label
denied_by wall has before roll rule q label e = ⊎_elim
    (λ t. absurd (either_made (fits before (length (new_comms roll))) before
    (length (new_comms roll)) rule q label (sym (cond-true (is_constructor roll.sig)
    (constructor_outcome before (new_comms roll))
    (by_verdict (verdict wall has roll)) t) ∙ e)))
    (λ f. verdict_denied (verdict wall has roll) rule q label (sym (cond-false
    (is_constructor roll.sig) (constructor_outcome before (new_comms roll))
    (by_verdict (verdict wall has roll)) f) ∙ e))
    (cases_Bool (is_constructor roll.sig))

outcome_is : (wall : ChineseWall) (x : Post) (before : List Post) (roll : Roll) (o : Outcome) →
    filled (comms wall before) x before ≡ Some roll → outcome wall x before ≡ Some o →
    outcome_of wall (labelled (histories wall before) x) (length (comms wall before)) roll ≡ o
outcome_is wall x before roll o fills came = (let both = sym (ap (λ n.
    option_map
    (outcome_of wall (labelled (histories wall before) x) (length (comms wall before)))
    n) fills) ∙ came in cc)

pub denials_name_the_least : laws.DenialsNameTheLeast
denials_name_the_least wall run x before roll rule q label policy h moment fills came =
    let counts = taken_at wall (posts run) x before moment (legal_posts_count wall run h) in
    let has : History = labelled (histories wall before) x in
    let fit = filled_is_fit wall x before roll policy counts fills in
    let is = denied_by wall has (length (comms wall before)) roll rule q label
    (outcome_is wall x before roll (DeniedBy rule q label) fills came) in
    subst (λ v. IsVerdict wall has roll v) is (verdicts_name_the_least wall has roll fit)

uncharged : (wall : ChineseWall) (has : History) (before : ℕ) (o : Option Roll) (p d : ℕ) →
    option_map (outcome_of wall has before) o ≢ Some Granted →
    with_delivery wall has before o p d ≡ has p d
uncharged wall has before None p d none = refl
uncharged wall has before (Some roll) p d none = ⊎_elim
    (λ t. absurd (none (ap (λ o. Some o) (granted_is (outcome_of wall has before roll) t))))
    (λ f. ap (λ b. has p d || b)
    (and_left (is_granted (outcome_of wall has before roll)) (charged_to wall roll p d) f)
    ∙ or-false (has p d))
    (cases_Bool (is_granted (outcome_of wall has before roll)))

pub grants_alone_are_charged : laws.GrantsAloneAreCharged
grants_alone_are_charged wall x before p d none = uncharged wall
    (labelled (histories wall before) x) (length (comms wall before))
    (filled (comms wall before) x before) p d none

-- ## new communicators

told_comm : Reply → Option (ℕ × ℕ × ℕ)
told_comm (NewComm number rank size) = Some (number, rank, size)
told_comm _ = None

abbrev TellsNone : Reply → Type 0
TellsNone given = told_comm given ≡ None

either_none : (t : Bool) (a b : Reply) → TellsNone a → TellsNone b → TellsNone (if t then a else b)
either_none true a b h k = h
either_none false a b h k = k

post_tells_none :
    (wall : ChineseWall) (m : Effects) (p : ℕ) (posting : Posting) (o : Option Refusal) →
    TellsNone (reply_to_post wall m p posting o)
unfolding told_comm
post_tells_none wall m p posting (Some f) = refl
post_tells_none wall m p posting None =
    either_none (star (histories wall (posts_made m)) p (label_in posting)) _ _ refl refl

info_tells_none : (wall : ChineseWall) (m : Effects) (p c : ℕ) →
    TellsNone (reply_to_info wall m p c)
unfolding told_comm
info_tells_none wall m p c = either_none (nat_lt p (processes wall)) _ _
    (on_comm (slice_get (comms wall (posts_made m)) c)) refl
  where
    by_rank : (comm : Comm) (o : Option ℕ) → TellsNone (info_by comm o)
    by_rank comm None = refl
    by_rank comm (Some rank) = refl

    on_comm : (o : Option Comm) → TellsNone (info_on p o)
    on_comm None = refl
    on_comm (Some comm) = by_rank comm (rank_in comm.members p)

-- a communicator of a list, from this number on
pub record IsOneOf (new : List Comm) (first p number rank size : ℕ) : Type 0 where
  pub i : ℕ
  pub comm : Comm
  pub at : slice_get new i ≡ Some comm
  pub numbered : number ≡ first + i
  pub is_member : rank_in comm.members p ≡ Some rank
  pub count : length comm.members ≡ size

at_first : (first number : ℕ) → first ≡ number → number ≡ first + 0
at_first first number e = omega (arith, e)

next_one : (comm : Comm) (rest : List Comm) (first p number rank size : ℕ) →
    IsOneOf rest (first + 1) p number rank size → IsOneOf (comm ∷ rest) first p number rank size
next_one comm rest first p number rank size h = record {
  i = suc h.i;
  comm = h.comm;
  at = h.at;
  numbered = (let e = h.numbered in omega (arith, e));
  is_member = h.is_member;
  count = h.count;
}

joined_is : (p first : ℕ) (new : List Comm) (number rank size : ℕ) →
    told_comm (joined p first new) ≡ Some (number, rank, size) →
    IsOneOf new first p number rank size
unfolding told_comm
joined_is p first [] number rank size e = absurd (cc)
joined_is p first (comm ∷ rest) number rank size e =
    by_rank (rank_in comm.members p) refl e (joined_is p (first + 1) rest number rank size)
  where
    by_rank : (o : Option ℕ) → rank_in comm.members p ≡ o →
        told_comm (join first comm o (joined p (first + 1) rest)) ≡ Some (number, rank, size) →
        (told_comm (joined p (first + 1) rest) ≡ Some (number, rank, size) →
        IsOneOf rest (first + 1) p number rank size) →
        IsOneOf (comm ∷ rest) first p number rank size
    by_rank (Some r) is e others =
        let same : (first, r, length comm.members) ≡ (number, rank, size) = cc in
        record {
          i = 0;
          comm = comm;
          at = refl;
          numbered = at_first first number (ap (λ (q : ℕ × ℕ × ℕ). q.0) same);
          is_member = is ∙ ap (λ n. Some n) (ap (λ (q : ℕ × ℕ × ℕ). q.1) same);
          count = ap (λ (q : ℕ × ℕ × ℕ). q.2) same;
        }
    by_rank None is e others = next_one comm rest first p number rank size (others e)

-- what an outcome tells of new communicators
pub record IsMade (p : ℕ) (roll : Roll) (o : Option Outcome) (number rank size : ℕ) : Type 0 where
  pub first : ℕ
  pub many : ℕ
  pub came : o ≡ Some (MadeComms first many)
  pub one : IsOneOf (new_comms roll) first p number rank size

outcome_makes : (p : ℕ) (full : Full Contents) (o : Option Outcome) (number rank size : ℕ) →
    told_comm (reply_by_outcome p full o) ≡ Some (number, rank, size) →
    IsMade p full.roll o number rank size
unfolding told_comm
outcome_makes p full None number rank size e = absurd (cc)
outcome_makes p full (Some Granted) number rank size e = absurd (cc)
outcome_makes p full (Some (DeniedBy rule q label)) number rank size e = absurd (cc)
outcome_makes p full (Some (MadeComms first many)) number rank size e =
    record {
      first = first;
      many = many;
      came = refl;
      one = joined_is p first (new_comms full.roll) number rank size e;
    }
outcome_makes p full (Some NoneMade) number rank size e = absurd (cc)

after_prefix : {X : Type 0} (xs ys : List X) (i : ℕ) →
    slice_get (xs ++ ys) (length xs + i) ≡ slice_get ys i
after_prefix [] ys i = ap (slice_get ys) (let e : 0 + i ≡ i = omega arith in e)
after_prefix (x ∷ xs) ys i = ap (slice_get (x ∷ xs ++ ys))
    (let e : suc (length xs) + i ≡ suc (length xs + i) = omega arith in e) ∙ after_prefix xs ys i

fit_made : (fit : Bool) (before many first number : ℕ) →
    (if fit then MadeComms before many else NoneMade) ≡ MadeComms first number →
    (fit ≡ true) × (first ≡ before)
fit_made true before many first number e = (refl, cc)
fit_made false before many first number e = absurd (cc)

pub verdict_makes_none : (v : Verdict) (first number : ℕ) → by_verdict v ≡ MadeComms first number
    → ⊥
verdict_makes_none verdicts.Granted first number e = absurd (cc)
verdict_makes_none (verdicts.Denied rule q label) first number e = absurd (cc)

outcome_made : (wall : ChineseWall) (has : History) (before : ℕ) (roll : Roll) (first number : ℕ) →
    outcome_of wall has before roll ≡ MadeComms first number →
    (fits before (length (new_comms roll)) ≡ true) × (first ≡ before)
outcome_made wall has before roll first number e = ⊎_elim
    (λ t. fit_made (fits before (length (new_comms roll))) before (length (new_comms roll)) first
    number (sym (cond-true (is_constructor roll.sig)
    (constructor_outcome before (new_comms roll))
    (by_verdict (verdict wall has roll)) t) ∙ e))
    (λ f. absurd (verdict_makes_none (verdict wall has roll) first number
    (sym (cond-false (is_constructor roll.sig) (constructor_outcome before (new_comms roll))
    (by_verdict (verdict wall has roll)) f) ∙ e)))
    (cases_Bool (is_constructor roll.sig))

-- the communicators that an instance made are there, from the number on that its outcome says
made_there : (wall : ChineseWall) (run : List Entry) (c k first many : ℕ) →
    (h : IsSettled wall c k (posts run) (MadeComms first many)) → (i : ℕ) (comm : Comm) →
    slice_get (new_comms h.roll) i ≡ Some comm →
    slice_get (comms wall (posts run)) (first + i) ≡ Some comm
made_there wall run c k first many h i comm at =
    let table = comms wall h.before in
    let is = outcome_made wall (labelled (histories wall h.before) h.x) (length table) h.roll first
    many (outcome_is wall h.x h.before h.roll (MadeComms first many) h.fills h.came) in
    let adds : added (length table) (filled table h.x h.before) ≡ new_comms h.roll = ap
    (λ o. added (length table) o) h.fills ∙ cond-true
    (fits (length table) (length (new_comms h.roll))) (new_comms h.roll) [] is.0 in
    let after : slice_get (comms wall (h.x ∷ h.before)) (first + i) ≡ Some comm =
    ap (λ new. slice_get (table ++ new) (first + i)) adds
    ∙ (ap (λ n. slice_get (table ++ new_comms h.roll) (n + i)) is.1
    ∙ (after_prefix table (new_comms h.roll) i ∙ at)) in
    ap (λ ps. slice_get (comms wall ps) (first + i)) (sym h.moment.1)
    ∙ comm_stays wall h.moment.0 (h.x ∷ h.before) (first + i) comm after

module _ (wall : ChineseWall) (run : List Entry) (p number rank size : ℕ) where
  take_is_in : (r : ℕ) (o : Option (ℕ × ℕ)) →
      told_comm (reply_to_take wall (effects run) p r o) ≡ Some (number, rank, size) →
      laws.IsIn wall run p number rank size
  unfolding told_comm
  take_is_in r None e = absurd (cc)
  take_is_in r (Some (c, k)) e = ⊎_elim
      (λ t. let refused = sym (ap told_comm (cond-true (is_taken p r run) (Refused NoSuchRequest)
      (reply_by_outcome p (laws.instance_in wall run c k)
      (outcome_at wall c k (posts run))) t)) ∙ e in absurd (cc))
      (λ f.
      let told = outcome_makes p (laws.instance_in wall run c k) (outcome_at wall c k (posts run))
      number rank size (sym (ap told_comm (cond-false (is_taken p r run) (Refused NoSuchRequest)
      (reply_by_outcome p (laws.instance_in wall run c k)
      (outcome_at wall c k (posts run))) f)) ∙ e) in
      let h = settled_from wall c k (posts run) (MadeComms told.first told.many) told.came in
      let at : slice_get (new_comms h.roll) told.one.i ≡ Some told.one.comm = ap
      (λ (q : Roll). slice_get (new_comms q) told.one.i)
      (sym (settled_roll wall c k (MadeComms told.first told.many) (contributions run) h)) ∙
      told.one.at in
      record {
        comm = told.one.comm;
        there = ap (λ n. slice_get (comms wall (posts run)) n) told.one.numbered
            ∙ made_there wall run c k told.first told.many h told.one.i told.one.comm at;
        is_member = told.one.is_member;
        count = told.one.count;
      })
      (cases_Bool (is_taken p r run))

  act_is_in : (act : Act) →
      told_comm (reply_by wall (effects run) p act) ≡ Some (number, rank, size) →
      laws.IsIn wall run p number rank size
  act_is_in (ToPost posting) e = (let none = sym
      (post_tells_none wall (effects run) p posting (refusal wall (effects run) p posting)) ∙ e
      in absurd (cc))
  act_is_in (Take r) e = take_is_in r (slice_get (requests p (posts run)) r) e
  act_is_in (ToInfo c) e =
      (let none = sym (info_tells_none wall (effects run) p c) ∙ e in absurd (cc))

answer_tells : (due given : Reply) (number rank size : ℕ) → IsAnswer due given →
    given ≡ NewComm number rank size → told_comm due ≡ Some (number, rank, size)
unfolding told_comm
answer_tells due given number rank size (inl e) is = ap told_comm (sym e ∙ is)
answer_tells due given number rank size (inr e) is = (let both = sym e.1 ∙ is in absurd (cc))

pub new_comms_are_there : laws.NewCommsAreThere
unfolding reply
new_comms_are_there wall run e number rank size h is = act_is_in wall run e.call.process number rank
    size e.call.act (answer_tells (reply_by wall (effects run) e.call.process e.call.act) e.reply
    number rank size h.1 is)
