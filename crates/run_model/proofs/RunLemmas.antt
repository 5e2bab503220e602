-- Laws over all legal runs, from those over posts that count.
use Rattle.std.proofs.Common.{◌≡◌, ℕ, ◌+◌, List, [], ◌∷◌, ◌++◌, length, refl, sym, ap, ◌∙◌, subst}
use Rattle.std.proofs.Common.{Bool, true, false, ⊎_elim, inl, inr, Option, Some, None, slice_get}
use Rattle.std.proofs.Common.{append_assoc}
use Rattle.std.specs.Prelude.{unwrap_or, if◌then◌else◌}
use Rattle.std.specs.Option.{option_map}
use Rattle.std.proofs.lemmas.Bool.{cases_Bool, cond-true, cond-false, false≢true, or_right}
use Rattle.std.proofs.lemmas.List.{append-nil}
use Rattle.std.proofs.lemmas.List.Elements.{filter_map-append}
use Rattle.wall_policy.specs.Policy.{ChineseWall}
use Rattle.wall_rules.specs.Histories.{History, NobodyHoldsRivals}
use Rattle.wall_rules.proofs.WallRulesLemmas.{no_rivals-part}
use Rattle.mpi_elems.specs.Contents.{Contents}
use Rattle.mpi_elems.specs.declared.elem_type.ElemType.{ElemType}
use Rattle.mpi_group.specs.Groups.{rank_in}
use Rattle.coll_routes.specs.declared.roll.Roll.{Roll}
use Rattle.coll_routes.specs.declared.signature.Signature.{Signature}
use Rattle.coll_routes.specs.declared.statement.Own.{Own}
use Rattle.coll_routes.specs.declared.statement.Stated.{Stated}
use Rattle.coll_routes.specs.declared.fault.ShapeFault.{ShapeFault}
use Rattle.coll_routes.specs.declared.fault.ShapeFault.TheVariants as shapes
use Rattle.coll_routes.specs.Signatures.{is_constructor}
use Rattle.coll_routes.specs.Faults.{shape_fault}
use Rattle.coll_values.specs.declared.full.Full.{Full}
use Rattle.coll_values.specs.declared.delivery.Block.{Block}
use Rattle.coll_values.specs.Values.{value}
use Rattle.coll_values.proofs.CollValuesLemmas.{values_are_of_routed_elements}
use Rattle.wall_verdict.specs.declared.verdict.Verdict.TheVariants as verdicts
use Rattle.wall_verdict.specs.Star.{star}
use Rattle.wall_verdict.specs.Verdicts.{verdict}
use Rattle.wall_verdict.proofs.WallVerdictLemmas.{grants_are_joint}
use Rattle.run_model.specs.declared.outcome.Outcome.{Outcome}
use Rattle.run_model.specs.declared.outcome.Outcome.TheVariants.{Granted, Denied as DeniedBy}
use Rattle.run_model.specs.declared.outcome.Outcome.TheVariants.{Made as MadeComms}
use Rattle.run_model.specs.declared.outcome.Outcome.TheVariants.{NoRoom as NoneMade}
use Rattle.run_model.specs.declared.refusal.Refusal.{Refusal}
use Rattle.run_model.specs.declared.refusal.Refusal.TheVariants.{NoMemory}
use Rattle.run_model.specs.Comms.{Comm, processes, shape_of, new_comms}
use Rattle.run_model.specs.Posts.{Post, comms, filled, labelled, constructor_outcome, by_verdict}
use Rattle.run_model.specs.Posts.{is_granted, histories, outcome_of, outcome, outcome_at}
use Rattle.run_model.specs.Refusals.{refused_for, mismatches, or_else, fault_as, fault_on, fault}
use Rattle.run_model.specs.Books.{book, entries_for, AreCounted}
use Rattle.run_model.proofs.CountedLemmas.{comms_stay, taken_at}
use Rattle.run_model.proofs.FitLemmas.{filled_is_fit}
use Rattle.run_model.proofs.PostLawLemmas.{grow, delivery_keeps, outcome_granted}
use Rattle.run_model.proofs.PostLawLemmas.{posts_keep_the_wall}
use Rattle.run_model.proofs.HoldingLemmas.{holding_is_history, nobody_holds_two_rivals}
use Rattle.run_model.proofs.BookLemmas.{books_of_posts_are_sound}
use Rattle.run_model.specs.Contributions.{Contribution, posts_of, full_at}
use Rattle.run_model.specs.declared.call.Posting.{Posting}
use Rattle.run_model.specs.declared.call.Act.{Act}
use Rattle.run_model.specs.declared.call.Act.TheVariants.{Post as ToPost, Take, Info as ToInfo}
use Rattle.run_model.specs.declared.reply.Reply.{Reply}
use Rattle.run_model.specs.declared.reply.Reply.TheVariants.{Posted, Barred, Pending, Delivered}
use Rattle.run_model.specs.declared.reply.Reply.TheVariants.{NewComm, NullComm, Denied, NoRoom}
use Rattle.run_model.specs.declared.reply.Reply.TheVariants.{Info, Refused}
use Rattle.run_model.specs.Runs.{Entry, Effects, effects, posts, contributions, contribution_in}
use Rattle.run_model.specs.Runs.{contribution_by, label_in, given_in, statement, requests, is_taken}
use Rattle.run_model.specs.Replies.{posts_made, too_many, refusal, reply_to_post, join, joined}
use Rattle.run_model.specs.Replies.{reply_by_outcome, comm_at, reply_to_take, info_by, info_on}
use Rattle.run_model.specs.Replies.{reply_to_info, reply_by, reply, may_lack_memory, IsAnswer}
use Rattle.run_model.specs.Replies.{Legal}
use Rattle.run_model.specs.RunLaws as laws
use Rattle.run_model.proofs.CountLemmas.{legal_posts_count}
use Rattle.run_model.proofs.RequestLemmas.{request_member}
use Rattle.run_model.proofs.SettledLemmas.{settled_later, instance_later, comm_at_is}
use Rattle.run_model.proofs.EffectLemmas.{after_nothing}
use Rattle.run_model.proofs.ProperLemmas.{legal_proper}
use Rattle.run_model.proofs.WholeLemmas.{granted_whole}

-- ## fronts

pub prefixes_are_legal : laws.PrefixesAreLegal
prefixes_are_legal wall [] run h = h
prefixes_are_legal wall (e ∷ later) run h = prefixes_are_legal wall later run h.0

givens-append : (later run : List Entry) →
    contributions (later ++ run) ≡ contributions later ++ contributions run
givens-append later run = filter_map-append contribution_in later run

posts_of-append : (later past : List (Contribution Contents)) →
    posts_of (later ++ past) ≡ posts_of later ++ posts_of past
posts_of-append [] past = refl
posts_of-append (g ∷ later) past = ap (λ ps. g.post ∷ ps) (posts_of-append later past)

pub posts-append : (later run : List Entry) → posts (later ++ run) ≡ posts later ++ posts run
posts-append later run = ap (λ gs. posts_of gs) (givens-append later run)
    ∙ posts_of-append (contributions later) (contributions run)

counted_later : (wall : ChineseWall) (later run : List Entry) → Legal wall (later ++ run) →
    AreCounted wall (posts later ++ posts run)
counted_later wall later run h =
    subst (AreCounted wall) (posts-append later run) (legal_posts_count wall (later ++ run) h)

-- ## histories, communicators and books

pub histories_grow : laws.HistoriesGrow
histories_grow wall run later p d h = subst (λ ps. histories wall ps p d ≡ true)
    (sym (posts-append later run)) (grow wall (posts later) (posts run) p d h)

pub legal_runs_keep_the_wall : laws.LegalRunsKeepTheWall
legal_runs_keep_the_wall wall run policy h =
    posts_keep_the_wall wall (posts run) policy (legal_posts_count wall run h)

pub holding_is_history_in_runs : laws.HoldingIsHistory
holding_is_history_in_runs wall later run h =
    holding_is_history wall (posts later) (posts run) (counted_later wall later run h)

pub nobody_holds_two_rivals_in_runs : laws.NobodyHoldsTwoRivals
nobody_holds_two_rivals_in_runs wall later run policy h =
    nobody_holds_two_rivals wall (posts later) (posts run) policy (counted_later wall later run h)

pub communicators_stay : laws.CommunicatorsStay
communicators_stay wall later run =
    let more = comms_stay wall (posts later) (posts run) in
    (more.0, ap (λ ps. comms wall ps) (posts-append later run) ∙ more.1)

pub books_are_sound : laws.BooksAreSound
books_are_sound wall run h =
    books_of_posts_are_sound wall (posts run) (legal_posts_count wall run h)

pub book_grows : (wall : ChineseWall) (later past : List Post) →
    (rest : List _) × (book wall (later ++ past) ≡ book wall past ++ rest)
book_grows wall [] past = ([], sym (append-nil (book wall past)))
book_grows wall (x ∷ later) past =
    let old = book_grows wall later past in
    let more = entries_for wall x (later ++ past) in
    (old.0 ++ more, ap (λ es. es ++ more) old.1 ∙ append_assoc (book wall past) old.0 more)

pub books_grow : laws.BooksGrow
books_grow wall later run =
    let more = book_grows wall (posts later) (posts run) in
    (more.0, ap (λ ps. book wall ps) (posts-append later run) ∙ more.1)

-- ## words

pub words_are_of_the_star_rule : laws.WordsAreOfTheStarRule
words_are_of_the_star_rule wall later run e posting barred h is =
    let prefix = prefixes_are_legal wall later (e ∷ run) h in
    let now : posts (e ∷ run) ≡ record
    { process = e.call.process; comm = posting.comm; stated = statement posting barred } ∷ posts
    run = ap (λ o. posts_of (Rattle.std.specs.List.cons_option
    (contribution_by e.call.process o) (contributions run))) is in
    (subst (AreCounted wall) now (legal_posts_count wall (e ∷ run) prefix)).1.word

-- ## requests that were taken

pub taken_requests_stay_taken : laws.TakenRequestsStayTaken
taken_requests_stay_taken [] run p r h = h
taken_requests_stay_taken (e ∷ later) run p r h =
    or_right _ (is_taken p r (later ++ run)) (taken_requests_stay_taken later run p r h)

pub taken_requests_were_given : laws.TakenRequestsWereGiven
taken_requests_were_given wall run p r h t = (legal_proper wall run h).given p r t

pub legal_runs_make_proper : laws.LegalRunsMakeProper
legal_runs_make_proper wall run h = legal_proper wall run h

pub refused_calls_make_nothing : laws.RefusedCallsMakeNothing
refused_calls_make_nothing run e h = after_nothing (effects run) e.call.process e.call.act e.reply h

-- ## instances

pub outcomes_stay : laws.OutcomesStay
outcomes_stay wall later run c k o h e = (
  ap (λ ps. outcome_at wall c k ps) (posts-append later run)
      ∙ settled_later wall c k o (posts later) (posts run) (counted_later wall later run h) e,
  ap (λ gs. full_at (comm_at wall (posts_of gs) c) c k gs) (givens-append later run)
      ∙ instance_later wall c k o (contributions later) (contributions run) e,
)

pub granted_instances_are_whole : laws.GrantedInstancesAreWhole
granted_instances_are_whole wall run c k policy h e =
    let proper = legal_proper wall run h in
    granted_whole wall (contributions run) c k policy proper.posts proper.parts e

pub values_of_routed_elements : laws.ValuesAreOfRoutedElements
values_of_routed_elements wall run other c k j agree = values_are_of_routed_elements
    (laws.instance_in wall run c k) (laws.instance_in wall other c k) j agree

granted_by : (wall : ChineseWall) (has : History) (before : ℕ) (roll : Roll) →
    is_constructor roll.sig ≡ false → verdict wall has roll ≡ verdicts.Granted →
    outcome_of wall has before roll ≡ Granted
granted_by wall has before roll plain v = cond-false (is_constructor roll.sig)
    (constructor_outcome before (new_comms roll)) (by_verdict (verdict wall has roll)) plain
    ∙ ap by_verdict v

pub grants_are_joint_in_runs : laws.GrantsAreJoint
grants_are_joint_in_runs wall run x before roll policy h moment fills plain =
    let counts = taken_at wall (posts run) x before moment (legal_posts_count wall run h) in
    let has : History = labelled (histories wall before) x in
    let number = length (comms wall before) in
    let fit = filled_is_fit wall x before roll policy counts fills in
    let apart : NobodyHoldsRivals wall.classes has = λ p. no_rivals-part wall.classes
    (histories wall (x ∷ before) p) (has p)
    (posts_keep_the_wall wall (x ∷ before) policy counts p)
    (λ d held. delivery_keeps wall has number (filled (comms wall before) x before) p d held) in
    let joint = grants_are_joint wall has roll fit apart in
    let told : outcome wall x before ≡ Some (outcome_of wall has number roll) = ap
    (λ o. option_map (outcome_of wall has number) o) fills in (
      (λ granted. joint.0 (outcome_granted wall has number roll (ap is_granted
          (let same : outcome_of wall has number roll ≡ Granted =
          (let both = sym told ∙ granted in cc) in same))).1),
      (λ both. told ∙ ap (λ o. Some o) (granted_by wall has number roll plain (joint.1 both))),
    )

-- ## which reply is due

pub one_reply_is_due : laws.OneReplyIsDue
one_reply_is_due wall run call given (inl e) some = e
one_reply_is_due wall run call given (inr e) some = absurd (some e.1)

-- the reply is out of memory
wants : Reply → Bool
wants (Refused NoMemory) = true
wants _ = false

wants_in : Option Refusal → Bool
wants_in (Some NoMemory) = true
wants_in _ = false

none_of_two : (a b : Option Refusal) → wants_in a ≡ false → wants_in b ≡ false →
    wants_in (or_else a b) ≡ false
none_of_two (Some f) b h k = h
none_of_two None b h k = k

either : (t : Bool) (a b : Option Refusal) → wants_in a ≡ false → wants_in b ≡ false →
    wants_in (if t then a else b) ≡ false
either true a b h k = h
either false a b h k = k

no_shape : (o : Option ShapeFault) → wants_in (option_map refused_for o) ≡ false
unfolding wants_in
no_shape None = refl
no_shape (Some shapes.NoTopology) = refl
no_shape (Some shapes.BadRoot) = refl
no_shape (Some shapes.BadOp) = refl
no_shape (Some shapes.BadCount) = refl
no_shape (Some shapes.BadColour) = refl
no_shape (Some shapes.NotSubgroup) = refl
no_shape (Some shapes.BadDims) = refl

no_fault_as : (comm : Comm) (o : Option ℕ) (sig : Signature) (own : Own) (ty : ElemType) (given : ℕ)
    (stated : List (Option Stated)) →
    wants_in (fault_as comm o sig own ty given stated) ≡ false
unfolding wants_in
no_fault_as comm None sig own ty given stated = refl
no_fault_as comm (Some rank) sig own ty given stated = none_of_two _ _
    (no_shape (shape_fault (shape_of comm) rank sig own ty given))
    (either (mismatches sig stated) _ _ refl refl)

no_fault_on : (past : List Post) (p c : ℕ) (o : Option Comm) (sig : Signature) (own : Own)
    (ty : ElemType) (given : ℕ) → wants_in (fault_on past p c o sig own ty given) ≡ false
unfolding wants_in
no_fault_on past p c None sig own ty given = refl
no_fault_on past p c (Some comm) sig own ty given =
    no_fault_as comm (rank_in comm.members p) sig own ty given _

no_fault : (wall : ChineseWall) (past : List Post) (p c : ℕ) (sig : Signature) (own : Own)
    (ty : ElemType) (given : ℕ) → wants_in (fault wall past p c sig own ty given) ≡ false
unfolding fault wants_in
no_fault wall past p c sig own ty given = either
    (Rattle.std.specs.Prelude.nat_lt p (processes wall)) _ _
    (no_fault_on past p c (slice_get (comms wall past) c) sig own ty given) refl

no_refusal : (wall : ChineseWall) (m : Effects) (p : ℕ) (posting : Posting) →
    wants_in (refusal wall m p posting) ≡ false
unfolding wants_in
no_refusal wall m p posting = none_of_two _ _ (no_fault wall (posts_made m) p posting.comm
    posting.sig posting.own posting.elements.elem_type (given_in posting))
    (either (too_many p m) _ _ refl refl)

either_reply : (t : Bool) (a b : Reply) → wants a ≡ false → wants b ≡ false →
    wants (if t then a else b) ≡ false
either_reply true a b h k = h
either_reply false a b h k = k

no_post : (wall : ChineseWall) (m : Effects) (p : ℕ) (posting : Posting) (o : Option Refusal) →
    wants_in o ≡ false → wants (reply_to_post wall m p posting o) ≡ false
unfolding wants wants_in
no_post wall m p posting (Some f) h = by_refusal f h
  where
    by_refusal : (f : Refusal) → wants_in (Some f) ≡ false → wants (Refused f) ≡ false
    by_refusal NoMemory h = h
    by_refusal _ h = refl
no_post wall m p posting None h =
    either_reply (star (histories wall (posts_made m)) p (label_in posting)) _ _ refl refl

no_join : (p first : ℕ) (new : List Comm) → wants (joined p first new) ≡ false
unfolding wants
no_join p first [] = refl
no_join p first (comm ∷ rest) = by_rank (rank_in comm.members p) (no_join p (first + 1) rest)
  where
    by_rank : (o : Option ℕ) → wants (joined p (first + 1) rest) ≡ false →
        wants (join first comm o (joined p (first + 1) rest)) ≡ false
    by_rank (Some rank) others = refl
    by_rank None others = others

no_outcome : (p : ℕ) (full : Full Contents) (o : Option Outcome) →
    wants (reply_by_outcome p full o) ≡ false
unfolding wants
no_outcome p full None = refl
no_outcome p full (Some Granted) = refl
no_outcome p full (Some (DeniedBy rule q label)) = refl
no_outcome p full (Some (MadeComms first number)) = no_join p first (new_comms full.roll)
no_outcome p full (Some NoneMade) = refl

no_take : (wall : ChineseWall) (m : Effects) (p r : ℕ) (o : Option (ℕ × ℕ)) →
    wants (reply_to_take wall m p r o) ≡ false
unfolding wants
no_take wall m p r None = refl
no_take wall m p r (Some (c, k)) = either_reply (m.taken p r) _ _ refl
    (no_outcome p (full_at (comm_at wall (posts_made m) c) c k m.contributions)
    (outcome_at wall c k (posts_made m)))

no_info_by : (comm : Comm) (o : Option ℕ) → wants (info_by comm o) ≡ false
unfolding wants
no_info_by comm None = refl
no_info_by comm (Some rank) = refl

no_info_on : (p : ℕ) (o : Option Comm) → wants (info_on p o) ≡ false
unfolding wants
no_info_on p None = refl
no_info_on p (Some comm) = no_info_by comm (rank_in comm.members p)

no_want : (wall : ChineseWall) (m : Effects) (p : ℕ) (act : Act) →
    wants (reply_by wall m p act) ≡ false
unfolding wants
no_want wall m p (ToPost posting) =
    no_post wall m p posting (refusal wall m p posting) (no_refusal wall m p posting)
no_want wall m p (Take r) = no_take wall m p r (slice_get (requests p (posts_made m)) r)
no_want wall m p (ToInfo c) = either_reply (Rattle.std.specs.Prelude.nat_lt p (processes wall)) _ _
    (no_info_on p (slice_get (comms wall (posts_made m)) c)) refl

pub out_of_memory_is_never_due : laws.OutOfMemoryIsNeverDue
unfolding wants reply
out_of_memory_is_never_due wall run call e =
    false≢true (sym (no_want wall (effects run) call.process call.act) ∙ ap wants e)

needs_memory : (due : Reply) → may_lack_memory due ≡ true → laws.NeedsMemory due
needs_memory (Posted request) h = tt
needs_memory (Barred request label) h = tt
needs_memory (Delivered delivery) h = tt
needs_memory Pending h = absurd (false≢true h)
needs_memory (NewComm c r n) h = absurd (false≢true h)
needs_memory NullComm h = absurd (false≢true h)
needs_memory (Denied rule p label) h = absurd (false≢true h)
needs_memory NoRoom h = absurd (false≢true h)
needs_memory (Info size rank dims) h = absurd (false≢true h)
needs_memory (Refused refusal) h = absurd (false≢true h)

pub out_of_memory_is_of_growth : laws.OutOfMemoryIsOfGrowth
out_of_memory_is_of_growth wall run e h is = ⊎_elim
    (λ due. absurd (out_of_memory_is_never_due wall run e.call (sym due ∙ is)))
    (λ (other : (may_lack_memory (reply wall run e.call) ≡ true) × (e.reply ≡ Refused NoMemory)).
    needs_memory (reply wall run e.call) other.0) h.1

-- ## what is delivered

-- the blocks of a delivery
blocks_in : Reply → Option (List Block)
blocks_in (Delivered blocks) = Some blocks
blocks_in _ = None

either_none : (t : Bool) (a b : Reply) → blocks_in a ≡ None → blocks_in b ≡ None →
    blocks_in (if t then a else b) ≡ None
either_none true a b h k = h
either_none false a b h k = k

post_delivers_none :
    (wall : ChineseWall) (m : Effects) (p : ℕ) (posting : Posting) (o : Option Refusal) →
    blocks_in (reply_to_post wall m p posting o) ≡ None
unfolding blocks_in
post_delivers_none wall m p posting (Some f) = refl
post_delivers_none wall m p posting None =
    either_none (star (histories wall (posts_made m)) p (label_in posting)) _ _ refl refl

info_delivers_none : (wall : ChineseWall) (m : Effects) (p c : ℕ) →
    blocks_in (reply_to_info wall m p c) ≡ None
unfolding blocks_in
info_delivers_none wall m p c = either_none (Rattle.std.specs.Prelude.nat_lt p (processes wall)) _ _
    (on_comm (slice_get (comms wall (posts_made m)) c)) refl
  where
    by_rank : (comm : Comm) (o : Option ℕ) → blocks_in (info_by comm o) ≡ None
    by_rank comm None = refl
    by_rank comm (Some rank) = refl

    on_comm : (o : Option Comm) → blocks_in (info_on p o) ≡ None
    on_comm None = refl
    on_comm (Some comm) = by_rank comm (rank_in comm.members p)

join_delivers_none : (p first : ℕ) (new : List Comm) → blocks_in (joined p first new) ≡ None
unfolding blocks_in
join_delivers_none p first [] = refl
join_delivers_none p first (comm ∷ rest) =
    by_rank (rank_in comm.members p) (join_delivers_none p (first + 1) rest)
  where
    by_rank : (o : Option ℕ) → blocks_in (joined p (first + 1) rest) ≡ None →
        blocks_in (join first comm o (joined p (first + 1) rest)) ≡ None
    by_rank (Some rank) others = refl
    by_rank None others = others

outcome_delivers : (p : ℕ) (full : Full Contents) (o : Option Outcome) (blocks : List Block) →
    blocks_in (reply_by_outcome p full o) ≡ Some blocks →
    (o ≡ Some Granted) × (blocks ≡ value full (unwrap_or (rank_in full.roll.members p) 0))
unfolding blocks_in
outcome_delivers p full None blocks e = absurd (cc)
outcome_delivers p full (Some Granted) blocks e = (refl, cc)
outcome_delivers p full (Some (DeniedBy rule q label)) blocks e = absurd (cc)
outcome_delivers p full (Some (MadeComms first number)) blocks e =
    (let none = sym (join_delivers_none p first (new_comms full.roll)) ∙ e in absurd (cc))
outcome_delivers p full (Some NoneMade) blocks e = absurd (cc)

module _ (wall : ChineseWall) (run : List Entry) (p : ℕ) (h : Legal wall run) where
  take_delivers : (r : ℕ) (blocks : List Block) (o : Option (ℕ × ℕ)) →
      slice_get (requests p (posts run)) r ≡ o →
      blocks_in (reply_to_take wall (effects run) p r o) ≡ Some blocks →
      laws.IsDelivered wall run p (Take r) blocks
  unfolding blocks_in
  take_delivers r blocks None at e = absurd (cc)
  take_delivers r blocks (Some (c, k)) at e = ⊎_elim
      (λ t. let refused = sym (ap blocks_in (cond-true (is_taken p r run)
      (Refused
      Rattle.run_model.specs.declared.refusal.Refusal.TheVariants.NoSuchRequest)
      _ t)) ∙ e in absurd (cc))
      (λ f.
      let told = outcome_delivers p (laws.instance_in wall run c k)
      (outcome_at wall c k (posts run)) blocks (sym (ap blocks_in
      (cond-false (is_taken p r run) (Refused
      Rattle.run_model.specs.declared.refusal.Refusal.TheVariants.NoSuchRequest)
      _ f)) ∙ e) in
      let is = request_member wall (posts run) p r (c, k) (legal_posts_count wall run h) at in
      let rank : rank_in (comm_at wall (posts run) c).members p ≡ Some is.rank = ap
      (λ (n : Comm). rank_in n.members p) (comm_at_is wall (posts run) c is.comm is.at) ∙
      is.is_member in
      record {
        request = r;
        comm = c;
        k = k;
        rank = is.rank;
        takes = refl;
        given = at;
        untaken = f;
        granted = told.0;
        is_member = rank;
        blocks_are = told.1
            ∙ ap (λ (n : Option ℕ). value (laws.instance_in wall run c k) (unwrap_or n 0)) rank;
      })
      (cases_Bool (is_taken p r run))

  act_delivers : (act : Act) (blocks : List Block) →
      blocks_in (reply_by wall (effects run) p act) ≡ Some blocks →
      laws.IsDelivered wall run p act blocks
  act_delivers (ToPost posting) blocks e = (let none = sym
      (post_delivers_none wall (effects run) p posting (refusal wall (effects run) p posting)) ∙
      e in absurd (cc))
  act_delivers (Take r) blocks e =
      take_delivers r blocks (slice_get (requests p (posts run)) r) refl e
  act_delivers (ToInfo c) blocks e =
      (let none = sym (info_delivers_none wall (effects run) p c) ∙ e in absurd (cc))

answer_delivers : (due given : Reply) (blocks : List Block) → IsAnswer due given →
    given ≡ Delivered blocks → blocks_in due ≡ Some blocks
unfolding blocks_in
answer_delivers due given blocks (inl e) is = ap blocks_in (sym e ∙ is)
answer_delivers due given blocks (inr e) is = (let both = sym e.1 ∙ is in absurd (cc))

pub deliveries_are_of_grants : laws.DeliveriesAreOfGrants
unfolding reply
deliveries_are_of_grants wall run e blocks h is = act_delivers wall run e.call.process h.0
    e.call.act blocks
    (answer_delivers (reply_by wall (effects run) e.call.process e.call.act) e.reply blocks h.1 is)
