-- What a post answers, and what it makes of a hall.
use Rattle.std.proofs.Common.{◌≡◌, ℕ, ◌<◌, ◌≤◌, Bool, true, false, not, List, ◌++◌, length, refl}
use Rattle.std.proofs.Common.{sym, ap, ◌∙◌, subst, Option, Some, None, slice_get}
use Rattle.std.proofs.Common.{⊎_elim, inl, inr, cond, ltb-true}
use Rattle.std.specs.Prelude.{nat_lt, if◌then◌else◌}
use Rattle.std.proofs.lemmas.Bool.{cases_Bool, cond-false, and_from}
use Rattle.wall_labels.specs.declared.label.Label.{Label}
use Rattle.wall_policy.specs.Policy.{ChineseWall}
use Rattle.mpi_elems.specs.Contents.{Contents}
use Rattle.mpi_elems.specs.declared.elem_type.ElemType.{ElemType}
use Rattle.mpi_group.specs.Groups.{rank_in}
use Rattle.coll_routes.specs.declared.signature.Signature.{Signature}
use Rattle.coll_routes.specs.declared.statement.Own.{Own}
use Rattle.coll_routes.specs.declared.statement.Stated.{Stated}
use Rattle.coll_routes.specs.Faults.{shape_fault, stated_type}
use Rattle.wall_verdict.specs.Star.{star}
use Rattle.run_model.specs.declared.refusal.Refusal.{Refusal}
use Rattle.run_model.specs.declared.refusal.Refusal.TheVariants.{NoSuchProcess, TooManyRequests}
use Rattle.run_model.specs.declared.refusal.Refusal.TheVariants.{NoMemory}
use Rattle.run_model.specs.declared.entry.Entry.TheVariants.{Posted as EntryPosted}
use Rattle.run_model.specs.Comms.{Comm, processes, shape_of}
use Rattle.run_model.specs.Posts.{place, histories}
use Rattle.run_model.specs.Refusals.{or_else, fault}
use Rattle.run_model.specs.EntryForms.{HasForm}
use Rattle.run_model.proofs.RunModelLemmas.{accepted as accepted_by, no_fault_has, fault_spared}
use Rattle.run_model.proofs.RunModelLemmas.{taken, given_of, entry_of, after_posted, after_barred}
use Rattle.run_model.proofs.RunModelLemmas.{after_refused}
use Rattle.run_state.specs.declared.entered.Entered.{Entered}
use Rattle.run_state.specs.declared.entered.Entered.TheVariants.{Waiting, Settled}
use Rattle.run_model.specs.Contributions.{Contribution, posts_of}
use Rattle.run_state.specs.declared.seat.Seat.{Seat}
use Rattle.run_state.specs.Views.{PostStateView, fault_of, fault_on, LookedAt}
use Rattle.run_state.specs.Stands.{Tells}
use Rattle.run_model.specs.declared.call.Posting.{Posting}
use Rattle.run_model.specs.declared.call.Act.TheVariants.{Post as ToPost}
use Rattle.run_model.specs.declared.reply.Reply.{Reply}
use Rattle.run_model.specs.declared.reply.Reply.TheVariants.{Refused}
use Rattle.run_model.specs.Runs.{Effects, requests, given_in, label_in, statement}
use Rattle.run_model.specs.Runs.{with_contribution, after_entry}
use Rattle.run_model.specs.Replies.{posts_made, refusal, too_many, is_limit_reached, accepted}
use Rattle.run_model.specs.Replies.{reply_to_post, reply_by, may_lack_memory, IsAnswer}
use Rattle.hall_core.specs.declared.settled.Settlement.{Settlement}
use Rattle.hall_core.specs.Asking.{open_number}
use Rattle.hall_core.specs.Halls.{HallView, StandsForEffects}
use Rattle.hall_core.specs.Moves.{number_in, IsSettledBy, IsRecorded}
use Rattle.hall_core.proofs.RequestLemmas.{over_is}
use Rattle.hall_core.proofs.FormLemmas.{few_given, met, formed}

-- ## refusals

or_both : (o m : Option Refusal) → or_else o m ≡ None → (o ≡ None) × (m ≡ None)
or_both (Some f) m h = absurd (cc)
or_both None m h = (refl, h)

pub refusal_is : (hall : HallView) (m : Effects) → StandsForEffects hall m →
    (p : ℕ) (posting : Posting) →
    fault hall.policy (posts_made m) p posting.comm posting.sig posting.own
    posting.elements.elem_type (given_in posting) ≡ None →
    cond (is_limit_reached (open_number (hall.asked p)) (length (hall.asked p)))
    (Some TooManyRequests) None ≡ refusal hall.policy m p posting
refusal_is hall m stands p posting none =
    ap (λ b. cond {A = Option Refusal} b (Some TooManyRequests) None) (over_is hall m stands p)
    ∙ ap (λ o. or_else o (if too_many p m then Some TooManyRequests else None)) (sym none)

-- ## a posting that the state does not refuse

-- its process is one of the policy
pub known_process : (wall : ChineseWall) (seen : PostStateView Contents) (p c : ℕ)
    (sig : Signature) (own : Own) (ty : ElemType) (given : ℕ) →
    fault_of wall seen p c sig own ty given ≡ None → p < processes wall
known_process wall seen p c sig own ty given e = ⊎_elim
    (λ t. ltb-true p (processes wall) t)
    (λ f. let some = sym (cond-false (nat_lt p (processes wall))
    (fault_on seen.waiting p c (slice_get seen.comms c) sig own ty given)
    (Some NoSuchProcess) f) ∙ e in absurd (cc))
    (cases_Bool (nat_lt p (processes wall)))

-- the same, where its elements are of the signature's own type
pub looked_stated : (hall : HallView) (m : Effects) → StandsForEffects hall m → (seat : Seat)
    (posting : Posting) → refusal hall.policy m seat.process posting ≡ None →
    seat.meeting.comm ≡ posting.comm →
    LookedAt hall.post_state seat posting.sig posting.own posting.elements.elem_type
    (given_in posting) →
    LookedAt hall.post_state seat posting.sig posting.own (stated_type posting.sig)
    (given_in posting)
looked_stated hall m stands seat posting none on s =
    let p = seat.process in
    let a = accepted_by hall.policy (posts_made m) p posting.comm posting.sig posting.own
    (stated_type posting.sig) (given_in posting)
    (fault_spared hall.policy (posts_made m) p posting.comm posting.sig posting.own
    posting.elements.elem_type (given_in posting) (or_both _ _ none).0) in
    let same : a.comm ≡ s.comm = (let both : Some a.comm ≡ Some s.comm = sym a.at ∙
    ((λ i. slice_get (sym stands.post_state.comms i) (sym on i)) ∙ s.there) in cc) in
    let rank : a.rank ≡ seat.meeting.rank = (let both : Some a.rank ≡ Some seat.meeting.rank = sym
    a.is_member ∙ (ap (λ (n : Comm). rank_in n.members p) same ∙ s.rank) in cc) in
    record {
      comm = s.comm;
      there = s.there;
      rank = s.rank;
      faultless = (λ i. shape_fault (shape_of (sym same i)) (sym rank i) posting.sig posting.own
          (stated_type posting.sig) (given_in posting)) ∙ a.fits;
      met = s.met;
      agrees = s.agrees;
    }

-- few elements are given
pub few_elements : (seen : PostStateView Contents) (seat : Seat) (sig : Signature) (own : Own)
    (ty : ElemType) (given : ℕ) → LookedAt seen seat sig own ty given → given ≤ 65536
few_elements seen seat sig own ty given s =
    few_given (shape_of s.comm) seat.meeting.rank sig own ty given
    (no_fault_has (shape_of s.comm) seat.meeting.rank sig own ty given s.faultless).count

-- its statement is in form for the book
pub has_form_of : (hall : HallView) (m : Effects) → StandsForEffects hall m → (seat : Seat)
    (posting : Posting) (barred : Bool) → refusal hall.policy m seat.process posting ≡ None →
    barred ≡ not (star (histories hall.policy (posts_made m)) seat.process (label_in posting)) →
    LookedAt hall.post_state seat posting.sig posting.own posting.elements.elem_type
    (given_in posting) →
    HasForm (EntryPosted seat.process posting.comm (statement posting barred))
has_form_of hall m stands seat posting barred none word s =
    let count = (no_fault_has (shape_of s.comm) seat.meeting.rank posting.sig posting.own
    posting.elements.elem_type (given_in posting) s.faultless).count in
    and_from (Rattle.run_model.specs.EntryForms.is_formed posting.sig posting.own)
    (Rattle.run_model.specs.Books.is_labelled (statement posting barred))
    (formed (shape_of s.comm) posting.sig _ posting.own (given_in posting)
    (met (shape_of s.comm) seat.meeting.rank posting.sig posting.own posting.elements.elem_type
    (given_in posting) count))
    (taken hall.policy m seat.process posting barred none word).label

-- ## places

-- the number that a post is told is that of its instance
pub number_told : (wall : ChineseWall) (g : Contribution Contents)
    (past : List (Contribution Contents)) (entered : Entered Contents) →
    Tells wall g past entered → number_in entered ≡ place g.post (posts_of past)
number_told wall g past (Waiting n) tells = tells.0
number_told wall g past (Settled full n o) tells = tells.0

-- ## records

settled_from : (c : ℕ) (entered : Entered Contents) (a b new : (c k : ℕ) → Option Settlement) →
    b ≡ a → IsSettledBy c entered b new → IsSettledBy c entered a new
settled_from c entered a b new same h =
    subst (λ (f : ℕ → ℕ → Option Settlement). IsSettledBy c entered f new) same h

-- what was recorded in a hall that is as another but for the state
pub recorded_from :
    (a b new : HallView) (p c : ℕ) (said stated : Stated) (entered : Entered Contents) →
    b.policy ≡ a.policy → b.asked ≡ a.asked → b.settled ≡ a.settled → b.book ≡ a.book →
    said ≡ stated → IsRecorded b new p c said entered → IsRecorded a new p c stated entered
recorded_from a b new p c said stated entered policy asked settled book same h = record {
  policy = h.policy ∙ policy;
  asked = h.asked
      ∙ (λ i. Rattle.hall_core.specs.Asking.with_request (asked i) p
      (record { comm = c; k = number_in entered }));
  settled = settled_from c entered a.settled b.settled new.settled settled h.settled;
  book = h.book ∙ (λ i. book i ++ Rattle.hall_core.specs.Moves.entries_of p c (same i) entered);
}

-- ## the reply

lacks : (passed : Bool) (request : ℕ) (label : Label) →
    may_lack_memory (accepted passed request label) ≡ true
lacks true request label = refl
lacks false request label = refl

made_as : (m : Effects) (p r : ℕ) (posting : Posting) (passed : Bool) →
    after_entry m (entry_of p (ToPost posting) (accepted passed r posting.label))
    ≡ with_contribution m (given_of p posting (not passed))
made_as m p r posting true = after_posted m p r posting
made_as m p r posting false = after_barred m p r posting.label posting

-- the reply that is due to a post that meets no refusal
pub due : (wall : ChineseWall) (m : Effects) (p : ℕ) (posting : Posting) (passed : Bool)
    (number : ℕ) → refusal wall m p posting ≡ None →
    passed ≡ star (histories wall (posts_made m)) p (label_in posting) →
    number ≡ length (requests p (posts_made m)) →
    reply_by wall m p (ToPost posting) ≡ accepted passed number posting.label
due wall m p posting passed number none word long = ap (λ o. reply_to_post wall m p posting o) none
    ∙ (λ i. accepted (sym word i) (sym long i) posting.label)

pub post_counted : (wall : ChineseWall) (new : HallView) (m : Effects) (p : ℕ) (posting : Posting)
    (passed : Bool) (number : ℕ) (got : Reply) →
    reply_by wall m p (ToPost posting) ≡ accepted passed number posting.label →
    got ≡ accepted passed number posting.label →
    StandsForEffects new (with_contribution m (given_of p posting (not passed))) →
    IsAnswer (reply_by wall m p (ToPost posting)) got
    × StandsForEffects new (after_entry m (entry_of p (ToPost posting) got))
post_counted wall new m p posting passed number got is said stands = (
  inl (said ∙ sym is),
  subst (λ (n : Effects). StandsForEffects new n) (sym (ap
      (λ g. after_entry m (entry_of p (ToPost posting) g)) said
      ∙ made_as m p number posting passed)) stands,
)

pub post_wanted : (wall : ChineseWall) (new : HallView) (m : Effects) (p : ℕ) (posting : Posting)
    (passed : Bool) (number : ℕ) (got : Reply) →
    reply_by wall m p (ToPost posting) ≡ accepted passed number posting.label →
    got ≡ Refused NoMemory →
    StandsForEffects new m →
    IsAnswer (reply_by wall m p (ToPost posting)) got
    × StandsForEffects new (after_entry m (entry_of p (ToPost posting) got))
post_wanted wall new m p posting passed number got is said stands = (
  inr (ap may_lack_memory is ∙ lacks passed number posting.label, said),
  subst (λ (n : Effects). StandsForEffects new n) (sym (ap
      (λ g. after_entry m (entry_of p (ToPost posting) g)) said
      ∙ after_refused m p (ToPost posting) NoMemory)) stands,
)
