-- The posts of a legal run count.
use Rattle.std.proofs.Common.{◌≡◌, ◌==◌, ℕ, Bool, true, false, not, ◌||◌, List, [], ◌∷◌, Option}
use Rattle.std.proofs.Common.{Some, None, refl, sym, ap, ◌∙◌, inl, inr, ⊎_elim, eq-eqb, slice_get}
use Rattle.std.proofs.Common.{nat_lt}
use Rattle.std.specs.Prelude.{is_none, is_some, if◌then◌else◌, unwrap_or}
use Rattle.std.specs.Option.{option_map}
use Rattle.std.specs.List.{cons_option}
use Rattle.std.proofs.lemmas.Bool.{cases_Bool, cond-true, cond-false, false≢true}
use Rattle.wall_labels.specs.declared.label.Label.{Label}
use Rattle.wall_policy.specs.Policy.{ChineseWall}
use Rattle.mpi_elems.specs.declared.elem_type.ElemType.{ElemType}
use Rattle.mpi_elems.specs.Types.{type_number}
use Rattle.mpi_group.specs.Groups.{rank_in}
use Rattle.coll_routes.specs.declared.signature.Signature.{Signature}
use Rattle.coll_routes.specs.declared.statement.Own.{Own}
use Rattle.coll_routes.specs.declared.statement.Stated.{Stated}
use Rattle.coll_routes.specs.declared.roll.Shape.{Shape}
use Rattle.mpi_elems.specs.declared.elem_type.ElemType.TheVariants.{Int8}
use Rattle.coll_routes.specs.declared.fault.ShapeFault.{ShapeFault}
use Rattle.coll_routes.specs.declared.fault.ShapeFault.TheVariants as shapes
use Rattle.coll_routes.specs.Signatures.{elem_type, count}
use Rattle.coll_routes.specs.Faults.{shape_fault, bad_count, is_of_type, stated_type, first_that}
use Rattle.coll_routes.specs.Faults.{is_above_limit, is_asked_above_limit, asked, gives, is_listed}
use Rattle.coll_routes.specs.Faults.{is_met}
use Rattle.wall_verdict.specs.Star.{star}
use Rattle.run_model.specs.declared.refusal.Refusal.{Refusal}
use Rattle.run_model.specs.declared.refusal.Refusal.TheVariants.{NoSuchProcess}
use Rattle.run_model.specs.Comms.{Comm, processes, shape_of}
use Rattle.run_model.specs.Posts.{Post, comms, histories}
use Rattle.run_model.specs.Refusals.{or_else, refused_for, fault_as, fault_on, fault}
use Rattle.run_model.specs.Books.{IsCounted, AreCounted}
use Rattle.run_model.specs.declared.call.Posting.{Posting}
use Rattle.run_model.specs.declared.call.Act.{Act}
use Rattle.run_model.specs.declared.call.Act.TheVariants.{Post as ToPost, Take, Info as ToInfo}
use Rattle.run_model.specs.declared.reply.Reply.{Reply}
use Rattle.run_model.specs.declared.reply.Reply.TheVariants.{Posted, Barred, Pending, Delivered}
use Rattle.run_model.specs.declared.reply.Reply.TheVariants.{NewComm, NullComm, Denied, NoRoom}
use Rattle.run_model.specs.declared.reply.Reply.TheVariants.{Info, Refused}
use Rattle.run_model.specs.Contributions.{posts_of}
use Rattle.run_model.specs.Runs.{Entry, Effects, effects, posts, contributions, contribution_by}
use Rattle.run_model.specs.Runs.{counted, given_in, label_in, statement}
use Rattle.run_model.specs.Replies.{posts_made, refusal, reply_to_post, reply_by, reply, IsAnswer}
use Rattle.run_model.specs.RunLaws.{LegalPostsCount}

-- ## a statement is of its own type

of_stated_type : (sig : Signature) → is_of_type (elem_type sig) (stated_type sig) ≡ true
of_stated_type sig = by_type (elem_type sig)
  where
    by_type : (o : Option ElemType) → is_of_type o (unwrap_or o Int8) ≡ true
    by_type (Some ty) = eq-eqb (type_number ty) (type_number ty) refl
    by_type None = refl

without_first : (x y a b c d e : Bool) → y ≡ true → (not x || a || b || c || d || e) ≡ false →
    (not y || a || b || c || d || e) ≡ false
without_first true y a b c d e is h = rw is h
without_first false y a b c d e is h = absurd (false≢true (sym h))

count_spared :
    (shape : Shape) (rank : ℕ) (sig : Signature) (own : Own) (ty : ElemType) (given : ℕ) →
    bad_count shape rank sig own ty given ≡ false →
    bad_count shape rank sig own (stated_type sig) given ≡ false
unfolding bad_count
count_spared shape rank sig own ty given h =
    without_first (is_of_type (elem_type sig) ty) (is_of_type (elem_type sig) (stated_type sig))
    (is_above_limit given) (is_above_limit (unwrap_or (count sig) 0))
    (is_asked_above_limit (asked shape sig)) (not (is_listed shape sig))
    (not (is_met (asked shape sig) (gives sig rank) own given)) (of_stated_type sig) h

spared : (a b c d k e f g : Bool) →
    first_that ((a, shapes.NoTopology) ∷ (b, shapes.BadRoot) ∷ (c, shapes.BadOp)
    ∷ (d, shapes.BadCount) ∷ (e, shapes.BadColour) ∷ (f, shapes.NotSubgroup)
    ∷ (g, shapes.BadDims) ∷ []) ≡ None → (d ≡ false → k ≡ false)
    →
    first_that ((a, shapes.NoTopology) ∷ (b, shapes.BadRoot) ∷ (c, shapes.BadOp)
    ∷ (k, shapes.BadCount) ∷ (e, shapes.BadColour) ∷ (f, shapes.NotSubgroup)
    ∷ (g, shapes.BadDims) ∷ []) ≡ None
spared true b c d k e f g h is = absurd (cc)
spared false true c d k e f g h is = absurd (cc)
spared false false true d k e f g h is = absurd (cc)
spared false false false true k e f g h is = absurd (cc)
spared false false false false k e f g h is = rw (is refl) h

shape_spared :
    (shape : Shape) (rank : ℕ) (sig : Signature) (own : Own) (ty : ElemType) (given : ℕ) →
    shape_fault shape rank sig own ty given ≡ None →
    shape_fault shape rank sig own (stated_type sig) given ≡ None
unfolding shape_fault
shape_spared shape rank sig own ty given h =
    spared _ _ _ _ _ _ _ _ h (count_spared shape rank sig own ty given)

both_none : (o : Option ShapeFault) (m : Option Refusal) →
    or_else (option_map refused_for o) m ≡ None → (o ≡ None) × (m ≡ None)
both_none (Some f) m h = absurd (cc)
both_none None m h = (refl, h)

as_spared : (comm : Comm) (o : Option ℕ) (sig : Signature) (own : Own) (ty : ElemType) (given : ℕ)
    (stated : List (Option Stated)) → fault_as comm o sig own ty given stated ≡ None →
    fault_as comm o sig own (stated_type sig) given stated ≡ None
as_spared comm None sig own ty given stated h = absurd (cc)
as_spared comm (Some rank) sig own ty given stated h =
    let both = both_none (shape_fault (shape_of comm) rank sig own ty given) _ h in
    rw (shape_spared (shape_of comm) rank sig own ty given both.0) both.1

on_spared : (past : List Post) (p c : ℕ) (o : Option Comm) (sig : Signature) (own : Own)
    (ty : ElemType) (given : ℕ) → fault_on past p c o sig own ty given ≡ None →
    fault_on past p c o sig own (stated_type sig) given ≡ None
on_spared past p c None sig own ty given h = absurd (cc)
on_spared past p c (Some comm) sig own ty given h =
    as_spared comm (rank_in comm.members p) sig own ty given _ h

by_process : (b : Bool) (x y : Option Refusal) → (if b then x else Some NoSuchProcess) ≡ None →
    (x ≡ None → y ≡ None) → (if b then y else Some NoSuchProcess) ≡ None
by_process true x y h k = k h
by_process false x y h k = absurd (cc)

pub fault_spared : (wall : ChineseWall) (past : List Post) (p c : ℕ) (sig : Signature) (own : Own)
    (ty : ElemType) (given : ℕ) → fault wall past p c sig own ty given ≡ None →
    fault wall past p c sig own (stated_type sig) given ≡ None
unfolding fault
fault_spared wall past p c sig own ty given h = by_process (nat_lt p (processes wall)) _ _ h
    (on_spared past p c (slice_get (comms wall past) c) sig own ty given)

-- ## a counted post

labelled : (zero : Bool) (label : Label) → (if zero then is_none (if zero then None else Some label)
    else is_some (if zero then None else Some label)) ≡ true
labelled true label = refl
labelled false label = refl

pub first_none : (o m : Option Refusal) → or_else o m ≡ None → o ≡ None
first_none (Some f) m h = absurd (cc)
first_none None m h = refl

pub taken : (wall : ChineseWall) (m : Effects) (p : ℕ) (posting : Posting) (barred : Bool) →
    refusal wall m p posting ≡ None →
    barred ≡ not (star (histories wall (posts_made m)) p (label_in posting)) →
    IsCounted wall (record { process = p; comm = posting.comm; stated = statement posting barred })
    (posts_made m)
taken wall m p posting barred free word = record {
  accepted = fault_spared wall (posts_made m) p posting.comm posting.sig posting.own
      posting.elements.elem_type (given_in posting) (first_none _ _ free);
  label = labelled (given_in posting == 0) posting.label;
  word = word;
}

pub posted_taken :
    (wall : ChineseWall) (m : Effects) (p r : ℕ) (posting : Posting) (o : Option Refusal) →
    Posted r ≡ reply_to_post wall m p posting o →
    (o ≡ None) × (star (histories wall (posts_made m)) p (label_in posting) ≡ true)
posted_taken wall m p r posting (Some f) e = absurd (cc)
posted_taken wall m p r posting None e = (
  refl,
  ⊎_elim (λ t. t)
      (λ f. let barred = e ∙ cond-false (star (histories wall (posts_made m)) p (label_in posting))
      (Posted _) (Barred _ posting.label) f in absurd (cc))
      (cases_Bool (star (histories wall (posts_made m)) p (label_in posting))),
)

pub barred_taken : (wall : ChineseWall) (m : Effects) (p r : ℕ) (label : Label) (posting : Posting)
    (o : Option Refusal) → Barred r label ≡ reply_to_post wall m p posting o →
    (o ≡ None) × (star (histories wall (posts_made m)) p (label_in posting) ≡ false)
barred_taken wall m p r label posting (Some f) e = absurd (cc)
barred_taken wall m p r label posting None e = (
  refl,
  ⊎_elim
      (λ t. let posted = e ∙ cond-true (star (histories wall (posts_made m)) p (label_in posting))
      (Posted _) (Barred _ posting.label) t in absurd (cc))
      (λ f. f)
      (cases_Bool (star (histories wall (posts_made m)) p (label_in posting))),
)

-- ## one entry more

taken_more : (wall : ChineseWall) (run : List Entry) (p : ℕ) (act : Act) (given : Reply) →
    IsAnswer (reply_by wall (effects run) p act) given → AreCounted wall (posts run) →
    AreCounted wall
    (posts_of (cons_option (contribution_by p (counted act given)) (contributions run)))
taken_more wall run p (ToPost posting) (Posted r) (inl e) h =
    let is = posted_taken wall (effects run) p r posting (refusal wall (effects run) p posting) e in
    (h, taken wall (effects run) p posting false is.0 (sym (ap not is.1)))
taken_more wall run p (ToPost posting) (Posted r) (inr e) h = let bad = e.1 in absurd (cc)
taken_more wall run p (ToPost posting) (Barred r label) (inl e) h =
    let is = barred_taken wall (effects run) p r label posting
    (refusal wall (effects run) p posting) e in
    (h, taken wall (effects run) p posting true is.0 (sym (ap not is.1)))
taken_more wall run p (ToPost posting) (Barred r label) (inr e) h = let bad = e.1 in absurd (cc)
taken_more wall run p (ToPost posting) Pending is h = h
taken_more wall run p (ToPost posting) (Delivered delivery) is h = h
taken_more wall run p (ToPost posting) (NewComm c r n) is h = h
taken_more wall run p (ToPost posting) NullComm is h = h
taken_more wall run p (ToPost posting) (Denied rule q label) is h = h
taken_more wall run p (ToPost posting) NoRoom is h = h
taken_more wall run p (ToPost posting) (Info size rank dims) is h = h
taken_more wall run p (ToPost posting) (Refused refusal) is h = h
taken_more wall run p (Take r) given is h = h
taken_more wall run p (ToInfo c) given is h = h

pub legal_posts_count : LegalPostsCount
unfolding reply
legal_posts_count wall [] h = tt
legal_posts_count wall (e ∷ run) h =
    taken_more wall run e.call.process e.call.act e.reply h.1 (legal_posts_count wall run h.0)
