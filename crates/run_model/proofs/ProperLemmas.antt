-- What a legal run makes is proper, entry by entry.
use Rattle.std.proofs.Common.{◌≡◌, ℕ, ◌<◌, List, [], ◌∷◌, length, refl, sym, ap, ◌∙◌, subst, arith}
use Rattle.std.proofs.Common.{Bool, true, false, not, ◌&&◌, ◌||◌, ⊎_elim, inl, inr, Option, Some}
use Rattle.std.proofs.Common.{None, slice_get, eqb-true}
use Rattle.std.specs.Prelude.{◌==◌}
use Rattle.std.proofs.lemmas.Bool.{cases_Bool, false≢true, and_parts, or_cases}
use Rattle.std.proofs.lemmas.Option.{slice_get_within}
use Rattle.wall_policy.specs.Policy.{ChineseWall}
use Rattle.mpi_elems.specs.declared.elem_type.ElemType.{ElemType}
use Rattle.mpi_elems.specs.Types.{type_number}
use Rattle.mpi_elems.specs.Contents.{Contents}
use Rattle.coll_routes.specs.declared.roll.Shape.{Shape}
use Rattle.coll_routes.specs.declared.signature.Signature.{Signature}
use Rattle.coll_routes.specs.declared.statement.Own.{Own}
use Rattle.coll_routes.specs.Signatures.{elem_type, count}
use Rattle.coll_routes.specs.Faults.{bad_count, is_of_type, is_above_limit, is_asked_above_limit}
use Rattle.coll_routes.specs.Faults.{asked, gives, is_listed, is_met}
use Rattle.coll_routes.proofs.CollRoutesLemmas.{type_is}
use Rattle.run_model.specs.Comms.{shape_of}
use Rattle.run_model.specs.Books.{IsCounted}
use Rattle.run_model.proofs.CountedLemmas.{accepted, no_fault_has}
use Rattle.run_model.specs.Contributions.{Contribution}
use Rattle.run_model.specs.declared.call.Posting.{Posting}
use Rattle.run_model.specs.declared.call.Act.{Act}
use Rattle.run_model.specs.declared.call.Act.TheVariants.{Post as ToPost, Take, Info as ToInfo}
use Rattle.run_model.specs.declared.reply.Reply.{Reply}
use Rattle.run_model.specs.declared.reply.Reply.TheVariants.{Posted, Barred, Pending, Delivered}
use Rattle.run_model.specs.declared.reply.Reply.TheVariants.{NewComm, NullComm, Denied, NoRoom}
use Rattle.run_model.specs.declared.reply.Reply.TheVariants.{Info, Refused}
use Rattle.run_model.specs.Runs.{Entry, Effects, effects, given_in, statement, requests, is_outcome}
use Rattle.run_model.specs.Runs.{with_contribution, with_taken, after_entry}
use Rattle.run_model.specs.Replies.{posts_made, refusal, reply_to_take, reply_by, reply, IsAnswer}
use Rattle.run_model.specs.Replies.{Legal}
use Rattle.run_model.specs.Proper.{IsAsStated, IsProper}
use Rattle.run_model.proofs.CountLemmas.{taken, posted_taken, barred_taken, first_none}
use Rattle.run_model.proofs.RequestLemmas.{requests_never_fewer}
use Rattle.run_model.proofs.EffectLemmas.{given_of, entry_of, after_posted, after_barred}
use Rattle.run_model.proofs.EffectLemmas.{after_other, after_outcome, after_asked, after_untold}

-- ## what a posting without a refusal brings

first_false : (x a b c d e : Bool) → (x || a || b || c || d || e) ≡ false → x ≡ false
first_false false a b c d e h = refl
first_false true a b c d e h = absurd (false≢true (sym h))

of_this_type : (o : Option ElemType) (ty : ElemType) → is_of_type o ty ≡ true → (want : ElemType) →
    o ≡ Some want → ty ≡ want
of_this_type None ty h want e = absurd (cc)
of_this_type (Some t) ty h want e = let same : t ≡ want = cc in
    sym (type_is t ty (eqb-true (type_number t) (type_number ty) h)) ∙ same

type_fits : (shape : Shape) (rank : ℕ) (sig : Signature) (own : Own) (ty : ElemType) (given : ℕ) →
    bad_count shape rank sig own ty given ≡ false → is_of_type (elem_type sig) ty ≡ true
unfolding bad_count
type_fits shape rank sig own ty given h = not_not (is_of_type (elem_type sig) ty)
    (first_false (not (is_of_type (elem_type sig) ty)) (is_above_limit given)
    (is_above_limit (Rattle.std.specs.Prelude.unwrap_or (count sig) 0))
    (is_asked_above_limit (asked shape sig)) (not (is_listed shape sig))
    (not (is_met (asked shape sig) (gives sig rank) own given)) h)
  where
    not_not : (b : Bool) → not b ≡ false → b ≡ true
    not_not true h = refl
    not_not false h = absurd (false≢true (sym h))

pub brings : (wall : ChineseWall) (m : Effects) (p : ℕ) (posting : Posting) →
    refusal wall m p posting ≡ None → IsAsStated (statement posting false) posting.elements
brings wall m p posting free =
    let is = accepted wall (posts_made m) p posting.comm posting.sig posting.own
    posting.elements.elem_type (given_in posting) (first_none _ _ free) in
    let none = no_fault_has (shape_of is.comm) is.rank posting.sig posting.own
    posting.elements.elem_type (given_in posting) is.fits in
    record {
      number = refl;
      of_type = of_this_type (elem_type posting.sig) posting.elements.elem_type
          (type_fits (shape_of is.comm) is.rank posting.sig posting.own posting.elements.elem_type
          (given_in posting) none.count);
    }

-- ## one step

pub proper_given : (wall : ChineseWall) (m : Effects) (g : Contribution Contents) →
    IsProper wall m → IsCounted wall g.post (posts_made m) →
    (g.post.stated.barred ≡ false → IsAsStated g.post.stated g.part) →
    IsProper wall (with_contribution m g)
proper_given wall m g h counts brought = record {
  posts = (h.posts, counts);
  parts = (h.parts, brought);
  given = λ p r t. (let old = h.given p r t in
      let more = requests_never_fewer p (g.post ∷ []) (posts_made m) in omega (arith, old, more));
}

pub proper_taken : (wall : ChineseWall) (m : Effects) (p r : ℕ) → IsProper wall m →
    r < length (requests p (posts_made m)) → IsProper wall (with_taken m p r)
proper_taken wall m p r h low = record {
  posts = h.posts;
  parts = h.parts;
  given = λ q s t. ⊎_elim
      (λ new.
      let parts = and_parts (p == q) (r == s) new in
      let same_p = eqb-true p q parts.0 in
      let same_r = eqb-true r s parts.1 in
      subst (λ n. n < length (requests q (posts_made m))) same_r
      (subst (λ n. r < length (requests n (posts_made m))) same_p low))
      (λ old. h.given q s old)
      (or_cases (p == q && r == s) (m.taken q s) t);
}

-- no request is taken before it is given
pub untaken_new : (wall : ChineseWall) (m : Effects) (p : ℕ) → IsProper wall m →
    m.taken p (length (requests p (posts_made m))) ≡ false
untaken_new wall m p h = ⊎_elim
    (λ t. absurd (let low = h.given p (length (requests p (posts_made m))) t in omega (arith, low)))
    (λ f. f) (cases_Bool (m.taken p (length (requests p (posts_made m)))))

told_within : (wall : ChineseWall) (m : Effects) (p r : ℕ) (got : Reply) (o : Option (ℕ × ℕ)) →
    slice_get (requests p (posts_made m)) r ≡ o → got ≡ reply_to_take wall m p r o →
    is_outcome got ≡ true → r < length (requests p (posts_made m))
told_within wall m p r got None at e is = absurd (false≢true (sym (ap is_outcome e) ∙ is))
told_within wall m p r got (Some ck) at e is = slice_get_within (requests p (posts_made m)) r ck at

-- only a request that was given has an outcome
pub outcome_within : (wall : ChineseWall) (m : Effects) (p r : ℕ) (got : Reply) →
    IsAnswer (reply_by wall m p (Take r)) got → is_outcome got ≡ true →
    r < length (requests p (posts_made m))
outcome_within wall m p r got (inl e) is =
    told_within wall m p r got (slice_get (requests p (posts_made m)) r) refl e is
outcome_within wall m p r got (inr e) is = absurd (false≢true (sym (ap is_outcome e.1) ∙ is))

module _ (wall : ChineseWall) (m : Effects) (p : ℕ) (h : IsProper wall m) where
  post_step : (posting : Posting) (got : Reply) →
      IsAnswer (reply_by wall m p (ToPost posting)) got →
      IsProper wall (after_entry m (entry_of p (ToPost posting) got))
  post_step posting (Posted r) (inl e) =
      let is = posted_taken wall m p r posting (refusal wall m p posting) e in
      subst (IsProper wall) (sym (after_posted m p r posting)) (proper_given wall m
      (given_of p posting false) h (taken wall m p posting false is.0 (sym (ap not is.1)))
      (λ _. brings wall m p posting is.0))
  post_step posting (Posted r) (inr e) = let bad = e.1 in absurd (cc)
  post_step posting (Barred r label) (inl e) =
      let is = barred_taken wall m p r label posting (refusal wall m p posting) e in
      subst (IsProper wall) (sym (after_barred m p r label posting)) (proper_given wall m
      (given_of p posting true) h (taken wall m p posting true is.0 (sym (ap not is.1)))
      (λ t. absurd (false≢true (sym t))))
  post_step posting (Barred r label) (inr e) = let bad = e.1 in absurd (cc)
  post_step posting Pending is =
      subst (IsProper wall) (sym (after_other m p posting Pending refl)) h
  post_step posting (Delivered blocks) is =
      subst (IsProper wall) (sym (after_other m p posting (Delivered blocks) refl)) h
  post_step posting (NewComm c rank size) is =
      subst (IsProper wall) (sym (after_other m p posting (NewComm c rank size) refl)) h
  post_step posting NullComm is =
      subst (IsProper wall) (sym (after_other m p posting NullComm refl)) h
  post_step posting (Denied rule q label) is =
      subst (IsProper wall) (sym (after_other m p posting (Denied rule q label) refl)) h
  post_step posting NoRoom is = subst (IsProper wall) (sym (after_other m p posting NoRoom refl)) h
  post_step posting (Info size rank dims) is =
      subst (IsProper wall) (sym (after_other m p posting (Info size rank dims) refl)) h
  post_step posting (Refused why) is =
      subst (IsProper wall) (sym (after_other m p posting (Refused why) refl)) h

  take_step : (r : ℕ) (got : Reply) → IsAnswer (reply_by wall m p (Take r)) got →
      IsProper wall (after_entry m (entry_of p (Take r) got))
  take_step r got is = ⊎_elim
      (λ t. subst (IsProper wall) (sym (after_outcome m p r got t))
      (proper_taken wall m p r h (outcome_within wall m p r got is t)))
      (λ f. subst (IsProper wall) (sym (after_untold m p r got f)) h)
      (cases_Bool (is_outcome got))

  -- an answer leaves what is made proper
  pub proper_step : (act : Act) (got : Reply) → IsAnswer (reply_by wall m p act) got →
      IsProper wall (after_entry m (entry_of p act got))
  proper_step (ToPost posting) got is = post_step posting got is
  proper_step (Take r) got is = take_step r got is
  proper_step (ToInfo c) got is = subst (IsProper wall) (sym (after_asked m p c got)) h

-- ## runs

pub proper_first : (wall : ChineseWall) → IsProper wall (effects [])
proper_first wall = record { posts = tt; parts = tt; given = λ p r t. absurd (false≢true t) }

pub legal_proper : (wall : ChineseWall) (run : List Entry) → Legal wall run →
    IsProper wall (effects run)
unfolding reply
legal_proper wall [] h = proper_first wall
legal_proper wall (e ∷ run) h =
    proper_step wall (effects run) e.call.process (legal_proper wall run h.0) e.call.act e.reply h.1
