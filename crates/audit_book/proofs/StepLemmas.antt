-- How a sound book goes on by one entry.
use Rattle.std.proofs.Common.{◌≡◌, ℕ, suc, zero, ◌+◌, ◌-◌, ◌<◌, ◌≤◌, List, [], ◌∷◌, ◌++◌, length}
use Rattle.std.proofs.Common.{take, slice_get, refl, sym, ap, ◌∙◌, subst, arith, Option, Some, None}
use Rattle.std.proofs.Common.{append_assoc}
use Rattle.std.specs.Prelude.{Result, Ok, Err, IfOk, IfErr}
use Rattle.std.specs.Option.{option_map, option_to_list}
use Rattle.std.proofs.lemmas.List.{append-nil, length-append}
use Rattle.std.proofs.lemmas.Option.{slice_get_within}
use Rattle.wall_policy.specs.Policy.{ChineseWall}
use Rattle.coll_routes.specs.declared.statement.Stated.{Stated}
use Rattle.run_model.specs.declared.entry.Entry.{Entry}
use Rattle.run_model.specs.declared.entry.Entry.TheVariants.{Posted, Settled}
use Rattle.run_model.specs.Posts.{outcome}
use Rattle.run_model.specs.Books.{outcome_entry, entries_for, book, posts_in, IsCounted, AreCounted}
use Rattle.run_model.specs.Books.{IsSound, Begins, IsFirstBad}
use Rattle.run_state.specs.Views.{PostStateValue}
use Rattle.audit_book.specs.declared.due.Due.{Due}
use Rattle.audit_book.specs.Checks.{entry_of, post_of, Stands, IsRight}
use Rattle.run_model.proofs.RunModelLemmas.{begins_given, book_is_sound, posts_in-append}

same_rest : (es : List Entry) (x y : Entry) (xs ys : List Entry) → es ++ x ∷ xs ≡ es ++ y ∷ ys →
    x ≡ y
same_rest [] x y xs ys e = cc
same_rest (z ∷ es) x y xs ys e = same_rest es x y xs ys (cc)

pub no_more : (es : List Entry) (x : Entry) (xs : List Entry) → es ++ x ∷ xs ≡ es → ⊥
no_more es x xs e = let long = sym (length-append es (x ∷ xs)) ∙ ap length e in omega arith

posts_settled : (es : List Entry) (c k : ℕ) (o : _) →
    posts_in (es ++ Settled c k o ∷ []) ≡ posts_in es
posts_settled es c k o = posts_in-append es (Settled c k o ∷ [])

posts_posted : (es : List Entry) (p c : ℕ) (s : Stated) →
    posts_in (es ++ Posted p c s ∷ []) ≡ post_of p c s ∷ posts_in es
posts_posted es p c s = posts_in-append es (Posted p c s ∷ [])

-- where an entry is due, only that one can come
pub due_only : (wall : ChineseWall) (es : List Entry) (v e : Entry) →
    es ++ v ∷ [] ≡ book wall (posts_in es) → Begins wall (es ++ e ∷ []) → e ≡ v
due_only wall es v (Settled c k o) given h =
    let g = begins_given wall (es ++ Settled c k o ∷ []) h in
    let both : es ++ Settled c k o ∷ g.rest ≡ es ++ v ∷ [] = sym
    (append_assoc es (Settled c k o ∷ []) g.rest) ∙
    (g.given ∙ (ap (book wall) (posts_settled es c k o) ∙ sym given)) in
    same_rest es (Settled c k o) v g.rest [] both
due_only wall es v (Posted p c s) given h =
    let g = begins_given wall (es ++ Posted p c s ∷ []) h in
    let x = post_of p c s in
    let more = entries_for wall x (posts_in es) in
    let both : es ++ Posted p c s ∷ g.rest ≡ es ++ v ∷ more = sym
    (append_assoc es (Posted p c s ∷ []) g.rest) ∙ (g.given
    ∙ (ap (book wall) (posts_posted es p c s)
    ∙ (ap (λ b. b ++ more) (sym given) ∙ append_assoc es (v ∷ []) more))) in
    same_rest es (Posted p c s) v g.rest more both

-- where none is due, no settlement can come, and only a post that counts
pub none_due : (wall : ChineseWall) (es : List Entry) (c k : ℕ) (o : _) →
    es ≡ book wall (posts_in es) → Begins wall (es ++ Settled c k o ∷ []) → ⊥
none_due wall es c k o given h =
    let g = begins_given wall (es ++ Settled c k o ∷ []) h in
    no_more es (Settled c k o) g.rest (sym (append_assoc es (Settled c k o ∷ []) g.rest)
    ∙ (g.given ∙ (ap (book wall) (posts_settled es c k o) ∙ sym given)))

pub post_counts : (wall : ChineseWall) (es : List Entry) (p c : ℕ) (s : Stated) →
    Begins wall (es ++ Posted p c s ∷ []) → IsCounted wall (post_of p c s) (posts_in es)
post_counts wall es p c s h =
    let g = begins_given wall (es ++ Posted p c s ∷ []) h in
    let taken : AreCounted wall (post_of p c s ∷ posts_in es) = subst (AreCounted wall)
    (posts_posted es p c s) g.posts in
    taken.1

---- The check, step by step.

module _ (wall : ChineseWall) where
  -- nothing has been checked
  pub right_at_first : (post_state : PostStateValue (Unit {0})) → Stands wall post_state [] →
      IsRight wall post_state [] None
  right_at_first post_state stood = record { posts = tt; given = refl; stood = stood }

  -- the settlement that was due has come
  pub settled_right : (post_state : PostStateValue (Unit {0})) (es : List Entry) (due : Due) →
      IsRight wall post_state es (Some due) → IsRight wall post_state (es ++ entry_of due ∷ []) None
  settled_right post_state es due right =
      let same = posts_settled es due.comm due.k due.outcome in
      record {
        posts = subst (AreCounted wall) (sym same) right.posts;
        given = append-nil (es ++ entry_of due ∷ []) ∙ (right.given ∙ ap (book wall) (sym same));
        stood = subst (Stands wall post_state) (sym same) right.stood;
      }

  pub other_wrong :
      (post_state : PostStateValue (Unit {0})) (es : List Entry) (due : Due) (e : Entry) →
      IsRight wall post_state es (Some due) → (e ≡ entry_of due → ⊥) → Begins wall (es ++ e ∷ []) →
      ⊥
  other_wrong post_state es due e right other h =
      other (due_only wall es (entry_of due) e right.given h)

  pub settled_wrong : (post_state : PostStateValue (Unit {0})) (es : List Entry) (c k : ℕ) (o : _) →
      IsRight wall post_state es None → Begins wall (es ++ Settled c k o ∷ []) → ⊥
  settled_wrong post_state es c k o right h =
      none_due wall es c k o (sym (append-nil es) ∙ right.given) h

  pub posted_wrong : (es : List Entry) (p c : ℕ) (s : Stated) →
      (IsCounted wall (post_of p c s) (posts_in es) → ⊥) → Begins wall (es ++ Posted p c s ∷ []) → ⊥
  posted_wrong es p c s wrong h = wrong (post_counts wall es p c s h)

  pub posted_right : (old new : PostStateValue (Unit {0})) (es : List Entry) (p c : ℕ) (s : Stated)
      (came : Option Due) → IsRight wall old es None →
      IsCounted wall (post_of p c s) (posts_in es) → Stands wall new (post_of p c s ∷ posts_in es) →
      option_map entry_of came
      ≡ outcome_entry (post_of p c s) (posts_in es)
      (outcome wall (post_of p c s) (posts_in es)) →
      IsRight wall new (es ++ Posted p c s ∷ []) came
  posted_right old new es p c s came right counts stood told =
      let same = posts_posted es p c s in
      record {
        posts = subst (AreCounted wall) (sym same) (right.posts, counts);
        given = append_assoc es (Posted p c s ∷ []) (option_to_list (option_map entry_of came))
            ∙ (ap (λ o. es ++ Posted p c s ∷ option_to_list o) told
            ∙ (ap (λ b. b ++ entries_for wall (post_of p c s) (posts_in es))
            (sym (append-nil es) ∙ right.given)
            ∙ ap (book wall) (sym same)));
        stood = subst (Stands wall new) (sym same) stood;
      }

  -- all entries are right, and none is due
  pub right_is_sound : (post_state : PostStateValue (Unit {0})) (es : List Entry) →
      IsRight wall post_state es None → IsSound wall es
  right_is_sound post_state es right =
      record { posts = right.posts; given = sym (append-nil es) ∙ right.given }

  pub right_begins : (post_state : PostStateValue (Unit {0})) (es : List Entry) (due : Option Due) →
      IsRight wall post_state es due → Begins wall es
  right_begins post_state es due right = (
    option_to_list (option_map entry_of due),
    subst (IsSound wall) (sym right.given) (book_is_sound wall (posts_in es) right.posts),
  )

  pub due_is_unsound : (post_state : PostStateValue (Unit {0})) (es : List Entry) (due : Due) →
      IsRight wall post_state es (Some due) → IsSound wall es → ⊥
  due_is_unsound post_state es due right sound =
      no_more es (entry_of due) [] (right.given ∙ sym sound.given)

---- Answers in part.

pub ok_more : {X E : Type 0} (r : Result X E) (P Q : X → Type 0) → ((x : X) → P x → Q x) →
    IfOk r P → IfOk r Q
ok_more (Ok x) P Q more h = more x h
ok_more (Err e) P Q more h = h

pub err_more : {X E : Type 0} (r : Result X E) (P Q : E → Type 0) → ((e : E) → P e → Q e) →
    IfErr r P → IfErr r Q
err_more (Ok x) P Q more h = h
err_more (Err e) P Q more h = more e h

pub posts_few : (es : List Entry) → length (posts_in es) ≤ length es
posts_few [] = omega arith
posts_few (Posted p c s ∷ es) =
    let rest = posts_few es in
    let long = ap length (posts_in-append (Posted p c s ∷ []) es) ∙ length-append (posts_in es)
    (post_of p c s ∷ []) in
    omega arith
posts_few (Settled c k o ∷ es) =
    let rest = posts_few es in
    let long = ap length (posts_in-append (Settled c k o ∷ []) es) ∙ length-append (posts_in es) []
    in
    omega arith

-- the entry that comes next, after so many
pub take_more : (es : List Entry) (i : ℕ) (e : Entry) → slice_get es i ≡ Some e →
    take (i + 1) es ≡ take i es ++ e ∷ []
take_more [] i e at = absurd (cc)
take_more (x ∷ es) zero e at = ap (λ z. z ∷ []) (let is : x ≡ e = cc in is)
take_more (x ∷ es) (suc i) e at = ap (λ n. take n (x ∷ es))
    (let z : suc i + 1 ≡ suc (i + 1) = omega arith in z)
    ∙ ap (λ zs. x ∷ zs) (take_more es i e at)

---- The first bad entry.

pub take_whole : (es : List Entry) (n : ℕ) → length es ≤ n → take n es ≡ es
take_whole [] zero h = refl
take_whole [] (suc n) h = refl
take_whole (x ∷ es) zero h = absurd (omega arith)
take_whole (x ∷ es) (suc n) h = ap (λ zs. x ∷ zs) (take_whole es n (omega arith))

-- the entries before number n are right, and no sound book goes on with that one
pub bad_at : (wall : ChineseWall) (es : List Entry) (i : ℕ) (e : Entry) → slice_get es i ≡ Some e →
    Begins wall (take i es) → (Begins wall (take i es ++ e ∷ []) → ⊥) → IsFirstBad wall es (i + 1)
bad_at wall es i e at before wrong =
    let low : i < length es = slice_get_within es i e at in
    record {
      counted = omega arith;
      within = omega arith;
      before =
          subst (λ n. Begins wall (take n es)) (let z : i ≡ i + 1 - 1 = omega arith in z) before;
      wrong = λ _ h. wrong (subst (Begins wall) (take_more es i e at) h);
      missing = λ same. absurd (omega (arith, low, same));
    }

-- all entries are right, but one more is due
pub bad_end : (wall : ChineseWall) (es : List Entry) → Begins wall es → (IsSound wall es → ⊥) →
    IsFirstBad wall es (length es + 1)
bad_end wall es before unsound = record {
  counted = omega arith;
  within = omega arith;
  before = subst (Begins wall) (sym (take_whole es (length es + 1 - 1) (omega arith))) before;
  wrong = λ low. absurd (omega (arith, low));
  missing = λ _ sound. unsound sound;
}

pub length_prefix : (es : List Entry) (n : ℕ) → length (take n es) ≤ length es
length_prefix [] zero = omega arith
length_prefix [] (suc n) = omega arith
length_prefix (x ∷ es) zero = omega arith
length_prefix (x ∷ es) (suc n) = let rest = length_prefix es n in omega arith
