-- What one entry more makes, over `Made`, without a run.
use Rattle.std.proofs.Common.{◌≡◌, ◌≢◌, ℕ, zero, suc, ◌+◌, ◌<◌, ◌≤◌, List, [], ◌∷◌, ◌++◌, length}
use Rattle.std.proofs.Common.{refl, sym, ap, ◌∙◌, arith, Bool, true, false, not, ◌&&◌, ◌||◌, ⊎_elim}
use Rattle.std.proofs.Common.{◌⊎◌, inl, inr, Option, None, cond, eqb-true, eq-eqb, ne_eqb}
use Rattle.std.specs.Prelude.{◌==◌, count_by}
use Rattle.std.specs.List.{cons_option}
use Rattle.std.proofs.lemmas.Bool.{cases_Bool, false≢true}
use Rattle.std.proofs.lemmas.Bool.{and_from, and_left, and_right, or_right}
use Rattle.std.proofs.lemmas.List.Sums.{sum_by-append}
use Rattle.wall_labels.specs.declared.label.Label.{Label}
use Rattle.mpi_elems.specs.Contents.{Contents}
use Rattle.mpi_cart.specs.Grids.{below}
use Rattle.mpi_cart.proofs.MpiCartLemmas.{range_more}
use Rattle.run_model.specs.declared.refusal.Refusal.{Refusal}
use Rattle.run_model.specs.Contributions.{Contribution, contribution}
use Rattle.run_model.specs.declared.call.Posting.{Posting}
use Rattle.run_model.specs.declared.call.Act.{Act}
use Rattle.run_model.specs.declared.call.Act.TheVariants.{Post as ToPost, Take, Info as ToInfo}
use Rattle.run_model.specs.declared.reply.Reply.{Reply}
use Rattle.run_model.specs.declared.reply.Reply.TheVariants.{Posted, Barred, Pending, Delivered}
use Rattle.run_model.specs.declared.reply.Reply.TheVariants.{NewComm, NullComm, Denied, NoRoom}
use Rattle.run_model.specs.declared.reply.Reply.TheVariants.{Info, Refused}
use Rattle.run_model.specs.Runs.{Entry, Effects, effects, contribution_by, counted, statement, kept}
use Rattle.run_model.specs.Runs.{requests, is_outcome, MakesNothing, takes, with_contribution}
use Rattle.run_model.specs.Runs.{with_taken, after_entry}
use Rattle.run_model.specs.Replies.{posts_made, open_requests, is_limit_reached, too_many}
use Rattle.run_model.proofs.RequestLemmas.{requests_other, length_own}

-- ## entries

-- what a run with one entry more makes
pub made_is : (e : Entry) (run : List Entry) → effects (e ∷ run) ≡ after_entry (effects run) e
made_is e run = refl

-- the counted post of a posting that was answered
abbrev pub given_of : (p : ℕ) → Posting → (barred : Bool) → Contribution Contents
given_of p posting barred =
    contribution p posting.comm (statement posting barred) (kept posting barred)

abbrev pub entry_of : (p : ℕ) → Act → Reply → Entry
entry_of p act given = record { call = record { process = p; act = act }; reply = given }

none_taken : (m : Effects) (p : ℕ) (posting : Posting) (got : Reply) (q r : ℕ) →
    (p == q && takes (ToPost posting) r && is_outcome got || m.taken q r) ≡ m.taken q r
none_taken m p posting got q r = ap (λ b. b || m.taken q r)
    (and_left (p == q && false) (is_outcome got) (and_right (p == q) false refl))

both_true : (b : Bool) → (b && true) ≡ b
both_true true = refl
both_true false = refl

-- a post that passed, and one that was barred
pub after_posted : (m : Effects) (p r : ℕ) (posting : Posting) →
    after_entry m (entry_of p (ToPost posting) (Posted r))
    ≡ with_contribution m (given_of p posting false)
after_posted m p r posting = λ i. record {
  contributions = given_of p posting false
      ∷ m.contributions;
  taken = λ q s. none_taken m p posting (Posted r) q s i;
}

pub after_barred : (m : Effects) (p r : ℕ) (label : Label) (posting : Posting) →
    after_entry m (entry_of p (ToPost posting) (Barred r label))
    ≡ with_contribution m (given_of p posting true)
after_barred m p r label posting = λ i. record {
  contributions = given_of p posting true
      ∷ m.contributions;
  taken = λ q s. none_taken m p posting (Barred r label) q s i;
}

-- an outcome that was taken
pub after_outcome : (m : Effects) (p r : ℕ) (got : Reply) → is_outcome got ≡ true →
    after_entry m (entry_of p (Take r) got) ≡ with_taken m p r
after_outcome m p r got is = λ i. record {
  contributions = m.contributions;
  taken = λ q s. (ap (λ b. p == q && r == s && b) is ∙ both_true (p == q && r == s)) i
      || m.taken q s;
}

counts_nothing : (act : Act) (got : Reply) → MakesNothing got → counted act got ≡ None
counts_nothing (ToPost posting) Pending h = refl
counts_nothing (ToPost posting) (Info size rank dims) h = refl
counts_nothing (ToPost posting) (Refused why) h = refl
counts_nothing (ToPost posting) (Posted r) h = absurd h
counts_nothing (ToPost posting) (Barred r label) h = absurd h
counts_nothing (ToPost posting) (Delivered blocks) h = refl
counts_nothing (ToPost posting) (NewComm c rank size) h = refl
counts_nothing (ToPost posting) NullComm h = refl
counts_nothing (ToPost posting) (Denied rule p label) h = refl
counts_nothing (ToPost posting) NoRoom h = refl
counts_nothing (Take r) got h = refl
counts_nothing (ToInfo c) got h = refl

takes_nothing : (got : Reply) → MakesNothing got → is_outcome got ≡ false
takes_nothing Pending h = refl
takes_nothing (Info size rank dims) h = refl
takes_nothing (Refused why) h = refl
takes_nothing (Posted r) h = refl
takes_nothing (Barred r label) h = refl
takes_nothing (Delivered blocks) h = absurd h
takes_nothing (NewComm c rank size) h = absurd h
takes_nothing NullComm h = absurd h
takes_nothing (Denied rule p label) h = absurd h
takes_nothing NoRoom h = absurd h

-- a call that was refused, that waits, or that asked
pub after_nothing : (m : Effects) (p : ℕ) (act : Act) (got : Reply) → MakesNothing got →
    after_entry m (entry_of p act got) ≡ m
after_nothing m p act got h = λ i. record {
  contributions =
      ap (λ o. cons_option (contribution_by p o) m.contributions) (counts_nothing act got h) i;
  taken = λ q s. ap (λ b. b || m.taken q s)
      (and_right (p == q && takes act s) (is_outcome got) (takes_nothing got h)) i;
}

pub after_refused : (m : Effects) (p : ℕ) (act : Act) (why : Refusal) →
    after_entry m (entry_of p act (Refused why)) ≡ m
after_refused m p act why = after_nothing m p act (Refused why) tt

pub after_pending : (m : Effects) (p : ℕ) (act : Act) → after_entry m (entry_of p act Pending) ≡ m
after_pending m p act = after_nothing m p act Pending tt

pub after_info : (m : Effects) (p : ℕ) (act : Act) (size rank : ℕ) (dims : Option ℕ) →
    after_entry m (entry_of p act (Info size rank dims)) ≡ m
after_info m p act size rank dims = after_nothing m p act (Info size rank dims) tt

-- a post that was answered as no post is, a take that told nothing, and a question
pub after_other : (m : Effects) (p : ℕ) (posting : Posting) (got : Reply) →
    counted (ToPost posting) got ≡ None → after_entry m (entry_of p (ToPost posting) got) ≡ m
after_other m p posting got none = λ i. record {
  contributions =
      ap (λ o. cons_option (contribution_by p o) m.contributions) none i;
  taken = λ q s. none_taken m p posting got q s i;
}

pub after_untold : (m : Effects) (p r : ℕ) (got : Reply) → is_outcome got ≡ false →
    after_entry m (entry_of p (Take r) got) ≡ m
after_untold m p r got f = λ i. record {
  contributions = m.contributions;
  taken =
      λ q s. ap (λ b. b || m.taken q s) (and_right (p == q && r == s) (is_outcome got) f) i;
}

pub after_asked : (m : Effects) (p c : ℕ) (got : Reply) →
    after_entry m (entry_of p (ToInfo c) got) ≡ m
after_asked m p c got = λ i. record {
  contributions = m.contributions;
  taken = λ q s. ap (λ b. b || m.taken q s)
      (and_left (p == q && false) (is_outcome got) (and_right (p == q) false refl)) i;
}

-- ## how many requests wait

below_more : (n : ℕ) → below (suc n) ≡ below n ++ n ∷ []
below_more n = range_more 0 n ∙ ap (λ m. below n ++ m ∷ []) (let z : 0 + n ≡ n = omega arith in z)

count_more : (f : ℕ → Bool) (n : ℕ) →
    count_by f (below (suc n)) ≡ count_by f (below n) + cond {A = ℕ} (f n) 1 0
count_more f n =
    let last : 0 + cond {A = ℕ} (f n) 1 0 ≡ cond {A = ℕ} (f n) 1 0 = omega arith in
    ap (λ (xs : List ℕ). count_by f xs) (below_more n)
    ∙ (sum_by-append (λ r. cond {A = ℕ} (f r) 1 0) (below n) (n ∷ [])
    ∙ ap (λ (k : ℕ). count_by f (below n) + k) last)

count_same : (f g : ℕ → Bool) (n : ℕ) → ((i : ℕ) → i < n → f i ≡ g i) →
    count_by f (below n) ≡ count_by g (below n)
count_same f g zero same = refl
count_same f g (suc n) same =
    let last : cond {A = ℕ} (f n) 1 0 ≡ cond {A = ℕ} (g n) 1 0 = ap (λ b. cond {A = ℕ} b 1 0)
    (same n (omega arith)) in
    omega (
      arith,
      count_more f n,
      count_more g n,
      count_same f g n (λ i h. same i (omega (arith, h))),
      last,
    )

-- one fewer
count_less : (f g : ℕ → Bool) (n r : ℕ) → r < n → f r ≡ true → g r ≡ false →
    ((i : ℕ) → i ≢ r → f i ≡ g i) → count_by f (below n) ≡ count_by g (below n) + 1
count_less f g zero r h held gone same = absurd (omega (arith, h))
count_less f g (suc n) r h held gone same = ⊎_elim
    (λ (e : n ≡ r).
    let one : cond {A = ℕ} (f n) 1 0 ≡ 1 = ap (λ b. cond {A = ℕ} b 1 0) (ap f e ∙ held) in
    let none : cond {A = ℕ} (g n) 1 0 ≡ 0 = ap (λ b. cond {A = ℕ} b 1 0) (ap g e ∙ gone) in
    omega (
      arith,
      count_more f n,
      count_more g n,
      count_same f g n (λ i low. same i (λ is. absurd (omega (arith, low, e, is)))),
      one,
      none,
    ))
    (λ (apart : n ≢ r).
    let last : cond {A = ℕ} (f n) 1 0 ≡ cond {A = ℕ} (g n) 1 0 = ap (λ b. cond {A = ℕ} b 1 0)
    (same n apart) in
    let low : r < n = below_next n r h apart in
    omega (arith, count_more f n, count_more g n, count_less f g n r low held gone same, last))
    (same_or_not n r)
  where
    same_or_not : (a b : ℕ) → (a ≡ b) ⊎ (a ≢ b)
    same_or_not a b = ⊎_elim (λ t. inl (eqb-true a b t))
        (λ f. inr (λ e. false≢true (sym f ∙ eq-eqb a b e))) (cases_Bool (a == b))

    below_next : (n r : ℕ) → r < suc n → n ≢ r → r < n
    below_next n r h apart = ⊎_elim (λ t. t)
        (λ (high : n ≤ r). absurd (apart (let e : n ≡ r = omega (arith, h, high) in e)))
        (Rattle.std.proofs.lemmas.Bool.cases_lt r n)

-- a post makes one more of its poster's, if no request was taken before it was given
pub open_own : (m : Effects) (g : Contribution Contents) →
    m.taken g.post.process (length (requests g.post.process (posts_made m))) ≡ false →
    open_requests g.post.process (with_contribution m g) ≡ open_requests g.post.process m + 1
open_own m g untaken =
    let p = g.post.process in
    let n = length (requests p (posts_made m)) in
    let long : length (requests p (posts_made (with_contribution m g))) ≡ suc n =
    (let e = length_own g.post (posts_made m) in omega (arith, e)) in
    let one : cond {A = ℕ} (not (m.taken p n)) 1 0 ≡ 1 = ap (λ b. cond {A = ℕ} (not b) 1 0) untaken
    in
    ap (λ k. count_by (λ r. not (m.taken p r)) (below k)) long
    ∙ (count_more (λ r. not (m.taken p r)) n ∙ ap (λ (k : ℕ). open_requests p m + k) one)

pub open_other : (m : Effects) (g : Contribution Contents) (p : ℕ) → g.post.process ≢ p →
    open_requests p (with_contribution m g) ≡ open_requests p m
open_other m g p apart = ap
    (λ (rs : List (ℕ × ℕ)). count_by (λ r. not (m.taken p r)) (below (length rs)))
    (requests_other p g.post (posts_made m) apart)

-- an outcome that is taken makes one fewer
pub open_taken : (m : Effects) (p r : ℕ) → r < length (requests p (posts_made m)) →
    m.taken p r ≡ false → open_requests p m ≡ open_requests p (with_taken m p r) + 1
open_taken m p r low untaken = count_less (λ s. not (m.taken p s))
    (λ s. not (p == p && r == s || m.taken p s)) (length (requests p (posts_made m))) r low
    (ap not untaken)
    (ap (λ b. not (b || m.taken p r))
    (and_from (p == p) (r == r) (eq-eqb p p refl) (eq-eqb r r refl)))
    (λ i apart. ap (λ b. not (b || m.taken p i))
    (sym (and_right (p == p) (r == i) (ne_eqb r i (λ e. apart (sym e))))))

pub open_taken_other : (m : Effects) (p q r : ℕ) → p ≢ q →
    open_requests q (with_taken m p r) ≡ open_requests q m
open_taken_other m p q r apart = count_same (λ s. not (p == q && r == s || m.taken q s))
    (λ s. not (m.taken q s)) (length (requests q (posts_made m)))
    (λ i low. ap (λ b. not (b || m.taken q i)) (and_left (p == q) (r == i) (ne_eqb p q apart)))

-- which requests are taken
pub taken_own : (m : Effects) (p r : ℕ) → (with_taken m p r).taken p r ≡ true
taken_own m p r =
    ap (λ b. b || m.taken p r) (and_from (p == p) (r == r) (eq-eqb p p refl) (eq-eqb r r refl))

pub taken_other : (m : Effects) (p r q s : ℕ) → (p ≢ q) ⊎ (r ≢ s) →
    (with_taken m p r).taken q s ≡ m.taken q s
taken_other m p r q s apart = ap (λ b. b || m.taken q s) (⊎_elim
    (λ a. and_left (p == q) (r == s) (ne_eqb p q a))
    (λ b. and_right (p == q) (r == s) (ne_eqb r s b)) apart)

pub taken_still : (m : Effects) (e : Entry) (p r : ℕ) → m.taken p r ≡ true →
    (after_entry m e).taken p r ≡ true
taken_still m e p r h =
    or_right (e.call.process == p && takes e.call.act r && is_outcome e.reply) (m.taken p r) h

-- whether a process has too many, by how many wait and how many were given
pub too_many_is : (m : Effects) (p waiting number : ℕ) → waiting ≡ open_requests p m →
    number ≡ length (requests p (posts_made m)) → is_limit_reached waiting number ≡ too_many p m
too_many_is m p waiting number w n = λ i. is_limit_reached (w i) (n i)
