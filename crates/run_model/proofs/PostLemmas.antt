-- The k-th posts, and what they say of an instance that a post fills.
use Rattle.std.proofs.Common.{◌≡◌, ℕ, zero, suc, List, [], ◌∷◌, ◌++◌, length, refl, sym, ap, ◌∙◌}
use Rattle.std.proofs.Common.{subst, ⊎_elim, inl, inr, ◌⊎◌, true, ◌&&◌, Option, Some, None}
use Rattle.std.proofs.Common.{slice_get, eqb-true, eq-eqb, option_map}
use Rattle.std.specs.Prelude.{◌==◌}
use Rattle.std.specs.Option.{option_and_then}
use Rattle.std.proofs.lemmas.Bool.{and_parts, and_from, cases_Bool, cond-true, cond-false}
use Rattle.std.proofs.lemmas.Option.{slice_get-map}
use Rattle.coll_routes.specs.declared.statement.Stated.{Stated}
use Rattle.coll_routes.specs.declared.roll.Roll.{Roll}
use Rattle.run_model.specs.Comms.{Comm}
use Rattle.coll_routes.specs.Rolls.{is_full}
use Rattle.run_model.specs.Posts.{Post, posts_on, instance, place, if_full, filled}
use Rattle.run_model.specs.Holding.{IsMoment}

---- A place in a list that grows at its end.

pub get_prefix : {X : Type 0} (xs ys : List X) (k : ℕ) (x : X) → slice_get xs k ≡ Some x →
    slice_get (xs ++ ys) k ≡ Some x
get_prefix [] ys k x e = absurd (cc)
get_prefix (y ∷ xs) ys zero x e = e
get_prefix (y ∷ xs) ys (suc k) x e = get_prefix xs ys k x e

pub get_end : {X : Type 0} (xs : List X) (x : X) → slice_get (xs ++ x ∷ []) (length xs) ≡ Some x
get_end [] x = refl
get_end (y ∷ xs) x = get_end xs x

pub get_either : {X : Type 0} (xs : List X) (y : X) (k : ℕ) (x : X) →
    slice_get (xs ++ y ∷ []) k ≡ Some x → (slice_get xs k ≡ Some x) ⊎ ((k ≡ length xs) × (y ≡ x))
get_either [] y zero x e = inr (refl, cc)
get_either [] y (suc k) x e = absurd (cc)
get_either (z ∷ xs) y zero x e = inl e
get_either (z ∷ xs) y (suc k) x e = ⊎_elim (λ h. inl h)
    (λ (h : (k ≡ length xs) × (y ≡ x)). inr (ap suc h.0, h.1)) (get_either xs y k x e)

---- The k-th post.

-- the k-th post of q on c is y, if q had posted k times there before it
pub posts_kth : (c q : ℕ) (later : List Post) (y : Post) (then : List Post) → y.comm ≡ c →
    y.process ≡ q →
    slice_get (posts_on c q (later ++ y ∷ then)) (length (posts_on c q then)) ≡ Some y.stated
posts_kth c q [] y then there by =
    let here : (y.comm == c && y.process == q) ≡ true = and_from (y.comm == c) (y.process == q)
    (eq-eqb y.comm c there) (eq-eqb y.process q by) in
    ap (λ ps. slice_get ps (length (posts_on c q then))) (cond-true (y.comm == c && y.process == q)
    (posts_on c q then ++ y.stated ∷ []) (posts_on c q then) here)
    ∙ get_end (posts_on c q then) y.stated
posts_kth c q (z ∷ later) y then there by =
    let rest = posts_kth c q later y then there by in
    let now = posts_on c q (later ++ y ∷ then) in
    let k = length (posts_on c q then) in
    ⊎_elim
    (λ t. ap (λ ps. slice_get ps k)
    (cond-true (z.comm == c && z.process == q) (now ++ z.stated ∷ []) now t)
    ∙ get_prefix now (z.stated ∷ []) k y.stated rest)
    (λ f. ap (λ ps. slice_get ps k)
    (cond-false (z.comm == c && z.process == q) (now ++ z.stated ∷ []) now f) ∙ rest)
    (cases_Bool (z.comm == c && z.process == q))

-- a post of q on c that was made after k others of them
pub record IsKth (c q k : ℕ) (s : Stated) (past : List Post) : Type 0 where
  pub y : Post
  pub then : List Post
  pub moment : IsMoment past y then
  pub there : y.comm ≡ c
  pub by : y.process ≡ q
  pub kth : length (posts_on c q then) ≡ k
  pub states : y.stated ≡ s

earlier : (c q k : ℕ) (s : Stated) (z : Post) (past : List Post) → IsKth c q k s past →
    IsKth c q k s (z ∷ past)
earlier c q k s z past h = record {
  y = h.y;
  then = h.then;
  moment = (z ∷ h.moment.0, ap (λ ps. z ∷ ps) h.moment.1);
  there = h.there;
  by = h.by;
  kth = h.kth;
  states = h.states;
}

pub kth_from : (c q k : ℕ) (s : Stated) (past : List Post) →
    slice_get (posts_on c q past) k ≡ Some s → IsKth c q k s past
kth_from c q k s [] e = absurd (cc)
kth_from c q k s (z ∷ past) e = ⊎_elim
    (λ t.
    let at : slice_get (posts_on c q past ++ z.stated ∷ []) k ≡ Some s = sym
    (ap (λ ps. slice_get ps k) (cond-true (z.comm == c && z.process == q)
    (posts_on c q past ++ z.stated ∷ []) (posts_on c q past) t)) ∙ e in
    let parts = and_parts (z.comm == c) (z.process == q) t in
    ⊎_elim
    (λ old. earlier c q k s z past (kth_from c q k s past old))
    (λ (new : (k ≡ length (posts_on c q past)) × (z.stated ≡ s)). record {
      y = z;
      then = past;
      moment = ([], refl);
      there = eqb-true z.comm c parts.0;
      by = eqb-true z.process q parts.1;
      kth = sym new.0;
      states = new.1;
    })
    (get_either (posts_on c q past) z.stated k s at))
    (λ f. earlier c q k s z past (kth_from c q k s past (sym (ap (λ ps. slice_get ps k)
    (cond-false (z.comm == c && z.process == q)
    (posts_on c q past ++ z.stated ∷ []) (posts_on c q past) f)) ∙ e)))
    (cases_Bool (z.comm == c && z.process == q))

---- The instance that a post fills.

pub record IsFilled (table : List Comm) (x : Post) (past : List Post) (roll : Roll) : Type 0 where
  pub comm : Comm
  pub at : slice_get table x.comm ≡ Some comm
  pub is : instance comm x.comm (place x past) (x ∷ past) ≡ roll
  pub full : is_full roll.stated ≡ true

if_full_is : (r roll : Roll) → if_full r ≡ Some roll → (r ≡ roll) × (is_full roll.stated ≡ true)
if_full_is r roll e = ⊎_elim
    (λ t. let same : r ≡ roll =
    (let s = sym (cond-true (is_full r.stated) (Some r) None t) ∙ e in cc) in
    (same, subst (λ (z : Roll). is_full z.stated ≡ true) same t))
    (λ f. let none = sym (cond-false (is_full r.stated) (Some r) None f) ∙ e in absurd (cc))
    (cases_Bool (is_full r.stated))

filled_by : (table : List Comm) (x : Post) (past : List Post) (roll : Roll) (o : Option Comm) →
    slice_get table x.comm ≡ o →
    option_and_then (λ comm. if_full (instance comm x.comm (place x past) (x ∷ past))) o
    ≡ Some roll → IsFilled table x past roll
filled_by table x past roll None at e = absurd (cc)
filled_by table x past roll (Some comm) at e =
    let parts = if_full_is (instance comm x.comm (place x past) (x ∷ past)) roll e in
    record { comm = comm; at = at; is = parts.0; full = parts.1 }

pub filled_is : (table : List Comm) (x : Post) (past : List Post) (roll : Roll) →
    filled table x past ≡ Some roll → IsFilled table x past roll
unfolding filled
filled_is table x past roll e = filled_by table x past roll (slice_get table x.comm) refl e

module _ (table : List Comm) (x : Post) (past : List Post) (roll : Roll) (i : ℕ)
    (h : IsFilled table x past roll) where
  abbrev kth_of : ℕ → Option Stated
  kth_of m = slice_get (posts_on x.comm m (x ∷ past)) (place x past)

  -- what rank i states, by its member
  stated_is : slice_get roll.stated i ≡ option_map kth_of (slice_get roll.members i)
  stated_is =
      ap (λ (r : Roll). slice_get r.stated i) (sym h.is)
      ∙ (slice_get-map kth_of h.comm.members i
      ∙ ap (λ (r : Roll). option_map kth_of (slice_get r.members i)) h.is)

  -- the statement of rank i is the k-th of its member
  pub stated_at : (q : ℕ) → slice_get roll.members i ≡ Some q →
      slice_get roll.stated i ≡ Some (slice_get (posts_on x.comm q (x ∷ past)) (place x past))
  stated_at q at = stated_is ∙ ap (λ o. option_map kth_of o) at

  stated_go : (s : Stated) (o : Option ℕ) → option_map kth_of o ≡ Some (Some s) →
      (q : ℕ) × (o ≡ Some q) × (slice_get (posts_on x.comm q (x ∷ past)) (place x past) ≡ Some s)
  stated_go s None e = absurd (cc)
  stated_go s (Some q) e = (q, refl, cc)

  -- a statement in the instance is the k-th of some member
  pub stated_by : (s : Stated) → slice_get roll.stated i ≡ Some (Some s) →
      (q : ℕ) × (slice_get roll.members i ≡ Some q)
      × (slice_get (posts_on x.comm q (x ∷ past)) (place x past) ≡ Some s)
  stated_by s at = stated_go s (slice_get roll.members i) (sym stated_is ∙ at)
