-- The place of a post, before it is counted.
use Rattle.std.proofs.Common.{◌≡◌, ℕ, suc, ◌+◌, ◌^◌, ◌<◌, ◌≤◌, Bool, true, ◌&&◌, List, [], ◌∷◌}
use Rattle.std.proofs.Common.{◌++◌, length, refl, sym, ap, ◌∙◌, arith, Option, Some, None}
use Rattle.std.proofs.Common.{slice_get, cond, ⊎_elim, eqb-true, eq-eqb, length-append}
use Rattle.std.specs.Prelude.{◌==◌, count_by}
use Rattle.std.proofs.lemmas.Bool.{cases_Bool, cond-true, cond-false, and_from, and_left, and_right}
use Rattle.std.proofs.lemmas.List.Sums.{sum_by-append, sum_by_push}
use Rattle.wall_policy.specs.Policy.{ChineseWall, IsPolicy}
use Rattle.run_model.specs.Comms.{processes}
use Rattle.run_model.specs.declared.outcome.Outcome.{Outcome}
use Rattle.run_model.specs.Posts.{Post, posts_on, place, outcome_at}
use Rattle.run_model.specs.Books.{IsCounted}
use Rattle.run_model.specs.Runs.{Effects, requests}
use Rattle.run_model.specs.Replies.{posts_made}
use Rattle.run_model.proofs.RunModelLemmas.{not_full_before, settled_full}
use Rattle.hall_core.specs.declared.requests.Request.{Request}
use Rattle.hall_core.specs.declared.settled.Settlement.{Settlement}
use Rattle.hall_core.specs.Asking.{opened, is_for, open_in, open_for}
use Rattle.hall_core.specs.Settling.{Places, KeepsCount, settlement_at}
use Rattle.hall_core.specs.Halls.{HallView, StandsForEffects, instance_of}
use Rattle.hall_core.proofs.AskingLemmas.{some_asks, at_most_each}
use Rattle.hall_core.proofs.TakeLemmas.{known_as}

-- ## one request of a process for an instance

module _ (c k : ℕ) where
  abbrev same : ℕ × ℕ → Bool
  same ck = ck.0 == c && ck.1 == k

  abbrev one : ℕ × ℕ → ℕ
  one ck = cond {A = ℕ} (same ck) 1 0

  -- one at most, and none before its time
  pub record IsOnce (p : ℕ) (past : List Post) : Type 0 where
    pub most : count_by same (requests p past) ≤ 1
    pub none : length (posts_on c p past) ≤ k → count_by same (requests p past) ≡ 0

  once : (p : ℕ) (past : List Post) → IsOnce p past
  once p [] = record { most = omega arith; none = λ short. refl }
  once p (x ∷ past) = ⊎_elim
      (λ own.
      let more : count_by same (requests p (x ∷ past)) ≡ count_by same (requests p past) + one
      (x.comm, place x past) = ap (count_by same) (cond-true (x.process == p)
      (requests p past ++ (x.comm, place x past) ∷ []) (requests p past) own) ∙ sum_by_push
      one (requests p past) (x.comm, place x past) in
      let by : x.process ≡ p = eqb-true x.process p own in
      ⊎_elim
      (λ t. here more (eqb-true x.comm c t) by (and_from (x.comm == c) (x.process == p) t own)
      (once p past))
      (λ f.
      let none : one (x.comm, place x past) ≡ 0 = ap (λ (b : Bool). cond {A = ℕ} b 1 0)
      (and_left (x.comm == c) (place x past == k) f) in
      let still : length (posts_on c p (x ∷ past)) ≡ length (posts_on c p past) = ap length
      (cond-false (x.comm == c && x.process == p) (posts_on c p past ++ x.stated ∷ [])
      (posts_on c p past) (and_left (x.comm == c) (x.process == p) f)) in
      let old = once p past in
      record {
        most = (let m = old.most in omega (arith, more, none, m));
        none = λ short. (let n = old.none (omega (arith, still, short)) in
            omega (arith, more, none, n));
      })
      (cases_Bool (x.comm == c)))
      (λ other.
      let still : count_by same (requests p (x ∷ past)) ≡ count_by same (requests p past) = ap
      (count_by same) (cond-false (x.process == p)
      (requests p past ++ (x.comm, place x past) ∷ []) (requests p past) other) in
      let posts : length (posts_on c p (x ∷ past)) ≡ length (posts_on c p past) = ap length
      (cond-false (x.comm == c && x.process == p) (posts_on c p past ++ x.stated ∷ [])
      (posts_on c p past) (and_right (x.comm == c) (x.process == p) other)) in
      let old = once p past in
      record {
        most = (let m = old.most in omega (arith, still, m));
        none = λ short.
            (let n = old.none (omega (arith, posts, short)) in omega (arith, still, n));
      })
      (cases_Bool (x.process == p))
    where
      here : count_by same (requests p (x ∷ past))
          ≡ count_by same (requests p past) + one (x.comm, place x past) → x.comm ≡ c →
          x.process ≡ p → (x.comm == c && x.process == p) ≡ true → IsOnce p past →
          IsOnce p (x ∷ past)
      here more there by t old =
          let long : length (posts_on c p (x ∷ past)) ≡ length (posts_on c p past) + 1 = ap length
          (cond-true (x.comm == c && x.process == p) (posts_on c p past ++ x.stated ∷ [])
          (posts_on c p past) t) ∙ length-append (posts_on c p past) (x.stated ∷ []) in
          let at : place x past ≡ length (posts_on c p past) =
          (λ i. length (posts_on (there i) (by i) past)) in
          ⊎_elim
          (λ is.
          let k_is : place x past ≡ k = eqb-true (place x past) k is in
          let yes : one (x.comm, place x past) ≡ 1 = ap (λ (b : Bool). cond {A = ℕ} b 1 0)
          (and_from (x.comm == c) (place x past == k) (eq-eqb x.comm c there) is) in
          let none = old.none (omega (arith, at, k_is)) in
          record {
            most = omega (arith, more, yes, none);
            none = λ short. absurd (omega (arith, short, long, at, k_is));
          })
          (λ isnt.
          let none : one (x.comm, place x past) ≡ 0 = ap (λ (b : Bool). cond {A = ℕ} b 1 0)
          (and_right (x.comm == c) (place x past == k) isnt) in
          record {
            most = (let m = old.most in omega (arith, more, none, m));
            none = λ short. (let n = old.none (omega (arith, short, long)) in
                omega (arith, more, none, n));
          })
          (cases_Bool (place x past == k))

  one_open : Option Request → ℕ
  one_open o = cond {A = ℕ} (is_for c k o) 1 0

  -- no more are open than were given
  fewer : (list : List (Option Request)) (given : List (ℕ × ℕ)) → length list ≡ length given →
      ((n : ℕ) (r : Request) → opened list n ≡ Some r → slice_get given n ≡ Some (instance_of r)) →
      open_in list c k ≤ count_by same given
  fewer [] given long of = omega arith
  fewer (x ∷ list) [] long of = absurd (cc)
  fewer (x ∷ list) (ck ∷ given) long of =
      let rest = fewer list given (let e : length list ≡ length given = omega (arith, long) in e)
      (λ n r e. of (suc n) r e) in
      let left : open_in (x ∷ list) c k ≡ cond {A = ℕ} (is_for c k x) 1 0 + open_in list c k =
      (let all = sum_by-append (λ (o : Option Request). cond {A = ℕ} (is_for c k o) 1 0)
      (x ∷ []) list in omega (arith, all)) in
      let right : count_by same (ck ∷ given) ≡ one ck + count_by same given =
      (let all = sum_by-append one (ck ∷ []) given in omega (arith, all)) in
      first x refl rest left right
    where
      first : (y : Option Request) → x ≡ y → open_in list c k ≤ count_by same given →
          open_in (x ∷ list) c k ≡ cond {A = ℕ} (is_for c k x) 1 0 + open_in list c k →
          count_by same (ck ∷ given) ≡ one ck + count_by same given →
          open_in (x ∷ list) c k ≤ count_by same (ck ∷ given)
      first None e rest left right =
          let none : cond {A = ℕ} (is_for c k x) 1 0 ≡ 0 = ap (λ o. cond {A = ℕ} (is_for c k o) 1 0)
          e in
          omega (arith, rest, left, right, none)
      first (Some r) e rest left right =
          let at : Some ck ≡ Some (instance_of r) = of 0 r e in
          let is : ck ≡ instance_of r = cc in
          let both : cond {A = ℕ} (is_for c k x) 1 0 ≡ one ck = ap
          (λ o. cond {A = ℕ} (is_for c k o) 1 0) e ∙ ap one (sym is) in
          omega (arith, rest, left, right, both)

  -- so a process has one at most that is open
  pub asked_once : (hall : HallView) (m : Effects) → StandsForEffects hall m → (p : ℕ) →
      open_in (hall.asked p) c k ≤ 1
  asked_once hall m stands p =
      let most = (once p (posts_made m)).most in
      let all = fewer (hall.asked p) (requests p (posts_made m)) (stands.given p)
      (λ n r e. stands.waiting p n r e) in
      omega (arith, most, all)

  -- and so many processes have as many
  pub asked_few : (hall : HallView) (m : Effects) → StandsForEffects hall m → (n : ℕ) →
      open_for hall.asked n c k ≤ n
  asked_few hall m stands n = at_most_each c k hall.asked n (asked_once hall m stands)

-- and processes are few
pub few_processes : (wall : ChineseWall) → IsPolicy wall → processes wall < 2 ^ 62
few_processes wall policy = let few = policy.few_processes in omega (arith, few)

-- ## what stands at the place of a post

-- nothing came of its instance yet
pub unsettled : (wall : ChineseWall) (x : Post) (past : List Post) → IsCounted wall x past →
    outcome_at wall x.comm (place x past) past ≡ None
unsettled wall x past counts = go (outcome_at wall x.comm (place x past) past) refl
  where
    go : (o : Option Outcome) → outcome_at wall x.comm (place x past) past ≡ o →
        outcome_at wall x.comm (place x past) past ≡ None
    go None is = is
    go (Some o) is =
        let there = settled_full wall x.comm (place x past) past o is in
        absurd (not_full_before wall x past there.comm counts there.at there.full)

-- so nothing of it stands in the hall
pub none_there : (hall : HallView) (m : Effects) (n : ℕ) (rows : List Places) →
    StandsForEffects hall m → KeepsCount hall.asked n rows → hall.settled ≡ settlement_at rows →
    (c k : ℕ) → outcome_at hall.policy c k (posts_made m) ≡ None → hall.settled c k ≡ None
none_there hall m n rows stands counted shown c k none = go (hall.settled c k) refl
  where
    go : (o : Option Settlement) → hall.settled c k ≡ o → hall.settled c k ≡ None
    go None is = is
    go (Some s) is =
        let some = counted.held c k s
        (sym (ap (λ (f : ℕ → ℕ → Option Settlement). f c k) shown) ∙ is) in
        let by = some_asks c k hall.asked n
        (let all = counted.waiting c k in omega (arith, some, all)) in
        let at : hall.settled by.asks.r.comm by.asks.r.k ≡ Some s =
        (λ i. hall.settled (by.asks.of_comm i) (by.asks.of_number i)) ∙ is in
        let known = known_as hall m stands by.p by.asks.number by.asks.r s by.asks.waits at in
        let both : None ≡ Some s.outcome = sym none ∙ ((λ i.
        outcome_at hall.policy (sym by.asks.of_comm i) (sym by.asks.of_number i)
        (posts_made m)) ∙ known.came) in
        absurd (cc)
