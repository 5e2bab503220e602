-- What a hall stands for once a post has been entered and recorded.
use Rattle.std.proofs.Common.{◌≡◌, ◌≢◌, ℕ, false, ◌&&◌, List, [], ◌∷◌, ◌++◌, ◌+◌, length}
use Rattle.std.proofs.Common.{length-append, arith, refl, sym, ap, ◌∙◌, subst, Option, Some, None}
use Rattle.std.proofs.Common.{slice_get, option_map, ⊎_elim, ◌⊎◌, inl, inr, cond, eqb-true, eq-eqb}
use Rattle.std.specs.Prelude.{◌==◌}
use Rattle.std.specs.Option.{option_to_list}
use Rattle.std.proofs.lemmas.Bool.{cases_Bool, cond-true, cond-false, false≢true, and_parts}
use Rattle.std.proofs.lemmas.Bool.{and_from}
use Rattle.wall_policy.specs.Policy.{ChineseWall}
use Rattle.mpi_elems.specs.Contents.{Contents}
use Rattle.coll_values.specs.declared.full.Full.{Full}
use Rattle.run_model.specs.declared.outcome.Outcome.{Outcome}
use Rattle.run_model.specs.declared.entry.Entry.TheVariants.{Settled as EntrySettled}
use Rattle.run_model.specs.Posts.{Post, comms, outcome_at, filled, outcome, place}
use Rattle.run_model.specs.Books.{IsCounted, book, posted, outcome_entry as book_settlement}
use Rattle.run_state.specs.declared.entered.Entered.{Entered}
use Rattle.run_state.specs.declared.entered.Entered.TheVariants.{Waiting, Settled}
use Rattle.run_model.specs.Contributions.{Contribution, full_at}
use Rattle.run_state.specs.Stands.{StandsForPosts, Tells}
use Rattle.run_model.specs.Runs.{Effects, requests, with_contribution}
use Rattle.run_model.specs.Replies.{posts_made, comm_at}
use Rattle.run_model.proofs.RunModelLemmas.{requests_own, requests_other, settled_now, settled_none}
use Rattle.run_model.proofs.RunModelLemmas.{settled_other, instance_stays, filled_at}
use Rattle.hall_core.specs.declared.requests.Request.{Request}
use Rattle.hall_core.specs.declared.settled.Settlement.{Settlement}
use Rattle.hall_core.specs.Asking.{opened, taken_at, with_request}
use Rattle.hall_core.specs.Halls.{HallView, StandsForEffects, instance_of, settlement}
use Rattle.hall_core.specs.Halls.{settlement_in}
use Rattle.hall_core.specs.Moves.{number_in, entries_of, IsSettledBy, IsRecorded}
use Rattle.run_model.proofs.RunModelLemmas.{request_new}
use Rattle.hall_core.proofs.RequestLemmas.{updated_same, updated_other, same_or_not}
use Rattle.run_model.proofs.RunModelLemmas.{get_prefix}
use Rattle.hall_core.proofs.RequestLemmas.{taken_more, opened_more}
use Rattle.hall_core.proofs.PlaceLemmas.{unsettled}

outcome_none : (wall : ChineseWall) (x : Post) (past : List Post) →
    filled (comms wall past) x past ≡ None → outcome wall x past ≡ None
outcome_none wall x past none = ap (λ o. option_map (Rattle.run_model.specs.Posts.outcome_of wall
    (Rattle.run_model.specs.Posts.labelled
    (Rattle.run_model.specs.Posts.histories wall past) x) (length (comms wall past))) o)
    none

-- ## settlements

module _ (wall : ChineseWall) (m : Effects) (g : Contribution Contents)
    (counts : IsCounted wall g.post (posts_made m)) where
  -- an instance that the post does not settle is kept as it was
  still : (c k : ℕ) →
      outcome_at wall c k (g.post ∷ posts_made m) ≡ outcome_at wall c k (posts_made m) →
      settlement_in wall (with_contribution m g) c k ≡ settlement_in wall m c k
  still c k same = go (outcome_at wall c k (posts_made m)) refl
    where
      go : (o : Option Outcome) → outcome_at wall c k (posts_made m) ≡ o →
          settlement_in wall (with_contribution m g) c k ≡ settlement_in wall m c k
      go None is = ap (λ o. option_map (settlement
          (full_at (comm_at wall (g.post ∷ posts_made m) c) c k (g ∷ m.contributions))) o)
          (same ∙ is)
          ∙ sym (ap (λ o. option_map
          (settlement (full_at (comm_at wall (posts_made m) c) c k m.contributions)) o) is)
      go (Some o) is =
          λ i. option_map (settlement (instance_stays wall c k o g m.contributions is i)) (same i)

  waiting : filled (comms wall (posts_made m)) g.post (posts_made m) ≡ None → (c k : ℕ) →
      settlement_in wall (with_contribution m g) c k ≡ settlement_in wall m c k
  waiting none c k = still c k (settled_none wall c k g.post (posts_made m) none)

  module _ (full : Full Contents) (k : ℕ) (o : Outcome)
      (tells : Tells wall g m.contributions (Settled full k o)) where
    place_is : place g.post (posts_made m) ≡ k
    place_is = sym tells.0

    -- the one that it settles
    own : settlement_in wall (with_contribution m g) g.post.comm k ≡ Some (settlement full o)
    own =
        let came : outcome_at wall g.post.comm k (g.post ∷ posts_made m) ≡ Some o =
        ap (λ n. outcome_at wall g.post.comm n (g.post ∷ posts_made m)) (sym place_is)
        ∙ (settled_now wall g.post (posts_made m) full.roll tells.1 ∙ tells.3) in
        let is : full_at (comm_at wall (g.post ∷ posts_made m) g.post.comm) g.post.comm k
        (g ∷ m.contributions) ≡ full = filled_at wall g m.contributions k full tells.2 in
        λ i. option_map (settlement (is i)) (came i)

    -- every other
    other : (c j : ℕ) → (g.post.comm ≢ c) ⊎ (k ≢ j) →
        settlement_in wall (with_contribution m g) c j ≡ settlement_in wall m c j
    other c j apart = still c j (settled_other wall c j g.post (posts_made m)
        (⊎_elim (λ a. inl a) (λ (b : k ≢ j). inr (λ e. b (sym place_is ∙ e))) apart))

    now_settled : (c j : ℕ) →
        settlement_in wall (with_contribution m g) c j
        ≡ cond (c == g.post.comm && j == k) (Some (settlement full o))
        (settlement_in wall m c j)
    now_settled c j = ⊎_elim
        (λ t.
        let parts = and_parts (c == g.post.comm) (j == k) t in
        (λ i. settlement_in wall (with_contribution m g) (eqb-true c g.post.comm parts.0 i)
        (eqb-true j k parts.1 i))
        ∙ (own
        ∙ sym (cond-true (c == g.post.comm && j == k) (Some (settlement full o))
        (settlement_in wall m c j) t)))
        (λ f. other c j (apart (same_or_not c g.post.comm) (same_or_not j k) f)
        ∙ sym (cond-false (c == g.post.comm && j == k) (Some (settlement full o))
        (settlement_in wall m c j) f))
        (cases_Bool (c == g.post.comm && j == k))
      where
        apart : (c ≡ g.post.comm) ⊎ (c ≢ g.post.comm) → (j ≡ k) ⊎ (j ≢ k) →
            (c == g.post.comm && j == k) ≡ false → (g.post.comm ≢ c) ⊎ (k ≢ j)
        apart (inr a) b f = inl (λ e. a (sym e))
        apart (inl a) (inr b) f = inr (λ e. b (sym e))
        apart (inl a) (inl b) f = absurd (false≢true (sym f
            ∙ and_from (c == g.post.comm) (j == k) (eq-eqb c g.post.comm a) (eq-eqb j k b)))

  settled_by : (old new : (c k : ℕ) → Option Settlement) (entered : Entered Contents) →
      Tells wall g m.contributions entered → IsSettledBy g.post.comm entered old new → (c k : ℕ) →
      old c k ≡ settlement_in wall m c k → new c k ≡ settlement_in wall (with_contribution m g) c k
  settled_by old new (Waiting n) tells by c k before = by c k ∙ (before ∙ sym (waiting tells.1 c k))
  settled_by old new (Settled full n o) tells by c k before =
      by c k
      ∙ (ap (λ s. cond (c == g.post.comm && k == n) (Some (settlement full o)) s) before
      ∙ sym (now_settled full n o tells c k))

  -- nothing came before of the instance that it belongs to
  none_before : settlement_in wall m g.post.comm (place g.post (posts_made m)) ≡ None
  none_before = ap (λ o. option_map (settlement (full_at (comm_at wall (posts_made m) g.post.comm)
      g.post.comm (place g.post (posts_made m)) m.contributions)) o)
      (unsettled wall g.post (posts_made m) counts)

  -- ## the book

  booked : (entered : Entered Contents) → Tells wall g m.contributions entered →
      book wall (posts_made m) ++ entries_of g.post.process g.post.comm g.post.stated entered
      ≡ book wall (g.post ∷ posts_made m)
  booked (Waiting n) tells = ap (λ o. book wall (posts_made m)
      ++ posted g.post ∷ option_to_list (book_settlement g.post (posts_made m) o))
      (sym (outcome_none wall g.post (posts_made m) tells.1))
  booked (Settled full n o) tells =
      ap (λ (j : ℕ). book wall (posts_made m) ++ posted g.post ∷ EntrySettled g.post.comm j o ∷ [])
      tells.0
      ∙ ap (λ v. book wall (posts_made m)
      ++ posted g.post ∷ option_to_list (book_settlement g.post (posts_made m) v))
      (sym tells.3)

  number_is : (entered : Entered Contents) → Tells wall g m.contributions entered →
      number_in entered ≡ place g.post (posts_made m)
  number_is (Waiting n) tells = tells.0
  number_is (Settled full n o) tells = tells.0

-- ## all of it

module _ (old new : HallView) (m : Effects) (g : Contribution Contents) (entered : Entered Contents)
    (stands : StandsForEffects old m) (counts : IsCounted old.policy g.post (posts_made m))
    (none : old.settled g.post.comm (place g.post (posts_made m)) ≡ None)
    (post_state : StandsForPosts old.policy new.post_state (g ∷ m.contributions))
    (tells : Tells old.policy g m.contributions entered)
    (recorded : IsRecorded old new g.post.process g.post.comm g.post.stated entered) where
  abbrev p : ℕ
  p = g.post.process

  abbrev request : Request
  request = record { comm = g.post.comm; k = number_in entered }

  now : (q : ℕ) → new.asked q ≡ with_request old.asked p request q
  now q = ap (λ (f : ℕ → List (Option Request)). f q) recorded.asked

  asked_own : (q : ℕ) → q ≡ p → new.asked q ≡ old.asked p ++ Some request ∷ []
  asked_own q is = now q ∙ updated_same old.asked p q (old.asked p ++ Some request ∷ []) is

  asked_other : (q : ℕ) → q ≢ p → new.asked q ≡ old.asked q
  asked_other q apart = now q ∙ updated_other old.asked p q (old.asked p ++ Some request ∷ []) apart

  kth : number_in entered ≡ place g.post (posts_made m)
  kth = number_is old.policy m g counts entered tells

  requests_own_now : (q : ℕ) → q ≡ p →
      requests q (g.post ∷ posts_made m)
      ≡ requests p (posts_made m) ++ (g.post.comm, place g.post (posts_made m)) ∷ []
  requests_own_now q is =
      ap (λ n. requests n (g.post ∷ posts_made m)) is ∙ requests_own g.post (posts_made m)

  requests_still : (q : ℕ) → q ≢ p → requests q (g.post ∷ posts_made m) ≡ requests q (posts_made m)
  requests_still q apart = requests_other q g.post (posts_made m) (λ e. apart (sym e))

  given_now : (q : ℕ) →
      length (new.asked q) ≡ length (requests q (posts_made (with_contribution m g)))
  given_now q = ⊎_elim
      (λ is.
      let a : length (new.asked q) ≡ length (old.asked p) + 1 = ap length (asked_own q is) ∙
      length-append (old.asked p) (Some request ∷ []) in
      let b : length (requests q (g.post ∷ posts_made m)) ≡ length (requests p (posts_made m)) + 1 =
      ap length (requests_own_now q is) ∙ length-append (requests p (posts_made m))
      ((g.post.comm, place g.post (posts_made m)) ∷ []) in
      let c = stands.given p in omega (arith, a, b, c))
      (λ apart. ap length (asked_other q apart)
      ∙ (stands.given q ∙ sym (ap length (requests_still q apart))))
      (same_or_not q p)

  taken_now : (q r : ℕ) → taken_at (new.asked q) r ≡ m.taken q r
  taken_now q r = ⊎_elim
      (λ is. ap (λ l. taken_at l r) (asked_own q is)
      ∙ (taken_more (old.asked p) request r
      ∙ (stands.taken p r ∙ ap (λ n. m.taken n r) (sym is))))
      (λ apart. ap (λ l. taken_at l r) (asked_other q apart) ∙ stands.taken q r)
      (same_or_not q p)

  -- what is kept of a request that is open
  record IsKept (q r : ℕ) (f : Request) : Type 0 where
    pub at : slice_get (requests q (g.post ∷ posts_made m)) r ≡ Some (instance_of f)
    pub settled : old.settled f.comm f.k ≡ settlement_in old.policy m f.comm f.k

  kept_new : (q r : ℕ) (f : Request) → q ≡ p → r ≡ length (old.asked p) → request ≡ f → IsKept q r f
  kept_new q r f is number same =
      let comm : f.comm ≡ g.post.comm = ap (λ (x : Request). x.comm) (sym same) in
      let k : f.k ≡ place g.post (posts_made m) = ap (λ (x : Request). x.k) (sym same) ∙ kth in
      record {
        at = (λ i. slice_get (requests (is i) (g.post ∷ posts_made m))
            ((number ∙ stands.given p) i))
            ∙ (request_new g.post (posts_made m) ∙ (λ i. Some (sym comm i, sym k i)));
        settled = (λ i. old.settled (comm i) (k i))
            ∙ (none
            ∙ (sym (none_before old.policy m g counts)
            ∙ (λ i. settlement_in old.policy m (sym comm i) (sym k i))));
      }

  kept_old : (q r : ℕ) (f : Request) → opened (old.asked q) r ≡ Some f → IsKept q r f
  kept_old q r f e = record {
    at = ⊎_elim
        (λ is. ap (λ rs. slice_get rs r) (requests_own_now q is)
        ∙ get_prefix (requests p (posts_made m)) ((g.post.comm, place g.post (posts_made m)) ∷ []) r
        (instance_of f)
        (ap (λ n. slice_get (requests n (posts_made m)) r) (sym is) ∙ stands.waiting q r f e))
        (λ apart. ap (λ rs. slice_get rs r) (requests_still q apart) ∙ stands.waiting q r f e)
        (same_or_not q p);
    settled = stands.settled q r f e;
  }

  kept : (q r : ℕ) (f : Request) → opened (new.asked q) r ≡ Some f → IsKept q r f
  kept q r f e = ⊎_elim
      (λ is. ⊎_elim
      (λ before. kept_old q r f (ap (λ n. opened (old.asked n) r) is ∙ before))
      (λ (new : (r ≡ length (old.asked p)) × (request ≡ f)). kept_new q r f is new.0 new.1)
      (opened_more (old.asked p) request r f (sym (ap (λ l. opened l r) (asked_own q is)) ∙ e)))
      (λ apart. kept_old q r f (sym (ap (λ l. opened l r) (asked_other q apart)) ∙ e))
      (same_or_not q p)

  pub stands_recorded : StandsForEffects new (with_contribution m g)
  stands_recorded = record {
    post_state = subst (λ (w : ChineseWall). StandsForPosts w new.post_state (g ∷ m.contributions))
        (sym recorded.policy) post_state;
    given = given_now;
    taken = taken_now;
    waiting = λ q r f e. (kept q r f e).at;
    settled = λ q r f e. settled_by old.policy m g counts old.settled new.settled entered tells
        recorded.settled f.comm f.k (kept q r f e).settled
        ∙ ap (λ (w : ChineseWall). settlement_in w (with_contribution m g) f.comm f.k)
        (sym recorded.policy);
    book = recorded.book
        ∙ (ap (λ es. es ++ entries_of g.post.process g.post.comm g.post.stated entered) stands.book
        ∙ (booked old.policy m g counts entered tells
        ∙ ap (λ (w : ChineseWall). book w (g.post ∷ posts_made m))
        (sym recorded.policy)));
  }
