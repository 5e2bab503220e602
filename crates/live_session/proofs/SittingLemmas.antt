-- Sittings, one after the other.
use Rattle.std.proofs.Common.{◌≡◌, ◌∙◌, ℕ, ◌≤◌, List, [], ◌∷◌, length, Option, refl, sym}
use Rattle.std.proofs.Common.{ap, subst, arith}
use Rattle.wall_policy.specs.Policy.{ChineseWall}
use Rattle.run_model.specs.Runs.{Entry, posts}
use Rattle.hall_turn.specs.Runs.{calls_of}
use Rattle.hall_turn.specs.Receipts.{Covered}
use Rattle.hall_turn.specs.Known.{Known}
use Rattle.live_session.specs.declared.ending.Closing.{Closing}
use Rattle.live_session.specs.Hearing.{DeskLog}
use Rattle.live_session.specs.Sessions.{IsWithin, and_untold, made}
use Rattle.live_session.specs.Sittings.{At, Sitting, sitting, MayRest, Follows, IsHeld, AreHeld, Sits}
use Rattle.live_session.proofs.SessionLemmas.{made_posts, posts-append, within_fewer}

-- nothing was done since
pub follows_self : {S O : Type 0} (fails : S → ℕ) (heard : S → DeskLog) (first : At S O) →
    Follows fails heard first first
follows_self fails heard first =
    record { fails_same = refl; heard_same = refl; sink_same = refl; pass_same = refl }

module _ (stood : ChineseWall → List Entry → Option Covered → Type 0) (most : Option ℕ)
    {S O : Type 0} (fails : S → ℕ) (left : S → Option (List ℕ))
    (heard : S → DeskLog) (failures : O → ℕ) (contents : O → Option (List ℕ))
    (wall : ChineseWall) where
  abbrev Held : (base : ℕ) → Sitting S O → Type 0
  Held base s = IsHeld stood most fails left heard failures contents wall base s

  abbrev AllHeld : At S O → Sitting S O → List (Sitting S O) → Type 0
  AllHeld first s past = AreHeld stood most fails left heard failures contents wall first s past

  -- these sittings were held, and the next one begins here, with so many calls
  abbrev pub Sat : (first : At S O) → List (Sitting S O) → (now : At S O) → (calls : ℕ) → Type 0
  Sat first [] now calls = (now ≡ first) × (calls ≡ 0)
  Sat first (t ∷ past) now calls = AllHeld first t past × MayRest t.closing.end
      × Follows fails heard t.to now × (calls ≡ t.closing.calls)

  abbrev pub HasSat : (first now : At S O) → (calls : ℕ) → Type 0
  HasSat first now calls = (past : List (Sitting S O)) × Sat first past now calls

  pub sat_none : (first : At S O) → HasSat first first 0
  sat_none first = ([], (refl, refl))

  held_more : (first now to : At S O) (past : List (Sitting S O)) (calls : ℕ) (closing : Closing) →
      Sat first past now calls → Held calls (sitting now to closing) →
      AllHeld first (sitting now to closing) past
  held_more first now to [] calls closing s h =
      (s.0, subst (λ (k : ℕ). Held k (sitting now to closing)) s.1 h)
  held_more first now to (t ∷ past) calls closing s h =
      (s.0, s.1, s.2, subst (λ (k : ℕ). Held k (sitting now to closing)) s.3 h)

  -- one sitting more, behind which there comes another
  pub sat_more : (first now to next : At S O) (calls : ℕ) (closing : Closing) →
      HasSat first now calls → Held calls (sitting now to closing) → MayRest closing.end →
      Follows fails heard to next → HasSat first next closing.calls
  sat_more first now to next calls closing s h may follows = (
    sitting now to closing ∷ s.0,
    (held_more first now to s.0 calls closing s.1 h, may, follows, refl),
  )

  -- one sitting more, and no other
  pub sat_last : (first now to last : At S O) (calls : ℕ) (closing : Closing) →
      HasSat first now calls → Held calls (sitting now to closing) →
      Follows fails heard to last →
      Sits stood most fails left heard failures contents wall first last closing
  sat_last first now to last calls closing s h follows = record {
    newest = sitting now to closing;
    past = s.0;
    held = held_more first now to s.0 calls closing s.1 h;
    ended = refl;
    still = follows;
  }

  -- ---- posts

  -- Of the calls of process p by now no more are posts that count than it made calls.
  record HasFew (p calls : ℕ) (pass : Known) : Type 0 where
    pub process : pass.process ≡ p
    pub few : length (posts (calls_of p pass.seen)) ≤ calls

  few_more : (p base : ℕ) (s : Sitting S O) → HasFew p base s.from.pass → Held base s →
      HasFew p s.closing.calls s.to.pass
  few_more p base s f h =
      let all = and_untold h.untold h.told in
      let q = s.from.pass.process in
      let own = h.acted.sees.own in
      let posted = made_posts q all in
      let counted = h.counted in
      let sum = posts-append (made q all) (calls_of q s.from.pass.seen) in
      let whole = ap (λ (l : List Entry). length (posts l)) own in
      let before : length (posts (calls_of q s.from.pass.seen)) ≤ base =
      subst (λ (r : ℕ). length (posts (calls_of r s.from.pass.seen)) ≤ base) (sym f.process) f.few in
      let now : length (posts (calls_of q s.to.pass.seen)) ≤ s.closing.calls = omega arith in
      record {
        process = h.acted.sees.same.1 ∙ f.process;
        few = subst (λ (r : ℕ). length (posts (calls_of r s.to.pass.seen)) ≤ s.closing.calls)
            f.process now;
      }

  few_held : (p : ℕ) (first : At S O) (s : Sitting S O) (past : List (Sitting S O)) →
      HasFew p 0 first.pass → AllHeld first s past → HasFew p s.closing.calls s.to.pass
  few_held p first s [] f h =
      few_more p 0 s (subst (λ (a : At S O). HasFew p 0 a.pass) (sym h.0) f) h.1
  few_held p first s (t ∷ past) f h =
      few_more p t.closing.calls s
      (subst (λ (k : Known). HasFew p t.closing.calls k) (sym h.2.pass_same)
      (few_held p first t past f h.0)) h.3

  newest_within : (first : At S O) (s : Sitting S O) (past : List (Sitting S O)) →
      AllHeld first s past → IsWithin most s.closing.calls
  newest_within first s [] h = h.1.within
  newest_within first s (t ∷ past) h = h.3.within

  pub sits_posts : (p : ℕ) (first last : At S O) (closing : Closing) → first.pass.process ≡ p →
      length (posts (calls_of p first.pass.seen)) ≤ 0 →
      Sits stood most fails left heard failures contents wall first last closing →
      IsWithin most (length (posts (calls_of p last.pass.seen)))
  sits_posts p first last closing process none s =
      let f = few_held p first s.newest s.past (record { process = process; few = none }) s.held in
      subst (λ (k : Known). IsWithin most (length (posts (calls_of p k.seen))))
      (sym s.still.pass_same)
      (within_fewer most (length (posts (calls_of p s.newest.to.pass.seen))) s.newest.closing.calls
      f.few (newest_within first s.newest s.past s.held))
