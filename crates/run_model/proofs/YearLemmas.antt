-- The law over years.
use Rattle.std.proofs.Common.{◌≡◌, ◌⊎◌, ℕ, zero, suc, ◌-◌, ◌<◌, ◌≤◌, true, List, []}
use Rattle.std.proofs.Common.{◌∷◌, length, take, drop, Some, refl, sym, ◌∙◌, subst, inl, inr}
use Rattle.std.proofs.Common.{⊎_elim, arith}
use Rattle.std.proofs.lemmas.Bool.{cases_Bool, false≢true}
use Rattle.std.proofs.lemmas.List.{take_all}
use Rattle.wall_labels.specs.declared.ids.TheConstants.{DATASET_LIMIT}
use Rattle.wall_policy.specs.Policy.{ChineseWall, HasAtFirst, home_of, held_of}
use Rattle.wall_policy.specs.Rivals.{AreRivals}
use Rattle.wall_rules.proofs.WallRulesLemmas.{opening-Decides}
use Rattle.run_model.specs.declared.entry.Entry.{Entry as BookEntry}
use Rattle.run_model.specs.Posts.{Post, histories}
use Rattle.run_model.specs.Books.{posts_in, AreCounted, IsSound}
use Rattle.run_model.specs.Holding.{Holds, had_at_first, wrote, received, passed_on}
use Rattle.run_model.specs.Chains.{Link, IsChain}
use Rattle.run_model.specs.Runs.{Entry, posts}
use Rattle.run_model.specs.Years as years
use Rattle.run_model.specs.Years.{HeldInRun, HeldByThen, WereEverRivals, BeginsWithNothing}
use Rattle.run_model.specs.Years.{CameToHold, WasBrought, HadOnce, HoldsOver}
use Rattle.run_model.proofs.BookLemmas.{older_posts}
use Rattle.run_model.proofs.ChainLemmas.{held_on, what_was_held_is_kept, rivals_stay}
use Rattle.run_model.proofs.HoldingLemmas.{holding_is_history, rival_first, rival_within}
use Rattle.run_model.proofs.HoldingLemmas.{history_is_held, nobody_holds_two_rivals}
use Rattle.run_model.proofs.CountLemmas.{legal_posts_count}
use Rattle.run_model.proofs.RunLemmas.{posts-append}

---- Nobody ever held two rivals.

-- what is held at some time in a run is held at its end
pub held_by_end : (wall : ChineseWall) (run : List Entry) (p d : ℕ) → HeldInRun wall run p d →
    Holds wall (posts run) p d
held_by_end wall run p d h =
    subst (λ r. Holds wall (posts r) p d) h.begins
    (subst (λ ps. Holds wall ps p d) (sym (posts-append h.later h.front))
    (held_on wall (posts h.later) (posts h.front) p d h.held))

-- what was held at any time, in the books or in the run, is held at its end
held_by_then : (older : List Link) (wall : ChineseWall) (run : List Entry) (p d : ℕ) →
    d < DATASET_LIMIT → IsChain older wall → HeldByThen older wall run p d →
    Holds wall (posts run) p d
held_by_then older wall run p d low chain (inl earlier) =
    had_at_first (inr (what_was_held_is_kept older wall p d low chain earlier))
held_by_then older wall run p d low chain (inr now) = held_by_end wall run p d now

-- who were rivals at any time are so now
rivals_now : (older : List Link) (wall : ChineseWall) (d e : ℕ) → IsChain older wall →
    WereEverRivals older wall d e → AreRivals wall.classes d e
rivals_now older wall d e chain (inl earlier) = rivals_stay older wall d e chain earlier
rivals_now older wall d e chain (inr now) = now

pub years_keep_the_wall : years.YearsKeepTheWall
years_keep_the_wall older wall run p d e policy chain legal were held_d held_e =
    let rivals = rivals_now older wall d e chain were in
    let few : length wall.classes ≤ DATASET_LIMIT = subst (λ n. n ≤ DATASET_LIMIT)
    (sym policy.class_for_each) policy.few_datasets in
    let d_within = rival_first wall.classes d e rivals in
    let e_within = rival_within wall.classes d e rivals in
    nobody_holds_two_rivals wall [] (posts run) policy (legal_posts_count wall run legal) p d e
    rivals
    (held_by_then older wall run p d (omega (arith, few, d_within)) chain held_d)
    (held_by_then older wall run p e (omega (arith, few, e_within)) chain held_e)

---- Whatever is held goes back to a home, or to what somebody wrote.

-- where all that was held before goes back to the books, all that is held does
holding_back : (older : List Link) (wall : ChineseWall)
    (first : (p d : ℕ) → d < DATASET_LIMIT → held_of wall p d ≡ true → (past : List Post) →
    HoldsOver older wall past p d)
    {past : List Post} {p d : ℕ} → d < DATASET_LIMIT → Holds wall past p d →
    HoldsOver older wall past p d
holding_back older wall first low (had_at_first (inl home)) = years.at_home home
holding_back older wall first {past = past} {p = p} {d = d} low (had_at_first (inr held)) =
    first p d low held past
holding_back older wall first low (wrote x before m by passed label) =
    years.wrote x before m by passed label
holding_back older wall first low (received y then r label) = years.received y then r label
holding_back older wall first low (passed_on y then r held) =
    years.passed_on y then r (holding_back older wall first low held)

before_back : (older : List Link) (wall : ChineseWall) → BeginsWithNothing older wall →
    IsChain older wall → (p d : ℕ) → d < DATASET_LIMIT → held_of wall p d ≡ true →
    (past : List Post) → HoldsOver older wall past p d
before_back [] wall none chain p d low held past = absurd (false≢true (sym (none p d) ∙ held))
before_back (r ∷ older) wall none chain p d low held past =
    years.from_before r older refl
    (holding_back older r.wall (before_back older r.wall none chain.0) low
    ((chain.2.held p d low).0 held))

-- and what goes back so is held
back_is_held : {older : List Link} {wall : ChineseWall} {past : List Post} {p d : ℕ} →
    d < DATASET_LIMIT → IsChain older wall → HoldsOver older wall past p d → Holds wall past p d
back_is_held low chain (years.at_home home) = had_at_first (inl home)
back_is_held {wall = wall} {p = p} {d = d} low chain (years.from_before r before is held) =
    let longer : IsChain (r ∷ before) wall = subst (λ links. IsChain links wall) is chain in
    had_at_first (inr ((longer.2.held p d low).1 (back_is_held low longer.0 held)))
back_is_held low chain (years.wrote x before m by passed label) =
    wrote x before m by passed label
back_is_held low chain (years.received y then r label) = received y then r label
back_is_held low chain (years.passed_on y then r held) =
    passed_on y then r (back_is_held low chain held)

pub holding_goes_back : years.HoldingGoesBack
holding_goes_back older wall past p d low none chain = (
  holding_back older wall (before_back older wall none chain) low,
  back_is_held low chain,
)

---- What is held from before was had once.

module _ (wall : ChineseWall) (book : List BookEntry) (sound : IsSound wall book) (p d : ℕ)
    (low : d < DATASET_LIMIT) where
  pub held_then : (n : ℕ) →
      (Holds wall (posts_in (take n book)) p d → histories wall (posts_in (take n book)) p d ≡ true)
  held_then n = (holding_is_history wall (posts_in (drop n book)) (posts_in (take n book))
      (subst (AreCounted wall) (sym (older_posts book n)) sound.posts) p d low).1

  -- what is held before some entry, and not at first, came by one of those before it
  came_by : (n : ℕ) → n ≤ length book → ¬ (Holds wall (posts_in (take 0 book)) p d) →
      Holds wall (posts_in (take n book)) p d → (k : ℕ) × CameToHold wall book k p d
  came_by zero within none held = absurd (none held)
  came_by (suc n) within none held = ⊎_elim
      (λ had. came_by n (omega (arith, within)) none
      (history_is_held wall (posts_in (take n book)) p d had))
      (λ new. (
        suc n,
        record {
          counted = omega arith;
          within = within;
          before = λ h.
              let is : suc n - 1 ≡ n = omega arith in
              let then : Holds wall (posts_in (take n book)) p d = subst
              (λ k. Holds wall (posts_in (take k book)) p d) is h in
              false≢true (sym new ∙ held_then n then);
          after = held;
        },
      ))
      (cases_Bool (histories wall (posts_in (take n book)) p d))

  -- what is held at the end of a book was held before, or at home, or came by an entry
  had_in : Holds wall (posts_in book) p d →
      (held_of wall p d ≡ true)
      ⊎ ((home_of wall p ≡ Some d) ⊎ ((n : ℕ) × CameToHold wall book n p d))
  had_in held = ⊎_elim
      (λ first. ⊎_elim (λ home. inr (inl home)) (λ before. inl before)
      ((opening-Decides wall p d).0 first))
      (λ new. inr (inr (came_by (length book) (omega arith)
      (λ h. false≢true (sym new ∙ held_then 0 h))
      (subst (λ es. Holds wall (posts_in es) p d)
      (sym (take_all (length book) book (omega arith))) held))))
      (cases_Bool (histories wall [] p d))

pub what_is_held_was_had : years.WhatIsHeldWasHad
what_is_held_was_had [] wall p d low none chain held =
    absurd (false≢true (sym (none p d) ∙ held))
what_is_held_was_had (r ∷ older) wall p d low none chain held = ⊎_elim
    (λ before. inl (what_is_held_was_had older r.wall p d low none chain.0 before))
    (λ here. inr here)
    (had_in r.wall r.book chain.1 p d low ((chain.2.held p d low).0 held))

---- What came was brought.

-- what is held and was not begun with was brought
brought_by : (wall : ChineseWall) {past : List Post} {p d : ℕ} → ¬ (HasAtFirst wall p d) →
    Holds wall past p d → WasBrought wall past p d
brought_by wall new (had_at_first first) = absurd (new first)
brought_by wall new (wrote x before m by passed label) = inl (x, before, m, by, passed, label)
brought_by wall new (received y then r label) = inr (y, then, r, inl label)
brought_by wall new (passed_on y then r held) = inr (y, then, r, inr held)

pub what_came_was_brought : years.WhatCameWasBrought
what_came_was_brought wall book n p d came =
    brought_by wall (λ first. came.before (had_at_first first)) came.after

---- The law over years.

pub over_years : years.OverYears
over_years = record {
  apart = years_keep_the_wall;
  had = what_is_held_was_had;
  brought = what_came_was_brought;
  back = holding_goes_back;
}
