-- What the runs of a chain gave: what is held before was given once.
use Rattle.std.proofs.Common.{◌≡◌, ◌≢◌, ◌⊎◌, ◌<◌, ◌≤◌, ℕ, true, false, List, [], ◌∷◌, ◌++◌, length}
use Rattle.std.proofs.Common.{take, drop, Option, Some, None, slice_get, refl, sym, ap, subst, ◌∙◌}
use Rattle.std.proofs.Common.{inl, inr, arith}
use Rattle.std.proofs.lemmas.Bool.{cases_Bool, false≢true}
use Rattle.std.proofs.lemmas.List.{take-append-drop}
use Rattle.std.proofs.lemmas.List.Elements.{All-contains}
use Rattle.std.proofs.Math.Seq.{take-length}
use Rattle.wall_labels.specs.declared.ids.TheConstants.{DATASET_LIMIT}
use Rattle.wall_policy.specs.Policy.{ChineseWall, HasAtFirst, home_of, home_if_any, held_of}
use Rattle.wall_rules.proofs.WallRulesLemmas.{opening-Decides}
use Rattle.run_model.specs.declared.entry.Entry.{Entry}
use Rattle.run_model.specs.Posts.{histories}
use Rattle.run_model.specs.PostLaws.{HoldingIsHistory}
use Rattle.run_model.specs.Books.{posts_in, IsSound}
use Rattle.run_model.specs.Chains.{Link, IsChain, IsPolicyAfter, GrewFrom}
use Rattle.run_model.specs.Years.{BeginsWithNothing}
use Rattle.run_model.proofs.RunModelLemmas.{get_prefix, grow, posts_in-append}
use Rattle.book_report.specs.declared.row.Row.{Row}
use Rattle.book_report.specs.declared.row.Way.{Way}
use Rattle.book_report.specs.declared.row.Way.TheVariants.{AtFirst, OwnPost, Delivered}
use Rattle.book_report.specs.Held.{histories_after, posts_to, CameBy, IsRow}
use Rattle.book_report.specs.Report.{AreRows}
use Rattle.report_text.specs.GivenOnce.{Gave, AreAllRows, NoneGave, OneGave}

-- ---- what is held entry by entry

no_posts : (entries : List Entry) → posts_to entries 0 ≡ []
no_posts [] = refl
no_posts (e ∷ entries) = refl

-- the posts of the first entries, and those of the others behind them
parts : (entries : List Entry) (n : ℕ) →
    posts_in entries ≡ posts_in (drop n entries) ++ posts_to entries n
parts entries n = ap (λ es. posts_in es) (sym (take-append-drop n entries))
    ∙ posts_in-append (take n entries) (drop n entries)

held_at_end : (wall : ChineseWall) (entries : List Entry) (n p d : ℕ) →
    histories_after wall entries n p d ≡ true → histories wall (posts_in entries) p d ≡ true
held_at_end wall entries n p d h = ap (λ past. histories wall past p d) (parts entries n)
    ∙ grow wall (posts_in (drop n entries)) (posts_to entries n) p d h

after_last : (wall : ChineseWall) (entries : List Entry) (p d : ℕ) →
    histories wall (posts_in entries) p d ≡ true →
    histories_after wall entries (length entries) p d ≡ true
after_last wall entries p d h =
    ap (λ es. histories wall (posts_in es) p d) (take-length entries) ∙ h

held_at_first : (wall : ChineseWall) (entries : List Entry) (p d : ℕ) → HasAtFirst wall p d →
    histories_after wall entries 0 p d ≡ true
held_at_first wall entries p d h =
    ap (λ past. histories wall past p d) (no_posts entries) ∙ (opening-Decides wall p d).1 h

had_at_first : (wall : ChineseWall) (entries : List Entry) (p d : ℕ) →
    histories_after wall entries 0 p d ≡ true → HasAtFirst wall p d
had_at_first wall entries p d h = (opening-Decides wall p d).0
    (sym (ap (λ past. histories wall past p d) (no_posts entries)) ∙ h)

-- ---- homes stay

home_stays : (old new : ChineseWall) (p d : ℕ) → GrewFrom old new → home_of old p ≡ Some d →
    home_of new p ≡ Some d
home_stays old new p d grew home =
    by (slice_get old.homes p) refl home
  where
    by : (there : Option (Option ℕ)) → slice_get old.homes p ≡ there →
        home_if_any there ≡ Some d → home_of new p ≡ Some d
    by None is h = absurd (cc)
    by (Some own) is h =
        ap home_if_any (ap (λ homes. slice_get homes p) (sym grew.homes.1)
        ∙ get_prefix old.homes grew.homes.0 p own is)
        ∙ h

-- ---- the rows of a book

-- a row tells an entry, where the pair was not there at first
counted_of : (wall : ChineseWall) (entries : List Entry) (p d n : ℕ) (way : Way) →
    CameBy wall entries p d n way → way ≢ AtFirst → 1 ≤ n
counted_of wall entries p d n AtFirst came new = absurd (new refl)
counted_of wall entries p d n OwnPost came new = came.at.counted
counted_of wall entries p d n (Delivered c k from) came new = came.0.at.counted

was_first : (way : Way) → (way ≡ AtFirst) ⊎ (way ≢ AtFirst)
was_first AtFirst = inl refl
was_first OwnPost = inr (λ e. let bad : OwnPost ≡ AtFirst = e in cc)
was_first (Delivered c k from) = inr (λ e. let bad : Delivered c k from ≡ AtFirst = e in cc)

module _ (wall : ChineseWall) (entries : List Entry) (rows : List Row)
    (are : AreRows wall entries rows) (p d : ℕ) where
  gave_new : Gave rows p d → histories_after wall entries 0 p d ≡ false
  gave_new g =
      let row = g.0 in
      let is = All-contains (IsRow wall entries) rows row are.right g.1 in
      let counted = counted_of wall entries row.process row.dataset row.entry row.way is.way g.4 in
      subst (λ q. histories_after wall entries 0 q d ≡ false) g.2
      (subst (λ e. histories_after wall entries 0 row.process e ≡ false) g.3
      (is.first.new 0 (omega (arith, counted))))

  gave_held : Gave rows p d → histories wall (posts_in entries) p d ≡ true
  gave_held g =
      let row = g.0 in
      let is = All-contains (IsRow wall entries) rows row are.right g.1 in
      subst (λ q. histories wall (posts_in entries) q d ≡ true) g.2
      (subst (λ e. histories wall (posts_in entries) row.process e ≡ true) g.3
      (held_at_end wall entries row.entry row.process row.dataset is.first.held))

  -- what is held at the end was there at first, or the run gave it
  first_or_gave : histories wall (posts_in entries) p d ≡ true →
      (histories_after wall entries 0 p d ≡ true) ⊎ Gave rows p d
  first_or_gave held =
      let has = are.all p d (after_last wall entries p d held) in
      let row = has.0 in
      let is = All-contains (IsRow wall entries) rows row are.right has.1 in
      elim (was_first row.way) [
        | inl first ↦
            let zero : row.entry ≡ 0 =
            subst (λ w. CameBy wall entries row.process row.dataset row.entry w) first is.way in
            inl (subst (λ q. histories_after wall entries 0 q d ≡ true) has.2
            (subst (λ e. histories_after wall entries 0 row.process e ≡ true) has.3
            (subst (λ n. histories_after wall entries n row.process row.dataset ≡ true) zero
            is.first.held)))
        | inr new ↦ inr (row, has.1, has.2, has.3, new)
      ]

-- ---- over all books

module _ (history : HoldingIsHistory) (p d : ℕ) (low : d < DATASET_LIMIT) where
  held_in : (wall after : ChineseWall) (entries : List Entry) → IsSound wall entries →
      IsPolicyAfter wall (posts_in entries) after → held_of after p d ≡ true →
      histories wall (posts_in entries) p d ≡ true
  held_in wall after entries sound behind h =
      (history wall [] (posts_in entries) sound.posts p d low).1 ((behind.held p d low).0 h)

  held_after : (wall after : ChineseWall) (entries : List Entry) → IsSound wall entries →
      IsPolicyAfter wall (posts_in entries) after → histories wall (posts_in entries) p d ≡ true →
      held_of after p d ≡ true
  held_after wall after entries sound behind h =
      (behind.held p d low).1 ((history wall [] (posts_in entries) sound.posts p d low).0 h)

  -- what is new in a book was not held before it
  not_before : (wall : ChineseWall) (entries : List Entry) →
      histories_after wall entries 0 p d ≡ false → held_of wall p d ≡ false
  not_before wall entries new = elim (cases_Bool (held_of wall p d)) [
    | inl held ↦ absurd (false≢true (sym new ∙ held_at_first wall entries p d (inr held)))
    | inr not ↦ not
  ]

  pub none_gave : (links : List Link) (wall : ChineseWall) (rows : List (List Row)) →
      IsChain links wall → AreAllRows links rows → held_of wall p d ≡ false → NoneGave rows p d
  none_gave [] wall [] chain are not = tt
  none_gave [] wall (rows ∷ others) chain are not = absurd are
  none_gave (r ∷ older) wall [] chain are not = absurd are
  none_gave (r ∷ older) wall (rows ∷ others) chain are not =
      let new : histories_after r.wall r.book 0 p d ≡ false =
      elim (cases_Bool (histories_after r.wall r.book 0 p d)) [
        | inl held ↦ absurd (false≢true (sym not ∙ held_after r.wall wall r.book chain.1 chain.2
            (held_at_end r.wall r.book 0 p d held)))
        | inr none ↦ none
      ] in (
        none_gave older r.wall others chain.0 are.0 (not_before r.wall r.book new),
        λ gave. false≢true (sym not ∙ held_after r.wall wall r.book chain.1 chain.2
            (gave_held r.wall r.book rows are.1 p d gave)),
      )

  pub one_gave : (links : List Link) (wall : ChineseWall) (rows : List (List Row)) →
      BeginsWithNothing links wall → IsChain links wall → AreAllRows links rows →
      held_of wall p d ≡ true → home_of wall p ≢ Some d → OneGave rows p d
  one_gave [] wall rows nothing chain are held away =
      absurd (false≢true (sym (nothing p d) ∙ held))
  one_gave (r ∷ older) wall [] nothing chain are held away = absurd are
  one_gave (r ∷ older) wall (rows ∷ others) nothing chain are held away =
      elim (first_or_gave r.wall r.book rows are.1 p d
      (held_in r.wall wall r.book chain.1 chain.2 held)) [
        | inl first ↦
            let kept : held_of r.wall p d ≡ true =
            elim (had_at_first r.wall r.book p d first) [
              | inl home ↦ absurd (away (home_stays r.wall wall p d chain.2.grew home))
              | inr before ↦ before
            ] in inr (
              one_gave older r.wall others nothing chain.0 are.0 kept
                  (λ home. away (home_stays r.wall wall p d chain.2.grew home)),
              λ gave. false≢true (sym (gave_new r.wall r.book rows are.1 p d gave) ∙ first),
            )
        | inr gave ↦ inl (
          none_gave older r.wall others chain.0 are.0
              (not_before r.wall r.book (gave_new r.wall r.book rows are.1 p d gave)),
          gave,
        )
      ]
