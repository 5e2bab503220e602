-- Over a chain of sound books what was held stays held, and nobody ever held two rivals.
use Rattle.std.proofs.Common.{ℕ, ◌<◌, ◌≤◌, List, [], ◌∷◌, ◌++◌, length, take, drop}
use Rattle.std.proofs.Common.{sym, subst, inl, inr, arith}
use Rattle.wall_labels.specs.declared.ids.TheConstants.{DATASET_LIMIT}
use Rattle.wall_policy.specs.Policy.{ChineseWall}
use Rattle.wall_policy.specs.Rivals.{AreRivals}
use Rattle.wall_policy.proofs.WallPolicyLemmas.{rivals_in_prefix}
use Rattle.run_model.specs.declared.entry.Entry.{Entry}
use Rattle.run_model.specs.Posts.{Post}
use Rattle.run_model.specs.Books.{posts_in}
use Rattle.run_model.specs.Holding.{Holds, had_at_first}
use Rattle.run_model.specs.Chains.{Link, IsChain, EverHeld}
use Rattle.run_model.specs.Chains.{WhatWasHeldIsKept, ChainsKeepTheWall, GrewFrom, RivalsStay}
use Rattle.run_model.proofs.BookLemmas.{older_posts}
use Rattle.run_model.proofs.HoldingLemmas.{held_later, rival_first, rival_within}
use Rattle.run_model.proofs.HoldingLemmas.{nobody_holds_two_rivals}

-- what is held after some posts is held after more
pub held_on : (wall : ChineseWall) (later past : List Post) (p d : ℕ) → Holds wall past p d →
    Holds wall (later ++ past) p d
held_on wall [] past p d h = h
held_on wall (x ∷ later) past p d h = held_later wall x (held_on wall later past p d h)

-- what is held before an entry of a book is held at its end
pub held_at_end : (wall : ChineseWall) (entries : List Entry) (n p d : ℕ) →
    Holds wall (posts_in (take n entries)) p d → Holds wall (posts_in entries) p d
held_at_end wall entries n p d h = subst (λ ps. Holds wall ps p d) (older_posts entries n)
    (held_on wall (posts_in (drop n entries)) (posts_in (take n entries)) p d h)

pub what_was_held_is_kept : WhatWasHeldIsKept
what_was_held_is_kept [] wall p d low chain held = absurd held
what_was_held_is_kept (r ∷ older) wall p d low chain (inl earlier) =
    let before = what_was_held_is_kept older r.wall p d low chain.0 earlier in
    (chain.2.held p d low).1 (had_at_first (inr before))
what_was_held_is_kept (r ∷ older) wall p d low chain (inr (n, held)) =
    (chain.2.held p d low).1 (held_at_end r.wall r.book n p d held)

-- what was ever held, in the newest book too, is held at its end
held_by_then : (older : List Link) (wall : ChineseWall) (book : List Entry) (p d : ℕ) →
    d < DATASET_LIMIT → IsChain older wall →
    EverHeld (record { wall = wall; book = book } ∷ older) p d → Holds wall (posts_in book) p d
held_by_then older wall book p d low chain (inl earlier) =
    had_at_first (inr (what_was_held_is_kept older wall p d low chain earlier))
held_by_then older wall book p d low chain (inr (n, held)) = held_at_end wall book n p d held

pub chains_keep_the_wall : ChainsKeepTheWall
chains_keep_the_wall older wall book policy chain sound p d e rivals held_d held_e =
    let few : length wall.classes ≤ DATASET_LIMIT = subst (λ n. n ≤ DATASET_LIMIT)
    (sym policy.class_for_each) policy.few_datasets in
    let d_within = rival_first wall.classes d e rivals in
    let e_within = rival_within wall.classes d e rivals in
    nobody_holds_two_rivals wall [] (posts_in book) policy sound.posts p d e rivals
    (held_by_then older wall book p d (omega (arith, few, d_within)) chain held_d)
    (held_by_then older wall book p e (omega (arith, few, e_within)) chain held_e)

-- rivals of a policy are rivals in one that grew from it
rivals_in_grown : (old new : ChineseWall) (d e : ℕ) → GrewFrom old new →
    AreRivals old.classes d e → AreRivals new.classes d e
rivals_in_grown old new d e grew rivals =
    subst (λ classes. AreRivals classes d e) grew.classes.1
    (rivals_in_prefix old.classes grew.classes.0 d e rivals)

pub rivals_stay : RivalsStay
rivals_stay [] wall d e chain were = absurd were
rivals_stay (r ∷ older) wall d e chain (inl earlier) =
    rivals_in_grown r.wall wall d e chain.2.grew (rivals_stay older r.wall d e chain.0 earlier)
rivals_stay (r ∷ older) wall d e chain (inr here) =
    rivals_in_grown r.wall wall d e chain.2.grew here
