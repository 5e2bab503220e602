-- The datasets of a class that are left to name, from a number on.
use Rattle.std.proofs.Common.{◌≡◌, ℕ, ◌+◌, ◌<◌, ◌≤◌, Bool, true, false, cond, nat_eq, refl, sym, ap}
use Rattle.std.proofs.Common.{append_assoc, append-nil}
use Rattle.std.proofs.Common.{◌∙◌, arith, List, [], ◌∷◌, ◌++◌, length, Option, Some, None, slice_get}
use Rattle.std.specs.Prelude.{codes, map, drop}
use Rattle.std.specs.List.{flat_map}
use Rattle.std.proofs.lemmas.List.{drop_all, drop_more}
use Rattle.std.proofs.lemmas.Option.{slice_get_within, get_or_from_slice_get}
use Rattle.wall_policy.specs.Policy.{ChineseWall}
use Rattle.wall_policy.specs.Rivals.{datasets_from, datasets_in}
use Rattle.meaning_text.specs.Sentences.{dataset_name, joined, members_text}
use Rattle.meaning_text.proofs.NameLemmas.{name_is}

drop_here : (xs : List ℕ) (n x : ℕ) → slice_get xs n ≡ Some x → drop n xs ≡ x ∷ drop (n + 1) xs
drop_here xs n x at = drop_more xs n x (slice_get_within xs n x at)
    ∙ ap (λ y. y ∷ drop (n + 1) xs) (get_or_from_slice_get xs n x x at)

-- the names of those that are left
pub left : ChineseWall → (class n : ℕ) → List (List ℕ)
left wall class n = map (dataset_name wall) (datasets_from n (drop n wall.classes) class)

-- what is still to be written of these names: the first of all stands by itself
pub due : (is_first : Bool) → List (List ℕ) → List ℕ
due true names = joined names
due false names = flat_map (λ other. codes ", " ++ other) names

from_here : (wall : ChineseWall) (class n c : ℕ) → slice_get wall.classes n ≡ Some c →
    left wall class n ≡ map (dataset_name wall)
    (cond (nat_eq c class) (n ∷ datasets_from (n + 1) (drop (n + 1) wall.classes) class)
    (datasets_from (n + 1) (drop (n + 1) wall.classes) class))
unfolding left
from_here wall class n c at = ap (λ cs. map (dataset_name wall) (datasets_from n cs class))
    (drop_here wall.classes n c at)

member_here : (wall : ChineseWall) (class n c : ℕ) → slice_get wall.classes n ≡ Some c →
    nat_eq c class ≡ true → left wall class n ≡ dataset_name wall n ∷ left wall class (n + 1)
unfolding left
member_here wall class n c at same = from_here wall class n c at ∙ ap (λ b. map (dataset_name wall)
    (cond b (n ∷ datasets_from (n + 1) (drop (n + 1) wall.classes) class)
    (datasets_from (n + 1) (drop (n + 1) wall.classes) class))) same

member_later : (wall : ChineseWall) (class n c : ℕ) → slice_get wall.classes n ≡ Some c →
    nat_eq c class ≡ false → left wall class n ≡ left wall class (n + 1)
unfolding left
member_later wall class n c at other = from_here wall class n c at ∙ ap (λ b. map (dataset_name wall)
    (cond b (n ∷ datasets_from (n + 1) (drop (n + 1) wall.classes) class)
    (datasets_from (n + 1) (drop (n + 1) wall.classes) class))) other

none_left : (wall : ChineseWall) (class n : ℕ) → length wall.classes ≤ n → left wall class n ≡ []
unfolding left
none_left wall class n past = ap (λ cs. map (dataset_name wall) (datasets_from n cs class))
    (drop_all n wall.classes past)

-- a name that was due is written
due_next : (is_first : Bool) (name : List ℕ) (names : List (List ℕ)) →
    due is_first (name ∷ names) ≡ cond is_first name (codes ", " ++ name) ++ due false names
unfolding due
due_next true name names = refl
due_next false name names = refl

-- before the first dataset all is due
pub all_due : (wall : ChineseWall) (class : ℕ) (old : List ℕ) →
    old ++ due true (left wall class 0) ≡ old ++ members_text wall class
unfolding due left
all_due wall class old = refl

pub step_here : (wall : ChineseWall) (class n c : ℕ) (is_first : Bool) (old new name whole : List ℕ)
    → slice_get wall.classes n ≡ Some c → nat_eq c class ≡ true →
    slice_get wall.dataset_names n ≡ Some name →
    new ≡ old ++ cond is_first name (codes ", " ++ name) →
    old ++ due is_first (left wall class n) ≡ whole →
    new ++ due false (left wall class (n + 1)) ≡ whole
step_here wall class n c is_first old new name whole at same named next was =
    let rest = left wall class (n + 1) in
    let this = cond is_first name (codes ", " ++ name) in
    let all : left wall class n ≡ name ∷ rest = member_here wall class n c at same
    ∙ ap (λ w. w ∷ rest) (name_is wall.dataset_names n name named) in
    let grown : old ++ due is_first (left wall class n) ≡ old ++ (this ++ due false rest) =
    ap (λ t. old ++ due is_first t) all ∙ ap (λ t. old ++ t) (due_next is_first name rest) in
    ap (λ t. t ++ due false rest) next ∙ append_assoc old this (due false rest) ∙ sym grown ∙ was

pub step_later : (wall : ChineseWall) (class n c : ℕ) (is_first : Bool) (old whole : List ℕ) →
    slice_get wall.classes n ≡ Some c → nat_eq c class ≡ false →
    old ++ due is_first (left wall class n) ≡ whole →
    old ++ due is_first (left wall class (n + 1)) ≡ whole
step_later wall class n c is_first old whole at other was =
    ap (λ t. old ++ due is_first t) (sym (member_later wall class n c at other)) ∙ was

-- behind the last dataset: `none` is due, or nothing
pub ends_without : (wall : ChineseWall) (class n : ℕ) (old new whole : List ℕ) →
    length wall.classes ≤ n → new ≡ old ++ codes "none" →
    old ++ due true (left wall class n) ≡ whole → new ≡ whole
unfolding due
ends_without wall class n old new whole past next was =
    next ∙ sym (ap (λ t. old ++ due true t) (none_left wall class n past)) ∙ was

pub ends_with : (wall : ChineseWall) (class n : ℕ) (old whole : List ℕ) →
    length wall.classes ≤ n → old ++ due false (left wall class n) ≡ whole → old ≡ whole
unfolding due
ends_with wall class n old whole past was =
    sym (append-nil old) ∙ sym (ap (λ t. old ++ due false t) (none_left wall class n past)) ∙ was
