-- The sentences of barred posts and of denials. (Own format.)
use Rattle.std.specs.Prelude.{ℕ, List, [], ◌++◌, codes, if◌then◌else◌}
use Rattle.std.specs.List.{flat_map}
use Rattle.std.specs.Fmt.{decimal}
use Rattle.wall_labels.specs.declared.label.Label.{Label}
use Rattle.wall_policy.specs.Policy.{ChineseWall}
use Rattle.wall_rules.specs.Histories.{at_home}
use Rattle.coll_text.specs.Words.{label_word}
use Rattle.book_report.specs.declared.bar.Bar.{Bar}
use Rattle.book_report.specs.declared.denial.Source.{Source}
use Rattle.book_report.specs.declared.denial.Source.TheVariants.{Held, Beside}
use Rattle.book_report.specs.declared.denial.Reason.{Reason}
use Rattle.book_report.specs.declared.denial.Reason.TheVariants.{Star, Simple}
use Rattle.book_report.specs.declared.denial.Denial.{Denial}
use Rattle.report_text.specs.Words.{process_name, dataset_name, pair_text, folded}

-- what a process may not do
abbrev pub may_not_text : ChineseWall → (p : ℕ) → Label → List ℕ
may_not_text wall p label =
    process_name wall p ++ codes " may not post under " ++ label_word wall.dataset_names label

-- ## barred posts

abbrev pub barred_text : ChineseWall → (n p : ℕ) → Label → List ℕ
barred_text wall n p label =
    codes "entry " ++ decimal n ++ codes ": " ++ may_not_text wall p label ++ codes ":"

abbrev pub bar_line : ChineseWall → Bar → List ℕ
bar_line wall bar = folded 100 (barred_text wall bar.entry bar.process bar.label)
    (codes "it holds " ++ dataset_name wall bar.held) ++ codes "\n"

abbrev pub bars_text : ChineseWall → List Bar → List ℕ
bars_text wall bars = codes "\nwhy posts were barred:\n" ++ flat_map (bar_line wall) bars

-- ## denials

-- data, who gave it, and by which post
abbrev pub coming_text : ChineseWall → (d : ℕ) → (comes : List ℕ) → (giver given : ℕ) → List ℕ
coming_text wall d comes giver given = dataset_name wall d ++ comes ++ process_name wall giver
    ++ codes " by entry " ++ decimal given

-- by the star rule: whose post was barred
abbrev pub star_text : ChineseWall → (p : ℕ) → Label → (post : ℕ) → List ℕ
star_text wall p label post = folded 98 (codes "entry " ++ decimal post ++ codes " was barred;")
    (may_not_text wall p label)

-- what stands behind a dataset that is the home of who holds it
abbrev pub home_mark : ChineseWall → (p d : ℕ) → List ℕ
home_mark wall p d = if at_home wall p d then codes " (home)" else []

-- by the simple rule: p holds one of two rivals, and would get the other
abbrev pub holding_text : ChineseWall → (p d giver given rival : ℕ) → List ℕ
holding_text wall p d giver given rival =
    folded 98
    (process_name wall p ++ codes " holds " ++ dataset_name wall rival ++ home_mark wall p rival
    ++ codes ";")
    (coming_text wall d (codes " would come from ") giver given)

-- or it would get both
abbrev pub rivals_text : ChineseWall → (d giver given rival other post : ℕ) → List ℕ
rivals_text wall d giver given rival other post =
    folded 98 (coming_text wall rival (codes " from ") other post ++ codes ",")
    (coming_text wall d (codes " from ") giver given)

abbrev pub both_text : ChineseWall → (p d giver given rival other post : ℕ) → List ℕ
both_text wall p d giver given rival other post =
    folded 98 (process_name wall p ++ codes " would get two rivals:")
    (rivals_text wall d giver given rival other post)

abbrev pub simple_text : ChineseWall → (p d giver given rival : ℕ) → Source → List ℕ
simple_text wall p d giver given rival Held = holding_text wall p d giver given rival
simple_text wall p d giver given rival (Beside other post) =
    both_text wall p d giver given rival other post

abbrev pub reason_text : ChineseWall → (p : ℕ) → Reason → List ℕ
reason_text wall p (Star label post) = star_text wall p label post
reason_text wall p (Simple d giver given rival source) =
    simple_text wall p d giver given rival source

abbrev pub denied_text : (c k : ℕ) → List ℕ
denied_text c k = codes "instance " ++ pair_text c k ++ codes " was denied:"

abbrev pub denial_line : ChineseWall → Denial → List ℕ
denial_line wall denial = folded 100 (denied_text denial.comm denial.k)
    (reason_text wall denial.process denial.reason) ++ codes "\n"

abbrev pub denials_text : ChineseWall → List Denial → List ℕ
denials_text wall denials =
    codes "\nwhy instances were denied:\n" ++ flat_map (denial_line wall) denials
