-- The line of each row of who holds what. (Own format.)
use Rattle.std.specs.Prelude.{ℕ, List, ◌++◌, codes, if◌then◌else◌}
use Rattle.std.specs.List.{flat_map}
use Rattle.std.specs.Fmt.{decimal}
use Rattle.wall_policy.specs.Policy.{ChineseWall}
use Rattle.wall_rules.specs.Histories.{at_home}
use Rattle.run_model.specs.declared.entry.Entry.{Entry}
use Rattle.book_report.specs.declared.row.Row.{Row}
use Rattle.book_report.specs.declared.row.Way.{Way}
use Rattle.book_report.specs.declared.row.Way.TheVariants.{AtFirst, OwnPost, Delivered}
use Rattle.report_text.specs.Words.{process_name, dataset_name, pair_text, kind_at, folded}

-- why a process held a dataset before the first entry: it is at home there, or earlier books gave
-- it
abbrev pub first_text : ChineseWall → (p d : ℕ) → List ℕ
first_text wall p d = if at_home wall p d then codes "its home" else codes "held before"

-- the instance that brought it, and who had given it
abbrev pub delivery_text : ChineseWall → (kind : List ℕ) → (c k from : ℕ) → List ℕ
delivery_text wall kind c k from =
    kind ++ codes " " ++ pair_text c k ++ codes " from " ++ process_name wall from

abbrev pub way_text : ChineseWall → List Entry → (p d n : ℕ) → Way → List ℕ
way_text wall entries p d n AtFirst = first_text wall p d
way_text wall entries p d n OwnPost = codes "own post"
way_text wall entries p d n (Delivered c k from) =
    delivery_text wall (kind_at entries n) c k from

-- the entry, and who holds what after it
abbrev pub held_text : ChineseWall → (p d n : ℕ) → List ℕ
held_text wall p d n = decimal n ++ codes ": " ++ process_name wall p ++ codes " holds "
    ++ dataset_name wall d ++ codes ":"

abbrev pub row_text : ChineseWall → List Entry → Row → List ℕ
row_text wall entries row = folded 100 (held_text wall row.process row.dataset row.entry)
    (way_text wall entries row.process row.dataset row.entry row.way)

abbrev pub row_line : ChineseWall → List Entry → Row → List ℕ
row_line wall entries row = row_text wall entries row ++ codes "\n"

abbrev pub rows_text : ChineseWall → List Entry → List Row → List ℕ
rows_text wall entries rows =
    codes "who holds what, and by which entry:\n" ++ flat_map (row_line wall entries) rows
