-- The lines of what a run gave, in a report on a later run. (Own format.)
use Rattle.std.specs.Prelude.{◌≡◌, ℕ, List, [], ◌++◌, codes}
use Rattle.std.specs.List.{flat_map}
use Rattle.std.specs.Fmt.{decimal}
use Rattle.wall_policy.specs.Policy.{ChineseWall}
use Rattle.run_model.specs.declared.entry.Entry.{Entry}
use Rattle.book_report.specs.declared.row.Row.{Row}
use Rattle.book_report.specs.declared.row.Way.{Way}
use Rattle.book_report.specs.declared.row.Way.TheVariants.{AtFirst, OwnPost, Delivered}
use Rattle.report_text.specs.Words.{folded}
use Rattle.report_text.specs.Rows.{held_text, way_text}
use Rattle.book_report.specs.Report.{AreRows}

-- the run, the entry, and who holds what since
abbrev pub since_text : ChineseWall → (run : ℕ) → Row → List ℕ
since_text wall run row = codes "run " ++ decimal run ++ codes ", entry "
    ++ held_text wall row.process row.dataset row.entry

-- and how it came
abbrev pub gain_text : ChineseWall → List Entry → (run : ℕ) → Row → List ℕ
gain_text wall entries run row = folded 100 (since_text wall run row)
    (way_text wall entries row.process row.dataset row.entry row.way) ++ codes "\n"

-- what was held before the first entry is none that the run gave
abbrev pub gain_by : Way → ChineseWall → List Entry → (run : ℕ) → Row → List ℕ
gain_by AtFirst wall entries run row = []
gain_by OwnPost wall entries run row = gain_text wall entries run row
gain_by (Delivered c k from) wall entries run row = gain_text wall entries run row

abbrev pub gain_line : ChineseWall → List Entry → (run : ℕ) → Row → List ℕ
gain_line wall entries run row = gain_by row.way wall entries run row

abbrev pub gains_text : ChineseWall → List Entry → (run : ℕ) → List Row → List ℕ
gains_text wall entries run rows = flat_map (gain_line wall entries run) rows

-- The lines of what the run of this number gave, whose book has these entries: one for each pair
-- that is held at its end and was not held before its first entry, and no others.
pub record IsGiven (wall : ChineseWall) (entries : List Entry) (run : ℕ) (text : List ℕ)
    : Type 0 where
  pub rows : List Row
  pub are_rows : AreRows wall entries rows
  pub lines : text ≡ gains_text wall entries run rows
