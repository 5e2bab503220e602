-- The page of a report. (Own format.)
use Rattle.std.specs.Prelude.{◌≡◌, ℕ, List, ◌++◌, length, codes}
use Rattle.wall_policy.specs.Policy.{ChineseWall}
use Rattle.run_model.specs.declared.entry.Entry.{Entry}
use Rattle.run_model.specs.Posts.{comms}
use Rattle.book_report.specs.declared.row.Row.{Row}
use Rattle.book_report.specs.declared.sanitised.Sanitised.{Sanitised}
use Rattle.book_report.specs.declared.wait.Wait.{Wait}
use Rattle.book_report.specs.declared.bar.Bar.{Bar}
use Rattle.book_report.specs.declared.denial.Denial.{Denial}
use Rattle.book_report.specs.Held.{posts_to}
use Rattle.book_report.specs.Report.{AreRows, AreSanitised, AreWaits, AreBars, AreDenials}
use Rattle.report_page.specs.Tables.{rows_table, comms_table, instances_table}
use Rattle.report_page.specs.Tables.{sanitised_table, waits_table, bars_table, denials_table}
use Rattle.report_page.specs.Picture.{picture_text}
use Rattle.report_page.specs.declared.whole.TheConstants.{HEAD}

-- the tables, one behind the other
abbrev pub tables_text : ChineseWall → List Entry → List Row → List Sanitised → List Wait →
    List Bar → List Denial → List ℕ
tables_text wall entries rows sanitised waits bars denials = rows_table wall entries rows
    ++ comms_table wall (comms wall (posts_to entries (length entries)))
    ++ instances_table wall entries ++ sanitised_table wall entries sanitised
    ++ waits_table wall entries waits ++ bars_table wall bars ++ denials_table wall denials

-- the page; what it begins with, its styles, is the text `HEAD`
abbrev pub page_text : ChineseWall → List Entry → List Row → List Sanitised → List Wait →
    List Bar → List Denial → List ℕ
page_text wall entries rows sanitised waits bars denials =
    HEAD.now ++ codes "<h1>What a book tells</h1>\n"
    ++ codes "<p>Entry N stands in line N + 1 of the book. "
    ++ codes "What was held before the first entry is at entry 0.\n"
    ++ picture_text wall (length entries) rows denials
    ++ tables_text wall entries rows sanitised waits bars denials ++ codes "</html>\n"

-- a page of the rows, sanitised results, waiting members, bars and denials of the book, and of no
-- others, with a picture of the same rows and denials
pub record IsPage (wall : ChineseWall) (entries : List Entry) (text : List ℕ) : Type 0 where
  pub rows : List Row
  pub sanitised : List Sanitised
  pub waits : List Wait
  pub bars : List Bar
  pub denials : List Denial
  pub are_rows : AreRows wall entries rows
  pub are_sanitised : AreSanitised wall entries sanitised
  pub are_waits : AreWaits wall entries waits
  pub are_bars : AreBars wall entries bars
  pub are_denials : AreDenials wall entries denials
  pub parts : text ≡ page_text wall entries rows sanitised waits bars denials
