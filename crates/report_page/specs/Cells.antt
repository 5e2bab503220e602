-- Tables and their cells. (Own format.)
use Rattle.std.specs.Prelude.{ℕ, List, ◌++◌, codes}
use Rattle.std.specs.Fmt.{decimal}
use Rattle.report_text.specs.Words.{pair_text}
use Rattle.report_page.specs.Escapes.{escaped}

-- a cell with these words, one with a number, and one with the two numbers of an instance
abbrev pub cell : List ℕ → List ℕ
cell words = codes "<td>" ++ escaped words

abbrev pub number_cell : ℕ → List ℕ
number_cell n = codes "<td>" ++ decimal n

abbrev pub pair_cell : (c k : ℕ) → List ℕ
pair_cell c k = codes "<td>" ++ pair_text c k

-- what stands before the rows of a table: its title, and the names of its columns
abbrev pub table_head : (title columns : List ℕ) → List ℕ
table_head title columns =
    codes "<h2>" ++ title ++ codes "</h2>\n<div class=wide><table>\n<tr>" ++ columns ++ codes "\n"

-- a table that scrolls by itself where it is wider than the page
abbrev pub table : (title columns rows : List ℕ) → List ℕ
table title columns rows = table_head title columns ++ rows ++ codes "</table></div>\n"
