-- The picture: a track for each process, from entry 0 to the last entry, with a line at each entry
-- by which a dataset came in and a red one at each that tells a denial, which kept it out. Entry n
-- is at n, and the track of process p between p and p + 1. (Own format; paths by SVG 2, 9.3.)
use Rattle.std.specs.Prelude.{ℕ, ◌+◌, List, ◌++◌, length, codes}
use Rattle.std.specs.List.{flat_map}
use Rattle.std.specs.Fmt.{decimal}
use Rattle.wall_policy.specs.Policy.{ChineseWall}
use Rattle.book_report.specs.declared.row.Row.{Row}
use Rattle.book_report.specs.declared.denial.Denial.{Denial}
use Rattle.report_text.specs.Words.{numbered}
use Rattle.report_page.specs.Escapes.{escaped}

-- the name at a track
abbrev pub name_line : (p : ℕ) → (name : List ℕ) → List ℕ
name_line p name = escaped name ++ codes "<br>"

abbrev pub names_text : (names : List (List ℕ)) → List ℕ
names_text names =
    codes "<div class=names>" ++ numbered name_line 0 names ++ codes "</div>\n"

-- the frame of so many entries and processes, each as high as a name
abbrev pub frame_text : (width processes : ℕ) → List ℕ
frame_text width processes =
    codes "<svg role=img aria-label=\"A track for each process, entries from left to right. "
    ++ codes "The tables tell in words what it shows.\" preserveAspectRatio=none viewBox=\"0 0 "
    ++ decimal width ++ codes " " ++ decimal processes ++ codes "\" height=" ++ decimal processes
    ++ codes "em>\n"

-- a path of this colour, and what stands before its lines
abbrev pub path_front : (colour : List ℕ) → List ℕ
path_front colour = codes "<path stroke=" ++ colour ++ codes " d=\""

abbrev pub path : (colour lines : List ℕ) → List ℕ
path colour lines = path_front colour ++ lines ++ codes "\"/>\n"

-- a thin grey line along each track
abbrev pub track_line : (width p : ℕ) → (name : List ℕ) → List ℕ
track_line width p name = codes "M0 " ++ decimal p ++ codes ".5h" ++ decimal width

abbrev pub tracks_text : (width : ℕ) → (names : List (List ℕ)) → List ℕ
tracks_text width names =
    path (codes "#bbb stroke-width=1") (numbered (track_line width) 0 names)

-- a red line across the track where a denial kept something out
abbrev pub kept_line : Denial → List ℕ
kept_line denial = codes "M" ++ decimal denial.entry ++ codes " " ++ decimal denial.process
    ++ codes ".1v.8"

abbrev pub kept_text : List Denial → List ℕ
kept_text denials = path (codes "#c00") (flat_map kept_line denials)

-- a shorter blue one where a dataset came in, which is seen on a red one too
abbrev pub came_line : Row → List ℕ
came_line row = codes "M" ++ decimal row.entry ++ codes " " ++ decimal row.process
    ++ codes ".25v.5"

abbrev pub came_text : List Row → List ℕ
came_text rows = path (codes "#036") (flat_map came_line rows)

-- below them the first and the last entry, and what the colours mean
abbrev pub key_text : (entries : ℕ) → List ℕ
key_text entries =
    codes "</svg>\n<div class=ends><span>entry 0</span><span>entry " ++ decimal entries
    ++ codes "</span></div>\n</div>\n<figcaption>"
    ++ codes "<b class=came>Blue</b>: by this entry a dataset came in.\n"
    ++ codes "<b class=kept>Red</b>, and longer: this entry tells a denial, which names this process."
    ++ codes "</figcaption>\n</figure>\n"

abbrev pub picture_text : ChineseWall → (entries : ℕ) → List Row → List Denial → List ℕ
picture_text wall entries rows denials =
    codes "<h2>When datasets came in, and when denials kept them out</h2>\n"
    ++ codes "<figure>\n<div class=map>\n" ++ names_text wall.process_names
    ++ frame_text (entries + 1) (length wall.process_names)
    ++ tracks_text (entries + 1) wall.process_names ++ kept_text denials ++ came_text rows
    ++ key_text entries
