-- The lines of the instances that wait for members. (Own format.)
use Rattle.std.specs.Prelude.{ℕ, List, [], ◌∷◌, ◌++◌, codes, Option, Some, None}
use Rattle.std.specs.List.{flat_map}
use Rattle.std.specs.Fmt.{decimal}
use Rattle.wall_policy.specs.Policy.{ChineseWall}
use Rattle.run_model.specs.declared.entry.Entry.{Entry}
use Rattle.book_report.specs.declared.wait.Wait.{Wait}
use Rattle.report_text.specs.Words.{process_name, pair_text, kind_at}

-- by which entry a member has posted, or that it is missing
abbrev pub posted_text : Option ℕ → List ℕ
posted_text (Some n) = codes " posted by entry " ++ decimal n
posted_text None = codes " is missing"

abbrev pub wait_line : ChineseWall → List Entry → Wait → List ℕ
wait_line wall entries it = codes "instance " ++ pair_text it.comm it.k ++ codes ", "
    ++ kind_at entries it.begun ++ codes ": " ++ process_name wall it.process
    ++ posted_text it.posted ++ codes "\n"

-- a line for each member of each instance that waits; nothing where none does
abbrev pub waits_text : ChineseWall → List Entry → List Wait → List ℕ
waits_text wall entries [] = []
waits_text wall entries (it ∷ waits) = codes "\nwhich instances wait, and for whom:\n"
    ++ flat_map (wait_line wall entries) (it ∷ waits)
