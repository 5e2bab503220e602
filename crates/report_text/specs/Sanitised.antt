-- The lines of the results that were sanitised. (Own format.)
use Rattle.std.specs.Prelude.{ℕ, List, ◌++◌, codes}
use Rattle.std.specs.List.{flat_map}
use Rattle.wall_policy.specs.Policy.{ChineseWall}
use Rattle.run_model.specs.declared.entry.Entry.{Entry}
use Rattle.book_report.specs.declared.sanitised.Sanitised.{Sanitised}
use Rattle.report_text.specs.Words.{process_name, kind_at, folded}
use Rattle.report_text.specs.Instances.{filled_text}

-- the instance, and who got its result sanitised
abbrev pub sanitised_line : ChineseWall → List Entry → Sanitised → List ℕ
sanitised_line wall entries it =
    folded 100 (filled_text (kind_at entries it.entry) it.comm it.k it.entry)
    (process_name wall it.process) ++ codes "\n"

abbrev pub sanitised_text : ChineseWall → List Entry → List Sanitised → List ℕ
sanitised_text wall entries those =
    codes "\nwhose results were sanitised:\n" ++ flat_map (sanitised_line wall entries) those
