-- The lines of the instances with their outcomes. (Own format.)
use Rattle.std.specs.Prelude.{ℕ, List, [], ◌++◌, codes}
use Rattle.std.specs.List.{join_with_byte}
use Rattle.std.specs.Fmt.{decimal}
use Rattle.wall_policy.specs.Policy.{ChineseWall}
use Rattle.run_model.specs.declared.outcome.Outcome.{Outcome}
use Rattle.run_model.specs.declared.entry.Entry.{Entry}
use Rattle.run_model.specs.declared.entry.Entry.TheVariants.{Posted, Settled}
use Rattle.audit_book.specs.Text.{outcome_words}
use Rattle.report_text.specs.Words.{pair_text, kind_at, folded, numbered}

-- an instance, its kind and the entry that filled it
abbrev pub filled_text : (kind : List ℕ) → (c k n : ℕ) → List ℕ
filled_text kind c k n = codes "instance " ++ pair_text c k ++ codes ", " ++ kind
    ++ codes " by entry " ++ decimal n ++ codes ":"

-- the outcome in the words of the book
abbrev pub outcome_text : ChineseWall → Outcome → List ℕ
outcome_text wall outcome = join_with_byte 32 (outcome_words wall outcome)

abbrev pub instance_line : ChineseWall → (kind : List ℕ) → (c k n : ℕ) → Outcome → List ℕ
instance_line wall kind c k n outcome =
    folded 100 (filled_text kind c k n) (outcome_text wall outcome) ++ codes "\n"

-- the line of an entry that tells an outcome, where n entries stand before it: the last of them
-- filled the instance
abbrev pub entry_line : ChineseWall → List Entry → (n : ℕ) → Entry → List ℕ
entry_line wall entries n (Posted p c stated) = []
entry_line wall entries n (Settled c k outcome) =
    instance_line wall (kind_at entries n) c k n outcome

abbrev pub instances_text : ChineseWall → List Entry → List ℕ
instances_text wall entries =
    codes "\nhow each instance came out:\n" ++ numbered (entry_line wall entries) 0 entries
