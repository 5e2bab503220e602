-- The text of a book: a line for each entry between a header and an end, a space between two words,
-- and a line feed behind each line. (Own format.)
use Rattle.std.specs.Prelude.{ℕ, nat_eq, Bool, true, false, List, [], ◌∷◌, ◌++◌, length, codes}
use Rattle.std.specs.Prelude.{Option, Some, None, if◌then◌else◌}
use Rattle.std.specs.List.{join_with_byte, flat_map}
use Rattle.std.specs.Fmt.{decimal}
use Rattle.wall_labels.specs.declared.label.Label.{Label}
use Rattle.wall_policy.specs.Policy.{ChineseWall}
use Rattle.coll_routes.specs.declared.statement.Stated.{Stated}
use Rattle.run_model.specs.declared.outcome.Outcome.{Outcome}
use Rattle.run_model.specs.declared.outcome.Outcome.TheVariants.{Granted, Denied, Made, NoRoom}
use Rattle.run_model.specs.declared.entry.Entry.{Entry}
use Rattle.run_model.specs.declared.entry.Entry.TheVariants.{Posted, Settled}
use Rattle.coll_text.specs.Numbers.{Word}
use Rattle.coll_text.specs.Words.{name_at, label_word, rule_word}
use Rattle.coll_text.specs.Spaced.{behind_each}
use Rattle.coll_text.specs.Spellings.{statement_words}

-- `none` where the poster gives no element
abbrev pub given_word : ChineseWall → Option Label → Word
given_word wall None = codes "none"
given_word wall (Some label) = label_word wall.dataset_names label

-- whether the star rule barred the post
abbrev pub passage_word : Bool → Word
passage_word false = codes "passed"
passage_word true = codes "barred"

-- how many elements are given, as what, and whether the post was barred
abbrev pub given_words : ChineseWall → (given : ℕ) → Option Label → (barred : Bool) → List Word
given_words wall given label barred =
    codes "gives" ∷ decimal given ∷ codes "as" ∷ given_word wall label ∷ passage_word barred ∷ []

unfoldable pub post_words : ChineseWall → (process comm : ℕ) → Stated → List Word
post_words wall process comm s = codes "post" ∷ decimal process ∷ decimal comm
    ∷ (statement_words s.sig s.own ++ given_words wall s.given s.label s.barred)

abbrev pub outcome_words : ChineseWall → Outcome → List Word
outcome_words wall Granted = codes "granted" ∷ []
outcome_words wall (Denied rule process label) = codes "denied" ∷ rule_word rule
    ∷ name_at wall.process_names process ∷ label_word wall.dataset_names label ∷ []
outcome_words wall (Made first number) = codes "made" ∷ decimal first ∷ decimal number ∷ []
outcome_words wall NoRoom = codes "noroom" ∷ []

unfoldable pub verdict_words : ChineseWall → (comm k : ℕ) → Outcome → List Word
verdict_words wall comm k outcome =
    codes "verdict" ∷ decimal comm ∷ decimal k ∷ outcome_words wall outcome

abbrev pub entry_words : ChineseWall → Entry → List Word
entry_words wall (Posted process comm stated) = post_words wall process comm stated
entry_words wall (Settled comm k outcome) = verdict_words wall comm k outcome

-- a policy file is of version 1 or 2
abbrev pub version_word : (version : ℕ) → Word
version_word version = if nat_eq version 2 then codes "2" else codes "1"

-- the header has the version of the policy
abbrev pub header_words : (version : ℕ) → List Word
header_words version = codes "book" ∷ version_word version ∷ []

-- the first line, without its end
abbrev pub header_line : (version : ℕ) → Word
header_line version = join_with_byte 32 (header_words version)

abbrev pub end_words : ℕ → List Word
end_words entries = codes "end" ∷ decimal entries ∷ []

-- a line with its end
abbrev pub line_of : List Word → List ℕ
line_of words = join_with_byte 32 words ++ (10 ∷ [])

-- how a post's line ends behind its statement: the words of what is given, each behind a space
abbrev pub given_end : ChineseWall → Stated → List ℕ
given_end wall s = behind_each 32 (given_words wall s.given s.label s.barred) ++ (10 ∷ [])

abbrev pub entry_lines : ChineseWall → List Entry → List ℕ
entry_lines wall entries = flat_map (λ entry. line_of (entry_words wall entry)) entries

-- the text of these entries, the oldest first
unfoldable pub book_text : ChineseWall → List Entry → List ℕ
book_text wall entries = line_of (header_words wall.version)
    ++ (entry_lines wall entries ++ line_of (end_words (length entries)))
