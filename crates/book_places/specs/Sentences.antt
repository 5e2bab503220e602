-- The line that tells what is found of the text of a book. (Own format.)
use Rattle.std.specs.Prelude.{ℕ, ◌-◌, ◌==◌, Bool, List, ◌++◌, codes, if◌then◌else◌}
use Rattle.std.specs.Fmt.{decimal}
use Rattle.wall_policy.specs.Policy.{ChineseWall}
use Rattle.run_model.specs.declared.refusal.Refusal.{Refusal}
use Rattle.run_model.specs.declared.reply.Reply.TheVariants.{Refused}
use Rattle.hall_script.specs.Replies.{reply_line}
use Rattle.audit_book.specs.Text.{line_of, header_words, entry_words, passage_word}
use Rattle.book_places.specs.declared.due.Due.{Due}
use Rattle.book_places.specs.declared.due.Due.TheVariants as dues
use Rattle.book_places.specs.declared.owed.Stands.{Stands}
use Rattle.book_places.specs.declared.owed.Stands.TheVariants as stands
use Rattle.book_places.specs.declared.owed.Owed.{Owed}
use Rattle.book_places.specs.declared.owed.Owed.TheVariants as owed
use Rattle.book_places.specs.declared.place.Found.{Found}
use Rattle.book_places.specs.declared.place.Found.TheVariants.{Sound, Line, Cut, Entry}

-- so many entries
abbrev pub count_text : ℕ → List ℕ
count_text n = if n == 1 then codes "1 entry stands\n" else decimal n ++ codes " entries stand\n"

-- an end on the line of this number, which states another number than that of the entries before
abbrev pub other_end_text : (number stated : ℕ) → List ℕ
other_end_text n stated =
    codes "\"end " ++ (decimal stated ++ (codes "\" where " ++ count_text (n - 2)))

-- what is wrong with a line of this number
abbrev pub due_text : ChineseWall → (number : ℕ) → Due → List ℕ
due_text wall n dues.Header = codes "due was: " ++ line_of (header_words wall.version)
due_text wall n dues.Entry = codes "neither an entry nor the end\n"
due_text wall n (dues.End stated) = other_end_text n stated
due_text wall n dues.Nothing = codes "something stands behind the end\n"

abbrev pub standing_text : Stands → List ℕ
standing_text stands.Post = codes "a post stands; due was: "
standing_text stands.Verdict = codes "another verdict stands; due was: "
standing_text stands.End = codes "the end stands; due was: "

-- the refusal that a post meets, in the words of the reply to it
abbrev pub refused_text : ChineseWall → Refusal → List ℕ
refused_text wall refusal =
    codes "a post stands that does not count: " ++ reply_line wall (Refused refusal)

-- the last word that was due
abbrev pub other_word_text : (barred : Bool) → List ℕ
other_word_text barred =
    codes "a post stands with another last word; due was: " ++ (passage_word barred ++ codes "\n")

-- what is wrong with an entry
abbrev pub owed_text : ChineseWall → Stands → Owed → List ℕ
owed_text wall s (owed.Verdict due) = standing_text s ++ line_of (entry_words wall due)
owed_text wall s owed.NoVerdict = codes "a verdict stands where none is due\n"
owed_text wall s (owed.OtherPost refusal) = refused_text wall refusal
owed_text wall s (owed.OtherWord barred) = other_word_text barred

-- `PATH:N: `
abbrev pub place_text : (path : List ℕ) → (n : ℕ) → List ℕ
place_text path n = path ++ (codes ":" ++ (decimal n ++ codes ": "))

abbrev pub sound_text : (entries : ℕ) → List ℕ
sound_text n = codes "sound " ++ (decimal n ++ codes "\n")

abbrev pub found_line : ChineseWall → (path : List ℕ) → Found → List ℕ
found_line wall path (Sound n) = sound_text n
found_line wall path (Line n due) = place_text path n ++ due_text wall n due
found_line wall path Cut = path ++ codes ": the text stops before its end\n"
found_line wall path (Entry n line s due) = place_text path line ++ owed_text wall s due
