-- How lines are read one after the other, where memory may run out: words of private contracts.
use Rattle.std.specs.Prelude.{◌≡◌, ℕ, ◌+◌, ◌==◌, Bool, true, false, List, [], ◌∷◌, ◌++◌, Option}
use Rattle.std.specs.Prelude.{Some, None, Result, Ok, Err, if◌then◌else◌}
use Rattle.run_model.specs.declared.entry.Entry.{Entry}
use Rattle.run_model.specs.EntryForms.{HasForm}
use Rattle.coll_text.specs.declared.fault.LineFault.{LineFault}
use Rattle.coll_text.specs.Reading.{◌>>=◌}
use Rattle.audit_book.specs.declared.fault.ReadFault.{ReadFault}
use Rattle.audit_book.specs.declared.fault.ReadFault.TheVariants.{BadLine}
use Rattle.audit_book.specs.declared.line.Line.{Line}
use Rattle.audit_book.specs.declared.line.Line.TheVariants.{Said, End}

-- an entry that books may have
abbrev pub IsFormed : Line → Type 0
IsFormed (Said entry) = HasForm entry
IsFormed (End n) = Unit {0}

-- the number that an end states; an entry states none
abbrev pub number_of_end : Line → Option ℕ
number_of_end (Said entry) = None
number_of_end (End n) = Some n

-- what is told of a line: the number of its end, none where it is an entry, or its fault
abbrev pub end_number : Result Line LineFault → Result (Option ℕ) LineFault
end_number said = said >>= λ line. Ok (number_of_end line)

-- whether a text goes on behind so many entries and a line of which this is told, or else is ended
abbrev pub goes_on : (entries : ℕ) → Result (Option ℕ) LineFault → Result Bool ReadFault
goes_on entries (Ok None) = Ok true
goes_on entries (Ok (Some n)) = if n == entries then Ok false else Err (BadLine (entries + 2))
goes_on entries (Err fault) = Err (BadLine (entries + 2))

-- what a line did to the entries before it: it added its own, if it is one
abbrev pub Adds : (old new : List Entry) → Result Line LineFault → Type 0
Adds old new (Ok (Said entry)) = new ≡ old ++ entry ∷ []
Adds old new (Ok (End n)) = new ≡ old
Adds old new (Err fault) = new ≡ old

-- what is told of a text: that it is a book's, or its fault
abbrev pub text_told : Result (List Entry) ReadFault → Result (Unit {0}) ReadFault
text_told (Ok entries) = Ok tt
text_told (Err fault) = Err fault
