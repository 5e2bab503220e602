-- The sentence of a fault: what is wrong with the word that stands there. (Own format.)
use Rattle.std.specs.Prelude.{ℕ, ◌-◌, ◌==◌, List, ◌++◌, length, codes, Option, Some, None}
use Rattle.std.specs.Prelude.{slice_get, if◌then◌else◌}
use Rattle.std.specs.Fmt.{decimal}
use Rattle.coll_text.specs.declared.fault.LineFault.{LineFault}
use Rattle.coll_text.specs.declared.fault.LineFault.TheVariants.{BadVerb, BadShape, BadField}
use Rattle.coll_text.specs.declared.fault.LineFault.TheVariants.{BadKind, BadType, UnknownOp}
use Rattle.coll_text.specs.declared.fault.LineFault.TheVariants.{BadLabel, BadNumber, OddPair}
use Rattle.coll_text.specs.declared.fault.LineFault.TheVariants.{NoMemory}
use Rattle.coll_text.specs.Numbers.{Word}
use Rattle.coll_text.specs.Reading.{is_printable}
use Rattle.script_places.specs.declared.found.Found.{Found}
use Rattle.script_places.specs.Places.{process_column}
use Rattle.check_text.specs.Words.{word_from, ends_in_space, quoted}

-- What is said of the word at fault, behind it. `NoMemory` is no fault that a line has: it never
-- comes.
abbrev pub complaint : LineFault → List ℕ
complaint BadVerb = codes " is no verb (post, take, info)"
complaint BadShape = codes " is one field too many"
complaint BadField = codes " is not in the form or range of its field"
complaint BadKind = codes " is no kind of collective"
complaint BadType = codes " is no type"
complaint UnknownOp = codes " is no operation"
complaint BadLabel = codes " is neither a dataset nor public"
complaint BadNumber = codes " is no number of the type"
complaint OddPair = codes " is an odd element of 2int"
complaint NoMemory = codes " was not read: memory ran out"

-- what is said of a field in this column: of the process, which stands behind the verb, and of any
-- other
abbrev pub field_complaint : (line : List ℕ) → (column : ℕ) → List ℕ
field_complaint line column = if column == process_column line
    then codes " is no process of the policy" else complaint BadField

-- the word in quotes; where none stands, the end of the line
abbrev pub subject : Word → List ℕ
subject w = if length w == 0 then codes "the end of the line" else quoted w

abbrev pub complaint_of : Word → LineFault → List ℕ
complaint_of w fault = subject w ++ complaint fault

abbrev pub byte_text : (byte : ℕ) → List ℕ
byte_text byte = codes "byte " ++ decimal byte ++ codes " is not printable ASCII"

-- what is wrong with the shape of a line at this byte, where this word begins
abbrev pub shape_of_byte : Word → (byte : ℕ) → List ℕ
shape_of_byte w byte = if is_printable byte
    then (if byte == 32 then codes "an empty field: one space too many"
    else complaint_of w BadShape)
    else byte_text byte

-- and at its end
abbrev pub shape_of_end : (line : List ℕ) → List ℕ
shape_of_end line = if ends_in_space line then codes "an empty field: the line ends in a space"
    else codes "a field is missing at the end of the line"

-- a byte that is not printable, an empty field, one too many, or a missing one
abbrev pub shape_at : (line : List ℕ) → Word → Option ℕ → List ℕ
shape_at line w (Some byte) = shape_of_byte w byte
shape_at line w None = shape_of_end line

abbrev pub shape_text : (line : List ℕ) → (column : ℕ) → List ℕ
shape_text line column = shape_at line (word_from line column) (slice_get line (column - 1))

abbrev pub sentence : LineFault → (line : List ℕ) → (column : ℕ) → List ℕ
sentence BadShape line column = shape_text line column
sentence OddPair line column = codes "an odd number of elements for 2int"
sentence BadField line column = subject (word_from line column) ++ field_complaint line column
sentence fault line column = complaint_of (word_from line column) fault

abbrev pub place_text : (path : List ℕ) → Found → List ℕ
place_text path found =
    path ++ codes ":" ++ decimal found.line ++ codes ":" ++ decimal found.column ++ codes ": "

-- the line of a fault that was found in this line of a script
abbrev pub told_line : (path : List ℕ) → (line : List ℕ) → Found → List ℕ
told_line path line found =
    place_text path found ++ sentence found.fault line found.column ++ codes "\n"
