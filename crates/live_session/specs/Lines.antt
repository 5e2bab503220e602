-- What a finished line of a live session says, and the lines that answer where no call was made.
-- (Own format.)
use Rattle.std.specs.Prelude.{ℕ, nat_lt, List, ◌∷◌, ◌++◌, length, codes, Option, Some, None, Result, Ok}
use Rattle.std.specs.Prelude.{Err, if◌then◌else◌}
use Rattle.std.specs.Fmt.{decimal}
use Rattle.std.specs.List.{flat_map}
use Rattle.hex.specs.Hex.{encode_lower}
use Rattle.coll_text.specs.declared.fault.LineFault.{LineFault}
use Rattle.coll_text.specs.declared.fault.LineFault.TheVariants as faults
use Rattle.coll_text.specs.Numbers.{Word}
use Rattle.hall_script.specs.declared.ask.Ask.{Ask}
use Rattle.hall_script.specs.Asks.{ask_said}
use Rattle.hall_script.specs.Scripts.{trimmed}
use Rattle.hall_turn.specs.declared.head.Head.{Head}
use Rattle.live_session.specs.declared.line.BadLine.{BadLine}
use Rattle.live_session.specs.declared.line.BadLine.TheVariants.{TooLong, NoAsk}

-- the most bytes of a line, without its LF
abbrev pub line_limit : ℕ
line_limit = 2097152

abbrev pub ask_or_bad : Result Ask LineFault → Result Ask BadLine
ask_or_bad (Ok ask) = Ok ask
ask_or_bad (Err fault) = Err (NoAsk fault)

-- What a line asks for, without one CR at its end; or why it asks for nothing. A line above the
-- limit is not looked into.
unfoldable pub said : (datasets : List Word) → Word → Result Ask BadLine
said datasets line = if nat_lt line_limit (length line) then Err TooLong
    else ask_or_bad (ask_said datasets (trimmed line))

-- the answer to a line that asks for nothing
abbrev pub bad_line : BadLine → List ℕ
bad_line TooLong = codes "bad TooLong\n"
bad_line (NoAsk faults.BadVerb) = codes "bad BadVerb\n"
bad_line (NoAsk faults.BadShape) = codes "bad BadShape\n"
bad_line (NoAsk faults.BadField) = codes "bad BadField\n"
bad_line (NoAsk faults.BadKind) = codes "bad BadKind\n"
bad_line (NoAsk faults.BadType) = codes "bad BadType\n"
bad_line (NoAsk faults.UnknownOp) = codes "bad UnknownOp\n"
bad_line (NoAsk faults.BadLabel) = codes "bad BadLabel\n"
bad_line (NoAsk faults.BadNumber) = codes "bad BadNumber\n"
bad_line (NoAsk faults.OddPair) = codes "bad OddPair\n"
bad_line (NoAsk faults.NoMemory) = codes "bad NoMemory\n"

-- the answer to `head`: how far the book had come, if there is one; the digest has 64 hex digits
abbrev pub head_line : Option Head → List ℕ
head_line None = codes "head 0 -\n"
head_line (Some head) = codes "head " ++ decimal head.entries ++ codes " "
    ++ encode_lower head.digest ++ codes "\n"

-- the answer to `ping N`
abbrev pub ping_line : (number : ℕ) → List ℕ
ping_line number = codes "ping " ++ decimal number ++ codes "\n"

-- numbers, each behind a space
abbrev pub behind_spaces : List ℕ → List ℕ
behind_spaces numbers = flat_map (λ n. 32 ∷ decimal n) numbers

-- the answer to `open`
abbrev pub open_line : (requests : List ℕ) → List ℕ
open_line requests = codes "open" ++ behind_spaces requests ++ codes "\n"

-- the answer to `next`
abbrev pub next_line : (request : ℕ) → List ℕ
next_line request = codes "next " ++ decimal request ++ codes "\n"

-- the answer to `leave`
abbrev pub left_line : List ℕ
left_line = codes "left\n"

-- the answer to a call that the door is too late for
abbrev pub exhausted_line : List ℕ
exhausted_line = codes "exhausted\n"

-- the answer to a call behind which the machine was not booked
abbrev pub unbooked_line : List ℕ
unbooked_line = codes "unbooked\n"
