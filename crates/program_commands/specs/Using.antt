-- The devices of a command, before and after its use.
use Rattle.std.specs.Prelude.{ℕ, List, Option}
use Rattle.std.specs.Borrow.{Bor, MutBor}
use Rattle.hall_script.specs.Devices.{Used, used}
use Rattle.program_commands.specs.declared.devices.Devices.{Devices}
use Rattle.program_commands.specs.declared.devices.Streams.{Streams}
use Rattle.program_commands.specs.declared.report.Named.{Named}

-- what a command's devices are at its return
abbrev pub DevicesLeft : (P S O E : Type 0) → Type 0
DevicesLeft P S O E = MutBor P × (MutBor S × (MutBor O × (MutBor E × Unit {0})))

-- what two streams are at the return
abbrev pub StreamsLeft : (O E : Type 0) → Type 0
StreamsLeft O E = MutBor O × (MutBor E × Unit {0})

module _ {P S O E : Type 0} where
  -- of the devices of a command, the reader of its policy
  abbrev pub policy_used : (P → ℕ) → (P → Option (List ℕ)) → Devices P S O E
      → DevicesLeft P S O E → Used P
  policy_used failures bytes devices left = used failures bytes devices.policy.now left.0.now

  -- the reader of what it is about
  abbrev pub subject_used : (S → ℕ) → (S → Option (List ℕ)) → Devices P S O E
      → DevicesLeft P S O E → Used S
  subject_used failures bytes devices left =
      used failures bytes devices.subject.now left.1.0.now

  -- the writer of its lines
  abbrev pub out_used : (O → ℕ) → (O → Option (List ℕ)) → Devices P S O E
      → DevicesLeft P S O E → Used O
  out_used failures bytes devices left = used failures bytes devices.out.now left.1.1.0.now

  -- the writer of the line of a fault
  abbrev pub err_used : (E → ℕ) → (E → Option (List ℕ)) → Devices P S O E
      → DevicesLeft P S O E → Used E
  err_used failures bytes devices left = used failures bytes devices.err.now left.1.1.1.0.now

-- of two streams, the writer of lines
abbrev pub out_stream : {O E : Type 0} → (O → ℕ) → (O → Option (List ℕ)) → Streams O E
    → StreamsLeft O E → Used O
out_stream failures bytes streams left = used failures bytes streams.out.now left.0.now

-- the writer of the line of a fault
abbrev pub err_stream : {O E : Type 0} → (E → ℕ) → (E → Option (List ℕ)) → Streams O E
    → StreamsLeft O E → Used E
err_stream failures bytes streams left = used failures bytes streams.err.now left.1.0.now

-- the reader of a named file
abbrev pub named_used : {D : Type 0} → (D → ℕ) → (D → Option (List ℕ)) → Named D
    → MutBor D × (Bor (List ℕ) × Unit {0}) → Used D
named_used failures bytes named left = used failures bytes named.device.now left.0.now
