-- What a seat knows, and how its steps change that.
use Rattle.std.specs.Prelude.{ℕ, ◌+◌, ◌-◌, Bool, false, List, [], ◌∷◌, ◌++◌, map, Option, Some}
use Rattle.std.specs.Prelude.{None}
use Rattle.wall_policy.specs.Policy.{ChineseWall}
use Rattle.run_model.specs.declared.call.Act.TheVariants.{Take}
use Rattle.run_model.specs.declared.reply.Reply.TheVariants.{Pending}
use Rattle.run_model.specs.Comms.{processes}
use Rattle.run_model.specs.Runs.{Entry}

-- what the pass of a process has seen
pub record Told : Type 0 where
  pub process : ℕ
  pub seen : List Entry

pub record SeatView : Type 0 where
  pub policy : ChineseWall
  pub process : ℕ
  pub seen : List Entry
  -- what the note had seen that was joined last
  pub told : List Entry
  pub ticket : Option ℕ
  -- whether the machine is out with it
  pub out : Bool
  -- the entry of its call, declared before the turn ends
  pub said : Option Entry
  -- its parts of the right to close, one for each pass in it; a note has none
  pub parts : ℕ
  -- how many passes were made, if it is the one that makes them
  pub made : ℕ
  -- the passes that were joined into it
  pub joined : List Told

abbrev pub no_wall : ChineseWall
no_wall = record {
  version = 1;
  class_names = [];
  dataset_names = [];
  process_names = [];
  classes = [];
  homes = [];
  leasts = [];
  distincts = [];
  held = [];
}

-- no call's entry: what a declaration has where none is picked
abbrev pub no_entry : Entry
no_entry = record { call = record { process = 0; act = Take 0 }; reply = Pending }

abbrev pub parts_of : SeatView → ℕ
parts_of v = v.parts

-- how many tickets it has: one or none
abbrev pub number_of : Option ℕ → ℕ
number_of (Some ticket) = 1
number_of None = 0

abbrev pub tickets_of : SeatView → ℕ
tickets_of v = number_of v.ticket

-- what the pass of the seat itself has seen
abbrev pub own_of : SeatView → Told
own_of v = record { process = v.process; seen = v.seen }

-- what the passes in a view have seen, its own first
abbrev pub every : SeatView → List Told
every v = own_of v ∷ v.joined

abbrev pub numbers_in : List Told → List ℕ
numbers_in passes = map (λ t. t.process) passes

abbrev pub numbers : SeatView → List ℕ
numbers v = numbers_in (every v)

---- Seats as they are made and joined.

-- the seat that makes the passes, as the pass of this process
abbrev pub maker : ChineseWall → ℕ → SeatView
maker wall n =
    record {
      policy = wall;
      process = n;
      seen = [];
      told = [];
      ticket = None;
      out = false;
      said = None;
      parts = processes wall - n;
      made = n + 1;
      joined = [];
    }

-- the first pass, of process 0, which makes the others
abbrev pub newcomer : ChineseWall → SeatView
newcomer wall = maker wall 0

-- the maker becomes the pass of the next process
abbrev pub maker_left : SeatView → SeatView
maker_left v = record v { process = v.made; parts = v.parts - 1; made = v.made + 1; joined = [] }

-- a seat that has seen as much as this one, and has so many parts
abbrev pub beside : SeatView → (parts : ℕ) → SeatView
beside v parts =
    record {
      policy = v.policy;
      process = v.process;
      seen = v.seen;
      told = [];
      ticket = None;
      out = false;
      said = None;
      parts = parts;
      made = 0;
      joined = [];
    }

-- a new seat is the pass that the maker was
abbrev pub next_pass : SeatView → SeatView
next_pass v = beside v 1

abbrev pub noted : SeatView → SeatView
noted v = beside v 0

-- a pass has taken in a note
abbrev pub informed : SeatView → SeatView → SeatView
informed v w = record v { told = w.seen }

-- a pass has taken in a pass
abbrev pub gathered : SeatView → SeatView → SeatView
gathered v w = record v { parts = v.parts + w.parts; joined = every w ++ v.joined }

-- what is left of a seat that was taken in
abbrev pub spent : SeatView
spent =
    record {
      policy = no_wall;
      process = 0;
      seen = [];
      told = [];
      ticket = None;
      out = false;
      said = None;
      parts = 0;
      made = 0;
      joined = [];
    }

---- A turn.

-- the run so far was seen
abbrev pub saw : SeatView → List Entry → (out : Bool) → SeatView
saw v run out = record v { seen = run; told = []; out = out }

abbrev pub drawn : SeatView → (ticket : ℕ) → SeatView
drawn v ticket = record v { ticket = Some ticket }

abbrev pub declared : SeatView → Entry → SeatView
declared v e = record v { said = Some e }

abbrev pub served : SeatView → Entry → SeatView
served v e = record v { seen = e ∷ v.seen; ticket = None; out = false; said = None }
