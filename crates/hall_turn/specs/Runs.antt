-- Runs as a door speaks of them. A run has its newest entry first.
use Rattle.std.specs.Prelude.{◌≡◌, ℕ, List, ◌++◌, ◌==◌}
use Rattle.std.specs.List.{filter}
use Rattle.run_model.specs.Runs.{Entry}

-- the later run begins with the earlier one: it has its entries, and after them perhaps more
abbrev pub Continues : (later earlier : List Entry) → Type 0
Continues later earlier = (more : List Entry) × (more ++ earlier ≡ later)

-- the entries of the calls of a process
abbrev pub calls_of : (process : ℕ) → List Entry → List Entry
calls_of process run = filter (λ e. e.call.process == process) run
