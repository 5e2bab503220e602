-- The requests of a process, as its own calls tell of them. (Own rules.) Calls have the newest first.
use Rattle.std.specs.Prelude.{ℕ, List, not, length}
use Rattle.std.specs.List.{filter}
use Rattle.mpi_cart.specs.Grids.{below}
use Rattle.run_model.specs.Runs.{Entry, posts, is_taken}

-- how many requests these calls of a process got: the number that its next one gets
abbrev pub given_by : (calls : List Entry) → ℕ
given_by calls = length (posts calls)

-- which of them are open, in ascending order: no take among these calls of the process got the
-- outcome
abbrev pub open_by : (process : ℕ) → (calls : List Entry) → List ℕ
open_by process calls = filter (λ r. not (is_taken process r calls)) (below (given_by calls))
