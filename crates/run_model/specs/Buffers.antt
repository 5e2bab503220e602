-- What instances and effects share whose buffers have other room. The room of a buffer, how many
-- elements it could hold without taking memory, is its owner's: no reply tells it. (Own rule.)
use Rattle.std.specs.Prelude.{◌≡◌, ℕ, map}
use Rattle.mpi_elems.specs.Contents.{Contents, contents}
use Rattle.coll_values.specs.declared.full.Full.{Full}
use Rattle.run_model.specs.Contributions.{Contribution}
use Rattle.run_model.specs.Runs.{Effects}

-- the same type and numbers, and no room
abbrev pub bare : Contents → Contents
bare buffer = contents buffer.elem_type buffer.numbers 0

abbrev pub bare_contribution : Contribution Contents → Contribution Contents
bare_contribution g = record { post = g.post; part = bare g.part }

-- two instances of one roll, to which each rank gave the same type and numbers
pub record SameInstanceButForRoom (F G : Full Contents) : Type 0 where
  pub roll : F.roll ≡ G.roll
  pub parts : map bare F.parts ≡ map bare G.parts

-- the same posts, which brought the same types and numbers, and the same requests were taken
pub record SameButForRoom (m n : Effects) : Type 0 where
  pub contributions : map bare_contribution m.contributions ≡ map bare_contribution n.contributions
  pub taken : (p request : ℕ) → m.taken p request ≡ n.taken p request
