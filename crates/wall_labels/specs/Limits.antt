-- The limits of a policy. (Own rule.)
use Rattle.std.specs.Prelude.{ℕ}

abbrev pub process_limit : ℕ
process_limit = 256

abbrev pub dataset_limit : ℕ
dataset_limit = 1024

abbrev pub class_limit : ℕ
class_limit = 1024
