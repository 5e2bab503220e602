-- An instance that was filled, plain or shared.
use Rattle.std.specs.Arc.{arc_value}
use Rattle.mpi_elems.specs.Contents.{Contents}
use Rattle.coll_values.specs.declared.full.Full.{Full}
use Rattle.hall_core.specs.declared.instance.Form.{Form}
use Rattle.hall_core.specs.declared.instance.Form.TheVariants.{Plain, Shared}

-- the instance, in either form
abbrev pub full_in : Form → Full Contents
full_in (Plain full) = full
full_in (Shared shared) = arc_value shared
