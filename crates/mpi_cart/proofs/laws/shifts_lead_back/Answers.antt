use Rattle.mpi_cart.proofs.ShiftLemmas.{shifts_lead_back}
use Rattle.mpi_cart.proofs.laws.shifts_lead_back.Goals as goal

pub returns : goal.returns
returns c = shifts_lead_back
