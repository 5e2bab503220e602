use Rattle.mpi_cart.proofs.VolumeLemmas.{multiplied_more}
use Rattle.mpi_cart.proofs.fault.volume_within.Goals as goal

pub loop-size-preserved : goal.loop-size-preserved
loop-size-preserved c =
    multiplied_more _ _ _ _ c.loop-size-test.true c.in_ok-volume.ensures.1 c.loop-size.invariant
