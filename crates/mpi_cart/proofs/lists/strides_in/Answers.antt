use Rattle.mpi_cart.proofs.VolumeLemmas.{divided_more}
use Rattle.mpi_cart.proofs.lists.strides_in.Goals as goal

pub loop-size-preserved : goal.loop-size-preserved
loop-size-preserved c =
    divided_more _ _ _ _ _ c.loop-size-test.true c.in_ok-push.ensures.items c.loop-size.invariant
