use Rattle.std.proofs.Common.{◌≡◌, arith, refl, length}
use Rattle.mpi_elems.specs.Loops.{Combines}
use Rattle.mpi_elems.proofs.LoopLemmas.{combines_step, combines_head, rest_step}
use Rattle.mpi_elems.proofs.operation.combine_each.Goals as goal

pub loop-i-init : goal.loop-i-init
unfolding Combines
loop-i-init g c = record { done = tt; rest = refl }

pub loop-i-preserved : goal.loop-i-preserved
loop-i-preserved g c = record {
  done = combines_step _ _ _ _ _ _ _ _ (omega arith) (omega arith) (omega arith)
      c.loop-i.invariant.done c.loop-i.invariant.rest c.index-firsts-i.is c.index-seconds-i.is
      c.combine.ensures;
  rest = rest_step _ c.loop-i.firsts c.loop-i.i c.index-firsts-i.result _ (omega arith)
      (omega arith) c.loop-i.invariant.rest;
}

pub returns-clause-combined : goal.returns-clause-combined
returns-clause-combined g c = let all : c.loop-i.i ≡ length c.args.seconds.now = omega arith in
    combines_head _ _ _ _ _ all c.loop-i.invariant.done

pub returns-clause-rest : goal.returns-clause-rest
returns-clause-rest g c = let all : c.loop-i.i ≡ length c.args.seconds.now = omega arith in
    rw (← all) c.loop-i.invariant.rest
