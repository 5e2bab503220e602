use Rattle.std.proofs.Common.{◌∙◌, nat_eq, true, refl}
use Rattle.std.proofs.Math.Bool.{beq}
use Rattle.std.specs.Cmp.Lexicographic.{pointwise}
use Rattle.mpi_cart.proofs.KeptLemmas.{same_topology}
use Rattle.mpi_cart.proofs.grid.Grid.is_same.Goals as goal

pub returns-then-eq : goal.returns-then-eq
returns-then-eq c =
    same_topology c.args.self.now c.args.other.now true c.eq-then-eq.result refl
    (c.if-eq.ensures ∙ (λ i. pointwise nat_eq (c.dims.ensures i) (c.dims-2.ensures i)))
    (c.eq-then-eq.ensures
    ∙ (λ i. pointwise beq (c.periods.ensures i) (c.periods-then-eq.ensures i)))
