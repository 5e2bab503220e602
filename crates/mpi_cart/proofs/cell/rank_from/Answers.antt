use Rattle.std.proofs.Common.{◌<◌, ◌+◌, ◌*◌, get_or, arith, rules}
use Rattle.std.specs.Prelude.{pos}
use Rattle.std.specs.Int.{w64}
use Rattle.std.proofs.lemmas.Int.{to_z-of_z}
use mir.Val.{SFits}
use Rattle.mpi_cart.specs.Grids.{volume}
use Rattle.mpi_cart.proofs.NumberLemmas.{rank_named_uneven, named_none, named_more, named_not}
use Rattle.mpi_cart.proofs.NumberLemmas.{named_all, named_low}
use Rattle.mpi_cart.proofs.cell.rank_from.Goals as goal

pub returns-then-numbers-dims-clause-fault : goal.returns-then-numbers-dims-clause-fault
returns-then-numbers-dims-clause-fault c =
    rank_named_uneven _ _ c.requires.positive c.if-numbers-dims.true

pub loop-k-init : goal.loop-k-init
loop-k-init c = named_none _ _ c.requires.positive

pub overflow_mul-rank : goal.overflow_mul-rank
overflow_mul-rank c =
    let whole : SFits w64 (get_or c.args.numbers.now c.loop-k.k (pos 0)) = search rules in
    let fits : c.loop-k.rank * get_or c.args.dims.now c.loop-k.k 0 + c.in-Some.c < volume
    c.args.dims.now = named_low _ _ _ _ (named_more _ _ _ _ c.requires.paired
    c.if-numbers-dims.false c.loop-k-test.true c.loop-k.invariant _
    (simp to_z-of_z at c.in-Some.ensures.value) c.in-Some.ensures.below) in
    omega arith

pub overflow_add-rank : goal.overflow_add-rank
overflow_add-rank c =
    let whole : SFits w64 (get_or c.args.numbers.now c.loop-k.k (pos 0)) = search rules in
    let fits : c.loop-k.rank * get_or c.args.dims.now c.loop-k.k 0 + c.in-Some.c < volume
    c.args.dims.now = named_low _ _ _ _ (named_more _ _ _ _ c.requires.paired
    c.if-numbers-dims.false c.loop-k-test.true c.loop-k.invariant _
    (simp to_z-of_z at c.in-Some.ensures.value) c.in-Some.ensures.below) in
    omega arith

pub returns-in-None-clause-fault : goal.returns-in-None-clause-fault
returns-in-None-clause-fault c =
    let whole : SFits w64 (get_or c.args.numbers.now c.loop-k.k (pos 0)) = search rules in
    named_not _ _ _ _ c.requires.paired c.if-numbers-dims.false c.loop-k-test.true
    c.loop-k.invariant (simp to_z-of_z at c.in-None.ensures.value)

pub loop-k-preserved : goal.loop-k-preserved
loop-k-preserved c =
    let whole : SFits w64 (get_or c.args.numbers.now c.loop-k.k (pos 0)) = search rules in
    named_more _ _ _ _ c.requires.paired c.if-numbers-dims.false c.loop-k-test.true
    c.loop-k.invariant _ (simp to_z-of_z at c.in-Some.ensures.value) c.in-Some.ensures.below

pub returns-clause-value : goal.returns-clause-value
returns-clause-value c = named_all _ _ _ _ c.requires.paired c.if-numbers-dims.false
    c.loop-k-test.false c.loop-k.invariant
