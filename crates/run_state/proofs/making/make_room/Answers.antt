use Rattle.std.proofs.Common.{◌<◌, arith, vec_capacity}
use Rattle.std.proofs.lemmas.Result.{err_from_is_err_and}
use Rattle.mpi_comm.specs.declared.table.TheConstants.{COMMUNICATOR_LIMIT}
use Rattle.run_state.proofs.LaidLemmas.{laid_length}
use Rattle.run_state.proofs.making.make_room.Goals as goal

pub returns-clause-room : goal.returns-clause-room
returns-clause-room c =
    let same = laid_length c.args.table.now c.args.shapes.now.items c.requires.laid in
    let held = c.args.shapes.now.ok in
    let long = c.in_ok-reserve.ensures.len in
    let room = c.in_ok-reserve.ensures.ok in
    let count = c.len-more.ensures in
    omega arith

pub returns-in_err-reserve-clause-memory : goal.returns-in_err-reserve-clause-memory
returns-in_err-reserve-clause-memory c =
    let same = laid_length c.args.table.now c.args.shapes.now.items c.requires.laid in
    let held = c.args.shapes.now.ok in
    let count = c.len-more.ensures in
    let full = c.in_err-reserve.ensures.full in
    let p = err_from_is_err_and c.from_residual.result c.from_residual.ensures.1 in
    let less : vec_capacity c.args.shapes.now < COMMUNICATOR_LIMIT = omega arith in
    rw p.1 less
