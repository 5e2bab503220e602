use Rattle.program_commands.proofs.unready.write_unready.Goals as goal

pub returns-in-OpenToOthers-clause-written : goal.returns-in-OpenToOthers-clause-written
returns-in-OpenToOthers-clause-written g c =
    rw c.in-OpenToOthers.is
    (rw c.as_bytes-in-OpenToOthers.ensures.value at c.write_worded-in-OpenToOthers.ensures.written)

pub returns-in-BookExists-clause-written : goal.returns-in-BookExists-clause-written
returns-in-BookExists-clause-written g c =
    rw c.in-BookExists.is
    (rw c.as_bytes-in-BookExists.ensures.value at c.write_worded-in-BookExists.ensures.written)

pub returns-in-InUse-clause-written : goal.returns-in-InUse-clause-written
returns-in-InUse-clause-written g c =
    rw c.in-InUse.is
    (rw c.as_bytes-in-InUse.ensures.value at c.write_worded-in-InUse.ensures.written)

pub returns-in-PipesUsed-clause-written : goal.returns-in-PipesUsed-clause-written
returns-in-PipesUsed-clause-written g c =
    rw c.in-PipesUsed.is
    (rw c.as_bytes-in-PipesUsed.ensures.value at c.write_worded-in-PipesUsed.ensures.written)
