use Rattle.std.proofs.Common.{true, replicate}
use Rattle.coll_text.proofs.SpellableRowProofs.{barrier, reduce, scatter, counts, blocks, group}
use Rattle.coll_text.proofs.SpellableRowProofs.{grid, any_parts, lowest, highest, uncoloured}
use Rattle.coll_text.proofs.laws.extreme_statements_are_spellable.Goals as goal

pub returns-clause-barrier : goal.returns-clause-barrier
returns-clause-barrier c = barrier

pub returns-clause-reduce : goal.returns-clause-reduce
returns-clause-reduce c = reduce

pub returns-clause-scatter : goal.returns-clause-scatter
returns-clause-scatter c = scatter

pub returns-clause-counts : goal.returns-clause-counts
returns-clause-counts c = counts

pub returns-clause-blocks : goal.returns-clause-blocks
returns-clause-blocks c = blocks

pub returns-clause-group : goal.returns-clause-group
returns-clause-group c = group

pub returns-clause-grid : goal.returns-clause-grid
returns-clause-grid c = grid

pub returns-clause-parts : goal.returns-clause-parts
returns-clause-parts c = any_parts (replicate 256 true)

pub returns-clause-lowest : goal.returns-clause-lowest
returns-clause-lowest c = lowest

pub returns-clause-highest : goal.returns-clause-highest
returns-clause-highest c = highest

pub returns-clause-uncoloured : goal.returns-clause-uncoloured
returns-clause-uncoloured c = uncoloured
