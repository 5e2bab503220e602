use Rattle.coll_text.proofs.SpellableRowProofs.{any_counts, any_blocks, any_group, any_grid}
use Rattle.coll_text.proofs.SpellableRowProofs.{any_parts}
use Rattle.coll_text.proofs.laws.lists_of_any_length_are_spellable.Goals as goal

pub returns-clause-counts : goal.returns-clause-counts
returns-clause-counts c = any_counts

pub returns-clause-blocks : goal.returns-clause-blocks
returns-clause-blocks c = any_blocks

pub returns-clause-group : goal.returns-clause-group
returns-clause-group c = any_group

pub returns-clause-grid : goal.returns-clause-grid
returns-clause-grid c = any_grid

pub returns-clause-parts : goal.returns-clause-parts
returns-clause-parts c = any_parts
