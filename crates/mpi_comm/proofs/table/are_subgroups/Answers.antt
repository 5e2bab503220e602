use Rattle.std.proofs.Common.{length, sym, ◌∙◌}
use Rattle.std.proofs.lemmas.List.Folds.{list_all-map}
use Rattle.mpi_comm.specs.Comms.{is_subgroup}
use Rattle.mpi_comm.proofs.table.are_subgroups.Goals as goal

pub returns : goal.returns
returns c = c.each_is_subgroup.ensures
    ∙ sym
    (list_all-map (is_subgroup (length c.args.group.now)) (λ list. list.items) c.args.lists.now)
