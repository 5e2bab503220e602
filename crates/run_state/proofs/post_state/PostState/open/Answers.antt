use Rattle.std.proofs.Common.{List, [], ◌∷◌, ℕ, None, ap, ◌∙◌}
use Rattle.mpi_cart.specs.Grids.{below}
use Rattle.run_model.specs.Comms.{Comm}
use Rattle.run_state.specs.Views.{seen}
use Rattle.run_state.proofs.PostStateLemmas.{stands_first}
use Rattle.run_state.proofs.post_state.PostState.open.Goals as goal

only : List ℕ → List Comm
only members = record { members = members; grid = None } ∷ []

pub returns : goal.returns
unfolding only
returns g c = stands_first c.args.policy.now
    (seen c.in_ok-comms.comms c.new-pending.result c.in_ok-histories.histories)
    (c.in_ok-comms.ensures ∙ ap only (c.in_ok-world.ensures ∙ ap below c.processes.ensures.number))
    c.in_ok-histories.ensures.pairs c.in_ok-histories.ensures.processes
    c.in_ok-histories.ensures.classes c.new-pending.ensures.arrivals
    c.new-pending.ensures.pending
