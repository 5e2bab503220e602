use Rattle.std.proofs.Common.{◌≢◌, ℕ, None, sym, subst}
use Rattle.mpi_group.specs.Groups.{rank_in}
use Rattle.hall_core.specs.Invariant.{view_in}
use Rattle.hall_core.specs.Looks.{instance_for}
use Rattle.hall_core.proofs.TakeLemmas.{rank_there}
use Rattle.hall_core.proofs.TellLemmas.{tellable}
use Rattle.hall_core.proofs.records.Records.look_at.Goals as goal

pub found-requires-clause-tellable : goal.found-requires-clause-tellable
found-requires-clause-tellable c =
    let it = c.args.it in
    tellable (view_in c.args.self.now) c.requires.hall it.process it.request (instance_for it)
    c.args.settlement.now c.requires.is_open.waits c.requires.is_open.came

pub found-requires-clause-member : goal.found-requires-clause-member
found-requires-clause-member c =
    let it = c.args.it in
    let s = c.args.settlement.now in
    subst (λ (p : ℕ). rank_in s.full.roll.members p ≢ None) (sym c.member.ensures)
    (rank_there (view_in c.args.self.now) c.requires.hall it.process it.request (instance_for it) s
    c.requires.is_open.waits c.requires.is_open.came)
