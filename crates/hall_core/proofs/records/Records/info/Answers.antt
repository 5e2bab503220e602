use Rattle.std.proofs.Common.{◌<◌, None, Some, length, sym, ap, ◌∙◌, subst, arith}
use Rattle.mpi_group.specs.Groups.{rank_in}
use Rattle.std.specs.Option.{option_map}
use Rattle.mpi_cart.specs.Grids.{Topology}
use Rattle.coll_routes.specs.declared.roll.Shape.{Shape}
use Rattle.run_model.specs.declared.reply.Reply.TheVariants.{Info}
use Rattle.hall_core.specs.Invariant.{view_in}
use Rattle.hall_core.proofs.LookLemmas.{there}
use Rattle.hall_core.proofs.InfoLemmas.{info_is}
use Rattle.hall_core.proofs.records.Records.info.Goals as goal

pub member-member-requires : goal.member-member-requires
member-member-requires c =
    let few = c.processes.ensures.few in
    let within = c.if-processes-process.false in
    omega (arith, few, within)

pub returns-in-None : goal.returns-in-None
returns-in-None c =
    let at = there c.args.self.now.post_state.comms c.args.comm
    (subst (λ n. c.args.comm < n) c.len.ensures.value c.if-len-comm.false) in
    info_is (view_in c.args.self.now) c.args.process c.args.comm at.0 None
    (subst (λ n. c.args.process < n) c.processes.ensures.number c.if-processes-process.false)
    at.1
    ((λ i. rank_in (sym (c.group.ensures at.0 at.1) i) (sym c.member-member.ensures i))
    ∙ (sym c.rank_of.ensures ∙ c.in-None.is))

pub returns-in-Some : goal.returns-in-Some
returns-in-Some c =
    let at = there c.args.self.now.post_state.comms c.args.comm
    (subst (λ n. c.args.comm < n) c.len.ensures.value c.if-len-comm.false) in
    c.described.ensures
    ∙ (ap (λ (s : Shape).
    Info s.size c.in-Some.rank (option_map (λ (g : Topology). length g.dims) s.grid))
    (c.shape.ensures at.0 at.1)
    ∙ info_is (view_in c.args.self.now) c.args.process c.args.comm at.0 (Some c.in-Some.rank)
    (subst (λ n. c.args.process < n) c.processes.ensures.number c.if-processes-process.false)
    at.1
    ((λ i. rank_in (sym (c.group.ensures at.0 at.1) i) (sym c.member-member.ensures i))
    ∙ (sym c.rank_of.ensures ∙ c.in-Some.is)))
