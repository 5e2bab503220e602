use Rattle.std.proofs.Common.{◌≡◌, ◌<◌, ◌+◌, length, refl, sym, ap, ◌∙◌, arith}
use Rattle.std.proofs.lemmas.Grind.{common_steps}
use Rattle.mpi_group.specs.Groups.{rank_in}
use Rattle.run_model.specs.declared.reply.Reply.TheVariants.{NewComm}
use Rattle.hall_core.proofs.LookLemmas.{there}
use Rattle.hall_core.proofs.JoinLemmas.{joined_next, joined_here}
use Rattle.hall_core.proofs.takes.joined.Goals as goal

pub returns-in-Some-clause-told : goal.returns-in-Some-clause-told
returns-in-Some-clause-told c =
    let low : c.loop-comm.comm < length c.args.post_state.now.comms = grind (arith, common_steps) in
    let at = there c.args.post_state.now.comms c.loop-comm.comm low in
    let group = c.group-group.ensures at.0 at.1 in
    let size : c.size.result ≡ length at.0.members = c.size.ensures.value ∙ ap length group in
    ap (λ n. NewComm c.loop-comm.comm c.in-Some.rank n) size
    ∙ sym (c.loop-comm.invariant.rest
    ∙ joined_here c.args.member c.args.post_state.now.comms c.loop-comm.comm
    (c.args.first + c.args.number) c.in-Some.rank at.0 c.loop-comm-test.true at.1
    (ap (λ ms. rank_in ms c.args.member) (sym group) ∙ (sym c.rank_of.ensures ∙ c.in-Some.is)))

pub loop-comm-preserved : goal.loop-comm-preserved
loop-comm-preserved c =
    let low : c.loop-comm.comm < length c.args.post_state.now.comms = grind (arith, common_steps) in
    let at = there c.args.post_state.now.comms c.loop-comm.comm low in
    let group = c.group-group.ensures at.0 at.1 in
    record {
      end = refl;
      rest = c.loop-comm.invariant.rest
          ∙ joined_next c.args.member c.args.post_state.now.comms c.loop-comm.comm
          (c.args.first + c.args.number) at.0 c.loop-comm-test.true at.1
          (ap (λ ms. rank_in ms c.args.member) (sym group)
          ∙ (sym c.rank_of.ensures ∙ c.in-None.is));
    }
