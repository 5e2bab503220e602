use Rattle.std.proofs.Common.{◌≢◌, ℕ, None, refl, sym, subst}
use Rattle.std.specs.Arc.{arc_value}
use Rattle.mpi_group.specs.Groups.{rank_in}
use Rattle.run_model.specs.declared.call.Act.TheVariants.{Take}
use Rattle.run_model.specs.declared.outcome.Outcome.TheVariants.{Granted}
use Rattle.run_model.specs.declared.refusal.Refusal.{Refusal}
use Rattle.run_model.specs.declared.reply.Reply.TheVariants.{Refused}
use Rattle.hall_core.specs.Claims.{HoldsShare}
use Rattle.hall_core.specs.Halls.{settlement}
use Rattle.hall_core.specs.Invariant.{view_in}
use Rattle.hall_core.specs.Moves.{Steps}
use Rattle.hall_core.proofs.DueLemmas.{shared_steps, shared_wanting}
use Rattle.hall_core.proofs.TakeLemmas.{rank_there}
use Rattle.hall_core.proofs.TellLemmas.{tellable}
use Rattle.hall_core.proofs.records.Records.claim_shared.Goals as goal

pub ready-requires-clause-whole : goal.ready-requires-clause-whole
ready-requires-clause-whole c =
    (tellable (view_in c.args.self.now) c.requires.hall c.args.process c.args.request c.args.asked
    (settlement (arc_value c.args.full) Granted) c.requires.waits c.requires.granted).whole refl

pub ready-requires-clause-member : goal.ready-requires-clause-member
ready-requires-clause-member c =
    subst (λ (p : ℕ). rank_in (arc_value c.args.full).roll.members p ≢ None)
    (sym c.member.ensures) (rank_there (view_in c.args.self.now) c.requires.hall c.args.process
    c.args.request c.args.asked (settlement (arc_value c.args.full) Granted) c.requires.waits
    c.requires.granted)

pub returns-in-Ok-clause-steps : goal.returns-in-Ok-clause-steps
returns-in-Ok-clause-steps c =
    shared_steps (view_in c.args.self.now) c.args.process c.args.request c.args.asked
    (arc_value c.args.full) c.requires.waits c.requires.granted (view_in c.close_asked.new.self)
    c.in-Ok.claim
    (subst (λ (p : ℕ). HoldsShare p (arc_value c.args.full) c.in-Ok.claim) c.member.ensures
    c.in-Ok.ensures.holds) c.close_asked.ensures.closes

pub returns-in-Err-clause-steps : goal.returns-in-Err-clause-steps
returns-in-Err-clause-steps c =
    subst (λ (f : Refusal). Steps (view_in c.args.self.now) (view_in c.args.self.now)
    c.args.process (Take c.args.request) (Refused f)) (sym c.from.ensures)
    (shared_wanting (view_in c.args.self.now) c.args.process c.args.request c.args.asked
    (arc_value c.args.full) c.requires.waits c.requires.granted)
