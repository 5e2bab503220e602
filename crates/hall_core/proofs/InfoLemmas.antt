-- What an info answers.
use Rattle.std.proofs.Common.{◌≡◌, ℕ, ◌<◌, sym, ap, ◌∙◌, Option, Some, slice_get, lt-ltb}
use Rattle.std.specs.Prelude.{nat_lt}
use Rattle.std.proofs.lemmas.Bool.{cond-true}
use Rattle.mpi_group.specs.Groups.{rank_in}
use Rattle.run_model.specs.declared.refusal.Refusal.TheVariants.{NoSuchProcess}
use Rattle.run_model.specs.Comms.{Comm, processes}
use Rattle.run_model.specs.declared.reply.Reply.TheVariants.{Refused}
use Rattle.run_model.specs.Replies.{info_by, info_on}
use Rattle.run_model.specs.Runs.{Effects}
use Rattle.run_model.specs.Replies.{reply_to_info}
use Rattle.hall_core.specs.Halls.{HallView, StandsForEffects}
use Rattle.hall_core.specs.Moves.{info_of}

pub info_is : (hall : HallView) (p c : ℕ) (comm : Comm) (o : Option ℕ) → p < processes hall.policy →
    slice_get hall.post_state.comms c ≡ Some comm → rank_in comm.members p ≡ o →
    info_by comm o ≡ info_of hall p c
info_is hall p c comm o low at is =
    ap (λ q. info_by comm q) (sym is)
    ∙ (ap (λ q. info_on p q) (sym at)
    ∙ sym (cond-true (nat_lt p (processes hall.policy))
    (info_on p (slice_get hall.post_state.comms c)) (Refused NoSuchProcess)
    (lt-ltb p (processes hall.policy) low)))

pub info_due : (hall : HallView) (m : Effects) → StandsForEffects hall m → (p c : ℕ) →
    info_of hall p c ≡ reply_to_info hall.policy m p c
info_due hall m stands p c = λ i. Rattle.std.specs.Prelude.if◌then◌else◌
    (nat_lt p (processes hall.policy)) (info_on p (slice_get (stands.post_state.comms i) c))
    (Refused NoSuchProcess)
