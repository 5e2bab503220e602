use Rattle.std.proofs.Common.{◌+◌, ap, ◌∙◌, sym, subst, refl}
use Rattle.run_model.specs.declared.outcome.Outcome.{Outcome}
use Rattle.wall_rules.specs.Histories.{Accesses, has}
use Rattle.run_state.specs.declared.entered.Entered.TheVariants.{Settled}
use Rattle.book_report.specs.Reasons.{AreDenialsTo, IsDenied}
use Rattle.book_report.specs.declared.denial.Denial.{Denial}
use Rattle.book_report.proofs.KnownLemmas.{ok_then}
use Rattle.book_report.proofs.DenialLemmas.{none_waiting, is_denied, none_other, denials_same}
use Rattle.book_report.proofs.DenialLemmas.{denials_more}
use Rattle.book_report.proofs.denied.add_denied.Goals as goal

pub returns-in_default : goal.returns-in_default
returns-in_default c = λ are.
    let place = c.args.place.now in
    denials_same place.policy.now place.book.now.list place.at c.args.denials.now.items
    (none_waiting place c.args.comm c.args.post_state.now c.args.entered.now c.requires _
    c.in_default.is) are

pub returns-in-Granted : goal.returns-in-Granted
returns-in-Granted c = λ are.
    let place = c.args.place.now in
    denials_same place.policy.now place.book.now.list place.at c.args.denials.now.items
    (none_other place c.args.comm c.args.post_state.now c.args.entered.now c.requires
    c.in-Settled.full c.in-Settled.k _ (c.in-Settled.is
    ∙ ap (λ (o : Outcome). Settled c.in-Settled.full c.in-Settled.k o) c.in-Granted.is)
    (λ rule p label same. cc)) are

pub returns-in-Made : goal.returns-in-Made
returns-in-Made c = λ are.
    let place = c.args.place.now in
    denials_same place.policy.now place.book.now.list place.at c.args.denials.now.items
    (none_other place c.args.comm c.args.post_state.now c.args.entered.now c.requires
    c.in-Settled.full c.in-Settled.k _ (c.in-Settled.is
    ∙ ap (λ (o : Outcome). Settled c.in-Settled.full c.in-Settled.k o) c.in-Made.is)
    (λ rule p label same. cc)) are

pub returns-in-NoRoom : goal.returns-in-NoRoom
returns-in-NoRoom c = λ are.
    let place = c.args.place.now in
    denials_same place.policy.now place.book.now.list place.at c.args.denials.now.items
    (none_other place c.args.comm c.args.post_state.now c.args.entered.now c.requires
    c.in-Settled.full c.in-Settled.k _ (c.in-Settled.is
    ∙ ap (λ (o : Outcome). Settled c.in-Settled.full c.in-Settled.k o) c.in-NoRoom.is)
    (λ rule p label same. cc)) are

pub reason-reason-requires : goal.reason-reason-requires
reason-reason-requires c =
    let place = c.args.place.now in
    let value = c.histories.ensures.value in
    record {
      place = c.requires.sound;
      classes = ap (λ (a : Accesses). a.classes) value ∙ c.requires.stands.classes;
      denied = subst
          (λ a. IsDenied place.policy.now place.book.now.list (place.at + 1) c.args.comm
          c.in-Settled.k c.in-Settled.full.roll (has a) c.in-Denied.rule c.in-Denied.process
          c.in-Denied.label) (sym value)
          (is_denied place c.args.comm c.args.post_state.now c.args.entered.now c.requires
          c.in-Settled.full c.in-Settled.k c.in-Denied.rule c.in-Denied.process
          c.in-Denied.label (c.in-Settled.is
          ∙ ap (λ (o : Outcome). Settled c.in-Settled.full c.in-Settled.k o) c.in-Denied.is));
    }

pub returns-in-Denied : goal.returns-in-Denied
returns-in-Denied c = ok_then c.push_denial.result _ _
    (λ pushed are.
    let place = c.args.place.now in
    let denial : Denial = record {
      entry = place.at + 1 + 1;
      comm = c.args.comm;
      k = c.in-Settled.k;
      process = c.in-Denied.process;
      reason = c.reason-reason.result;
    } in
    subst (λ ds. AreDenialsTo place.policy.now place.book.now.list (place.at + 1) ds) (sym pushed)
    (denials_more place.policy.now place.book.now.list place.at c.args.denials.now.items denial
    refl c.reason-reason.ensures are))
    c.push_denial.ensures
