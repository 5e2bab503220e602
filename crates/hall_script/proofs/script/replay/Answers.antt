use Rattle.std.proofs.Common.{refl, sym, subst}
use Rattle.hall_core.specs.Halls.{StandsFor, HallValue}
use Rattle.hall_script.specs.Devices.{used}
use Rattle.hall_script.specs.Scripts.{StopsWith}
use Rattle.hall_script.proofs.RunLemmas.{short_of_memory, handed_back, same_policy, not_handed_back}
use Rattle.hall_script.proofs.script.replay.Goals as goal

pub returns-in-Err-NoMemory-clause-fault : goal.returns-in-Err-NoMemory-clause-fault
returns-in-Err-NoMemory-clause-fault g c =
    let source = used g.R.Source.failures g.R.Source.remaining c.args.source.now
    c.read_device.new.source in
    let sink = used g.W.Sink.failures g.W.Sink.contents c.args.sink.now c.args.sink.now in
    short_of_memory c.args.policy source sink
    (rw c.in-Err-NoMemory.field-0-is at c.in-Err-NoMemory.ensures.fault) refl

pub returns-clause-fault : goal.returns-clause-fault
returns-clause-fault g c =
    let source = used g.R.Source.failures g.R.Source.remaining c.args.source.now
    c.read_device.new.source in
    let sink = used g.W.Sink.failures g.W.Sink.contents c.args.sink.now c.args.sink.now in
    subst (StopsWith c.args.policy source sink) (sym c.from.ensures)
    (short_of_memory c.args.policy source sink c.in-Ok.ensures.whole.0 refl)

pub returns-in-Ok-open-clause-fault : goal.returns-in-Ok-open-clause-fault
returns-in-Ok-open-clause-fault g c =
    let source = used g.R.Source.failures g.R.Source.remaining c.args.source.now
    c.read_device.new.source in
    let sink = used g.W.Sink.failures g.W.Sink.contents c.args.sink.now c.answered_from.new.sink in
    not_handed_back StandsFor (λ (h : HallValue). h.policy) c.args.policy source sink
    c.in-Ok-open.hall.policy c.in-Ok.script.items c.deref.result.now
    c.in-Ok-open.ensures.policy c.deref.ensures.value c.in-Ok.ensures.whole c.answered_from.result
    c.answered_from.ensures.stopped

pub returns-in-Ok-open-clause-replayed : goal.returns-in-Ok-open-clause-replayed
returns-in-Ok-open-clause-replayed g c =
    let source = used g.R.Source.failures g.R.Source.remaining c.args.source.now
    c.read_device.new.source in
    let sink = used g.W.Sink.failures g.W.Sink.contents c.args.sink.now c.answered_from.new.sink in
    handed_back StandsFor (λ (h : HallValue). h.policy) c.args.policy source sink
    c.in-Ok-open.hall.policy c.in-Ok.script.items c.deref.result.now
    c.in-Ok-open.ensures.policy c.deref.ensures.value c.in-Ok.ensures.whole c.answered_from.result
    c.answered_from.ensures.finished

pub returns-in-Ok-open-clause-policy : goal.returns-in-Ok-open-clause-policy
returns-in-Ok-open-clause-policy g c =
    let source = used g.R.Source.failures g.R.Source.remaining c.args.source.now
    c.read_device.new.source in
    let sink = used g.W.Sink.failures g.W.Sink.contents c.args.sink.now c.answered_from.new.sink in
    same_policy StandsFor (λ (h : HallValue). h.policy) c.args.policy source sink
    c.in-Ok-open.hall.policy c.in-Ok.script.items c.deref.result.now
    c.in-Ok-open.ensures.policy c.deref.ensures.value c.in-Ok.ensures.whole c.answered_from.result
    c.answered_from.ensures.finished
