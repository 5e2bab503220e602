use Rattle.hall_script.specs.Devices.{used}
use Rattle.book_stream.proofs.SourceLemmas.{ends_sound, ends_badly}
use Rattle.book_stream.proofs.stream.audit_source.Goals as goal

pub returns-in-Ok-end : goal.returns-in-Ok-end
returns-in-Ok-end g c =
    let all = c.in-Ok.ensures.whole in
    let said = c.in-Ok-end.ensures all.text all.lines all.line all.stands all.clear all.cut in
    ends_sound c.args.policy.now
    (used g.S.Source.failures g.S.Source.remaining c.args.source.now c.read_whole.new.source)
    all.text all.gave said.0 said.1 said.2.1 c.entries.result
    (c.entries.ensures c.args.policy.now said.0 said.2.0)

pub returns : goal.returns
returns g c =
    let all = c.in-Ok.ensures.whole in
    ends_badly c.args.policy.now
    (used g.S.Source.failures g.S.Source.remaining c.args.source.now c.read_whole.new.source)
    all.text all.gave c.in-Err-end.fault
    (c.in-Err-end.ensures all.text all.lines all.line all.stands all.clear all.cut)
