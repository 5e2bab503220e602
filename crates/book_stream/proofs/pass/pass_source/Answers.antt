use Rattle.hall_script.specs.Devices.{used}
use Rattle.book_stream.proofs.SourceLemmas.{ends_badly}
use Rattle.book_stream.proofs.pass.pass_source.Goals as goal

pub returns-in-Err-end-clause-fault : goal.returns-in-Err-end-clause-fault
returns-in-Err-end-clause-fault g c =
    let all = c.in-Ok.ensures.whole in
    ends_badly c.args.policy.now
    (used g.S.Source.failures g.S.Source.remaining c.args.source.now c.read_whole.new.source)
    all.text all.gave c.in-Err-end.fault
    (c.in-Err-end.ensures all.text all.lines all.line all.stands all.clear all.cut)

pub returns-clause-passed : goal.returns-clause-passed
returns-clause-passed g c =
    let all = c.in-Ok.ensures.whole in
    let said = c.in-Ok-end.ensures all.text all.lines all.line all.stands all.clear all.cut in
    record {
      text = all.text;
      entries = said.0;
      gave = all.gave;
      says = said.1;
      sound = said.2.1;
      number = c.entries.ensures c.args.policy.now said.0 said.2.0;
      digest = c.finalize.ensures all.text all.taken;
      held = c.in-Ok-held_at.ensures c.args.policy.now said.0 said.2.0;
    }
