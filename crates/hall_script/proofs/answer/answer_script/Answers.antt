use Rattle.std.proofs.Common.{◌≡◌, ◌+◌, ◌∙◌, ℕ, ap, refl, Result, Err}
use Rattle.hall_script.specs.declared.fault.ScriptFault.{ScriptFault}
use Rattle.hall_script.specs.declared.fault.ScriptFault.TheVariants.{Read, Write}
use Rattle.hall_script.specs.Scripts.{script_of}
use Rattle.hall_script.proofs.RunLemmas.{written_out, broken_off, not_read}
use Rattle.hall_script.proofs.answer.answer_script.Goals as goal

abbrev failed : ScriptFault → Result (Unit {0}) ScriptFault
failed f = Err f

fault_is : (f g : ScriptFault) → failed f ≡ failed g → f ≡ g
fault_is f g e = cc

pub returns-in-Ok-send-2 : goal.returns-in-Ok-send-2
returns-in-Ok-send-2 g c =
    let wall = g.M.Answerer.wall c.args.machine.now in
    let before = g.W.Sink.contents c.args.sink.now in
    let now = g.W.Sink.contents c.answer_lines.new.sink in
    let whole = script_of wall.dataset_names c.args.script.now in
    let other : failed c.in-Err.fault ≡ failed Write → ⊥ = λ e. c.in_default.not-Write
    (fault_is c.in-Err.fault Write e) in
    record {
      wall = c.in-Err.ensures.wall;
      went = λ _. c.in-Ok-send-2.ensures.went ∙ c.in-Err.ensures.went other;
      failed = λ e. absurd (other e);
      not_read = λ e. not_read g.M.Answerer.stands wall c.answer_lines.new.machine before now
          c.answer_lines.new.text.items whole c.in-Err.fault c.in-Err.ensures.ends
          (fault_is c.in-Err.fault Read e);
      replays = written_out g.M.Answerer.stands wall c.answer_lines.new.machine before now
          (g.W.Sink.contents c.send-in_default.new.sink) c.answer_lines.new.text.items whole
          (failed c.in-Err.fault) other c.in-Err.ensures.ends c.in-Ok-send-2.ensures.sent;
    }

pub returns : goal.returns
returns g c =
    let wall = g.M.Answerer.wall c.args.machine.now in
    let before = g.W.Sink.contents c.args.sink.now in
    let now = g.W.Sink.contents c.answer_lines.new.sink in
    let whole = script_of wall.dataset_names c.args.script.now in
    let other : failed c.in-Err.fault ≡ failed Write → ⊥ = λ e. c.in_default.not-Write
    (fault_is c.in-Err.fault Write e) in
    record {
      wall = c.in-Err.ensures.wall;
      went = λ n. absurd (n refl);
      failed =
          λ _. c.in-Err-send-2.ensures.failed ∙ ap (λ (n : ℕ). n + 1) (c.in-Err.ensures.went other);
      not_read = λ e. let k : Write ≡ Read = fault_is Write Read e in cc;
      replays = broken_off g.M.Answerer.stands wall c.answer_lines.new.machine before now
          (g.W.Sink.contents c.send-in_default.new.sink) c.answer_lines.new.text.items whole
          (failed c.in-Err.fault) other c.in-Err.ensures.ends c.in-Err-send-2.ensures.prefix;
    }
