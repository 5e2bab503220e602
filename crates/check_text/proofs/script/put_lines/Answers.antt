use Rattle.std.proofs.Common.{◌-◌, ◌<◌, get_or, drop, ap, ◌∙◌, subst, arith}
use Rattle.std.proofs.lemmas.List.{get_or_default}
use Rattle.coll_text.specs.declared.fault.LineFault.TheVariants.{BadVerb}
use Rattle.coll_text.specs.Reading.{parts}
use Rattle.hall_script.specs.Scripts.{trimmed}
use Rattle.script_places.specs.declared.found.Found.{Found}
use Rattle.check_text.specs.Lines.{raw_line}
use Rattle.check_text.proofs.WalkLemmas.{line_behind, lines_behind, one_line_more}
use Rattle.check_text.proofs.script.put_lines.Goals as goal

-- read past the end
abbrev none : Found
none = record { line = 0; column = 0; fault = BadVerb }

pub loop-one-preserved : goal.loop-one-preserved
loop-one-preserved c =
    let one : Found = get_or c.args.found.now c.loop-one.one-index none in
    let low = c.loop-one-test.true in
    let passed = c.loop-one.invariant.later c.loop-one.one-index none (omega arith) (omega arith) in
    record {
      lines = c.take_line.ensures.rest
          ∙ ap (drop (one.line - c.loop-one.passed)) c.loop-one.invariant.lines
          ∙ lines_behind (parts 10 c.args.script.now) c.loop-one.passed one.line passed;
      later = λ k d more within.
          let once = c.requires.once c.loop-one.one-index k d (omega arith) within in
          let same = get_or_default c.args.found.now c.loop-one.one-index d none (omega arith) in
          subst (λ (f : Found). f.line < (get_or c.args.found.now k d).line) same once;
      text = one_line_more c.args.path.now (parts 10 c.args.script.now) c.args.found.now
          c.loop-one.one-index none c.args.text.now.items c.loop-one.text.items
          c.put_line.new.text.items c.trim-line.result.now (omega arith) c.loop-one.invariant.text
          c.in_ok-put_line.ensures
          (c.trim-line.ensures ∙ ap trimmed (c.take_line.ensures.line
          ∙ ap (λ ls. raw_line ls (one.line - c.loop-one.passed)) c.loop-one.invariant.lines
          ∙ line_behind (parts 10 c.args.script.now) c.loop-one.passed one.line passed));
    }
