use Rattle.std.proofs.Common.{◌≡◌, ◌==◌, ◌+◌, ℕ, length, refl, ap, ◌∙◌, arith}
use Rattle.std.specs.List.{count_by}
use Rattle.std.proofs.lemmas.List.Splits.{length-slice_split}
use Rattle.std.proofs.lemmas.List.Sums.{count_by-le-length}
use Rattle.hall_script.specs.Scripts.{script_of}
use Rattle.hall_script.proofs.RunLemmas.{begins, goes_on, breaks, ends, is_done}
use Rattle.hall_script.proofs.answer.answer_lines.Goals as goal

pub loop-line-init : goal.loop-line-init
loop-line-init g c =
    let wall = g.M.Answerer.wall c.args.machine.now in
    let n : length c.new-lines.result ≡ count_by (λ b. b == 10) c.args.script.now + 1 = ap length
    c.new-lines.ensures ∙ length-slice_split (λ b. b == 10) c.args.script.now in
    record {
      wall = refl;
      count = refl;
      bound = omega
          (arith, n, count_by-le-length (λ (b : ℕ). b == 10) c.args.script.now, c.requires.bounded);
      so_far = rw c.new-lines.ensures (begins g.M.Answerer.stands wall c.args.machine.now
          (g.W.Sink.contents c.args.sink.now) c.args.text.now.items
          (script_of wall.dataset_names c.args.script.now) c.requires.begins
          c.requires.nothing);
    }

pub returns-in-Err-clause-ends : goal.returns-in-Err-clause-ends
returns-in-Err-clause-ends g c =
    let wall = g.M.Answerer.wall c.args.machine.now in
    rw c.fault_of.ensures.fault
    (ends g.M.Answerer.stands wall c.loop-line.machine c.answer_line.new.machine
    (g.W.Sink.contents c.args.sink.now) (g.W.Sink.contents c.loop-line.sink)
    c.loop-line.text.items c.answer_line.new.text.items
    (script_of wall.dataset_names c.args.script.now) c.loop-line.number c.in-Some.line.now
    c.loop-line.lines c.next_long.new.self c.in-Err.fault c.in-Some.ensures
    c.loop-line.invariant.so_far
    (rw c.loop-line.invariant.wall at c.in-Err.ensures.answered))

pub returns-in-Err-send_long-clause-ends : goal.returns-in-Err-send_long-clause-ends
returns-in-Err-send_long-clause-ends g c =
    let wall = g.M.Answerer.wall c.args.machine.now in
    breaks g.M.Answerer.stands wall c.loop-line.machine c.answer_line.new.machine
    (g.W.Sink.contents c.args.sink.now) (g.W.Sink.contents c.loop-line.sink)
    (g.W.Sink.contents c.send_long.new.sink)
    c.loop-line.text.items c.answer_line.new.text.items
    (script_of wall.dataset_names c.args.script.now) c.loop-line.number c.in-Some.line.now
    c.loop-line.lines c.next_long.new.self tt c.in-Some.ensures c.loop-line.invariant.so_far
    (rw c.loop-line.invariant.wall at c.in-Ok.ensures.answered) c.in-Err-send_long.ensures.prefix

pub loop-line-preserved : goal.loop-line-preserved
loop-line-preserved g c =
    let wall = g.M.Answerer.wall c.args.machine.now in
    record {
      wall = c.in-Ok.ensures.wall ∙ c.loop-line.invariant.wall;
      count = c.in-Ok-send_long.ensures.went ∙ c.loop-line.invariant.count;
      bound = omega (arith, ap length c.in-Some.ensures, c.loop-line.invariant.bound);
      so_far = goes_on g.M.Answerer.stands wall c.loop-line.machine c.answer_line.new.machine
          (g.W.Sink.contents c.args.sink.now) (g.W.Sink.contents c.loop-line.sink)
          (g.W.Sink.contents c.send_long.new.sink)
          c.loop-line.text.items c.answer_line.new.text.items c.send_long.new.text.items
          (script_of wall.dataset_names c.args.script.now) c.loop-line.number c.in-Some.line.now
          c.loop-line.lines c.next_long.new.self tt
          c.in-Some.ensures c.loop-line.invariant.so_far
          (rw c.loop-line.invariant.wall at c.in-Ok.ensures.answered)
          c.in-Ok-send_long.ensures.moved;
    }

pub returns-clause-ends : goal.returns-clause-ends
returns-clause-ends g c =
    let wall = g.M.Answerer.wall c.args.machine.now in
    is_done g.M.Answerer.stands wall c.loop-line.machine (g.W.Sink.contents c.args.sink.now)
    (g.W.Sink.contents c.loop-line.sink) c.loop-line.text.items
    (script_of wall.dataset_names c.args.script.now)
    c.loop-line.number c.loop-line.lines tt c.in_default.ensures.0 c.loop-line.invariant.so_far
