use Rattle.std.proofs.Common.{◌≡◌, ◌==◌, ◌+◌, ◌∙◌, ℕ, length, ap, arith}
use Rattle.std.specs.List.{count_by}
use Rattle.std.proofs.lemmas.List.Splits.{length-slice_split}
use Rattle.std.proofs.lemmas.List.Sums.{count_by-le-length}
use Rattle.hall_script.specs.Scripts.{members_script}
use Rattle.hall_script.proofs.SplitLemmas.{none_named, begins, goes_on, ends, is_done}
use Rattle.hall_script.proofs.split.split_script.Goals as goal

pub loop-line-init : goal.loop-line-init
loop-line-init c =
    let wall = c.args.policy.now in
    let n : length c.new-lines.result ≡ count_by (λ b. b == 10) c.args.script.now + 1 = ap length
    c.new-lines.ensures ∙ length-slice_split (λ b. b == 10) c.args.script.now in
    record {
      bound = omega (arith, n, count_by-le-length (λ (b : ℕ). b == 10) c.args.script.now);
      so_far = rw c.new-lines.ensures (begins wall (members_script wall c.args.script.now)
          c.in_ok-rows.rows.items c.in_ok-rows.ensures);
      known =
          none_named wall (length wall.process_names) c.in_ok-rows.rows.items c.in_ok-rows.ensures;
    }

pub returns-in-Err-clause-split : goal.returns-in-Err-clause-split
returns-in-Err-clause-split c =
    let wall = c.args.policy.now in
    rw c.fault_of.ensures.fault
    (ends wall (members_script wall c.args.script.now) c.loop-line.rows.items c.loop-line.number
    c.in-Some.line.now c.loop-line.lines c.next_long.new.self c.in-Err.fault c.in-Some.ensures
    c.loop-line.invariant.so_far c.in-Err.ensures.put)

pub loop-line-preserved : goal.loop-line-preserved
loop-line-preserved c =
    let wall = c.args.policy.now in
    record {
      bound = omega (arith, ap length c.in-Some.ensures, c.loop-line.invariant.bound);
      so_far = goes_on wall (members_script wall c.args.script.now) c.loop-line.rows.items
          c.push_act_of.new.rows.items c.loop-line.number c.in-Some.line.now c.loop-line.lines
          c.next_long.new.self c.in-Some.ensures c.loop-line.invariant.so_far c.in-Ok.ensures.put;
      known = c.in-Ok.ensures.known c.loop-line.invariant.known;
    }

pub returns-clause-split : goal.returns-clause-split
returns-clause-split c =
    let wall = c.args.policy.now in
    rw c.from.ensures (is_done wall (members_script wall c.args.script.now) c.loop-line.rows.items
    c.loop-line.number c.loop-line.lines c.in_default.ensures.0
    c.loop-line.invariant.so_far)
