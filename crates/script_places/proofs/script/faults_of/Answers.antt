use Rattle.std.proofs.Common.{◌≡◌, ℕ, ◌+◌, ◌-◌, List, ◌∷◌, drop, sym, ap, ◌∙◌}
use Rattle.std.proofs.Common.{arith, length}
use Rattle.coll_text.specs.Reading.{parts}
use Rattle.script_places.proofs.ScriptLemmas.{lines_few, faults_none, next_line, faults_same}
use Rattle.script_places.proofs.ScriptLemmas.{faults_more, faults_all}
use Rattle.script_places.proofs.script.faults_of.Goals as goal
use Rattle.script_places.proofs.script.faults_of.Goals.{in-None, in-Some-2+in_ok-push-in-Some-2}

pub loop-line-init : goal.loop-line-init
loop-line-init c = rw c.new-list.ensures.items (record {
  bound =
      let few = lines_few c.args.script.now in
      let same = ap (λ (ls : List (List ℕ)). length ls) c.new-lines.ensures in
      omega (arith, few, same);
  some = omega arith;
  left = c.new-lines.ensures;
  so_far = faults_none c.args.policy.now (parts 10 c.args.script.now);
})

pub loop-line-preserved : goal.loop-line-preserved
loop-line-preserved c =
    let some = c.loop-line.invariant.some in
    let here : drop (c.loop-line.number - 1) (parts 10 c.args.script.now)
    ≡ c.in-Some.line.now ∷ c.next_long.new.self =
    sym c.loop-line.invariant.left ∙ c.in-Some.ensures in
    let next = next_line c.args.policy.now (parts 10 c.args.script.now)
    (c.loop-line.number - 1) c.in-Some.line.now c.next_long.new.self here in
    let long = ap (λ (ls : List (List ℕ)). length ls) c.in-Some.ensures in
    let more : c.loop-line.number - 1 + 1 ≡ c.loop-line.number + 1 - 1 = omega arith in
    let bound = c.loop-line.invariant.bound in
    record {
      bound = omega (arith, long, bound);
      some = omega arith;
      left = next.1 ∙ ap (λ n. drop n (parts 10 c.args.script.now)) more;
      so_far = elim c.match-branch-2.branch [
        | in-None w ↦ rw w.list-is
            (faults_same c.args.policy.now (parts 10 c.args.script.now)
            c.loop-line.number c.in-Some.line.now c.loop-line.list.items some next.0
            c.loop-line.invariant.so_far (rw w.in-None.is at c.in_ok-fault_in.ensures.none))
        | in-Some-2+in_ok-push-in-Some-2 w ↦
            rw (w.list-is, w.in_ok-push-in-Some-2.ensures.items)
            (faults_more c.args.policy.now (parts 10 c.args.script.now)
            c.loop-line.number c.in-Some.line.now c.loop-line.list.items some next.0
            c.loop-line.invariant.so_far w.in-Some-2.found
            (rw w.in-Some-2.is at c.in_ok-fault_in.ensures.line)
            (rw w.in-Some-2.is at c.in_ok-fault_in.ensures.fault)
            (rw w.in-Some-2.is at c.in_ok-fault_in.ensures.column))
      ];
    }

pub returns : goal.returns
returns c = faults_all c.args.policy.now (parts 10 c.args.script.now)
    c.loop-line.number c.loop-line.list.items c.loop-line.invariant.so_far
    c.loop-line.invariant.some (sym c.in_default.ensures.0 ∙ c.loop-line.invariant.left)
