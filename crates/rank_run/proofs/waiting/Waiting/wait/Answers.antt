use Rattle.std.proofs.Common.{arith, ◌≡◌, ◌+◌, ◌-◌, subst, sym, ◌∙◌}
use Rattle.rank_run.proofs.WaitLemmas.{waits_more, waited, not_pending, Waits}
use Rattle.rank_run.proofs.waiting.Waiting.wait.Goals as goal

pub returns-then-not-is_pending-clause-waited : goal.returns-then-not-is_pending-clause-waited
returns-then-not-is_pending-clause-waited g c =
    let i = c.loop-tried.invariant in
    let some = i.some in
    let within = i.within in
    let test = c.loop-tried-test.true in
    let t = c.take-answer in
    waited c.args.self.now.patience c.args.self.now.request (c.loop-tried.tried - 1) t.result
    c.args.pass.now c.loop-tried.pass t.new.pass i.waits t.ensures.answered (omega arith)
    (not_pending t.result (sym c.is_pending.ensures ∙ c.if-not-is_pending.true))

pub loop-tried-preserved : goal.loop-tried-preserved
loop-tried-preserved g c =
    let i = c.loop-tried.invariant in
    let some = i.some in
    let within = i.within in
    let test = c.loop-tried-test.true in
    let t = c.take-answer in
    let e : c.loop-tried.tried - 1 + 1 ≡ c.loop-tried.tried + 1 - 1 = omega arith in
    record {
      some = omega arith;
      within = omega arith;
      waits = subst (λ n. Waits c.args.self.now.request n c.args.pass.now t.new.pass) e
          (waits_more c.args.self.now.request (c.loop-tried.tried - 1) t.result c.args.pass.now
          c.loop-tried.pass t.new.pass i.waits t.ensures.same t.ensures.answered
          (sym c.is_pending.ensures ∙ c.if-not-is_pending.false));
    }

pub returns-clause-waited : goal.returns-clause-waited
returns-clause-waited g c =
    let i = c.loop-tried.invariant in
    let some = i.some in
    let within = i.within in
    let test = c.loop-tried-test.false in
    let t = c.take in
    waited c.args.self.now.patience c.args.self.now.request (c.loop-tried.tried - 1) t.result
    c.args.pass.now c.loop-tried.pass t.new.pass i.waits t.ensures.answered (omega arith)
    (λ e. omega arith)
