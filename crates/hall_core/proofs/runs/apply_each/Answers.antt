use Rattle.std.proofs.Common.{◌≡◌, List, [], ◌∷◌, ◌++◌, length, arith, refl, sym, ap, ◌∙◌}
use Rattle.std.proofs.lemmas.Grind.{common_steps}
use Rattle.std.proofs.lemmas.List.{append-nil}
use Rattle.run_model.specs.declared.call.Call.{Call}
use Rattle.run_model.specs.Runs.{entry, run_of}
use Rattle.hall_core.proofs.RunLemmas.{run_of-push}
use Rattle.hall_core.proofs.runs.apply_each.Goals as goal

pub loop-call-preserved : goal.loop-call-preserved
loop-call-preserved c =
    let stepped = c.apply-reply.ensures.runs (run_of c.loop-call.yielded c.loop-call.list.items)
    c.loop-call.invariant.legal c.loop-call.invariant.stands in
    let run : run_of (c.loop-call.yielded ++ c.in-Some.call ∷ []) c.push.new.self.items ≡ entry
    c.in-Some.call c.apply-reply.result ∷ run_of c.loop-call.yielded c.loop-call.list.items =
    rw c.in_ok-push.ensures.items (run_of-push c.loop-call.yielded c.loop-call.list.items
    c.in-Some.call c.apply-reply.result c.loop-call.invariant.count) in
    record {
      policy = grind (arith, common_steps);
      legal = rw run stepped.0;
      stands = rw run stepped.1;
      count = grind (arith, common_steps);
      rest = grind (arith, common_steps);
    }

nothing_in : (xs : List Call) → length xs ≡ 0 → xs ≡ []
nothing_in [] e = refl
nothing_in (x ∷ xs) e = absurd (omega (arith, e))

-- all calls were yielded, so the run so far is that of the calls
pub returns-clause-run : goal.returns-clause-run
returns-clause-run c =
    let rest = c.loop-call.call-iterator.rest in
    let none : length rest.items ≡ 0 = sym rest.ok.0 ∙ c.in-None.ensures.steps.0 in
    let all : c.loop-call.yielded ≡ c.args.calls =
    sym (append-nil c.loop-call.yielded)
    ∙ (ap (λ xs. c.loop-call.yielded ++ xs) (sym (nothing_in rest.items none))
    ∙ c.loop-call.invariant.rest) in
    rw (← all, ← c.loop-call.invariant.policy) c.loop-call.invariant.legal
