use Rattle.std.proofs.Common.{rules, ◌≡◌, Err, refl, sym, ap, ◌∙◌, subst, arith, inl}
use Rattle.hall_script.specs.Lines.{answer_to}
use Rattle.hall_script.specs.Scripts.{is_skipped}
use Rattle.script_places.specs.Places.{IsColumn}
use Rattle.script_places.proofs.ScriptLemmas.{skipped_none, own_fault, member_none, absent_fault}
use Rattle.script_places.proofs.script.fault_in.Goals as goal

pub returns-then-is_skipped-clause-none : goal.returns-then-is_skipped-clause-none
returns-then-is_skipped-clause-none c = skipped_none c.args.policy.now c.args.line.now
    (ap is_skipped (sym c.trim-line.ensures) ∙ sym c.is_skipped.ensures ∙ c.if-is_skipped.true)

pub returns-then-is_member-clause-none : goal.returns-then-is_member-clause-none
returns-then-is_member-clause-none c =
    let low = c.if-is_member.true in
    let number = c.processes.ensures.number in
    member_none c.args.policy.now c.args.line.now
    (ap is_skipped (sym c.trim-line.ensures) ∙ sym c.is_skipped.ensures ∙ c.if-is_skipped.false)
    c.in-Ok.call
    (ap (answer_to c.args.policy.now.dataset_names) (sym c.trim-line.ensures)
    ∙ c.in-Ok.ensures.call)
    (omega (arith, low, number))

pub returns-else-is_member-clause-fault : goal.returns-else-is_member-clause-fault
returns-else-is_member-clause-fault c =
    let high = c.if-is_member.false in
    let number = c.processes.ensures.number in
    absent_fault c.args.policy.now c.args.line.now
    (ap is_skipped (sym c.trim-line.ensures) ∙ sym c.is_skipped.ensures ∙ c.if-is_skipped.false)
    c.in-Ok.call
    (ap (answer_to c.args.policy.now.dataset_names) (sym c.trim-line.ensures)
    ∙ c.in-Ok.ensures.call)
    (omega (arith, high, number))

pub returns-in_ok-column-in-Err : goal.returns-in_ok-column-in-Err
returns-in_ok-column-in-Err c =
    let datasets = c.args.policy.now.dataset_names in
    let trimmed_has : answer_to datasets c.trim-line.result.now ≡ Err c.in-Err.fault =
    search rules in
    let answer = ap (answer_to datasets) (sym c.trim-line.ensures) ∙ trimmed_has in
    record {
      line = refl;
      fault = own_fault c.args.policy.now c.args.line.now
          (ap is_skipped (sym c.trim-line.ensures) ∙ sym c.is_skipped.ensures
          ∙ c.if-is_skipped.false)
          c.in-Err.fault answer;
      column = inl (
        answer,
        subst (λ line. IsColumn datasets line c.in-Err.fault c.in_ok-column-in-Err.column)
            c.trim-line.ensures c.in_ok-column-in-Err.ensures,
      );
      none = tt;
    }
