use Rattle.std.proofs.Common.{◌≡◌, Bool, Ok, ◌∷◌, length, ap, subst, arith}
use Rattle.std.proofs.lemmas.Result.{err_from_is_err_and}
use Rattle.audit_book.specs.Lines.{line_at}
use Rattle.audit_book.specs.Reading.{entries_in}
use Rattle.audit_book.specs.LineSteps.{end_number, goes_on}
use Rattle.audit_book.proofs.ReadLemmas.{begins, reads_on, stops, end_told, end_kept, cut}
use Rattle.audit_book.proofs.read.take_lines.Goals as goal

pub loop-next-init : goal.loop-next-init
loop-next-init c = record {
  few = omega (arith, c.requires.few);
  read = begins c.args.policy.now c.args.kept.now.memory c.args.kept.now.book.list
      c.args.first.now c.args.lines.now c.requires.none;
}

pub returns-in_err-take_line-clause-told : goal.returns-in_err-take_line-clause-told
returns-in_err-take_line-clause-told c =
    let p = err_from_is_err_and c.from_residual.result c.from_residual.ensures.1 in
    rw (p.1, p.2) (stops c.args.policy.now c.loop-next.kept.memory c.loop-next.kept.book.list
    c.loop-next.entries c.loop-next.line.now c.in-Some.next.now c.loop-next.lines
    c.next_long.new.self (entries_in c.args.policy.now 0 (c.args.first.now ∷ c.args.lines.now))
    c.in-Some.ensures c.loop-next.invariant.read c.in_err-take_line.field-0.0
    c.in_err-take_line.ensures.told)

pub returns-then-not-branch-clause-told : goal.returns-then-not-branch-clause-told
returns-then-not-branch-clause-told c =
    let end = subst (λ (b : Bool). Ok b ≡ goes_on c.loop-next.entries
    (end_number (line_at c.args.policy.now c.loop-next.line.now))) c.if-not-branch.true
    c.in_ok-take_line.ensures.told in
    end_told c.args.policy.now c.loop-next.kept.memory c.loop-next.kept.book.list
    c.loop-next.entries c.loop-next.line.now c.in-Some.next.now c.loop-next.lines
    c.next_long.new.self (entries_in c.args.policy.now 0 (c.args.first.now ∷ c.args.lines.now))
    c.in-Some.ensures c.loop-next.invariant.read end c.end_of.result c.end_of.ensures.end

pub returns-then-not-branch-clause-kept : goal.returns-then-not-branch-clause-kept
returns-then-not-branch-clause-kept c =
    let end = subst (λ (b : Bool). Ok b ≡ goes_on c.loop-next.entries
    (end_number (line_at c.args.policy.now c.loop-next.line.now))) c.if-not-branch.true
    c.in_ok-take_line.ensures.told in
    end_kept c.args.policy.now c.loop-next.kept.memory c.loop-next.kept.book.list
    c.loop-next.entries c.loop-next.line.now c.in-Some.next.now c.loop-next.lines
    c.next_long.new.self (entries_in c.args.policy.now 0 (c.args.first.now ∷ c.args.lines.now))
    c.in-Some.ensures c.loop-next.invariant.read end c.end_of.result c.end_of.ensures.end
    c.take_line.new.kept.memory c.take_line.new.kept.book.list c.take_line.ensures.kept
    c.take_line.ensures.stays

pub loop-next-preserved : goal.loop-next-preserved
loop-next-preserved c =
    let entry = subst (λ (b : Bool). Ok b ≡ goes_on c.loop-next.entries
    (end_number (line_at c.args.policy.now c.loop-next.line.now))) c.if-not-branch.false
    c.in_ok-take_line.ensures.told in record {
      few =
          let split = ap length c.in-Some.ensures in
          omega (arith, split, c.loop-next.invariant.few);
      read = reads_on c.args.policy.now c.loop-next.kept.memory c.loop-next.kept.book.list
          c.loop-next.entries c.loop-next.line.now c.in-Some.next.now c.loop-next.lines
          c.next_long.new.self
          (entries_in c.args.policy.now 0 (c.args.first.now ∷ c.args.lines.now))
          c.in-Some.ensures c.loop-next.invariant.read c.take_line.new.kept.memory
          c.take_line.new.kept.book.list entry c.take_line.ensures.kept c.take_line.ensures.stays;
    }

pub returns-clause-told : goal.returns-clause-told
returns-clause-told c = cut c.args.policy.now c.loop-next.kept.memory c.loop-next.kept.book.list
    c.loop-next.entries c.loop-next.line.now c.loop-next.lines
    (entries_in c.args.policy.now 0 (c.args.first.now ∷ c.args.lines.now)) c.in_default.ensures.0
    c.loop-next.invariant.read
