use Rattle.std.proofs.Common.{◌≡◌, true, false, arith, sym, subst, ◌∙◌}
use Rattle.wall_policy.specs.Policy.{first_processes}
use Rattle.audit_book.specs.Checks.{IsFaultOf}
use Rattle.book_chain.proofs.PrefixLemmas.{one_on, no_number, bad_fits_not, others_named}
use Rattle.book_chain.proofs.prefix.prefix_of.Goals as goal
use Rattle.book_chain.proofs.prefix.prefix_of.Goals.{then-are_below+in-Err-BadEntry, else-are_below}

pub loop-number-preserved : goal.loop-number-preserved
loop-number-preserved c =
    let wall = c.args.policy.now in
    let book = c.args.book.now.list in
    let n = c.loop-number.number in
    let more = one_on wall book c.args.least n c.loop-number.invariant.none in
    elim c.if-are_below.branch [
      | then-are_below+in-Err-BadEntry w ↦ record {
        from = omega (arith, c.loop-number.invariant.from);
        none = more (bad_fits_not wall book n w.in-Err-BadEntry.field-0-0
            (subst (IsFaultOf (first_processes n wall) book) w.in-Err-BadEntry.field-0-is
            w.in-Err-BadEntry.ensures.fault));
      }
      | else-are_below w ↦ record {
        from = omega (arith, c.loop-number.invariant.from);
        none = more (others_named wall n book (λ all.
            let is : true ≡ false = sym (c.are_below.ensures.1 all) ∙ w.if-are_below.false in cc));
      }
    ]

pub returns-in-Err-clause-none : goal.returns-in-Err-clause-none
returns-in-Err-clause-none c =
    let all = c.processes-all.ensures in
    no_number c.args.policy.now c.args.book.now.list c.args.least c.processes-all.result
    (λ m from below. c.loop-number.invariant.none m from
    (omega (arith, below, c.loop-number-test.false)))
    c.in-Err.fault all.policy all.number c.in-Err.ensures.fault
