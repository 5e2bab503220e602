use Rattle.std.proofs.Common.{sym, subst, arith}
use Rattle.wall_rules.specs.Histories.{History, NobodyHoldsRivals, AreRivalRows, opening}
use Rattle.wall_rules.proofs.HistoryLemmas.{opening-apart, opened}
use Rattle.wall_rules.proofs.histories.Histories.opening.Goals as goal

pub invariant_of-result : goal.invariant_of-result
invariant_of-result c =
    let pairs = c.in_ok-rows.ensures.pairs in
    let is_opening = opened c.args.policy.now c.in_ok-rows.rows.items c.add_pairs.new.rows.items
    c.held.result.now pairs c.held.ensures.pairs c.add_pairs.ensures.pairs in (
      record {
        set_for_each = c.add_pairs.ensures.rows;
        few_datasets = rw c.in_ok-classes.ensures (omega (
          arith,
          c.processes-processes.ensures.policy.class_for_each,
          c.processes-processes.ensures.policy.few_datasets,
        ));
        apart = subst (λ (h : History). NobodyHoldsRivals c.in_ok-classes.classes.items h)
            (sym is_opening)
            (subst (λ classes. NobodyHoldsRivals classes (opening c.args.policy.now))
            (sym c.in_ok-classes.ensures)
            (opening-apart c.args.policy.now c.processes-processes.ensures.policy));
      },
      subst (λ classes. AreRivalRows classes c.in_ok-rivals.rivals.items) (c.deref.ensures.value)
          c.in_ok-rivals.ensures,
    )

pub returns-clause-pairs : goal.returns-clause-pairs
returns-clause-pairs c =
    opened c.args.policy.now c.in_ok-rows.rows.items c.add_pairs.new.rows.items
    c.held.result.now c.in_ok-rows.ensures.pairs c.held.ensures.pairs c.add_pairs.ensures.pairs
