use Rattle.std.proofs.Common.{◌≡◌, length, arith, sym, ap, ◌∙◌}
use Rattle.std.proofs.lemmas.Bool.{eqb-true}
use Rattle.book_chain.proofs.PrefixLemmas.{nothing_held}
use Rattle.book_chain.proofs.chain.Chain.begin.Goals as goal
use Rattle.book_chain.proofs.chain.Chain.begin.Goals.{then-is_empty, else-is_empty}

pub invariant_of-result : goal.invariant_of-result
invariant_of-result c = elim c.if-is_empty.branch [
  | then-is_empty w
      ↦
      let none : length c.args.policy.held ≡ 0 =
      ap length (sym c.held.ensures.pairs)
      ∙ eqb-true _ 0 (sym c.is_empty.ensures ∙ w.if-is_empty.true) in
      record {
        some = omega (arith, w.least-is);
        few = omega (
          arith,
          w.least-is,
          c.processes-processes.ensures.some,
          c.processes-processes.ensures.number,
        );
        below = λ p d has. absurd (nothing_held c.args.policy.held none p d has);
      }
  | else-is_empty w
      ↦
      let is = c.processes-processes.ensures in
      record {
        some = omega (arith, w.least-is, is.some);
        few = omega (arith, w.least-is, is.number);
        below = λ p d has. omega (arith, w.least-is, is.number, (is.policy.known_held p d has).0);
      }
]
