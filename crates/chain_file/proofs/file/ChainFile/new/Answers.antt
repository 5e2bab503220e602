use Rattle.std.proofs.Common.{List, None, sym, subst}
use Rattle.chain_file.specs.declared.run.Run.{Run}
use Rattle.chain_file.specs.Walks.{HasHeads}
use Rattle.chain_file.proofs.TextLemmas.{first_heads}
use Rattle.chain_file.proofs.file.ChainFile.new.Goals as goal

pub invariant_of-result : goal.invariant_of-result
invariant_of-result c = subst (λ (runs : List Run). HasHeads c.begin.result None
    (record { ended = runs; under_way = None })) (sym c.new.ensures.items)
    (first_heads c.begin.result c.begin.ensures)
