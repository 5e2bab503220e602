use Rattle.std.proofs.Common.{refl}
use Rattle.chain_file.proofs.TextLemmas.{first_heads}
use Rattle.chain_file.proofs.walk.Walk.new.Goals as goal

pub returns : goal.returns
returns c = record {
  kept = record { runs = λ _. c.new.ensures.items; last = λ _. refl };
  open_is = refl;
  heads = first_heads c.begin.result c.begin.ensures;
}
