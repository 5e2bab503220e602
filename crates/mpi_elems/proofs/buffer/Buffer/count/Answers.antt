use Rattle.mpi_elems.proofs.ElementLemmas.{elements_shown}
use Rattle.std.proofs.Common.{sym, ◌∙◌, ap, length}
use Rattle.mpi_elems.proofs.buffer.Buffer.count.Goals as goal

pub returns : goal.returns
returns c = c.count.ensures ∙ sym (ap length (elements_shown _ _ c.self.view_is))
