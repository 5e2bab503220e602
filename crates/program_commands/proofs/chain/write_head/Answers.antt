use Rattle.std.proofs.Common.{ℕ, List, Option, sym, subst}
use Rattle.hall_script.specs.Devices.{used, IsWritten}
use Rattle.program_commands.specs.Chains.{head_text}
use Rattle.program_commands.proofs.chain.write_head.Goals as goal

pub returns-in-Ok-clause-written : goal.returns-in-Ok-clause-written
returns-in-Ok-clause-written g c =
    subst (λ (h : Option (List ℕ)). IsWritten
    (used g.O.Sink.failures g.O.Sink.contents c.args.out.now c.write_three.new.sink) (head_text h))
    (sym c.in-Some.is) (rw c.as_slice.ensures at c.in-Ok.ensures.written)

pub returns-in-Ok-write_all-clause-written : goal.returns-in-Ok-write_all-clause-written
returns-in-Ok-write_all-clause-written g c =
    subst (λ (h : Option (List ℕ)). IsWritten
    (used g.O.Sink.failures g.O.Sink.contents c.args.out.now c.write_all.new.sink) (head_text h))
    (sym c.in-None.is) (c.in-Ok-write_all.ensures.went, c.in-Ok-write_all.ensures.written)
