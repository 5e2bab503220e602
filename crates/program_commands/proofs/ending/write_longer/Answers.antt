use Rattle.program_commands.proofs.ending.write_longer.Goals as goal

pub returns-in-Ok-clause-written : goal.returns-in-Ok-clause-written
returns-in-Ok-clause-written g c =
    rw (c.as_bytes.ensures.value, c.format-digits.ensures.text) at c.in-Ok.ensures.written

pub returns-in-Err-clause-broken : goal.returns-in-Err-clause-broken
returns-in-Err-clause-broken g c =
    rw (c.as_bytes.ensures.value, c.format-digits.ensures.text) at c.in-Err.ensures.broken
