use Rattle.std.proofs.Common.{append_assoc}
use Rattle.check_text.proofs.sentences.put_byte.Goals as goal

pub returns : goal.returns
returns c = rw (
  c.in_ok-put_decimal.ensures.ok,
  c.in_ok-put.ensures.ok,
  c.from.ensures,
  append_assoc,
  append_assoc,
) at c.put-2.ensures.ok
