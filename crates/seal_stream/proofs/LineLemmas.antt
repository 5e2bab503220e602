-- The line that is not finished.
use Rattle.std.proofs.Common.{◌≡◌, ◌+◌, ◌<◌, ◌≤◌, ℕ, true, false, List, [], ◌++◌, length}
use Rattle.std.proofs.Common.{length-append, ap, ◌∙◌, arith}
use Rattle.seal_stream.specs.declared.line.Unfinished.{Unfinished}
use Rattle.book_stream.specs.Cuts.{line_limit}
use Rattle.seal_stream.specs.Steps.{Holds}

-- ---- what is kept

pub holds_none : (kept : Unfinished) → kept.bytes.items ≡ [] → kept.is_long ≡ false → Holds kept []
holds_none kept none short = record {
  short = λ e. (none, omega arith);
  long = λ e. absurd cc;
}

-- a line above the limit stays above
pub holds_on : (kept : Unfinished) (line more : List ℕ) → Holds kept line → kept.is_long ≡ true →
    Holds kept (line ++ more)
holds_on kept line more h long = record {
  short = λ e. absurd cc;
  long = λ e. let l = h.long long in omega (arith, length-append line more);
}

-- it comes above the limit
pub holds_long : (old new : Unfinished) (line more : List ℕ) → Holds old line →
    old.is_long ≡ false → new.is_long ≡ true →
    line_limit < length old.bytes.items + length more → Holds new (line ++ more)
holds_long old new line more h short long above = record {
  short = λ e. absurd cc;
  long = λ e. let k = ap length (h.short short).0 in omega (arith, length-append line more);
}

pub holds_more : (old new : Unfinished) (line more : List ℕ) → Holds old line →
    old.is_long ≡ false → new.is_long ≡ false → new.bytes.items ≡ old.bytes.items ++ more →
    length old.bytes.items + length more ≤ line_limit → Holds new (line ++ more)
holds_more old new line more h short still added within = record {
  short = λ e.
      let k = (h.short short).0 in
      let l = ap length k in
      (added ∙ ap (λ l. l ++ more) k, omega (arith, length-append line more));
  long = λ e. absurd cc;
}
