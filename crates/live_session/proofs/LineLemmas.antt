-- The line that is not finished, and what it says.
use Rattle.std.proofs.Common.{◌≡◌, ◌≢◌, ℕ, ◌+◌, ◌<◌, ◌≤◌, true, false, List, []}
use Rattle.std.proofs.Common.{◌++◌, length, length-append, Result, Ok, Err, refl, sym, ap}
use Rattle.std.proofs.Common.{◌∙◌, arith}
use Rattle.std.specs.Prelude.{IsOk, nat_lt}
use Rattle.std.proofs.lemmas.Bool.Decides.{nat_tests}
use Rattle.coll_text.specs.declared.fault.LineFault.{LineFault}
use Rattle.coll_text.specs.declared.fault.LineFault.TheVariants as faults
use Rattle.coll_text.specs.Numbers.{Word}
use Rattle.coll_text.specs.Reading.{Gives}
use Rattle.hall_script.specs.declared.ask.Ask.{Ask}
use Rattle.hall_script.specs.Asks.{ask_said}
use Rattle.hall_script.specs.Scripts.{trimmed}
use Rattle.live_session.specs.declared.line.BadLine.TheVariants.{TooLong, NoAsk}
use Rattle.live_session.specs.declared.line.Unfinished.{Unfinished}
use Rattle.live_session.specs.Lines.{line_limit, ask_or_bad, said}
use Rattle.live_session.specs.Steps.{Holds}

-- ---- what is kept

pub holds_none : (kept : Unfinished) → kept.bytes.items ≡ [] → kept.is_long ≡ false → Holds kept []
holds_none kept none short = record {
  short = λ e. (none, omega arith);
  long = λ e. absurd cc;
}

-- a line above the limit stays above
pub holds_on : (kept : Unfinished) (line more : List ℕ) → Holds kept line → kept.is_long ≡ true →
    Holds kept (line ++ more)
holds_on kept line more h long = record {
  short = λ e. absurd cc;
  long = λ e. let l = h.long long in omega (arith, length-append line more);
}

-- it comes above the limit
pub holds_long : (old new : Unfinished) (line more : List ℕ) → Holds old line →
    old.is_long ≡ false → new.is_long ≡ true →
    line_limit < length old.bytes.items + length more → Holds new (line ++ more)
holds_long old new line more h short long above = record {
  short = λ e. absurd cc;
  long = λ e. let k = ap length (h.short short).0 in omega (arith, length-append line more);
}

pub holds_more : (old new : Unfinished) (line more : List ℕ) → Holds old line →
    old.is_long ≡ false → new.is_long ≡ false → new.bytes.items ≡ old.bytes.items ++ more →
    length old.bytes.items + length more ≤ line_limit → Holds new (line ++ more)
holds_more old new line more h short still added within = record {
  short = λ e.
      let k = (h.short short).0 in
      let l = ap length k in
      (added ∙ ap (λ l. l ++ more) k, omega (arith, length-append line more));
  long = λ e. absurd cc;
}

-- ---- what it says

-- a line above the limit is not looked into
pub long_says : (datasets : List Word) (kept : Unfinished) (line : Word) → Holds kept line →
    kept.is_long ≡ true → said datasets line ≡ Err TooLong
unfolding said
long_says datasets kept line h long =
    let above = h.long long in
    let test : nat_lt line_limit (length line) ≡ true = grind (arith, nat_tests) in
    rw test refl

-- another line says what is read in it
pub short_says : (datasets : List Word) (kept : Unfinished) (line : Word) → Holds kept line →
    kept.is_long ≡ false → (text : Word) → text ≡ trimmed kept.bytes.items →
    said datasets line ≡ ask_or_bad (ask_said datasets text)
unfolding said
short_says datasets kept line h short text is =
    let within = (h.short short).1 in
    let test : nat_lt line_limit (length line) ≡ false = grind (arith, nat_tests) in
    rw test (ap (λ l. ask_or_bad (ask_said datasets l))
    (ap trimmed (sym (h.short short).0) ∙ sym is))

-- what a reader of the line returned, if memory did not run out
pub gives_ask : (r : Result Ask LineFault) (ask : Ask) → Gives (Ok ask) r → ask_or_bad r ≡ Ok ask
gives_ask r ask e = ap ask_or_bad e

pub gives_fault : (r : Result Ask LineFault) (fault : LineFault) → fault ≢ faults.NoMemory →
    Gives (Err fault) r → ask_or_bad r ≡ Err (NoAsk fault)
gives_fault r faults.BadVerb ne e = ap ask_or_bad e
gives_fault r faults.BadShape ne e = ap ask_or_bad e
gives_fault r faults.BadField ne e = ap ask_or_bad e
gives_fault r faults.BadKind ne e = ap ask_or_bad e
gives_fault r faults.BadType ne e = ap ask_or_bad e
gives_fault r faults.UnknownOp ne e = ap ask_or_bad e
gives_fault r faults.BadLabel ne e = ap ask_or_bad e
gives_fault r faults.BadNumber ne e = ap ask_or_bad e
gives_fault r faults.OddPair ne e = ap ask_or_bad e
gives_fault r faults.NoMemory ne e = absurd (ne refl)

pub gives_some : (r : Result Ask LineFault) → IsOk r → IsOk (ask_or_bad r)
gives_some (Ok ask) h = refl
gives_some (Err fault) h = absurd cc
