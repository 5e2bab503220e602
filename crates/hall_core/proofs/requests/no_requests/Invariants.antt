use Rattle.std.proofs.Common.{◌≡◌, length, []}
use Rattle.hall_core.specs.Asking.{requests_of}
use Rattle.hall_core.proofs.requests.no_requests.Given as goal

abbrev pub invariant-loop : goal.invariant-loop
invariant-loop l = record {
  none : requests_of l.requests.items ≡ (λ p. []);
  number : length l.requests.items ≡ l.counter;
}
