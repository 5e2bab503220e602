use Rattle.std.proofs.Common.{arith, ap, ◌∙◌, []}
use Rattle.std.specs.Prelude.{Option}
use Rattle.std.specs.Option.{option_map_or}
use Rattle.std.proofs.lemmas.Grind.{common_steps}
use Rattle.hall_core.specs.Asking.{Asked, requests_of}
use Rattle.hall_core.proofs.LookLemmas.{look_push}
use Rattle.hall_core.proofs.requests.no_requests.Goals as goal

pub loop-preserved : goal.loop-preserved
loop-preserved c = record {
  none = ap requests_of c.in_ok-push.ensures.items
      ∙ (look_push (λ (o : Option Asked). option_map_or (λ a. a.list) o []) _ _ c.new.ensures
      ∙ c.loop.invariant.none);
  number = grind (arith, common_steps);
}
