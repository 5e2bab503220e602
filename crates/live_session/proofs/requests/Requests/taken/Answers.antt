use Rattle.std.proofs.Common.{◌∙◌, ap, refl, sym, map, not}
use Rattle.std.specs.Prelude.{◌==◌}
use Rattle.live_session.specs.declared.requests.Open.{Open}
use Rattle.live_session.proofs.KeepLemmas.{closes, map_filter}
use Rattle.live_session.proofs.requests.Requests.taken.Goals as goal

pub returns-then-is_outcome : goal.returns-then-is_outcome
returns-then-is_outcome c =
    closes c.args.self.now _ c.args.request _ (sym c.is_outcome.ensures ∙ c.if-is_outcome.true)
    (record {
      given = refl;
      untaken = ap (map (λ (o : Open). o.request)) c.keep_others.ensures.others
          ∙ map_filter (λ (o : Open). o.request) (λ r. not (c.args.request == r))
          c.args.self.now.untaken.items;
      room = c.keep_others.ensures.room;
    })
