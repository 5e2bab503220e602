use Rattle.std.proofs.Common.{rules, inl, refl, sym, subst, IsSome, Option}
use Rattle.wall_policy.specs.Policy.{ChineseWall}
use Rattle.hall_script.specs.Devices.{used}
use Rattle.chain_runs.specs.Runs.{IsNext, IsChainAfter}
use Rattle.chain_runs.specs.Faults.{IsNoNext}
use Rattle.program_commands.proofs.ChainLemmas.{goes_on, next_named}
use Rattle.program_commands.proofs.chain_wall.next_on_chain.Goals as goal

pub returns-in-Some-clause-none : goal.returns-in-Some-clause-none
returns-in-Some-clause-none g c = inl (
  subst IsSome (sym c.in-Some.ensures.some) refl,
  refl,
  c.end_open.ensures.status,
  (rw c.ended.ensures at c.end_open.ensures.told),
)

pub returns-in-Ok-read_next-clause-next : goal.returns-in-Ok-read_next-clause-next
returns-in-Ok-read_next-clause-next g c =
    let p = c.in-Ok.ensures.past in
    let device = used g.P.Source.failures g.P.Source.remaining c.args.policy.now
    c.read_next.new.policy in
    let next = c.in-Ok-read_next.next in
    record {
      none = search rules;
      links = p.0;
      past = c.in-Ok.past;
      stand = p.1;
      next = subst (λ (o : Option ChineseWall). IsNext o device next.digest next.policy)
          c.as_ref.ensures.value c.in-Ok-read_next.ensures.next;
      goes_on = goes_on p.0 next.policy (c.in-Ok-read_next.ensures.chain p.0
          (subst (λ (o : Option ChineseWall). IsChainAfter o p.0) (sym c.as_ref.ensures.value)
          p.1.chain)) c.see_wall.ensures.policy c.see_wall.ensures.years;
    }

pub end_next-status-requires : goal.end_next-status-requires
end_next-status-requires g c =
    let device = used g.P.Source.failures g.P.Source.remaining c.args.policy.now
    c.read_next.new.policy in
    next_named c.in-Ok.past.policy device c.in-Err-read_next.fault
    (subst (λ (o : Option ChineseWall). IsNoNext o device c.in-Err-read_next.fault)
    c.as_ref.ensures.value c.in-Err-read_next.ensures.fault)
