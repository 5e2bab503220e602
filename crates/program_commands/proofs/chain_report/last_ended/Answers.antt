use Rattle.std.proofs.Common.{rules, inl, inr, refl, sym, subst, ◌∙◌, ◌+◌, length, IsSome}
use Rattle.program_commands.proofs.ChainLemmas.{goes_on}
use Rattle.program_commands.proofs.ChainReportLemmas.{bad_last_named, untold_named}
use Rattle.program_commands.proofs.chain_report.last_ended.Goals as goal

pub returns-in-Some-clause-none : goal.returns-in-Some-clause-none
returns-in-Some-clause-none g c = inl (
  subst IsSome (sym c.in-Some.ensures.some) refl,
  c.end_open.ensures.status,
  (rw c.ended.ensures at c.end_open.ensures.told),
)

pub end_broken-status-requires : goal.end_broken-status-requires
end_broken-status-requires g c =
    untold_named g.F.Reader.Source.failures g.F.Reader.Source.remaining g.F.FileSystem.is_at
    c.in-Some-split_last.before.now c.in-Err.broken c.in-Err.ensures.broken

pub returns-in-Ok-read_again-clause-last : goal.returns-in-Ok-read_again-clause-last
returns-in-Ok-read_again-clause-last g c =
    let p = c.in-Ok.ensures.given in
    let wall = c.in-Ok-read_again.reading.wall in
    record {
      none = search rules;
      before = c.in-Some-split_last.before.now;
      run = c.in-Some-split_last.run'.now;
      are = sym c.ended-2.ensures ∙ c.in-Some-split_last.ensures.cases.0;
      links = p.0;
      past = c.in-Ok.given.past;
      stand = p.1;
      gave = p.2;
      last = c.in-Ok-read_again.ensures.read;
      goes_on = goes_on p.0 wall (c.in-Ok-read_again.ensures.chain p.0 p.1.chain)
          c.see_wall.ensures.policy c.see_wall.ensures.years;
    }

pub end_broken-status-requires-2 : goal.end_broken-status-requires-2
end_broken-status-requires-2 g c =
    bad_last_named g.F.Reader.Source.failures g.F.Reader.Source.remaining g.F.FileSystem.is_at
    c.in-Ok.given.past c.in-Some-split_last.run'.now c.in-Err-read_again.fault
    c.in-Err-read_again.ensures.fault

pub returns-clause-none : goal.returns-clause-none
returns-clause-none g c =
    let p = c.in-Ok.ensures.given in
    inr (inr (
      c.in-Some-split_last.before.now,
      c.in-Some-split_last.run'.now,
      sym c.ended-2.ensures ∙ c.in-Some-split_last.ensures.cases.0,
      inr (record {
        links = p.0;
        past = c.in-Ok.given.past;
        stand = p.1;
        broken = record {
          number = length c.in-Some-split_last.before.now + 1;
          after = c.in-Ok.given.past.policy;
          fault = c.in-Err-read_again.fault;
        };
        number = refl;
        after = refl;
        why = c.in-Err-read_again.ensures.fault;
        status_is = c.end_broken-status-2.ensures.status;
        told = c.end_broken-status-2.ensures.told;
      }),
    ))
