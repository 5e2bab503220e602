use Rattle.std.proofs.Common.{inl, inr, refl}
use Rattle.program_commands.proofs.ChainLemmas.{can_be_told, years_kept, had_once, last_head}
use Rattle.program_commands.proofs.chain.audit_ended.Goals as goal

pub end_broken-status-requires : goal.end_broken-status-requires
end_broken-status-requires g c =
    can_be_told g.F.Reader.Source.failures g.F.Reader.Source.remaining g.F.FileSystem.is_at
    c.args.file.now.ended c.in-Err.broken (rw c.ended.ensures at c.in-Err.ensures.broken)

pub returns-in-Err : goal.returns-in-Err
returns-in-Err g c = inl (
  (
    c.in-Err.broken,
    (rw c.ended.ensures at c.in-Err.ensures.broken),
    c.end_broken-status.ensures.status,
    c.end_broken-status.ensures.told,
  ),
  refl,
)

pub returns-in-Ok-written : goal.returns-in-Ok-written
returns-in-Ok-written g c =
    let p = c.in-Ok.ensures.stand in
    inr (record {
      links = p.0;
      past = c.in-Ok.past;
      stand = rw c.ended.ensures at p.1;
      years_keep = years_kept c.in-Ok.past.policy p.0 p.1.chain c.see_policy.ensures.policy
          c.see_policy.ensures.years;
      had = had_once c.in-Ok.past.policy p.0 p.1.chain c.see_policy.ensures.years;
      head = c.head.result;
      is_head = last_head c.args.file.now c.head.result c.head.ensures.none c.head.ensures.last;
      told = inl ((rw c.ended-2.ensures at c.in-Ok-written.ensures.written), refl, refl);
    })

pub returns : goal.returns
returns g c =
    let p = c.in-Ok.ensures.stand in
    inr (record {
      links = p.0;
      past = c.in-Ok.past;
      stand = rw c.ended.ensures at p.1;
      years_keep = years_kept c.in-Ok.past.policy p.0 p.1.chain c.see_policy.ensures.policy
          c.see_policy.ensures.years;
      had = had_once c.in-Ok.past.policy p.0 p.1.chain c.see_policy.ensures.years;
      head = c.head.result;
      is_head = last_head c.args.file.now c.head.result c.head.ensures.none c.head.ensures.last;
      told = inr (
        (rw c.ended-2.ensures at c.in-Err-written.ensures.broken),
        c.end.ensures.status,
        c.end.ensures.told,
      );
    })
