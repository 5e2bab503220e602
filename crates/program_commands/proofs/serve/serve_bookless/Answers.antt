use Rattle.std.proofs.Common.{◌∙◌, None, inl, inr, refl, sym, subst}
use Rattle.program_commands.specs.Serving.{IsUnserved}
use Rattle.program_commands.specs.declared.ending.Ending.{Ending}
use Rattle.program_commands.specs.declared.ending.Ending.TheVariants.{Done}
use Rattle.program_commands.proofs.ServeLemmas.{let_go}
use Rattle.program_commands.proofs.serve.serve_bookless.Goals as goal

pub returns-in-Err : goal.returns-in-Err
returns-in-Err g c = (
  c.from.result,
  inl (
    subst (λ (e : Ending). IsUnserved g.B.Sink.failures g.B.Sink.contents c.args.policy.now
        c.args.peers.items None c.unserved.result.book e) (sym c.from.ensures)
        (sym c.args.peers.ok.0 ∙ c.requires, inl c.unserved.ensures.book),
    c.unserved.ensures.sessions,
  ),
  c.unserved.ensures.status,
  c.unserved.ensures.told,
)

pub returns-in-Ok-serve_all : goal.returns-in-Ok-serve_all
returns-in-Ok-serve_all g c = (
  Done,
  inr (c.in-Ok-serve_all.served.machine, c.in-Ok-serve_all.ensures.served, (refl, refl)),
  c.end-status.ensures.status,
  c.end-status.ensures.told,
)

pub returns-in-Err-serve_all : goal.returns-in-Err-serve_all
returns-in-Err-serve_all g c = (
  c.serve_ending.result,
  inl (
    let_go g.B.Sink.failures g.B.Sink.contents c.args.policy.now c.args.peers.items None
        c.unserved-in-Err-serve_all.result.book c.in-Err-serve_all.fault c.serve_ending.result c.args.peers.len
        c.args.peers.ok.0 c.requires c.in-Err-serve_all.ensures.bad_peers c.unserved-in-Err-serve_all.ensures.book
        c.serve_ending.ensures,
    c.unserved-in-Err-serve_all.ensures.sessions,
  ),
  c.unserved-in-Err-serve_all.ensures.status,
  c.unserved-in-Err-serve_all.ensures.told,
)
