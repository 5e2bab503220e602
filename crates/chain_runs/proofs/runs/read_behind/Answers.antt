use Rattle.std.proofs.Common.{◌+◌, refl, sym, ap, subst, ◌∙◌, arith}
use Rattle.chain_runs.specs.Runs.{IsChainAfter}
use Rattle.chain_runs.proofs.ChainLemmas.{stands_behind, not_read}
use Rattle.chain_runs.proofs.runs.read_behind.Goals as goal

pub returns-in-Some-clause-read : goal.returns-in-Some-clause-read
returns-in-Some-clause-read g c =
    let s = c.in-Ok.ensures.stands in (
      c.in-Ok.behind.policy,
      s.0,
      stands_behind g.F.Reader.Source.failures g.F.Reader.Source.remaining g.F.FileSystem.is_at
          c.args.past.now _ c.as_ref.ensures.value c.args.run.now c.reader-policy.result
          c.read_run-read.new.policy c.reader-book.result c.read_run-read.new.book
          c.bytes.result.now c.bytes-2.result.now c.reader-policy.ensures c.bytes.ensures.bytes
          c.reader-book.ensures c.bytes-2.ensures.bytes c.in-Ok.behind.policy s.0 s.1,
      refl,
      c.in-Some.ensures.1 ∙ ap (λ n. c.args.past.now.entries + n) s.2,
      λ links past. s.3 links
          (subst (λ o. IsChainAfter o links) (sym c.as_ref.ensures.value) past),
    )

pub returns-in-None-clause-fault : goal.returns-in-None-clause-fault
returns-in-None-clause-fault g c =
    let s = c.in-Ok.ensures.stands in (
      c.in-Ok.behind.policy,
      s.0,
      stands_behind g.F.Reader.Source.failures g.F.Reader.Source.remaining g.F.FileSystem.is_at
          c.args.past.now _ c.as_ref.ensures.value c.args.run.now c.reader-policy.result
          c.read_run-read.new.policy c.reader-book.result c.read_run-read.new.book
          c.bytes.result.now c.bytes-2.result.now c.reader-policy.ensures c.bytes.ensures.bytes
          c.reader-book.ensures c.bytes-2.ensures.bytes c.in-Ok.behind.policy s.0 s.1,
      (let none = c.in-None.ensures in let same = s.2 in omega (arith, none, same)),
    )

pub returns-in-Err-clause-fault : goal.returns-in-Err-clause-fault
returns-in-Err-clause-fault g c =
    not_read g.F.Reader.Source.failures g.F.Reader.Source.remaining g.F.FileSystem.is_at
    c.args.past.now _ c.as_ref.ensures.value c.args.run.now c.reader-policy.result
    c.read_run-read.new.policy c.reader-book.result c.read_run-read.new.book
    c.bytes.result.now c.bytes-2.result.now c.reader-policy.ensures c.bytes.ensures.bytes
    c.reader-book.ensures c.bytes-2.ensures.bytes c.in-Err.fault c.in-Err.ensures.fault
