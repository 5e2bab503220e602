use Rattle.std.proofs.Common.{◌≡◌, ◌+◌, [], ◌∷◌, drop, take, length, refl, sym, ap, subst, ◌∙◌, arith}
use Rattle.std.proofs.lemmas.List.{length-take-le}
use Rattle.std.proofs.Math.Seq.{take-length}
use Rattle.chain_runs.specs.Chains.{IsPast, entries_of}
use Rattle.chain_runs.proofs.ChainLemmas.{parted, next_past}
use Rattle.chain_runs.proofs.runs.read_runs.Goals as goal

pub loop-run-init : goal.loop-run-init
unfolding entries_of
loop-run-init g c = (refl, ([], record { read = refl; chain = refl; entries = refl }))

pub returns-in-Err-clause-broken : goal.returns-in-Err-clause-broken
returns-in-Err-clause-broken g c =
    let i = c.loop-run.run-index in
    let runs = c.args.runs.now in
    let low = c.loop-run-test.true in
    let past = c.loop-run.invariant.1 in
    record {
      before = take i runs;
      one = c.run-item.result;
      behind = drop (i + 1) runs;
      are = parted runs i c.run-item.result low c.run-item.is;
      number = c.loop-run.invariant.0
          ∙ ap (λ n. n + 1) (sym (length-take-le i runs (omega (arith, low))));
      links = past.0;
      past = c.loop-run.past;
      stand = past.1;
      after = refl;
      fault = c.in-Err.ensures.fault;
    }

pub loop-run-preserved : goal.loop-run-preserved
loop-run-preserved g c = (
  ap (λ n. n + 1) c.loop-run.invariant.0,
  (
    c.in-Ok.ensures.read.1 ∷ c.loop-run.invariant.1.0,
    next_past g.F.Reader.Source.failures g.F.Reader.Source.remaining g.F.FileSystem.is_at
        c.args.runs.now c.loop-run.run-index c.run-item.result c.loop-run-test.true c.run-item.is
        c.loop-run.invariant.1.0 c.loop-run.past c.in-Ok.longer c.loop-run.invariant.1.1
        c.in-Ok.ensures.read,
  ),
)

pub returns-clause-stand : goal.returns-clause-stand
returns-clause-stand g c =
    let all = c.loop-run-test.false in
    let within = c.loop-run.auto.run-index-end in
    let same : c.loop-run.run-index ≡ length c.args.runs.now = omega (arith, all, within) in
    let past = c.loop-run.invariant.1 in (
      past.0,
      subst (λ l. IsPast g.F.Reader.Source.failures g.F.Reader.Source.remaining
          g.F.FileSystem.is_at l past.0 c.loop-run.past)
          (ap (λ n. take n c.args.runs.now) same ∙ take-length c.args.runs.now) past.1,
    )
