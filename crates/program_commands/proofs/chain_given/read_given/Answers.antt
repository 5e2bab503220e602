use Rattle.std.proofs.Common.{◌≡◌, ◌+◌, [], ◌∷◌, drop, take, reverse, length, refl, sym, ap, subst}
use Rattle.std.proofs.Common.{◌∙◌, arith}
use Rattle.std.proofs.lemmas.List.{length-take-le}
use Rattle.std.proofs.Math.Seq.{take-length}
use Rattle.chain_runs.specs.Chains.{IsPast, entries_of}
use Rattle.chain_runs.proofs.ChainRunsLemmas.{parted, next_past}
use Rattle.program_commands.specs.ChainGiven.{AreGiven}
use Rattle.program_commands.proofs.ChainGivenLemmas.{next_given}
use Rattle.program_commands.proofs.chain_given.read_given.Goals as goal

pub loop-run-init : goal.loop-run-init
unfolding entries_of
loop-run-init g c = (
  refl,
  ([], record { read = refl; chain = refl; entries = refl }, c.new-lines.ensures.items),
)

pub returns-in-Err-clause-broken : goal.returns-in-Err-clause-broken
returns-in-Err-clause-broken g c =
    let i = c.loop-run.run-index in
    let runs = c.args.runs.now in
    let low = c.loop-run-test.true in
    let past = c.loop-run.invariant.1 in
    record {
      before = take i runs;
      one = c.run-item.result;
      behind = drop (i + 1) runs;
      are = parted runs i c.run-item.result low c.run-item.is;
      number = c.loop-run.invariant.0
          ∙ ap (λ n. n + 1) (sym (length-take-le i runs (omega (arith, low))));
      links = past.0;
      past = c.loop-run.past;
      stand = past.1;
      after = refl;
      fault = c.in-Err.ensures.fault;
    }

pub loop-run-preserved : goal.loop-run-preserved
loop-run-preserved g c =
    let t = c.in-Ok.ensures.told in (
      ap (λ n. n + 1) c.loop-run.invariant.0,
      (
        t.0.1 ∷ c.loop-run.invariant.1.0,
        next_past g.F.Reader.Source.failures g.F.Reader.Source.remaining g.F.FileSystem.is_at
            c.args.runs.now c.loop-run.run-index c.run-item.result c.loop-run-test.true
            c.run-item.is c.loop-run.invariant.1.0 c.loop-run.past c.in-Ok.longer
            c.loop-run.invariant.1.1 t.0,
        next_given g.F.Reader.Source.failures g.F.Reader.Source.remaining g.F.FileSystem.is_at
            c.args.runs.now c.loop-run.run-index c.run-item.result c.loop-run-test.true
            c.run-item.is c.loop-run.invariant.1.0 t.0.1 c.loop-run.number
            c.loop-run.invariant.0 c.loop-run.lines.items t.1 _ c.loop-run.invariant.1.2 t.2 t.3,
      ),
    )

pub returns-clause-given : goal.returns-clause-given
returns-clause-given g c =
    let all = c.loop-run-test.false in
    let within = c.loop-run.auto.run-index-end in
    let same : c.loop-run.run-index ≡ length c.args.runs.now = omega (arith, all, within) in
    let whole = ap (λ n. take n c.args.runs.now) same ∙ take-length c.args.runs.now in
    let past = c.loop-run.invariant.1 in (
      past.0,
      subst (λ l. IsPast g.F.Reader.Source.failures g.F.Reader.Source.remaining
          g.F.FileSystem.is_at l past.0 c.loop-run.past) whole past.1,
      subst (λ l. AreGiven g.F.Reader.Source.failures g.F.Reader.Source.remaining
          g.F.FileSystem.is_at (reverse l) past.0 c.loop-run.lines.items) whole past.2,
    )
