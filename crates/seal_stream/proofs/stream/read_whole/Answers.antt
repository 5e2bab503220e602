use Rattle.std.proofs.Common.{◌++◌, ◌∙◌, refl, sym, subst, take, arith}
use Rattle.seal_stream.specs.Steps.{IsFailing}
use Rattle.seal_stream.proofs.SourceLemmas.{going_none, failed, breaks_off, going_on, stops_still}
use Rattle.seal_stream.proofs.SourceLemmas.{goes_on_still, took_some}
use Rattle.seal_stream.proofs.stream.read_whole.Goals as goal

pub loop-reads-init : goal.loop-reads-init
loop-reads-init g c = record {
  went = refl;
  going = going_none g.B.Source.failures g.B.Source.remaining c.args.policy.now c.args.book.now
      c.args.writer.now (g.W.Sink.contents c.args.sealed.now)
      (c.requires (g.W.Sink.contents c.args.sealed.now));
}

pub returns-in-Err-clause-stopped : goal.returns-in-Err-clause-stopped
returns-in-Err-clause-stopped g c =
    let i = c.loop-reads.invariant.going in
    failed g.B.Source.failures g.B.Source.remaining c.args.policy.now c.args.book.now
    c.loop-reads.book c.read.new.self c.loop-reads.writer (g.W.Sink.contents c.args.sealed.now)
    (g.W.Sink.contents c.loop-reads.sealed) (g.W.Sink.contents c.loop-reads.sealed)
    c.loop-reads.reads i c.in-Err.ensures.failed c.in-Err.ensures.bytes

pub returns-in-Err-take_in-clause-stopped : goal.returns-in-Err-take_in-clause-stopped
returns-in-Err-take_in-clause-stopped g c =
    let i = c.loop-reads.invariant.going in
    let before = g.W.Sink.contents c.args.sealed.now in
    breaks_off g.B.Source.failures g.B.Source.remaining c.args.policy.now c.args.book.now
    c.loop-reads.book c.read.new.self c.loop-reads.writer before
    (g.W.Sink.contents c.loop-reads.sealed) (g.W.Sink.contents c.take_in.new.sealed)
    c.loop-reads.reads i (take c.in-Ok.n c.read.new.buffer) c.in-Ok.ensures.went
    c.in-Ok.ensures.bytes.0 c.take_in.new.writer c.in-Err-take_in.stop
    (c.in-Err-take_in.ensures.taken before i.lines i.kept i.line i.stands)

pub see_long-requires : goal.see_long-requires
see_long-requires g c =
    let i = c.loop-reads.invariant.going in
    let before = g.W.Sink.contents c.args.sealed.now in
    let t = c.in-Ok-take_in.ensures.taken before i.lines i.kept i.line i.stands in
    (before, g.W.Sink.contents c.take_in.new.sealed, i.lines ++ t.0, t.1, t.2, t.4)

pub returns-in-Err-see_long-clause-failed : goal.returns-in-Err-see_long-clause-failed
returns-in-Err-see_long-clause-failed g c =
    let first = g.W.Sink.failures c.args.sealed.now in
    subst (λ n. IsFailing c.in-Err-see_long.stop first n)
    (sym (c.in-Ok-take_in.ensures.went ∙ c.loop-reads.invariant.went))
    (c.in-Err-see_long.ensures.failed first)

pub returns-in-Err-see_long-clause-stopped : goal.returns-in-Err-see_long-clause-stopped
returns-in-Err-see_long-clause-stopped g c =
    let i = c.loop-reads.invariant.going in
    let before = g.W.Sink.contents c.args.sealed.now in
    let now = g.W.Sink.contents c.take_in.new.sealed in
    let chunk = take c.in-Ok.n c.read.new.buffer in
    let some = c.if-n-eq0.false in
    let within = c.in-Ok.ensures.within in
    let t = c.in-Ok-take_in.ensures.taken before i.lines i.kept i.line i.stands in
    let on = going_on g.B.Source.failures g.B.Source.remaining c.args.policy.now c.args.book.now
    c.loop-reads.book c.read.new.self c.loop-reads.writer before
    (g.W.Sink.contents c.loop-reads.sealed) now c.loop-reads.reads i chunk
    c.in-Ok.ensures.went c.in-Ok.ensures.bytes.0 t.0 t.1 t.2 t.3 c.take_in.new.writer t.4
    (took_some c.in-Ok.n c.read.new.buffer within (λ none. omega (arith, some, none))) in
    stops_still g.B.Source.failures g.B.Source.remaining c.args.policy.now c.args.book.now
    c.read.new.self c.read.new.self c.take_in.new.writer before now now _ on c.in-Err-see_long.stop
    (c.in-Err-see_long.ensures.stops before now on.lines on.kept on.line on.stands)

pub loop-reads-preserved : goal.loop-reads-preserved
loop-reads-preserved g c =
    let i = c.loop-reads.invariant.going in
    let before = g.W.Sink.contents c.args.sealed.now in
    let chunk = take c.in-Ok.n c.read.new.buffer in
    let some = c.if-n-eq0.false in
    let within = c.in-Ok.ensures.within in
    let t = c.in-Ok-take_in.ensures.taken before i.lines i.kept i.line i.stands in
    record {
      went = c.in-Ok-take_in.ensures.went ∙ c.loop-reads.invariant.went;
      going = going_on g.B.Source.failures g.B.Source.remaining c.args.policy.now c.args.book.now
          c.loop-reads.book c.read.new.self c.loop-reads.writer before
          (g.W.Sink.contents c.loop-reads.sealed) (g.W.Sink.contents c.take_in.new.sealed)
          c.loop-reads.reads i chunk c.in-Ok.ensures.went c.in-Ok.ensures.bytes.0
          t.0 t.1 t.2 t.3 c.take_in.new.writer t.4
          (took_some c.in-Ok.n c.read.new.buffer within (λ none. omega (arith, some, none)));
    }

pub returns-clause-stopped : goal.returns-clause-stopped
returns-clause-stopped g c =
    let i = c.loop-reads.invariant.going in
    let now = g.W.Sink.contents c.loop-reads.sealed in
    goes_on_still g.B.Source.failures g.B.Source.remaining c.args.policy.now c.args.book.now
    c.loop-reads.book c.loop-reads.book c.loop-reads.writer (g.W.Sink.contents c.args.sealed.now)
    now now c.loop-reads.reads i (omega arith)
