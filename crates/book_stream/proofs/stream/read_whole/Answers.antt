use Rattle.std.proofs.Common.{rules, ◌≡◌, ◌<◌, ◌++◌, length, take, arith}
use Rattle.hall_script.specs.Devices.{used}
use Rattle.book_stream.proofs.SourceLemmas.{going_none, going_on, given_all, failed}
use Rattle.book_stream.proofs.SourceLemmas.{breaks_off, more_stops, gave_more, cut_on, took_none}
use Rattle.book_stream.proofs.SourceLemmas.{took_some}
use Rattle.book_stream.proofs.stream.read_whole.Goals as goal

pub returns-in-Err-read-clause-fault : goal.returns-in-Err-read-clause-fault
returns-in-Err-read-clause-fault g c = failed g.S.Source.failures g.S.Source.remaining c.args.policy.now
    c.args.source.now c.loop-reads.source c.read.new.self c.loop-reads.reader
    (g.T.Along.has_taken c.loop-reads.along) c.loop-reads.reads
    c.loop-reads.invariant c.in-Err-read.ensures.failed c.in-Err-read.ensures.bytes

pub returns-then-n-eq0-clause-whole : goal.returns-then-n-eq0-clause-whole
returns-then-n-eq0-clause-whole g c =
    let i = c.loop-reads.invariant in
    let zero : c.in-Ok-read.n ≡ 0 = search rules in
    let room : 0 < length c.read.new.buffer = search rules in
    record {
      text = i.text;
      lines = i.lines;
      line = i.line;
      gave = given_all g.S.Source.failures g.S.Source.remaining c.args.policy.now c.args.source.now
          c.loop-reads.source c.read.new.self c.loop-reads.reader
          (g.T.Along.has_taken c.loop-reads.along) c.loop-reads.reads i
          (take c.in-Ok-read.n c.read.new.buffer) (took_none c.in-Ok-read.n c.read.new.buffer zero)
          c.in-Ok-read.ensures.went c.in-Ok-read.ensures.bytes.0
          (c.in-Ok-read.ensures.bytes.1 zero room);
      cut = i.cut;
      stands = i.stands;
      clear = i.clear;
      taken = i.taken;
    }

pub returns-in-Err-take_in-clause-fault : goal.returns-in-Err-take_in-clause-fault
returns-in-Err-take_in-clause-fault g c =
    let i = c.loop-reads.invariant in
    breaks_off g.S.Source.failures g.S.Source.remaining c.args.policy.now c.args.source.now
    c.loop-reads.source c.read.new.self c.loop-reads.reader
    (g.T.Along.has_taken c.loop-reads.along) c.loop-reads.reads i
    (take c.in-Ok-read.n c.read.new.buffer) c.in-Ok-read.ensures.went
    c.in-Ok-read.ensures.bytes.0 c.in-Err-take_in.fault
    (c.in-Err-take_in.ensures i.lines i.line i.stands)

pub see_end-requires : goal.see_end-requires
see_end-requires g c =
    let i = c.loop-reads.invariant in
    let t = c.in-Ok-take_in.ensures i.lines i.line i.stands in (i.lines ++ t.0, t.1, t.3)

pub returns-in-Err-see_end-clause-fault : goal.returns-in-Err-see_end-clause-fault
returns-in-Err-see_end-clause-fault g c =
    let i = c.loop-reads.invariant in
    let t = c.in-Ok-take_in.ensures i.lines i.line i.stands in
    let chunk = take c.in-Ok-read.n c.read.new.buffer in
    more_stops c.args.policy.now
    (used g.S.Source.failures g.S.Source.remaining c.args.source.now c.read.new.self)
    (i.text ++ chunk)
    (gave_more g.S.Source.failures g.S.Source.remaining c.args.policy.now c.args.source.now
    c.loop-reads.source c.read.new.self c.loop-reads.reader
    (g.T.Along.has_taken c.loop-reads.along) c.loop-reads.reads i chunk
    c.in-Ok-read.ensures.went c.in-Ok-read.ensures.bytes.0) c.in-Err-see_end.fault
    (c.in-Err-see_end.ensures.more (i.text ++ chunk) (i.lines ++ t.0) t.1 t.3
    (cut_on g.S.Source.failures g.S.Source.remaining c.args.policy.now c.args.source.now
    c.loop-reads.source c.read.new.self c.loop-reads.reader
    (g.T.Along.has_taken c.loop-reads.along) c.loop-reads.reads i chunk
    c.in-Ok-read.ensures.went c.in-Ok-read.ensures.bytes.0 t.0 t.1 t.2))

pub loop-reads-preserved : goal.loop-reads-preserved
loop-reads-preserved g c =
    let i = c.loop-reads.invariant in
    let t = c.in-Ok-take_in.ensures i.lines i.line i.stands in
    let chunk = take c.in-Ok-read.n c.read.new.buffer in
    let some = c.if-n-eq0.false in
    let within = c.in-Ok-read.ensures.within in
    going_on g.S.Source.failures g.S.Source.remaining c.args.policy.now c.args.source.now
    c.loop-reads.source c.read.new.self c.loop-reads.reader
    (g.T.Along.has_taken c.loop-reads.along) c.loop-reads.reads i chunk
    c.in-Ok-read.ensures.went c.in-Ok-read.ensures.bytes.0 t.0 t.1 t.2 c.take_in.new.reader t.3
    (c.in-Ok-see_end.ensures.clear (i.lines ++ t.0) t.1 t.3)
    (took_some c.in-Ok-read.n c.read.new.buffer within (λ none. omega (arith, some, none)))
    (g.T.Along.has_taken c.take.new.self) (c.take.ensures i.text i.taken)

pub loop-reads-init : goal.loop-reads-init
loop-reads-init g c =
    going_none g.S.Source.failures g.S.Source.remaining c.args.policy.now c.args.source.now
    c.in-Ok.reader (g.T.Along.has_taken c.args.along.now) c.requires c.in-Ok.ensures
