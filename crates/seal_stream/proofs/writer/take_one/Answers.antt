use Rattle.std.proofs.Common.{◌∷◌, refl, sym, subst}
use Rattle.seal_stream.specs.Steps.{IsBadBehind, Stops, kept_if}
use Rattle.seal_stream.proofs.WriterLemmas.{among, bad_fails, long_among, stops_here}
use Rattle.seal_stream.proofs.WriterLemmas.{stops_behind, stops_full, stands_on}
use Rattle.seal_stream.proofs.writer.take_one.Goals as goal

pub returns-in_default-clause-taken : goal.returns-in_default-clause-taken
returns-in_default-clause-taken g c = λ before lines kept line more s.
    let now = g.W.Sink.contents c.args.sealed.now in
    let old = c.args.writer.now in
    stops_here c.args.policy.now old before now now lines kept line s old.reading old refl refl _
    line (c.args.next.now ∷ more) refl c.long_line.result
    (long_among c.args.policy.now old.reading lines kept line (c.args.next.now ∷ more)
    c.long_line.result (c.long_line.ensures line (c.in_default.ensures line s.holds)) s.judged)

pub returns-in-Err-clause-failed : goal.returns-in-Err-clause-failed
returns-in-Err-clause-failed g c =
    let s = c.requires in
    bad_fails c.args.policy.now s.1 c.in-Some.line.now c.in-Err.stop _ _
    (c.in-Err.ensures.stop s.1 s.2 s.4.judged) refl

pub returns-in-Err-clause-taken : goal.returns-in-Err-clause-taken
returns-in-Err-clause-taken g c = λ before lines kept line more s.
    let wall = c.args.policy.now in
    let now = g.W.Sink.contents c.args.sealed.now in
    let old = c.args.writer.now in
    let bad = subst (λ l. IsBadBehind wall lines l c.in-Err.stop)
    (c.in-Some.ensures line s.holds) (c.in-Err.ensures.stop lines kept s.judged) in
    stops_here wall old before now now lines kept line s _ _ refl c.in-Err.ensures.stays _ line
    (c.args.next.now ∷ more) refl c.in-Err.stop
    (among wall lines line c.args.next.now more c.in-Err.stop bad)

pub returns-in-Err-put_if-clause-taken : goal.returns-in-Err-put_if-clause-taken
returns-in-Err-put_if-clause-taken g c = λ before lines kept line more s.
    let wall = c.args.policy.now in
    let was = g.W.Sink.contents c.args.sealed.now in
    let now = g.W.Sink.contents c.put_if.new.sealed in
    let same = c.in-Some.ensures line s.holds in
    stops_behind wall c.args.writer.now before was now lines kept line s c.in-Ok.is_kept _
    c.in-Some.line.now same (c.in-Ok.ensures.taken lines kept s.judged) c.args.next.now more c.in-Err-put_if.stop _ _
    c.in-Err-put_if.ensures.failed c.in-Err-put_if.ensures.prefix

pub returns-in-Err-begin-clause-taken : goal.returns-in-Err-begin-clause-taken
returns-in-Err-begin-clause-taken g c = λ before lines kept line more s.
    let wall = c.args.policy.now in
    let was = g.W.Sink.contents c.args.sealed.now in
    let now = g.W.Sink.contents c.put_if.new.sealed in
    let same = c.in-Some.ensures line s.holds in
    subst (Stops wall _ before _ _) (sym c.from-in-Err-begin.ensures)
    (stops_full wall c.args.writer.now before was now lines kept line s c.in-Ok.is_kept _
    c.in-Some.line.now same (c.in-Ok.ensures.taken lines kept s.judged)
    c.put_if.new.pending.items c.in-Ok-put_if.ensures.moved c.args.next.now more)

pub returns-in-Ok-begin-clause-taken : goal.returns-in-Ok-begin-clause-taken
returns-in-Ok-begin-clause-taken g c = λ before lines kept line s.
    let wall = c.args.policy.now in
    let was = g.W.Sink.contents c.args.sealed.now in
    let now = g.W.Sink.contents c.put_if.new.sealed in
    let same = c.in-Some.ensures line s.holds in (
      kept_if c.in-Ok.is_kept kept line,
      stands_on wall c.args.writer.now before was now lines kept line s c.in-Ok.is_kept _
          c.in-Some.line.now same (c.in-Ok.ensures.taken lines kept s.judged) c.args.next.now c.in-Ok-begin.ensures c.in-Ok-put_if.ensures.moved,
    )
