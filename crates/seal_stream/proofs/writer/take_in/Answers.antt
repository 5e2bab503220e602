use Rattle.std.proofs.Common.{◌∙◌, List, [], ◌∷◌, ◌++◌, length, ap, sym, subst, eqb, refl}
use Rattle.std.proofs.Common.{arith, append_assoc}
use Rattle.std.proofs.lemmas.List.Splits.{length-slice_split}
use Rattle.coll_text.specs.Numbers.{Word}
use Rattle.coll_text.specs.Reading.{parts}
use Rattle.book_stream.specs.Cuts.{behind}
use Rattle.seal_stream.specs.Steps.{StandsBehind, Stops}
use Rattle.seal_stream.specs.declared.stop.SealStop.TheVariants.{NoMemory}
use Rattle.seal_stream.proofs.WriterLemmas.{stands_in, stops_here, some_behind}
use Rattle.seal_stream.proofs.writer.take_in.Goals as goal

pub unreachable-requires : goal.unreachable-requires
unreachable-requires g c =
    let none = ap length (sym c.new-parts.ensures ∙ c.in_default.ensures.0) in
    omega (arith, length-slice_split (λ b. eqb b 10) c.args.bytes.now)

pub returns-in-Err-clause-taken : goal.returns-in-Err-clause-taken
returns-in-Err-clause-taken g c = λ before lines kept line s.
    let wall = c.args.policy.now in
    let now = g.W.Sink.contents c.args.sealed.now in
    let old = c.args.writer.now in
    let b = some_behind line _ in
    subst (Stops wall _ before now (lines ++ behind line (parts 10 c.args.bytes.now)))
    (sym c.from-in-Err.ensures)
    (stops_here wall old before now now lines kept line s old.reading _ refl refl _ b.0 b.1
    (ap (λ (ws : List Word). lines ++ ws) b.2) NoMemory tt)

pub loop-part-init : goal.loop-part-init
loop-part-init g c = record {
  went = refl;
  stands = λ before lines kept line s.
      let wall = c.args.policy.now in
      let old = c.args.writer.now in (
        [],
        kept,
        line ++ c.in-Some.first.now,
        ap (behind line) (sym c.new-parts.ensures ∙ c.in-Some.ensures),
        stands_in wall old _ before (g.W.Sink.contents c.args.sealed.now) lines kept line
            (line ++ c.in-Some.first.now) s refl refl (c.in-Ok.ensures line s.holds),
      );
}

pub take_one-requires : goal.take_one-requires
take_one-requires g c =
    let was = c.requires in
    let i = c.loop-part.invariant in
    let s = i.stands was.0 was.1 was.2 was.3 was.4 in
    (was.0, was.1 ++ s.0, s.1, s.2, s.4)

pub loop-part-preserved : goal.loop-part-preserved
loop-part-preserved g c =
    let i = c.loop-part.invariant in
    record {
      went = c.in-Ok-take_one.ensures.went ∙ i.went;
      stands = λ before lines kept line stands.
          let s = i.stands before lines kept line stands in
          let part = c.in-Some-next_long.part.now in
          let more = c.next_long-in-loop-part.new.self in
          let t = c.in-Ok-take_one.ensures.taken before (lines ++ s.0) s.1 s.2 s.4 in (
            s.0 ++ s.2 ∷ [],
            t.0,
            part,
            s.3 ∙ ap (λ (l : List Word). s.0 ++ s.2 ∷ l) c.in-Some-next_long.ensures
                ∙ sym (append_assoc s.0 (s.2 ∷ []) (part ∷ more)),
            subst (λ (l : List Word). StandsBehind c.args.policy.now c.take_one.new.writer before
                (g.W.Sink.contents c.take_one.new.sealed) l t.0 part)
                (append_assoc lines s.0 (s.2 ∷ [])) t.1,
          );
    }

pub returns-in-Err-take_one-clause-taken : goal.returns-in-Err-take_one-clause-taken
returns-in-Err-take_one-clause-taken g c = λ before lines kept line stands.
    let i = c.loop-part.invariant in
    let s = i.stands before lines kept line stands in
    let part = c.in-Some-next_long.part.now in
    let more = c.next_long-in-loop-part.new.self in
    subst (λ (l : List Word). Stops c.args.policy.now c.take_one.new.writer before
    (g.W.Sink.contents c.take_one.new.sealed) l c.in-Err-take_one.stop)
    (append_assoc lines s.0 (s.2 ∷ part ∷ more) ∙ ap (λ (l : List Word). lines ++ l)
    (sym (s.3 ∙ ap (λ (l : List Word). s.0 ++ s.2 ∷ l) c.in-Some-next_long.ensures)))
    (c.in-Err-take_one.ensures.taken before (lines ++ s.0) s.1 s.2 more s.4)

pub returns-clause-taken : goal.returns-clause-taken
returns-clause-taken g c = λ before lines kept line stands.
    let i = c.loop-part.invariant in
    let s = i.stands before lines kept line stands in (
      s.0,
      s.1,
      s.2,
      s.3 ∙ ap (λ (l : List Word). s.0 ++ s.2 ∷ l) c.in_default-next_long.ensures.0,
      s.4,
    )
