use Rattle.std.proofs.Common.{◌∙◌, List, [], ◌∷◌, ◌++◌, length, ap, sym, subst, eqb}
use Rattle.std.proofs.Common.{arith, append_assoc, append-nil}
use Rattle.std.proofs.lemmas.List.Splits.{length-slice_split}
use Rattle.coll_text.specs.Numbers.{Word}
use Rattle.book_stream.specs.Cuts.{behind}
use Rattle.book_stream.specs.Readings.{HasRead}
use Rattle.book_stream.specs.Audits.{IsFaultAmong, StandsBehind}
use Rattle.book_stream.proofs.stream.take_in.Goals as goal

pub unreachable-requires : goal.unreachable-requires
unreachable-requires c =
    let none = ap length (sym c.new-parts.ensures ∙ c.in_default.ensures.0) in
    omega (arith, length-slice_split (λ b. eqb b 10) c.args.bytes.now)

pub loop-part-init : goal.loop-part-init
loop-part-init c = λ lines line stands. (
  [],
  line ++ c.in-Some.first.now,
  ap (behind line) (sym c.new-parts.ensures ∙ c.in-Some.ensures),
  record {
    read = subst (HasRead c.args.policy.now c.args.reader.now.reading) (sym (append-nil lines))
        stands.read;
    holds = c.in-Ok.ensures line stands.holds;
  },
)

pub take_one-requires : goal.take_one-requires
take_one-requires c =
    let was = c.requires in
    let s = c.loop-part.invariant was.0 was.1 was.2 in (was.0 ++ s.0, s.1, s.3)

pub loop-part-preserved : goal.loop-part-preserved
loop-part-preserved c = λ lines line stands.
    let s = c.loop-part.invariant lines line stands in
    let part = c.in-Some-next_long.part.now in
    let more = c.next_long-in-loop-part.new.self in (
      s.0 ++ s.1 ∷ [],
      part,
      s.2 ∙ ap (λ (l : List Word). s.0 ++ s.1 ∷ l) c.in-Some-next_long.ensures
          ∙ sym (append_assoc s.0 (s.1 ∷ []) (part ∷ more)),
      subst (λ (l : List Word). StandsBehind c.args.policy.now c.take_one.new.reader l part)
          (append_assoc lines s.0 (s.1 ∷ []))
          (c.in-Ok-take_one.ensures (lines ++ s.0) s.1 s.3),
    )

pub returns-in-Err-take_one : goal.returns-in-Err-take_one
returns-in-Err-take_one c = λ lines line stands.
    let s = c.loop-part.invariant lines line stands in
    let part = c.in-Some-next_long.part.now in
    let more = c.next_long-in-loop-part.new.self in
    subst (λ (l : List Word). IsFaultAmong c.args.policy.now l c.in-Err-take_one.fault)
    (append_assoc lines s.0 (s.1 ∷ part ∷ more) ∙ ap (λ (l : List Word). lines ++ l)
    (sym (s.2 ∙ ap (λ (l : List Word). s.0 ++ s.1 ∷ l) c.in-Some-next_long.ensures)))
    (c.in-Err-take_one.ensures (lines ++ s.0) s.1 more s.3)

pub returns : goal.returns
returns c = λ lines line stands.
    let s = c.loop-part.invariant lines line stands in (
      s.0,
      s.1,
      s.2 ∙ ap (λ (l : List Word). s.0 ++ s.1 ∷ l) c.in_default-next_long.ensures.0,
      s.3,
    )
