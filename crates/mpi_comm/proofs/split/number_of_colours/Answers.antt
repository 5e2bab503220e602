use Rattle.std.proofs.Common.{◌≡◌, ◌+◌, true, false, List, refl, sym, ap, ◌∙◌, arith}
use Rattle.std.specs.Set.{distinct_count}
use Rattle.std.specs.Ordering.{int_eq}
use Rattle.mpi_comm.specs.Asks.{is_last}
use Rattle.mpi_comm.specs.declared.values.Ask.{Ask}
use Rattle.mpi_comm.proofs.SplitLemmas.{stated, count_more, count_le, length-colours_of}
use Rattle.mpi_comm.proofs.split.number_of_colours.Goals as goal

pub loop-ask-preserved-then-is_last_of_its_colour :
    goal.loop-ask-preserved-then-is_last_of_its_colour
loop-ask-preserved-then-is_last_of_its_colour c =
    let last : is_last c.in-Some.ask.now c.in-Some.others.now ≡ true = sym
    c.is_last_of_its_colour.ensures ∙ c.if-is_last_of_its_colour.true in
    let all : distinct_count int_eq (stated c.loop-ask.rest.now) ≡ 1 + distinct_count int_eq
    (stated c.in-Some.others.now) =
    ap (λ (asks : List Ask). distinct_count int_eq (stated asks)) c.in-Some.ensures.cases.0
    ∙ count_more c.in-Some.ask.now c.in-Some.others.now ∙ rw last refl in
    record {
      counted = omega (arith, c.loop-ask.invariant.counted);
      room = omega (arith, c.loop-ask.invariant.room, c.in-Some.ensures.cases.1);
    }

pub loop-ask-preserved : goal.loop-ask-preserved
loop-ask-preserved c =
    let last : is_last c.in-Some.ask.now c.in-Some.others.now ≡ false = sym
    c.is_last_of_its_colour.ensures ∙ c.if-is_last_of_its_colour.false in
    let all : distinct_count int_eq (stated c.loop-ask.rest.now) ≡ 0 + distinct_count int_eq
    (stated c.in-Some.others.now) =
    ap (λ (asks : List Ask). distinct_count int_eq (stated asks)) c.in-Some.ensures.cases.0
    ∙ count_more c.in-Some.ask.now c.in-Some.others.now ∙ rw last refl in
    record {
      counted = omega (arith, c.loop-ask.invariant.counted);
      room = omega (arith, c.loop-ask.invariant.room, c.in-Some.ensures.cases.1);
    }

pub returns : goal.returns
returns c = omega (
  arith,
  count_le c.loop-ask.rest.now,
  c.in_default.ensures.cases,
  c.loop-ask.invariant.counted,
  length-colours_of c.args.asks.now,
)
