use Rattle.std.proofs.Common.{◌∙◌, sym, ◌≡◌, ◌*◌, ◌+◌, ◌<◌, rules, get_or, pos, arith, FitsSigned}
use Rattle.std.proofs.Common.{length, to_z, of_z, w32}
use Rattle.std.proofs.lemmas.Int.{to_z-of_z}
use Rattle.std.specs.Int.{w128}
use Rattle.mpi_elems.proofs.ReadingLemmas.{passes_at, pairs_none, pairs_step, pairs_read}
use Rattle.mpi_elems.proofs.ReadingLemmas.{length-pairs_of}
use Rattle.mpi_elems.specs.Numbers.{is_number_of}
use Rattle.mpi_elems.specs.declared.elem_type.ElemType.TheVariants.{TwoInt}
use Rattle.mpi_elems.proofs.reading.native_pairs.Goals as goal

pub loop-i-init : goal.loop-i-init
loop-i-init c = record {
  made = pairs_none _ c.in_ok-made.ensures.items;
  count = c.in_ok-made.ensures.len;
  room = c.in_ok-made.ensures.exact;
}

pub loop-i-preserved : goal.loop-i-preserved
loop-i-preserved c =
    let first : FitsSigned w128 (get_or c.args.numbers.now (2 * c.loop-i.i) (pos 0)) = search rules
    in
    let second : FitsSigned w128 (get_or c.args.numbers.now (2 * c.loop-i.i + 1) (pos 0)) = search
    rules in
    let value : FitsSigned w32 c.native-value.result = search rules in
    let index : FitsSigned w32 c.native-index.result = search rules in
    let below : 2 * c.loop-i.i + 1 < length c.args.numbers.now = omega arith in
    let a : to_z w32 (of_z w32 c.native-value.result) ≡ get_or c.args.numbers.now (2 * c.loop-i.i)
    (pos 0) =
    rw (to_z-of_z w32 _ value, c.native-value.ensures, to_z-of_z w128 _ first) in
    let b : to_z w32 (of_z w32 c.native-index.result) ≡ get_or c.args.numbers.now
    (2 * c.loop-i.i + 1) (pos 0) =
    rw (to_z-of_z w32 _ index, c.native-index.ensures, to_z-of_z w128 _ second) in
    record {
      made =
          pairs_step _ _ _ _ _ _ below c.loop-i.invariant.made c.push_reserved.ensures.items a
          b;
      count = omega arith;
      room = omega arith;
    }

pub native-value-requires : goal.native-value-requires
unfolding is_number_of
native-value-requires c =
    let fits : FitsSigned w128 (get_or c.args.numbers.now (2 * c.loop-i.i) (pos 0)) = search rules
    in
    rw (to_z-of_z w128 _ fits) (passes_at (is_number_of TwoInt) c.args.numbers.now (2 * c.loop-i.i)
    (pos 0) c.requires.fit (omega arith))

pub native-index-requires : goal.native-index-requires
unfolding is_number_of
native-index-requires c =
    let fits : FitsSigned w128 (get_or c.args.numbers.now (2 * c.loop-i.i + 1) (pos 0)) = search
    rules in
    rw (to_z-of_z w128 _ fits) (passes_at (is_number_of TwoInt) c.args.numbers.now
    (2 * c.loop-i.i + 1) (pos 0) c.requires.fit (omega arith))

pub returns-clause-elements : goal.returns-clause-elements
returns-clause-elements c =
    pairs_read _ c.args.numbers.now c.loop-i.i (omega arith) c.loop-i.invariant.made

pub returns-clause-room : goal.returns-clause-room
returns-clause-room c = c.loop-i.invariant.room ∙ sym (length-pairs_of c.args.numbers.now)
