use Rattle.std.proofs.Common.{sym, arith}
use Rattle.std.proofs.lemmas.List.{length-take-le}
use Rattle.script_places.proofs.AnswerLemmas.{printable_prefix, cut_at, some_words, have_all}
use Rattle.script_places.proofs.AnswerLemmas.{have_prefix, no_prefix, stands_at}
use Rattle.script_places.proofs.ProbeLemmas.{none_yet}
use Rattle.script_places.proofs.column.words_to_fault.Goals as goal

pub loop-high-init : goal.loop-high-init
loop-high-init c = record {
  apart = some_words c.args.line.now c.args.ends.now c.requires.ends;
  within = omega arith;
  have = have_all c.args.policy.now.dataset_names c.args.line.now c.args.ends.now c.args.fault
      c.requires.ends c.requires.all;
  not_yet = none_yet c.args.policy.now.dataset_names c.args.fault;
}

pub slice_bounds-have-end : goal.slice_bounds-have-end
slice_bounds-have-end c =
    let within = c.loop-high.invariant.within in
    let apart = c.loop-high.invariant.apart in
    sym (length-take-le _ c.args.line.now
    (cut_at c.args.line.now c.args.ends.now _ c.requires.ends (omega arith)).0)

pub have-requires-clause-printable : goal.have-requires-clause-printable
have-requires-clause-printable c = printable_prefix _ c.args.line.now c.requires.printable

pub loop-high-preserved-then-branch : goal.loop-high-preserved-then-branch
loop-high-preserved-then-branch c =
    let within = c.loop-high.invariant.within in
    let apart = c.loop-high.invariant.apart in
    record {
      apart = omega arith;
      within = omega arith;
      have = have_prefix c.args.policy.now.dataset_names c.args.line.now c.args.ends.now
          c.args.fault c.requires.ends _ (omega arith) (omega arith)
          (c.in_ok-have.ensures.yes c.if-branch.true);
      not_yet = c.loop-high.invariant.not_yet;
    }

pub loop-high-preserved : goal.loop-high-preserved
loop-high-preserved c =
    let within = c.loop-high.invariant.within in
    let apart = c.loop-high.invariant.apart in
    record {
      apart = omega arith;
      within = omega arith;
      have = c.loop-high.invariant.have;
      not_yet = no_prefix c.args.policy.now.dataset_names c.args.line.now c.args.ends.now
          c.args.fault c.requires.ends _ (omega arith) (omega arith)
          (c.in_ok-have.ensures.no c.if-branch.false);
    }

pub returns-clause-stands : goal.returns-clause-stands
returns-clause-stands c =
    stands_at c.args.policy.now.dataset_names c.args.line.now c.args.ends.now c.args.fault
    c.requires.ends c.loop-high.low c.loop-high.high c.loop-high.invariant.apart (omega arith)
    c.loop-high.invariant.within c.loop-high.invariant.have c.loop-high.invariant.not_yet
