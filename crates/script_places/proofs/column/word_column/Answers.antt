use Rattle.std.proofs.Common.{inr, refl}
use Rattle.script_places.proofs.AnswerLemmas.{stands_behind}
use Rattle.script_places.proofs.column.word_column.Goals as goal

pub returns-then-not-branch : goal.returns-then-not-branch
returns-then-not-branch c = inr (
  stands_behind c.args.policy.now.dataset_names c.args.line.now c.args.fault c.requires.printable
      c.requires.answer (c.in_ok-have.ensures.no c.if-not-branch.true),
  refl,
)
