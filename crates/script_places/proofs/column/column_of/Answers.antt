use Rattle.std.proofs.Common.{inl}
use Rattle.script_places.proofs.AnswerLemmas.{shape_of_unprintable}
use Rattle.script_places.proofs.column.column_of.Goals as goal

pub returns-in-Some : goal.returns-in-Some
returns-in-Some c = inl (
  shape_of_unprintable c.args.policy.now.dataset_names c.args.line.now c.args.fault
      c.in-Some.column c.in-Some.ensures.found c.requires.answer,
  c.in-Some.ensures.found,
)
