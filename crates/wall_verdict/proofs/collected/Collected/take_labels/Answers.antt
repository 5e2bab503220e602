use Rattle.wall_verdict.proofs.collected.Collected.take_labels.Goals as goal

pub returns : goal.returns
returns c = record {
  serves = c.requires.serves;
  labels = c.of_labels.ensures;
}
