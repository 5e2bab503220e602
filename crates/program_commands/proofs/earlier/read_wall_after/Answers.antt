use Rattle.program_commands.proofs.earlier.read_wall_after.Goals as goal

pub returns-in-Ok-read_links-clause-policy : goal.returns-in-Ok-read_links-clause-policy
returns-in-Ok-read_links-clause-policy g c = record {
  first = c.in-Ok.first;
  read = c.in-Ok.ensures.policy;
  goes_on = c.in-Ok-read_links.ensures.after;
}
