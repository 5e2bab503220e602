use Rattle.std.proofs.Common.{sym, ◌∙◌}
use Rattle.chain_file.proofs.SpellLemmas.{is_a_path}
use Rattle.chain_file.proofs.path.is_path.Goals as goal

pub returns : goal.returns
returns c = is_a_path c.args.word.now c.loop-rest.rest.now
    (sym c.is_empty.ensures ∙ c.if-is_empty.false)
    (sym c.is_empty-in-loop-rest.ensures ∙ c.loop-rest-test.false) c.loop-rest.invariant
