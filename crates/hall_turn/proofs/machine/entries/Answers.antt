use Rattle.std.proofs.Common.{◌∙◌, ap, length}
use Rattle.wall_policy.specs.Policy.{ChineseWall}
use Rattle.run_model.specs.Books.{book}
use Rattle.run_model.specs.Runs.{posts}
use Rattle.hall_turn.specs.Machines.{entries_of}
use Rattle.hall_turn.proofs.machine.entries.Goals as goal

pub returns : goal.returns
unfolding entries_of
returns c = λ wall run stands.
    c.len.ensures.value
    ∙ ap length (c.book.ensures.runs run stands.1)
    ∙ ap (λ (w : ChineseWall). length (book w (posts run))) stands.0
