use Rattle.std.proofs.Common.{◌≡◌, true≢false, sym, ap, ◌∙◌, arith}
use Rattle.std.proofs.lemmas.Grind.{common_steps}
use Rattle.rank_stage.specs.declared.board.Place.TheVariants.{InLine}
use Rattle.rank_stage.specs.Boards.{place_of, is_awake}
use Rattle.rank_stage.proofs.board.Board.call_if_last.Goals as goal

pub returns-in-Some-clause-awaits : goal.returns-in-Some-clause-awaits
returns-in-Some-clause-awaits c =
    let own : place_of c.set.new.self c.in-Some.sleeper ≡ InLine = grind (arith, common_steps) in
    record {
      heard = grind (arith, common_steps);
      one = grind (arith, common_steps);
      watched = λ rank it e none. true≢false (sym (ap is_awake own) ∙ none c.in-Some.sleeper);
    }
