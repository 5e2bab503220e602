use Rattle.std.proofs.Common.{◌≡◌, true≢false, sym, ap, ◌∙◌, arith}
use Rattle.std.proofs.lemmas.Grind.{common_steps}
use Rattle.rank_stage.specs.declared.board.Place.TheVariants.{Plays}
use Rattle.rank_stage.specs.Boards.{place_of, is_awake}
use Rattle.rank_stage.proofs.board.Board.cast.Goals as goal

pub returns-clause-orderly : goal.returns-clause-orderly
returns-clause-orderly c =
    let own : place_of c.set.new.self c.in_ok-rank.rank ≡ Plays = grind (arith, common_steps) in
    record {
      heard = grind (arith, common_steps);
      one = grind (arith, common_steps);
      watched = λ rank it e none. true≢false (sym (ap is_awake own) ∙ none c.in_ok-rank.rank);
      served = grind (arith, common_steps);
    }
