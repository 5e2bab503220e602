use Rattle.std.proofs.Common.{◌≡◌, true, false, true≢false, sym, ap, ◌∙◌, ⊎_elim, arith}
use Rattle.std.proofs.lemmas.Bool.{cases_Bool}
use Rattle.std.proofs.lemmas.Grind.{common_steps}
use Rattle.rank_stage.specs.Boards.{place_of, is_awake}
use Rattle.rank_stage.proofs.board.Board.leave.Goals as goal

pub cast-requires : goal.cast-requires
cast-requires c = record {
  heard = grind (arith, common_steps);
  one = grind (arith, common_steps);
  watched = λ rank it e none. ⊎_elim
      (λ (yes : is_awake c.args.place ≡ true).
      let own : place_of c.set.new.self c.args.rank ≡ c.args.place = grind (arith, common_steps) in
      true≢false (sym (ap is_awake own ∙ yes) ∙ none c.args.rank))
      (λ (no : is_awake c.args.place ≡ false).
      let w = c.requires.goes.watched no in
      let ne = w.1 in
      let same : place_of c.set.new.self w.0 ≡ place_of c.args.self.now w.0 = grind
      (arith, common_steps) in
      true≢false (sym (ap is_awake same ∙ w.2) ∙ none w.0))
      (cases_Bool (is_awake c.args.place));
}
