use Rattle.std.proofs.Common.{◌≡◌, sym, ap, ◌∙◌, ⊎_elim, arith}
use Rattle.std.proofs.lemmas.Grind.{common_steps}
use Rattle.rank_stage.specs.declared.board.Place.TheVariants.{Sleeps}
use Rattle.rank_stage.specs.Boards.{place_of, is_awake, Stays, HasBeenCalled}
use Rattle.rank_stage.proofs.board.Board.call_sleepers.Goals as goal

pub returns-clause-awaits : goal.returns-clause-awaits
returns-clause-awaits c =
    let i = c.loop-rank.invariant in
    let before = c.args.self.now in
    let after = c.loop-rank.self in record {
      heard = grind (arith, common_steps);
      one = i.one;
      watched = λ rank it at none.
          let slept : place_of before rank ≡ Sleeps it = ⊎_elim
          (λ (stays : Stays before after rank). sym stays ∙ at)
          (λ (called : HasBeenCalled before after rank).
          absurd (let up = called.up in grind (arith, common_steps)))
          (i.moves rank)
          in
          c.requires.watched rank it slept
          (λ r. ⊎_elim
          (λ (stays : Stays before after r). sym (ap is_awake stays) ∙ none r)
          (λ (called : HasBeenCalled before after r). ap is_awake called.slept)
          (i.moves r));
    }
