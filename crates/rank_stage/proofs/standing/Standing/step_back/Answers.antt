use Rattle.std.proofs.Common.{◌≡◌, true≢false, sym, ap, ◌∙◌, arith}
use Rattle.std.proofs.Common.{inl, inr}
use Rattle.std.proofs.lemmas.Bool.{cases_eq}
use Rattle.std.proofs.lemmas.Grind.{common_steps}
use Rattle.rank_stage.specs.declared.board.Place.TheVariants.{Plays, InLine}
use Rattle.rank_stage.specs.Boards.{place_of, is_awake}
use Rattle.rank_stage.proofs.standing.Standing.step_back.Goals as goal

pub invariant_of-self-clause-orderly : goal.invariant_of-self-clause-orderly
invariant_of-self-clause-orderly c =
    let own : place_of c.set.new.self c.args.rank ≡ InLine = grind (arith, common_steps) in record {
      heard = grind (arith, common_steps);
      one = grind (arith, common_steps);
      watched = λ rank it e none. true≢false (sym (ap is_awake own) ∙ none c.args.rank);
      served = grind (arith, common_steps);
    }

pub invariant_of-self-2-clause-orderly : goal.invariant_of-self-2-clause-orderly
invariant_of-self-2-clause-orderly c =
    let own : place_of c.set-2.new.self c.args.rank ≡ Plays = grind (arith, common_steps) in
    record {
      heard = grind (arith, common_steps);
      one = grind (arith, common_steps);
      watched = λ rank it e none. true≢false (sym (ap is_awake own) ∙ none c.args.rank);
      served = grind (arith, common_steps);
    }

pub invariant_of-self-clause-woken : goal.invariant_of-self-clause-woken
invariant_of-self-clause-woken c = λ closed r it e. elim (cases_eq r c.args.rank) [
  | inl same ↦
      let own : place_of c.set.new.self r ≡ InLine = grind (arith, common_steps) in
      absurd (grind (arith, common_steps))
  | inr other ↦
      let stays : place_of c.set.new.self r ≡ place_of c.args.self.now.board r =
      grind (arith, common_steps) in
      let slept = sym stays ∙ e in grind (arith, common_steps)
]

pub invariant_of-self-2-clause-woken : goal.invariant_of-self-2-clause-woken
invariant_of-self-2-clause-woken c = λ closed r it e. elim (cases_eq r c.args.rank) [
  | inl same ↦
      let own : place_of c.set-2.new.self r ≡ Plays = grind (arith, common_steps) in
      absurd (grind (arith, common_steps))
  | inr other ↦
      let stays : place_of c.set-2.new.self r ≡ place_of c.args.self.now.board r =
      grind (arith, common_steps) in
      let slept = sym stays ∙ e in grind (arith, common_steps)
]
