-- Which entries settle an instance.
use Rattle.std.proofs.Common.{◌≡◌, ℕ, true, false, List, ◌∷◌, refl, arith}
use Rattle.wall_policy.specs.Policy.{ChineseWall}
use Rattle.run_model.specs.declared.reply.Reply.{Reply}
use Rattle.run_model.specs.Runs.{Entry, entry}
use Rattle.hall_core.specs.Claims.{to_take}
use Rattle.hall_turn.specs.Machines.{Settles, entries_of, TellsWhether}

same_book : (wall : ChineseWall) (run : List Entry) (p request : ℕ) (reply : Reply) →
    entries_of wall (entry (to_take p request) reply ∷ run) ≡ entries_of wall run
unfolding entries_of
same_book wall run p request reply = refl

-- a take settles nothing
pub take_tells : {M : Type 0} (stands : ChineseWall → M → List Entry → Type 0) (machine : M)
    (p request : ℕ) (reply : Reply) →
    TellsWhether stands machine false (entry (to_take p request) reply)
take_tells stands machine p request reply wall run legal stood =
    let same = same_book wall run p request reply in (
      (λ (e : false ≡ true). absurd (cc e)),
      (λ (e : Settles wall run (entry (to_take p request) reply)). absurd (omega arith)),
    )
