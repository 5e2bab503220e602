use Rattle.std.proofs.Common.{◌≡◌, ◌<◌, ◌+◌, length, take, get_or, true, false, ℤ, pos, ℕ, [], ◌∷◌}
use Rattle.std.proofs.Common.{◌++◌, None, Vec, Global, ap, sym, ◌∙◌, arith}
use Rattle.std.proofs.Common.{w32, of_z, to_z}
use Rattle.mpi_comm.specs.Splits.{asked, asks_for}
use Rattle.mpi_comm.specs.declared.values.Ask.{Ask}
use Rattle.mpi_comm.proofs.SplitLemmas.{asked_yes, asked_no}
use Rattle.mpi_comm.proofs.split.places_for.Goals as goal
use Rattle.mpi_comm.proofs.split.places_for.Goals.{then-asks_for+in_ok-push, else-asks_for}

pub loop-rank-preserved : goal.loop-rank-preserved
loop-rank-preserved c =
    let rank : ℕ = c.loop-rank.rank in
    let colour : ℤ = to_z w32 (of_z w32 c.args.colour) in
    let ask : Ask = get_or c.args.asks.now c.loop-rank.rank (record { colour = None; key = pos 0 })
    in
    let within : c.loop-rank.rank < length c.args.asks.now = omega arith in
    let before : c.loop-rank.places.items ≡ asked colour (take rank c.args.asks.now) =
    c.loop-rank.invariant in
    elim c.if-asks_for.branch [
      | then-asks_for+in_ok-push w ↦
          let told : asks_for colour ask ≡ true = sym c.asks_for.ensures ∙ w.if-asks_for.true in
          let pushed : w.push.new.self.items ≡ c.loop-rank.places.items ++ w.place_of.result ∷ [] =
          w.in_ok-push.ensures.items in
          let place : w.place_of.result ≡ (ask.key, rank) = w.place_of.ensures in
          let more : asked colour (take (rank + 1) c.args.asks.now) ≡ asked colour
          (take rank c.args.asks.now) ++ (ask.key, rank) ∷ [] = asked_yes colour c.args.asks.now
          rank (record { colour = None; key = pos 0 }) within told in
          ap (λ (v : Vec (ℤ × ℕ) Global). v.items) w.places-is ∙ pushed
          ∙ (λ i. before i ++ place i ∷ [])
          ∙ sym more
      | else-asks_for w ↦
          let told : asks_for colour ask ≡ false = sym c.asks_for.ensures ∙ w.if-asks_for.false in
          ap (λ (v : Vec (ℤ × ℕ) Global). v.items) w.places-is ∙ before
          ∙ sym (asked_no colour c.args.asks.now rank (record { colour = None; key = pos 0 })
          within told)
    ]
