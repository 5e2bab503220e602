-- The passes of a new door.
use Rattle.std.proofs.Common.{◌≡◌, ℕ, ◌+◌, ◌-◌, ◌<◌, List, [], ◌∷◌, ◌++◌, length, refl, sym, ap}
use Rattle.std.proofs.Common.{◌∙◌, subst, arith}
use Rattle.std.specs.List.{All}
use Rattle.std.proofs.lemmas.List.FromFn.{map-range_with_len_more, get_or-map-range_with_len}
use Rattle.std.proofs.lemmas.List.FromFn.{length-map-range_with_len}
use Rattle.atomic_table.specs.Table.{Me}
use Rattle.wall_policy.specs.Policy.{ChineseWall}
use Rattle.run_model.specs.Comms.{processes}
use Rattle.hall_turn.specs.Views.{SeatView, maker, maker_left, next_pass}
use Rattle.hall_turn.specs.Steps.{CanMake, IsIdle}
use Rattle.hall_turn.specs.Known.{Doorway, Known}
use Rattle.hall_turn.specs.Answers.{new_pass, new_passes}

pub more_passes : (door : Doorway) (n : ℕ) (ks : List Known) (k : Known) → ks ≡ new_passes door n →
    k ≡ new_pass door n → ks ++ k ∷ [] ≡ new_passes door (n + 1)
more_passes door n ks k are is =
    (λ i. are i ++ is i ∷ []) ∙ sym (map-range_with_len_more (new_pass door) 0 n n (omega arith))

pub can_make : (wall : ChineseWall) (n : ℕ) → n < processes wall - 1 → CanMake (maker wall n)
can_make wall n lt = record {
  makes = omega arith;
  more = omega arith;
  parts = omega arith;
  ticket = refl;
  out = refl;
}

pub next_maker : (wall : ChineseWall) (n : ℕ) → maker_left (maker wall n) ≡ maker wall (n + 1)
next_maker wall n = let e : processes wall - n - 1 ≡ processes wall - (n + 1) = omega arith in
    ap (λ parts. record (maker wall (n + 1)) { parts = parts }) e

pub idle_pass : {S : Type 0} (wall : ChineseWall) (n : ℕ) (m : Me S SeatView) →
    m ≡ (next_pass (maker wall n), []) → IsIdle n m
idle_pass wall n m is =
    subst (IsIdle n) (sym is) (record {
      process_is = refl;
      told = refl;
      ticket = refl;
      out = refl;
      said = refl;
      parts = refl;
      joined = refl;
      slots = refl;
      legal = tt;
    })

pub idle_maker : {S : Type 0} (wall : ChineseWall) (n : ℕ) (m : Me S SeatView) →
    0 < processes wall → n ≡ processes wall - 1 → m ≡ (maker wall n, []) → IsIdle n m
idle_maker wall n m some last is =
    subst (IsIdle n) (sym is) (record {
      process_is = refl;
      told = refl;
      ticket = refl;
      out = refl;
      said = refl;
      parts = omega arith;
      joined = refl;
      slots = refl;
      legal = tt;
    })

pub all_of_door : (door : Doorway) (n : ℕ) (ks : List Known) → ks ≡ new_passes door n →
    All (λ k. k.door ≡ door) ks
all_of_door door n ks are = subst (All (λ (k : Known). k.door ≡ door)) (sym are) (λ i d lt.
    let e = length-map-range_with_len (new_pass door) 0 n in
    ap (λ (k : Known). k.door)
    (get_or-map-range_with_len (new_pass door) 0 n i i d (omega arith) (omega arith)))

pub passes_length : (door : Doorway) (n : ℕ) (ks : List Known) → ks ≡ new_passes door n →
    length ks ≡ n
passes_length door n ks are = ap length are ∙ length-map-range_with_len (new_pass door) 0 n
