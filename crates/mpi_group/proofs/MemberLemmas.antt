-- Where memory is asked for, the group that is made has a member.
use Rattle.std.proofs.Common.{◌≡◌, ℕ, zero, suc, ◌<◌, Bool, true, false, not, cond, List, [], ◌∷◌}
use Rattle.std.proofs.Common.{length, get_or, ap, sym, ◌∙◌, arith, length-append}
use Rattle.std.specs.List.{filter, All}
use Rattle.std.proofs.lemmas.List.Elements.{All-head}
use Rattle.std.proofs.lemmas.Option.{slice_get-get_or}
use Rattle.mpi_group.specs.Groups.{is_member, union_of, members_at}

-- one who is kept
pub some_kept : (keep : ℕ → Bool) (xs : List ℕ) (i x : ℕ) → i < length xs → x ≡ get_or xs i x
    → keep x ≡ true → 0 < length (filter keep xs)
some_kept keep [] i x h is passes = absurd (omega arith)
some_kept keep (y ∷ ys) zero x h is passes =
    let here : keep y ≡ true = ap keep (sym is) ∙ passes in
    rw here (omega arith)
some_kept keep (y ∷ ys) (suc i) x h is passes =
    let rest : 0 < length (filter keep ys) = some_kept keep ys i x (omega arith) is passes in
    elim (keep y) as (λ b. 0 < length (cond b (y ∷ filter keep ys) (filter keep ys))) [
      | true ↦ omega arith
      | false ↦ rest
    ]

-- one of either part of a union
pub some_of_first : (members others : List ℕ) → 0 < length members
    → 0 < length (union_of members others)
unfolding union_of
some_of_first members others some =
    let all = length-append members (filter (λ p. not (is_member members p)) others) in
    omega arith

pub some_of_second : (members others : List ℕ) (i x : ℕ) → i < length others
    → x ≡ get_or others i x → is_member members x ≡ false → 0 < length (union_of members others)
unfolding union_of
some_of_second members others i x h is lacks =
    let some = some_kept (λ p. not (is_member members p)) others i x h is (ap not lacks) in
    let all = length-append members (filter (λ p. not (is_member members p)) others) in
    omega arith

-- one at the first of the ranks
pub some_picked : (members ranks : List ℕ) → All (λ rank. rank < length members) ranks
    → 0 < length ranks → 0 < length (members_at members ranks)
unfolding members_at
some_picked members [] all some = absurd (omega arith)
some_picked members (r ∷ rs) all some =
    let within : r < length members = All-head (λ rank. rank < length members) r rs all in
    rw (slice_get-get_or members r 0 within) (omega arith)

pub ruleset some_in_union = (some_of_first, some_of_second)
