-- Ranks of members, for the crates above.
use Rattle.std.proofs.Common.{◌≡◌, ℕ, ◌<◌, List, length, Some, ap, ◌∙◌, slice_get, eqb-true}
use Rattle.std.specs.Prelude.{◌==◌}
use Rattle.std.proofs.lemmas.Option.{slice_get-get_or}
use Rattle.std.proofs.lemmas.List.Quantifiers.{position-Some}
use Rattle.mpi_group.specs.Groups.{IsGroup, rank_in}
use Rattle.mpi_group.proofs.GroupLemmas.{rank_present, slice_get-member, one_place}

pub rank_is : (members : List ℕ) (p j : ℕ) → rank_in members p ≡ Some j →
    (slice_get members j ≡ Some p) × (j < length members)
rank_is members p j e =
    let at = position-Some (λ m. m == p) members j 0 e in
    (slice_get-get_or members j 0 at.0 ∙ ap (λ (m : ℕ). Some m) (eqb-true _ p at.1), at.0)

-- no process is a member at two ranks
pub ranked : (members : List ℕ) (j p : ℕ) → IsGroup members → slice_get members j ≡ Some p →
    rank_in members p ≡ Some j
ranked members j p group at =
    let there = rank_present members p (slice_get-member members j p at) in
    there
    ∙ ap (λ (i : ℕ). Some i)
    (one_place members _ j p group.distinct (rank_is members p _ there).0 at)
