use Rattle.std.proofs.Common.{ℕ, List, ◌<◌, ◌++◌, ◌∷◌, [], get_or, length, sym, ap, ◌∙◌}
use Rattle.std.proofs.lemmas.List.{get_or_default}
use Rattle.mpi_group.proofs.Marks.{none_at, at_more}
use Rattle.mpi_group.proofs.group.picked.Goals as goal

pub loop-rank-init : goal.loop-rank-init
loop-rank-init c = c.in_ok-picked.ensures.items ∙ sym (none_at c.args.members.now)

pub loop-rank-preserved : goal.loop-rank-preserved
loop-rank-preserved c =
    let members = c.args.members.now in
    let ranks = c.args.ranks.now in
    let i = c.loop-rank.rank-index in
    let rank : ℕ = get_or ranks i 0 in
    let within : rank < length members = c.requires i 0 c.loop-rank-test.true in
    c.in_ok-push.ensures.items
    ∙ ap (λ (t : List ℕ). t ++ c.index-members-rank.result ∷ []) c.loop-rank.invariant
    ∙ sym (at_more members ranks i rank c.index-members-rank.result c.loop-rank-test.true
    (get_or_default ranks i 0 rank c.loop-rank-test.true) within c.index-members-rank.is)
