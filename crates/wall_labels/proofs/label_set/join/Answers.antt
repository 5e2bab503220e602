use Rattle.std.proofs.Common.{◌≡◌, ◌≤◌, length, arith}
use Rattle.wall_labels.proofs.RowLemmas.{set_in_either}
use Rattle.wall_labels.proofs.label_set.join.Goals as goal

pub returns : goal.returns
returns c =
    let inv = c.loop-place.invariant in
    let few : c.args.used ≤ length c.args.other.now = c.requires.within in
    let end : c.loop-place.place ≡ c.args.used = omega arith in
    set_in_either c.args.words.now c.args.other.now c.loop-place.words c.args.used (
    λ p lt. inv.below p (omega arith)
    ) (λ p past. inv.rest p (omega arith)) c.requires
