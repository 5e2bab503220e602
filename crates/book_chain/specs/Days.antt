-- The policy of a later day. (Own rule: what may change from one policy file to the next, says the
-- definition of growth; what was held stays held.)
use Rattle.std.specs.Prelude.{◌≡◌}
use Rattle.wall_policy.specs.Policy.{ChineseWall, with_held}
use Rattle.wall_policy.specs.Growth.{HasGrown, renumbered}

-- The file has grown from the policy after the books so far, by names; this is the file's policy,
-- with the numbers of that one first, and what was held before then is what is held before now.
pub record IsNextPolicy (after file now : ChineseWall) : Type 0 where
  pub grown : HasGrown after file
  pub is : now ≡ with_held (renumbered after file) after.held
