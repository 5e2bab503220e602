-- What a line means for every run under the policy.
use Rattle.std.specs.Prelude.{◌≡◌, ℕ, List, Some}
use Rattle.wall_policy.specs.Policy.{ChineseWall, IsPolicy, home_of}
use Rattle.run_model.specs.Holding.{Holds}
use Rattle.run_model.specs.Runs.{Entry, posts}
use Rattle.run_model.specs.Replies.{Legal}
use Rattle.policy_meaning.specs.declared.fact.Fact.TheVariants.{KeptApart}
use Rattle.policy_meaning.specs.Facts.{IsFact}

-- after the run p holds nothing of where q is at home, directly or through others
abbrev pub HoldsNothingOf : ChineseWall → List Entry → (p q : ℕ) → Type 0
HoldsNothingOf wall run p q =
    (d : ℕ) → home_of wall q ≡ Some d → ¬ (Holds wall (posts run) p d)

-- two processes of which a line says that they never hold each other's data hold none after any
-- legal run
abbrev pub PairsNeverMeet : Type 0
PairsNeverMeet = (wall : ChineseWall) (run : List Entry) (p q : ℕ) → IsPolicy wall →
    Legal wall run → IsFact wall (KeptApart p q) →
    HoldsNothingOf wall run p q × HoldsNothingOf wall run q p
