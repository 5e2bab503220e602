-- What was told of the calls of a run. (Own rule.)
use Rattle.std.specs.Prelude.{◌≡◌, ℕ, List}
use Rattle.wall_policy.specs.Policy.{ChineseWall}
use Rattle.run_model.specs.Runs.{Entry}
use Rattle.run_model.specs.Replies.{Legal}
use Rattle.hall_core.specs.Halls.{HallValue, StandsFor}
use Rattle.hall_script.specs.Scripts.{reply_lines}

-- the hall stands for a legal run, and the text has the lines of its replies, in order
abbrev pub HasTold : HallValue → (text : List ℕ) → Type 0
HasTold hall text = (run : List Entry) × Legal hall.policy run × StandsFor hall run
    × (text ≡ reply_lines hall.policy run)

-- the text has the lines of the replies of a legal run, in order
abbrev pub IsToldOfRun : ChineseWall → (text : List ℕ) → Type 0
IsToldOfRun wall text = (run : List Entry) × Legal wall run × (text ≡ reply_lines wall run)
