-- What becomes of the script of a process. (Own rules.)
use Rattle.std.specs.Prelude.{◌≡◌, ℕ, ◌+◌, ◌<◌, List, [], ◌∷◌, ◌++◌}
use Rattle.run_model.specs.declared.call.Act.{Act}
use Rattle.run_model.specs.declared.call.Act.TheVariants.{Post as ToPost, Take, Info as ToInfo}
use Rattle.run_model.specs.declared.reply.Reply.{Reply}
use Rattle.run_model.specs.declared.reply.Reply.TheVariants.{Pending}
use Rattle.run_model.specs.Runs.{Entry}
use Rattle.rank_run.specs.Waits.{pending_takes, tries}
use Rattle.run_model.specs.Runs.{said}

-- The calls that one act of a script came to, the oldest first, and the reply to the act. A post
-- and an info stand once. A take stands once or more; all but the last were answered Pending, and
-- the last too only if all tries were made.
abbrev pub Performs : (patience process : ℕ) → Act → Reply → (calls : List Entry) → Type 0
Performs patience process (ToPost posting) reply calls =
    calls ≡ said process (ToPost posting) reply ∷ []
Performs patience process (ToInfo comm) reply calls = calls ≡ said process (ToInfo comm) reply ∷ []
Performs patience process (Take request) reply calls =
    (again : ℕ) × (again < tries patience) × (reply ≡ Pending → again + 1 ≡ tries patience)
    × (calls ≡ pending_takes process request again ++ said process (Take request) reply ∷ [])

-- The calls of a process, the oldest first, are those of its script's acts, in order, and the
-- replies are those to the acts.
unfoldable pub Plays : (patience process : ℕ) → (script : List Act) → (replies : List Reply) →
    (calls : List Entry) → Type 0
Plays patience process [] [] calls = calls ≡ []
Plays patience process [] (reply ∷ replies) calls = ⊥
Plays patience process (act ∷ script) [] calls = ⊥
Plays patience process (act ∷ script) (reply ∷ replies) calls = (first : List Entry)
    × (rest : List Entry) × (calls ≡ first ++ rest) × Performs patience process act reply first
    × Plays patience process script replies rest
