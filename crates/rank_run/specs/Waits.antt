-- What waiting for a request does to a pass. (Own rules.)
use Rattle.std.specs.Prelude.{◌≡◌, ℕ, ◌+◌, ◌^◌, ◌<◌, ◌≤◌, Bool, true, false, List, [], ◌∷◌, ◌++◌}
use Rattle.std.specs.Prelude.{length, max, replicate}
use Rattle.run_model.specs.declared.call.Act.TheVariants.{Take}
use Rattle.run_model.specs.declared.reply.Reply.TheVariants.{Posted, Barred, Pending, Delivered}
use Rattle.run_model.specs.declared.reply.Reply.TheVariants.{NewComm, NullComm, Denied, NoRoom}
use Rattle.run_model.specs.declared.reply.Reply.TheVariants.{Info, Refused}
use Rattle.run_model.specs.Runs.{Entry, said}
use Rattle.hall_turn.specs.declared.answer.Answer.{Answer}
use Rattle.hall_turn.specs.declared.answer.Answer.TheVariants.{Reply as Replied, Exhausted}
use Rattle.hall_turn.specs.Runs.{Continues, calls_of}
use Rattle.hall_turn.specs.Known.{Known}

-- so many takes of a request, each answered Pending
abbrev pub pending_takes : (process request : ℕ) → (times : ℕ) → List Entry
pending_takes process request times = replicate times (said process (Take request) Pending)

-- the entry of the last take; it has none if the door was exhausted
abbrev pub last_take : (process request : ℕ) → Answer → List Entry
last_take process request (Replied reply) = said process (Take request) reply ∷ []
last_take process request Exhausted = []

-- how often a take of a script may be tried
abbrev pub script_patience : ℕ
script_patience = 10000000

-- how many takes may be tried: one at least
abbrev pub tries : (patience : ℕ) → ℕ
tries patience = max 1 patience

abbrev pub is_pending : Answer → Bool
is_pending (Replied Pending) = true
is_pending (Replied (Posted request)) = false
is_pending (Replied (Barred request label)) = false
is_pending (Replied (Delivered delivery)) = false
is_pending (Replied (NewComm comm rank size)) = false
is_pending (Replied NullComm) = false
is_pending (Replied (Denied rule process label)) = false
is_pending (Replied NoRoom) = false
is_pending (Replied (Info size rank dims)) = false
is_pending (Replied (Refused refusal)) = false
is_pending Exhausted = false

-- The request was taken again and again, at most `tries patience` times. All takes but the last
-- were answered Pending, and the answer is that of the last. It is Pending only if all tries were
-- made. The run seen after begins with the run seen before, and the new calls of the process in it
-- are these takes; its newest call is the first in the list.
pub record Waited (patience : ℕ) (before : Known) (request : ℕ) (answer : Answer) (after : Known)
    : Type 0 where
  pub again : ℕ
  pub within : again < tries patience
  pub begins : Continues after.seen before.seen
  pub own : calls_of before.process after.seen
      ≡ last_take before.process request answer ++ pending_takes before.process request again
      ++ calls_of before.process before.seen
  pub patient : answer ≡ Replied Pending → again + 1 ≡ tries patience
  pub exhausted : answer ≡ Exhausted → 2 ^ 62 ≤ length after.seen
