-- What a process is told. (Own rule.)
use Rattle.std.specs.Prelude.{◌≡◌, ℕ, ℤ, List, ◌∷◌, slice_get, Some}
use Rattle.coll_values.specs.declared.delivery.Block.{Block}
use Rattle.coll_values.specs.declared.delivery.Block.TheVariants.{Numbers}
use Rattle.run_model.specs.declared.call.Act.{Act}
use Rattle.run_model.specs.declared.call.Call.{Call}
use Rattle.run_model.specs.declared.reply.Reply.{Reply}
use Rattle.run_model.specs.declared.reply.Reply.TheVariants.{Posted, Delivered}
use Rattle.run_model.specs.Runs.{Entry, entry}
use Rattle.hall_turn.specs.Runs.{calls_of}
use Rattle.hall_turn.specs.declared.answer.Answer.TheVariants.{Reply as Replied}
use Rattle.hall_turn.specs.Answers.{Answered}
use Rattle.hall_turn.specs.Known.{Known}
use Rattle.rank_run.specs.Waits.{Waited}

-- in the run that the pass has seen, the newest call of its process got this reply
abbrev pub WasTold : Known → Reply → Type 0
WasTold pass reply =
    (call : Call) × (earlier : List Entry)
    × (calls_of pass.process pass.seen ≡ entry call reply ∷ earlier)

-- the act, a post, was counted, and this reply ended the wait for its outcome, of this patience
abbrev pub WasAwaited : (patience : ℕ) → (before : Known) → Act → Reply → (after : Known) → Type 0
WasAwaited patience before act reply after =
    (request : ℕ) × (posted : Known) × Answered before act (Replied (Posted request)) posted
    × Waited patience posted request (Replied reply) after

-- this is the first number in the first block that was delivered
abbrev pub IsFirstNumber : Reply → ℤ → Type 0
IsFirstNumber reply n =
    (blocks : List Block) × (numbers : List ℤ) × (reply ≡ Delivered blocks)
    × (slice_get blocks 0 ≡ Some (Numbers numbers)) × (slice_get numbers 0 ≡ Some n)
