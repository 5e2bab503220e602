-- The sittings of a process, one after the other. Where its stream has ended, or nobody reads its
-- answers, its session rests, and may go on with another stream. (Own rules.) The newest comes first.
use Rattle.std.specs.Prelude.{◌≡◌, ℕ, List, [], ◌∷◌, Option, Some, None}
use Rattle.wall_policy.specs.Policy.{ChineseWall}
use Rattle.run_model.specs.Runs.{Entry}
use Rattle.hall_script.specs.Devices.{used}
use Rattle.hall_turn.specs.Receipts.{Covered}
use Rattle.hall_turn.specs.Known.{Known}
use Rattle.live_session.specs.declared.ending.Closing.{Closing}
use Rattle.live_session.specs.declared.ending.SessionEnd.{SessionEnd}
use Rattle.live_session.specs.declared.ending.SessionEnd.TheVariants.{EndOfStream, WriteFailed}
use Rattle.live_session.specs.Hearing.{DeskLog}
use Rattle.live_session.specs.Sessions.{Serves}

-- the devices of a process, and what its pass has seen
pub record At (S O : Type 0) : Type 0 where
  pub source : S
  pub sink : O
  pub pass : Known

abbrev pub at : {S O : Type 0} → S → O → Known → At S O
at source sink pass = record { source = source; sink = sink; pass = pass }

-- A sitting: from the first line of a stream to why no further line of it is acted on, with the calls
-- of the process by then.
pub record Sitting (S O : Type 0) : Type 0 where
  pub from : At S O
  pub to : At S O
  pub closing : Closing

abbrev pub sitting : {S O : Type 0} → (from to : At S O) → Closing → Sitting S O
sitting from to closing = record { from = from; to = to; closing = closing }

-- behind a sitting that ended so there may come another: its stream has ended, or nobody reads its
-- answers
abbrev pub MayRest : SessionEnd → Type 0
MayRest EndOfStream = Unit {0}
MayRest WriteFailed = Unit {0}
MayRest end = ⊥

-- Meanwhile nothing was read, written or called, and nothing failed. What is to be read may be
-- another stream.
pub record Follows {S O : Type 0} (fails : S → ℕ) (heard : S → DeskLog) (first next : At S O)
    : Type 0 where
  pub fails_same : fails next.source ≡ fails first.source
  pub heard_same : heard next.source ≡ heard first.source
  pub sink_same : next.sink ≡ first.sink
  pub pass_same : next.pass ≡ first.pass

module _ (stood : ChineseWall → List Entry → Option Covered → Type 0) (most : Option ℕ)
    {S O : Type 0} (fails : S → ℕ) (left : S → Option (List ℕ))
    (heard : S → DeskLog) (failures : O → ℕ) (contents : O → Option (List ℕ))
    (wall : ChineseWall) where
  -- what a sitting came to, before which the process had made so many calls
  abbrev pub IsHeld : (base : ℕ) → Sitting S O → Type 0
  IsHeld base s = Serves stood most base heard wall (used fails left s.from.source s.to.source)
      (used failures contents s.from.sink s.to.sink) s.from.pass s.to.pass s.closing

  -- The first sitting of the process began with these devices, each other where the one before it
  -- rested, and this is the newest.
  abbrev pub AreHeld : (first : At S O) → (newest : Sitting S O) → (past : List (Sitting S O)) →
      Type 0
  AreHeld first s [] = (s.from ≡ first) × IsHeld 0 s
  AreHeld first s (t ∷ past) = AreHeld first t past × MayRest t.closing.end
      × Follows fails heard t.to s.from × IsHeld t.closing.calls s

  -- What a session came to: its sittings, of which the newest ended so, and nothing came behind it.
  pub record Sits (first last : At S O) (closing : Closing) : Type 0 where
    pub newest : Sitting S O
    pub past : List (Sitting S O)
    pub held : AreHeld first newest past
    pub ended : closing ≡ newest.closing
    pub still : Follows fails heard newest.to last

  -- The session came to this, or it did not begin, and nothing was done.
  abbrev pub SitsIfBegun : (first last : At S O) → Option Closing → Type 0
  SitsIfBegun first last (Some closing) = Sits first last closing
  SitsIfBegun first last None = last ≡ first
