-- How the commands end that go on after earlier books. Without earlier books they end as without
-- this page: the policy is the one that was read.
use Rattle.std.specs.Prelude.{◌⊎◌, Option}
use Rattle.wall_policy.specs.Policy.{ChineseWall}
use Rattle.hall_script.specs.Devices.{Used, IsUntouched}
use Rattle.program_commands.specs.declared.ending.Ending.{Ending}
use Rattle.program_commands.specs.Auditing.{Audits}
use Rattle.program_commands.specs.Earlier.{EarlierBooks, IsWallAfter, IsNoWallAfter}
use Rattle.program_commands.specs.Replaying.{IsUnkept, Replays}
use Rattle.program_commands.specs.Running.{Runs}

-- How `replay` ends: there is no policy after the earlier books, and no other device was touched;
-- or its script was replayed under it.
abbrev pub ReplayAfterEnds : {P D S O B : Type 0}
    → Used P → EarlierBooks D → Used S → Used O → Option (Used B) → Ending → Type 0
ReplayAfterEnds policy earlier script out book ending =
    (IsNoWallAfter policy earlier ending × IsUntouched script × IsUntouched out × IsUnkept book)
    ⊎ ((wall : ChineseWall) × IsWallAfter policy earlier wall
    × Replays wall script out book ending)

-- How `run` ends: there is no policy after the earlier books, and no other device was touched; or
-- its script was run under it.
abbrev pub RunAfterEnds : {P D S O B : Type 0}
    → Used P → EarlierBooks D → Used S → Used O → Option (Used B) → Ending → Type 0
RunAfterEnds policy earlier script out book ending =
    (IsNoWallAfter policy earlier ending × IsUntouched script × IsUntouched out × IsUnkept book)
    ⊎ ((wall : ChineseWall) × IsWallAfter policy earlier wall × Runs wall script out book ending)

-- How `audit` ends: there is no policy after the earlier books, and no other device was touched; or
-- its book was audited under it.
abbrev pub AuditAfterEnds : {P D B O : Type 0}
    → Used P → EarlierBooks D → Used B → Used O → Ending → Type 0
AuditAfterEnds policy earlier book out ending =
    (IsNoWallAfter policy earlier ending × IsUntouched book × IsUntouched out)
    ⊎ ((wall : ChineseWall) × IsWallAfter policy earlier wall × Audits wall book out ending)
