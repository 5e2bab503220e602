-- Why a run of a chain does not stand: the first thing that is wrong.
use Rattle.std.specs.Prelude.{◌≡◌, ◌≢◌, ℕ, List, Option, Some, None, Ok, Err}
use Rattle.sha2.specs.Sha256.{sha256}
use Rattle.wall_policy.specs.declared.growth.GrowthFault.{GrowthFault}
use Rattle.wall_policy.specs.declared.growth.GrowthFault.TheVariants as growths
use Rattle.wall_policy.specs.Policy.{ChineseWall}
use Rattle.wall_policy.specs.Answer.{answer_to}
use Rattle.wall_policy.specs.GrowthFaults.{IsGrowthFault}
use Rattle.run_model.specs.declared.entry.Entry.{Entry}
use Rattle.run_model.specs.Books.{IsSound}
use Rattle.hall_script.specs.Devices.{Used, IsRead, IsUnreadable, IsUntouched, NeverFailed}
use Rattle.hall_script.specs.Scripts.{script_limit}
use Rattle.book_stream.specs.declared.fault.AuditFault.TheVariants as audits
use Rattle.book_stream.specs.Audits.{AuditsTo}
use Rattle.chain_file.specs.declared.run.Begun.{Begun}
use Rattle.chain_file.specs.declared.run.Run.{Run}
use Rattle.chain_runs.specs.declared.fault.RunFault.{RunFault}
use Rattle.chain_runs.specs.declared.fault.RunFault.TheVariants.{UnreadPolicy, OtherPolicy}
use Rattle.chain_runs.specs.declared.fault.RunFault.TheVariants.{BadPolicy, NotGrown, BadBook}
use Rattle.chain_runs.specs.declared.fault.RunFault.TheVariants.{OtherBook, NoMemory}
use Rattle.chain_runs.specs.Runs.{IsFileOf, SaysPolicy, SaysBook, IsBegunUnder}

-- the file was not read
abbrev pub IsNoBytes : {P : Type 0} → Used P → RunFault → Type 0
IsNoBytes policy UnreadPolicy = IsUnreadable policy script_limit
IsNoBytes policy NoMemory = NeverFailed policy
IsNoBytes policy fault = ⊥

-- the file was not read, or has another digest
abbrev pub IsNoFile : {P : Type 0} → Used P → (digest : List ℕ) → RunFault → Type 0
IsNoFile policy digest OtherPolicy =
    (bytes : List ℕ) × IsRead policy script_limit bytes × (sha256 bytes ≢ digest)
IsNoFile policy digest fault = IsNoBytes policy fault

-- or it says no policy
abbrev pub IsNoPolicy : {P : Type 0} → Used P → Begun → RunFault → Type 0
IsNoPolicy policy begun (BadPolicy fault) = (bytes : List ℕ)
    × IsFileOf policy begun.policy_digest bytes × (answer_to bytes ≡ Err fault)
IsNoPolicy policy begun fault = IsNoFile policy begun.policy_digest fault

-- What the file says has not grown from the policy after the runs before, and this is not kept.
-- (Want of memory is told as what it is.)
abbrev pub HasNotGrown : (after : Option ChineseWall) → (file : ChineseWall) → GrowthFault → Type 0
HasNotGrown None file fault = ⊥
HasNotGrown (Some after) file fault =
    IsGrowthFault after file fault × (fault ≢ growths.NoMemory)

-- it has grown, and memory ran out
abbrev pub LacksMemory : (after : Option ChineseWall) → (file : ChineseWall) → Type 0
LacksMemory None file = ⊥
LacksMemory (Some after) file = IsGrowthFault after file growths.NoMemory

-- out of memory is answered only where it has grown
abbrev pub IsNotUnder : (after : Option ChineseWall) → (file : ChineseWall) → RunFault → Type 0
IsNotUnder after file (NotGrown fault) = HasNotGrown after file fault
IsNotUnder after file NoMemory = LacksMemory after file
IsNotUnder after file fault = ⊥

-- There is no policy of a run that began: its file says none, or has not grown. Out of memory says
-- that the reader did not fail.
abbrev pub IsNotBegun : {P : Type 0} → (after : Option ChineseWall) → Begun → Used P → RunFault →
    Type 0
IsNotBegun after begun policy (NotGrown fault) =
    (file : ChineseWall) × SaysPolicy policy begun file × HasNotGrown after file fault
IsNotBegun after begun policy NoMemory = NeverFailed policy
IsNotBegun after begun policy fault = IsNoPolicy policy begun fault

-- There is none of the run that comes next, of whose file the chain has no digest.
abbrev pub IsNoNext : {P : Type 0} → (after : Option ChineseWall) → Used P → RunFault → Type 0
IsNoNext after policy (NotGrown fault) = (bytes : List ℕ) × IsRead policy script_limit bytes
    × ((file : ChineseWall) × (answer_to bytes ≡ Ok file) × HasNotGrown after file fault)
IsNoNext after policy (BadPolicy fault) =
    (bytes : List ℕ) × IsRead policy script_limit bytes × (answer_to bytes ≡ Err fault)
IsNoNext after policy fault = IsNoBytes policy fault

-- it is a sound book of another digest
abbrev pub IsOther : {B : Type 0} → ChineseWall → Used B → (digest : List ℕ) → Type 0
IsOther wall book digest = (other : List ℕ) × (entries : List Entry)
    × SaysBook wall book other entries × IsSound wall entries × (other ≢ digest)

-- Why the run does not stand. Where its policy does not, its book was not looked at. Out of memory
-- says that no reader failed.
abbrev pub IsRunFault : {P B : Type 0} → (after : Option ChineseWall) → Run → Used P → Used B →
    RunFault → Type 0
IsRunFault after run policy book (NotGrown fault) = ((file : ChineseWall)
    × SaysPolicy policy run.begun file × HasNotGrown after file fault) × IsUntouched book
IsRunFault after run policy book (BadBook fault) = (wall : ChineseWall)
    × IsBegunUnder after run.begun policy wall
    × (AuditsTo wall book (Err fault) × (fault ≢ audits.NoMemory))
IsRunFault after run policy book OtherBook = (wall : ChineseWall)
    × IsBegunUnder after run.begun policy wall × IsOther wall book run.book_digest
IsRunFault after run policy book NoMemory = NeverFailed policy × NeverFailed book
IsRunFault after run policy book fault = IsNoPolicy policy run.begun fault × IsUntouched book

-- ---- words of private contracts

-- these bytes say no policy; memory ran out only where they say one
abbrev pub SaysNone : (bytes : List ℕ) → RunFault → Type 0
SaysNone bytes (BadPolicy fault) = answer_to bytes ≡ Err fault
SaysNone bytes NoMemory = Unit {0}
SaysNone bytes fault = ⊥
