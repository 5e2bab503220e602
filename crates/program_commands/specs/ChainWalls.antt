-- The policy of the run of a chain that comes next, and of the one that is under way.
use Rattle.std.specs.Prelude.{◌≡◌, ◌⊎◌, ◌+◌, ℕ, List, length, codes, ◌++◌, Option, Some, None, IsSome}
use Rattle.wall_policy.specs.Policy.{ChineseWall}
use Rattle.run_model.specs.Chains.{Link, IsChain}
use Rattle.hall_script.specs.Devices.{Used, IsUntouched}
use Rattle.chain_file.specs.declared.run.Begun.{Begun}
use Rattle.chain_file.specs.Text.{Chain}
use Rattle.chain_runs.specs.declared.fault.RunFault.{RunFault}
use Rattle.chain_runs.specs.declared.runs.Past.{Past}
use Rattle.chain_runs.specs.declared.runs.Broken.{Broken}
use Rattle.chain_runs.specs.Runs.{IsNext, IsBegunUnder}
use Rattle.chain_runs.specs.Faults.{IsNoNext, IsNotBegun}
use Rattle.chain_runs.specs.Chains.{IsPast, Reading, reading}
use Rattle.program_commands.specs.Endings.{IsTold}
use Rattle.program_commands.specs.Earlier.{RunsKeepTheWall, YearsKeepTheWall, WasHadOnce}
use Rattle.program_commands.specs.ChainLines.{broken_line, broken_status, next_line, next_status}
use Rattle.program_commands.specs.ChainLines.{open_line, without_run}
use Rattle.program_commands.specs.Chains.{TellsBroken}

-- Behind these books, and under this policy after them, nobody will ever have held two rivals: over
-- the books and any legal run under it, under any of their policies. What is held before was had
-- once.
pub record GoesOnAfter (links : List Link) (wall : ChineseWall) : Type 0 where
  pub chain : IsChain links wall
  pub runs_keep : RunsKeepTheWall links wall
  pub years_keep : YearsKeepTheWall links wall
  pub had : WasHadOnce links wall

module _ {D : Type 0} (fails : D → ℕ) (left : D → Option (List ℕ))
    (is_at : D → List ℕ → Type 0) where
  -- the runs that have ended stand, and this is known behind them
  abbrev pub IsPastOf : Chain → Past → Type 0
  IsPastOf file past = (links : List Link) × IsPast fails left is_at file.ended links past

  -- ---- the next run

  -- All runs have ended and stand, and this is the policy of the next one, by a file of this
  -- digest.
  pub record IsNextOnChain {P : Type 0} (file : Chain) (policy : Used P) (digest : List ℕ)
      (wall : ChineseWall) : Type 0 where
    pub none : file.under_way ≡ None
    pub links : List Link
    pub past : Past
    pub stand : IsPast fails left is_at file.ended links past
    pub next : IsNext past.policy policy digest wall
    pub goes_on : GoesOnAfter links wall

  -- its policy file gives none, and why is told
  pub record HasNoNextPolicy {P E : Type 0} (file : Chain) (policy : Used P) (err : Used E)
      (status : ℕ) : Type 0 where
    pub past : Past
    pub stand : IsPastOf file past
    pub fault : RunFault
    pub why : IsNoNext past.policy policy fault
    pub is : status ≡ next_status fault
    pub told : IsTold err (next_line past.policy fault)

  -- The last run has not ended; or one does not stand, and the policy file was not looked at; or
  -- that gives no policy.
  abbrev pub HasNoNext : {P E : Type 0} → Chain → Used P → Used E → (status : ℕ) → Type 0
  HasNoNext file policy err status =
      (IsSome file.under_way × IsUntouched policy × (status ≡ 2)
      × IsTold err (open_line (length file.ended + 1)))
      ⊎ (TellsBroken fails left is_at file err status × IsUntouched policy)
      ⊎ HasNoNextPolicy file policy err status

  -- ---- the one that is under way

  -- All runs before it stand, and this is its policy, by the file at its path.
  pub record IsLastOnChain (file : Chain) (wall : ChineseWall) : Type 0 where
    pub begun : Begun
    pub is : file.under_way ≡ Some begun
    pub links : List Link
    pub past : Past
    pub stand : IsPast fails left is_at file.ended links past
    pub policy : Reading fails left is_at begun.policy
    pub under : IsBegunUnder past.policy begun (reading fails left is_at policy) wall
    pub goes_on : GoesOnAfter links wall

  -- its policy file gives none, and why is told
  pub record HasNoLastPolicy {E : Type 0} (file : Chain) (err : Used E) (status : ℕ) : Type 0 where
    pub begun : Begun
    pub is : file.under_way ≡ Some begun
    pub past : Past
    pub stand : IsPastOf file past
    pub policy : Reading fails left is_at begun.policy
    pub broken : Broken
    pub number : broken.number ≡ length file.ended + 1
    pub after : broken.after ≡ past.policy
    pub why : IsNotBegun past.policy begun (reading fails left is_at policy) broken.fault
    pub status_is : status ≡ broken_status broken.fault
    pub told : IsTold err (broken_line broken)

  -- none is under way; or one before it does not stand; or there is no policy of it
  abbrev pub HasNoLast : {E : Type 0} → Chain → Used E → (status : ℕ) → Type 0
  HasNoLast file err status =
      ((file.under_way ≡ None) × (status ≡ 2) × IsTold err without_run)
      ⊎ TellsBroken fails left is_at file err status
      ⊎ HasNoLastPolicy file err status
