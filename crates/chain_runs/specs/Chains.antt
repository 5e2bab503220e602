-- The runs of a chain, read again one after the other. Lists of links have the newest first.
use Rattle.std.specs.Prelude.{◌≡◌, ◌≤◌, ◌^◌, ◌+◌, ℕ, List, [], ◌∷◌, ◌++◌, length, reverse}
use Rattle.std.specs.Prelude.{Option, Some, None}
use Rattle.wall_policy.specs.Policy.{ChineseWall}
use Rattle.run_model.specs.Chains.{Link}
use Rattle.hall_script.specs.Devices.{Used, used}
use Rattle.chain_file.specs.declared.run.Run.{Run}
use Rattle.chain_runs.specs.declared.fault.RunFault.{RunFault}
use Rattle.chain_runs.specs.declared.fault.RunFault.TheVariants.{TooMany}
use Rattle.chain_runs.specs.declared.runs.Past.{Past}
use Rattle.chain_runs.specs.declared.runs.Broken.{Broken}
use Rattle.chain_runs.specs.Runs.{Stands, IsChainAfter}
use Rattle.chain_runs.specs.Faults.{IsRunFault}

-- so many entries have the books of all these
unfoldable pub entries_of : List Link → ℕ
entries_of [] = 0
entries_of (r ∷ older) = entries_of older + length r.book

module _ {D : Type 0} (fails : D → ℕ) (left : D → Option (List ℕ))
    (is_at : D → List ℕ → Type 0) where
  -- a reader of the file at this path, before its use and as it was let go
  pub record Reading (path : List ℕ) : Type 0 where
    pub first : D
    pub last : D
    pub at : is_at first path

  abbrev pub reading : {path : List ℕ} → Reading path → Used D
  reading r = used fails left r.first r.last

  -- the run was read from the files at its paths, and stands behind those before it
  pub record StandsBehind (after : Option ChineseWall) (run : Run) (now : ChineseWall) (r : Link)
      : Type 0 where
    pub policy : Reading run.begun.policy
    pub book : Reading run.begun.book
    pub stands : Stands after run (reading policy) (reading book) now r

  -- Each of these runs, the newest first, was read behind those before it; the policy after them
  -- all is this one, and before the first there is none.
  abbrev pub AreRead : List Run → List Link → Option ChineseWall → Type 0
  AreRead [] [] now = now ≡ None
  AreRead (run ∷ before) (r ∷ older) (Some now) =
      (was : Option ChineseWall) × AreRead before older was × StandsBehind was run now r
  AreRead runs links now = ⊥

  -- the next run was read behind these, and this is known behind it
  abbrev pub HasRead : (old : Past) → Run → (new : Past) → Type 0
  HasRead old run new = (now : ChineseWall) × (r : Link) × StandsBehind old.policy run now r
      × (new.policy ≡ Some now) × (new.entries ≡ old.entries + length r.book)
      × ((links : List Link) → IsChainAfter old.policy links →
      IsChainAfter new.policy (r ∷ links))

  -- what is known behind these runs, the oldest first
  pub record IsPast (runs : List Run) (links : List Link) (past : Past) : Type 0 where
    pub read : AreRead (reverse runs) links past.policy
    pub chain : IsChainAfter past.policy links
    pub entries : past.entries ≡ entries_of links

  -- The run does not stand behind those before it, and this is why; or it does, and with its book
  -- there are 2^64 entries or more.
  abbrev pub IsNotRead : Past → Run → RunFault → Type 0
  IsNotRead past run TooMany = (now : ChineseWall) × (r : Link)
      × StandsBehind past.policy run now r × (2 ^ 64 ≤ past.entries + length r.book)
  IsNotRead past run fault = (policy : Reading run.begun.policy) × (book : Reading run.begun.book)
      × IsRunFault past.policy run (reading policy) (reading book) fault

  -- One of these runs does not stand, and all before it do. Those behind it are not looked at.
  pub record IsBroken (runs : List Run) (broken : Broken) : Type 0 where
    pub before : List Run
    pub one : Run
    pub behind : List Run
    pub are : before ++ (one ∷ behind) ≡ runs
    pub number : broken.number ≡ length before + 1
    pub links : List Link
    pub past : Past
    pub stand : IsPast before links past
    pub after : broken.after ≡ past.policy
    pub fault : IsNotRead past one broken.fault
