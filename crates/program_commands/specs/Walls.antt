-- What becomes of a policy.
use Rattle.std.specs.Prelude.{◌≡◌, ℕ, List, Ok, Err}
use Rattle.wall_policy.specs.declared.fault.PolicyFault.{PolicyFault}
use Rattle.wall_policy.specs.declared.fault.PolicyFault.TheVariants as policies
use Rattle.wall_policy.specs.Policy.{ChineseWall}
use Rattle.wall_policy.specs.Answer.{answer_to}
use Rattle.hall_script.specs.Devices.{Used, NeverFailed, IsRead, IsUnreadable}
use Rattle.hall_script.specs.Scripts.{script_limit}
use Rattle.program_commands.specs.declared.ending.Ending.{Ending}
use Rattle.program_commands.specs.declared.ending.Ending.TheVariants.{BadPolicy, ReadFault}
use Rattle.program_commands.specs.declared.ending.Ending.TheVariants.{NoMemory}

abbrev pub policy_ending : PolicyFault → Ending
policy_ending policies.NoMemory = NoMemory
policy_ending fault = BadPolicy fault

-- it was read without a failure, and is a policy file of this policy
abbrev pub IsPolicyOf : {P : Type 0} → Used P → ChineseWall → Type 0
IsPolicyOf policy wall =
    (bytes : List ℕ) × IsRead policy script_limit bytes × (answer_to bytes ≡ Ok wall)

-- there is no policy, and this is why
abbrev pub IsNoPolicy : {P : Type 0} → Used P → Ending → Type 0
IsNoPolicy policy (BadPolicy fault) =
    (bytes : List ℕ) × IsRead policy script_limit bytes × (answer_to bytes ≡ Err fault)
IsNoPolicy policy ReadFault = IsUnreadable policy script_limit
IsNoPolicy policy NoMemory = NeverFailed policy
IsNoPolicy policy ending = ⊥
