-- The conditions of a policy file looked at one after the other. `proofs/LowestLemmas` shows that
-- this gives the answer of the table of faults.
use Rattle.std.specs.Prelude.{◌≡◌, ℕ, not, List, Option, Some, None, Result, Ok, Err, if◌then◌else◌}
use Rattle.toml.specs.Data.{Members}
use Rattle.wall_policy.specs.declared.fault.PolicyFault.{PolicyFault}
use Rattle.wall_policy.specs.declared.fault.PolicyFault.TheVariants.{NotToml, BadVersion}
use Rattle.wall_policy.specs.declared.fault.PolicyFault.TheVariants.{MissingKey, UnknownKey}
use Rattle.wall_policy.specs.declared.fault.PolicyFault.TheVariants.{BadName, DuplicateName}
use Rattle.wall_policy.specs.declared.fault.PolicyFault.TheVariants.{UnknownDataset, BadOp}
use Rattle.wall_policy.specs.declared.fault.PolicyFault.TheVariants.{BadLeast, TooMany, NoMemory}
use Rattle.wall_policy.specs.Plain.{PolicyText}
use Rattle.wall_policy.specs.Form.{record_of}
use Rattle.wall_policy.specs.Keys.{version_of, has_known_keys}
use Rattle.wall_policy.specs.Checks.{has_good_names, has_repeats, has_known_homes, has_known_ops}
use Rattle.wall_policy.specs.Checks.{has_good_leasts, is_small}
use Rattle.wall_policy.specs.Meaning.{wall_of}
use Rattle.wall_policy.specs.Policy.{ChineseWall}
use Rattle.wall_policy.specs.Answer.{tree_of}

-- memory ran out, or it is this one fault, and then P holds
abbrev pub IsNoMemoryOr : PolicyFault → PolicyFault → Type 0 → Type 0
IsNoMemoryOr NoMemory fault P = Unit {0}
IsNoMemoryOr f fault P = (f ≡ fault) × P

-- the faults of a record
unfoldable pub judged : PolicyText → Result ChineseWall PolicyFault
judged t =
    if not (has_good_names t) then Err BadName
    else if has_repeats t then Err DuplicateName
    else if not (has_known_homes t) then Err UnknownDataset
    else if not (has_known_ops t) then Err BadOp
    else if not (has_good_leasts t) then Err BadLeast
    else if not (is_small t) then Err TooMany
    else Ok (wall_of t)

unfoldable pub of_record : (version : ℕ) → Members → Option PolicyText →
    Result ChineseWall PolicyFault
of_record version ms None = Err MissingKey
of_record version ms (Some t) = if not (has_known_keys version ms) then Err UnknownKey else judged t

unfoldable pub of_version : Members → Option ℕ → Result ChineseWall PolicyFault
of_version ms None = Err BadVersion
of_version ms (Some version) = of_record version ms (record_of version ms)

unfoldable pub of_tree : Option Members → Result ChineseWall PolicyFault
of_tree None = Err NotToml
of_tree (Some ms) = of_version ms (version_of ms)

unfoldable pub in_turn : List ℕ → Result ChineseWall PolicyFault
in_turn bytes = of_tree (tree_of bytes)
