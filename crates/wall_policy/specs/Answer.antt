-- What a policy file says: the table of its faults, and the answer by the first that holds. (Own
-- format, over TOML.)
use Rattle.std.specs.Prelude.{◌≡◌, ℕ, nat_eq, Bool, false, not, List, [], ◌∷◌, length, find, Option}
use Rattle.std.specs.Prelude.{Some, None, is_none, option_and_then, Result, Ok, Err, if◌then◌else◌}
use Rattle.std.specs.Option.{option_map_or}
use Rattle.std.specs.Str.Lossy.{utf8_valid_len}
use Rattle.toml.specs.Data.{Members}
use Rattle.toml.specs.Parse.{parse_document}
use Rattle.wall_policy.specs.declared.fault.PolicyFault.{PolicyFault}
use Rattle.wall_policy.specs.declared.fault.PolicyFault.TheVariants.{NotToml, BadVersion}
use Rattle.wall_policy.specs.declared.fault.PolicyFault.TheVariants.{MissingKey, UnknownKey}
use Rattle.wall_policy.specs.declared.fault.PolicyFault.TheVariants.{BadName, DuplicateName}
use Rattle.wall_policy.specs.declared.fault.PolicyFault.TheVariants.{UnknownDataset, BadOp}
use Rattle.wall_policy.specs.declared.fault.PolicyFault.TheVariants.{BadLeast, TooMany, NoMemory}
use Rattle.wall_policy.specs.Plain.{PolicyText}
use Rattle.wall_policy.specs.Form.{record_of}
use Rattle.wall_policy.specs.Keys.{version_of, has_known_keys}
use Rattle.wall_policy.specs.Checks.{has_good_names, has_repeats, has_known_homes, has_known_ops}
use Rattle.wall_policy.specs.Checks.{has_good_leasts, is_small}
use Rattle.wall_policy.specs.Meaning.{wall_of}
use Rattle.wall_policy.specs.Policy.{ChineseWall}

-- the tree that the bytes write, if they are UTF-8 and TOML
unfoldable pub tree_of : List ℕ → Option Members
tree_of bytes = if nat_eq (utf8_valid_len bytes) (length bytes) then parse_document bytes else None

-- the record that the tree says, in the form of its version
abbrev pub record_in : Members → Option PolicyText
record_in ms = option_and_then (λ version. record_of version ms) (version_of ms)

-- a test of the tree, of its version too, and of the record that it says; false where there is none
abbrev pub in_tree : (Members → Bool) → Option Members → Bool
in_tree test tree = option_map_or test tree false

abbrev pub in_version : ((version : ℕ) → Members → Bool) → Option Members → Bool
in_version test tree =
    in_tree (λ ms. option_map_or (λ version. test version ms) (version_of ms) false) tree

abbrev pub in_record : (PolicyText → Bool) → Option Members → Bool
in_record test tree = option_map_or test (option_and_then record_in tree) false

-- The condition of each fault. Out of memory is no fault of the file.
abbrev pub holds : Option Members → PolicyFault → Bool
holds tree NotToml = is_none tree
holds tree BadVersion = in_tree (λ ms. is_none (version_of ms)) tree
holds tree MissingKey = in_version (λ version ms. is_none (record_of version ms)) tree
holds tree UnknownKey = in_version (λ version ms. not (has_known_keys version ms)) tree
holds tree BadName = in_record (λ t. not (has_good_names t)) tree
holds tree DuplicateName = in_record has_repeats tree
holds tree UnknownDataset = in_record (λ t. not (has_known_homes t)) tree
holds tree BadOp = in_record (λ t. not (has_known_ops t)) tree
holds tree BadLeast = in_record (λ t. not (has_good_leasts t)) tree
holds tree TooMany = in_record (λ t. not (is_small t)) tree
holds tree NoMemory = false

-- the faults in their order: each is looked at only where none before it holds
abbrev pub faults : List PolicyFault
faults = NotToml ∷ BadVersion ∷ MissingKey ∷ UnknownKey ∷ BadName ∷ DuplicateName ∷ UnknownDataset
    ∷ BadOp ∷ BadLeast ∷ TooMany ∷ []

-- those that the tree alone decides, where there is one
abbrev pub key_faults : List PolicyFault
key_faults = BadVersion ∷ MissingKey ∷ UnknownKey ∷ []

-- the first of these
unfoldable pub key_fault : Members → Option PolicyFault
key_fault ms = find (holds (Some ms)) key_faults

-- the first fault, and where none holds the policy of the record (which is then there)
abbrev pub answer_by : Option PolicyFault → Option PolicyText → Result ChineseWall PolicyFault
answer_by (Some fault) said = Err fault
answer_by None (Some t) = Ok (wall_of t)
answer_by None None = Err NotToml

abbrev pub answer_in : Option Members → Result ChineseWall PolicyFault
answer_in tree = answer_by (find (holds tree) faults) (option_and_then record_in tree)

-- the answer to the bytes of a file, memory aside
unfoldable pub answer_to : List ℕ → Result ChineseWall PolicyFault
answer_to bytes = answer_in (tree_of bytes)

-- What a reader gave is the answer, unless memory ran out.
abbrev pub Refuses : {Y : Type 0} → PolicyFault → Result Y PolicyFault → Type 0
Refuses NoMemory answer = Unit {0}
Refuses fault answer = answer ≡ Err fault

abbrev pub Gives : {Y : Type 0} → Result Y PolicyFault → Result Y PolicyFault → Type 0
Gives (Ok y) answer = answer ≡ Ok y
Gives (Err fault) answer = Refuses fault answer
