-- What holds of all documents.
use Rattle.std.specs.Prelude.{◌≡◌, ℕ, Bool, true, false, List, Some, None, is_some, codes}
use Rattle.toml.specs.Data.{Members, get_member}
use Rattle.wall_policy.specs.declared.fault.PolicyFault.{PolicyFault}
use Rattle.wall_policy.specs.declared.fault.PolicyFault.TheVariants as faults
use Rattle.wall_policy.specs.Plain.{PolicyText}
use Rattle.wall_policy.specs.Form.{record_of}
use Rattle.wall_policy.specs.Keys.{version_of}
use Rattle.wall_policy.specs.Answer.{tree_of, record_in, holds}
use Rattle.policy_places.specs.declared.sign.Sign.{Sign}
use Rattle.policy_places.specs.declared.sign.Sign.TheVariants.{UnknownKey, BadName, DuplicateName}
use Rattle.policy_places.specs.declared.sign.Sign.TheVariants.{UnknownDataset, BadOp, BadLeast}
use Rattle.policy_places.specs.declared.sign.Sign.TheVariants.{TooMany}
use Rattle.policy_places.specs.declared.sign.Sign.TheVariants.{NotToml, Version}
use Rattle.policy_places.specs.declared.place.Found.{Found}
use Rattle.policy_places.specs.declared.place.Place.{Place}
use Rattle.policy_places.specs.Places.{IsPlace}
use Rattle.policy_places.specs.Signs.{known_of, shows, sign_of}
use Rattle.policy_places.specs.Named.{named_at}

-- the document shows the sign exactly where it has the fault
abbrev pub IsSignOf : Members → Sign → PolicyFault → Type 0
IsSignOf ms sign fault = shows (known_of ms) sign ms ≡ holds (Some ms) fault

-- A document that lacks no key, and whose keys hold their kinds of value, shows a sign exactly
-- where it has its fault.
abbrev pub SignsAreFaults : Type 0
SignsAreFaults = (ms : Members) (t : PolicyText) → record_in ms ≡ Some t →
    IsSignOf ms UnknownKey faults.UnknownKey
    × IsSignOf ms BadName faults.BadName
    × IsSignOf ms DuplicateName faults.DuplicateName
    × IsSignOf ms UnknownDataset faults.UnknownDataset
    × IsSignOf ms BadOp faults.BadOp
    × IsSignOf ms BadLeast faults.BadLeast
    × IsSignOf ms TooMany faults.TooMany

-- A document that lacks a key, or has one with another kind of value, shows a sign of that, unless
-- what it lacks is each process.
abbrev pub MissingIsFound : Type 0
MissingIsFound = (ms : Members) (version : ℕ) → version_of ms ≡ Some version →
    record_of version ms ≡ None → sign_of ms faults.MissingKey ≡ None →
    get_member (codes "process") ms ≡ None

-- what a document lacks that has this fault, where no place of it is found
abbrev pub IsAbsent : Members → PolicyFault → Type 0
IsAbsent ms faults.BadVersion = get_member (codes "version") ms ≡ None
IsAbsent ms faults.MissingKey = get_member (codes "process") ms ≡ None
IsAbsent ms _ = ⊥

-- Each fault has its line, but that of a document that has no `version`, and of one that has no
-- `process`.
abbrev pub NowhereIsAbsent : Type 0
NowhereIsAbsent = (text : List ℕ) (place : Place) → IsPlace text place → place.found ≡ None →
    (ms : Members) × (tree_of text ≡ Some ms) × IsAbsent ms place.fault

-- a word of it is named
abbrev pub has_word : Sign → Bool
has_word NotToml = false
has_word Version = false
has_word sign = true

-- Where a fault has its line, and a word of it is named, there is one.
abbrev pub WordsAreNamed : Type 0
WordsAreNamed = (text : List ℕ) (place : Place) (found : Found) → IsPlace text place →
    place.found ≡ Some found → has_word found.sign ≡ true → is_some (named_at text found) ≡ true
