-- The line of a policy's fault: its place, and what is wrong there. (Own format.)
use Rattle.std.specs.Prelude.{ℕ, List, [], ◌++◌, codes, Option, Some, None}
use Rattle.std.specs.Fmt.{decimal}
use Rattle.wall_policy.specs.declared.fault.PolicyFault.{PolicyFault}
use Rattle.wall_policy.specs.declared.fault.PolicyFault.TheVariants as faults
use Rattle.policy_places.specs.declared.part.Part.{Part}
use Rattle.policy_places.specs.declared.part.Part.TheVariants.{Class, Process, Rule}
use Rattle.policy_places.specs.declared.place.Found.{Found}
use Rattle.policy_places.specs.declared.sign.Sign.{Sign}
use Rattle.policy_places.specs.declared.sign.Sign.TheVariants.{NotToml, Version, FileKey, OtherKind}
use Rattle.policy_places.specs.declared.sign.Sign.TheVariants.{StrayKey, Lacking, UnknownKey}
use Rattle.policy_places.specs.declared.sign.Sign.TheVariants.{BadName, DuplicateName}
use Rattle.policy_places.specs.declared.sign.Sign.TheVariants.{UnknownDataset, BadOp, BadLeast}
use Rattle.policy_places.specs.declared.sign.Sign.TheVariants.{TooMany}
use Rattle.policy_places.specs.Named.{Named}
use Rattle.check_text.specs.Words.{quoted, shown_word}

-- in whose tables a key stands
abbrev pub part_text : Option Part → List ℕ
part_text None = []
part_text (Some Class) = codes " in [[class]]"
part_text (Some Process) = codes " in [[process]]"
part_text (Some Rule) = codes " in [[sanitise]]"

-- the words, the key, and where it stands
abbrev pub key_text : List ℕ → Named → List ℕ
key_text words n = words ++ quoted n.word ++ part_text n.part

-- the word, and what is wrong with it
abbrev pub fault_text : Named → List ℕ → List ℕ
fault_text n words = quoted n.word ++ words

-- of a key that holds no tables of its part
abbrev pub closed_text : List ℕ → List ℕ
closed_text w = shown_word w ++ codes "]]"

abbrev pub tables_text : List ℕ → List ℕ
tables_text w = codes " is not given by tables [[" ++ closed_text w

-- of a key in the tables of a part
abbrev pub other_text : Part → List ℕ
other_text part = part_text (Some part) ++ codes " has another kind of value than it should"

-- the key has another kind of value, or holds no tables of its part
abbrev pub kind_text : Option Part → List ℕ → List ℕ
kind_text None w = quoted w ++ tables_text w
kind_text (Some part) w = quoted w ++ other_text part

-- What is said where nothing is named. The last of these never comes.
abbrev pub unnamed_text : Sign → List ℕ
unnamed_text NotToml = codes "the file is no TOML from here on"
unnamed_text Version = codes "the version is neither 1 nor 2"
unnamed_text sign = codes "the policy has a fault here"

abbrev pub named_text : Sign → Named → List ℕ
named_text FileKey n = key_text (codes "unknown key ") n
named_text StrayKey n = key_text (codes "unknown key ") n
named_text UnknownKey n = key_text (codes "unknown key ") n
named_text OtherKind n = kind_text n.part n.word
named_text Lacking n = key_text (codes "missing key ") n
named_text BadName n = fault_text n (codes " may not be a name here")
named_text DuplicateName n = fault_text n (codes " stands twice")
named_text UnknownDataset n = codes "home " ++ fault_text n (codes " is no dataset")
named_text BadOp n = fault_text n (codes " is no operation")
named_text BadLeast n = fault_text n (codes " is out of its range")
named_text TooMany n = codes "too many " ++ shown_word n.word
named_text sign n = unnamed_text sign

abbrev pub policy_sentence : Sign → Option Named → List ℕ
policy_sentence sign None = unnamed_text sign
policy_sentence sign (Some n) = named_text sign n

-- `PATH:LINE: ` and the sentence
abbrev pub policy_line : (path : List ℕ) → Found → Option Named → List ℕ
policy_line path found named =
    path ++ codes ":" ++ decimal found.line ++ codes ": " ++ policy_sentence found.sign named
    ++ codes "\n"

-- What is said of a fault that stands on no line: what the file lacks. The last of these never comes.
abbrev pub absent_text : PolicyFault → List ℕ
absent_text faults.BadVersion = codes "there is no version"
absent_text faults.MissingKey = codes "there is no [[process]]"
absent_text fault = codes "the policy has a fault"

abbrev pub absent_line : (path : List ℕ) → PolicyFault → List ℕ
absent_line path fault = path ++ codes ": " ++ absent_text fault ++ codes "\n"

-- what is said of a text that has more bytes than a line is looked for in
abbrev pub long_line : (path : List ℕ) → (limit : ℕ) → List ℕ
long_line path limit = path ++ codes ": no line is looked for in more than " ++ decimal limit
    ++ codes " bytes\n"
