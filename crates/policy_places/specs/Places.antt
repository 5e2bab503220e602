-- On which line of a policy its fault stands. (Own rule.) Which fault it has is said by the table
-- of faults.
use Rattle.std.specs.Prelude.{◌≡◌, ℕ, ◌-◌, ◌<◌, ◌≤◌, Bool, true, false, List, Option, Some, None}
use Rattle.std.specs.Prelude.{Ok, Err, is_some}
use Rattle.toml.specs.Data.{Members}
use Rattle.wall_policy.specs.declared.fault.PolicyFault.{PolicyFault}
use Rattle.wall_policy.specs.Policy.{ChineseWall}
use Rattle.wall_policy.specs.Answer.{tree_of, in_tree, answer_to}
use Rattle.policy_places.specs.declared.sign.Sign.{Sign}
use Rattle.policy_places.specs.declared.sign.Sign.TheVariants.{NotToml}
use Rattle.policy_places.specs.declared.place.Found.{Found}
use Rattle.policy_places.specs.declared.place.Place.{Place}
use Rattle.policy_places.specs.Prefixes.{prefix}
use Rattle.policy_places.specs.Signs.{Known, known_of, shows, sign_of}

-- n, counted from 1, is the first number that passes
pub record IsFirst (test : ℕ → Bool) (n : ℕ) : Type 0 where
  pub counted : 1 ≤ n
  pub here : test n ≡ true
  pub not_before : (m : ℕ) → 1 ≤ m → m < n → test m ≡ false

-- the first n lines are a document that shows the sign
abbrev pub prefix_shows : (text : List ℕ) → Known → Sign → ℕ → Bool
prefix_shows text known sign n = in_tree (shows known sign) (tree_of (prefix n text))

-- The lines before this one are TOML, and no longer part of the text is.
pub record EndsToml (text : List ℕ) (line : ℕ) : Type 0 where
  pub counted : 1 ≤ line
  pub before : is_some (tree_of (prefix (line - 1) text)) ≡ true
  pub behind : (n : ℕ) → line ≤ n → tree_of (prefix n text) ≡ None

-- What is found of a document with this fault: the sign that it shows, on the first line up to
-- which the text shows it. Nothing, where the document shows none of the signs.
abbrev pub IsFoundBy : (text : List ℕ) → (whole : Members) → Option Sign → Option Found → Type 0
IsFoundBy text whole None None = Unit {0}
IsFoundBy text whole (Some sign) (Some found) = (found.sign ≡ sign)
    × IsFirst (prefix_shows text (known_of whole) sign) found.line
IsFoundBy text whole None (Some found) = ⊥
IsFoundBy text whole (Some sign) None = ⊥

-- what is found of a text with this fault, which may be no TOML
abbrev pub IsFoundIn : (text : List ℕ) → PolicyFault → Option Members → Option Found → Type 0
IsFoundIn text fault None None = ⊥
IsFoundIn text fault None (Some found) = (found.sign ≡ NotToml) × EndsToml text found.line
IsFoundIn text fault (Some whole) found = IsFoundBy text whole (sign_of whole fault) found

-- the text has this fault, and that is found of it
pub record IsPlace (text : List ℕ) (place : Place) : Type 0 where
  pub fault : answer_to text ≡ Err place.fault
  pub found : IsFoundIn text place.fault (tree_of text) place.found

-- the place of the fault of a text; none, where it is a policy
abbrev pub IsPlaceIfAny : (text : List ℕ) → Option Place → Type 0
IsPlaceIfAny text None = (wall : ChineseWall) × (answer_to text ≡ Ok wall)
IsPlaceIfAny text (Some place) = IsPlace text place
