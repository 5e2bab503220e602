-- What a policy says, fact by fact. (Own rules, in the words of the policy's definition.)
use Rattle.std.specs.Prelude.{◌≡◌, ℕ, ◌<◌, ◌+◌, ◌*◌, length, Some, None}
use Rattle.wall_labels.specs.Ops.{op_number}
use Rattle.wall_policy.specs.Policy.{ChineseWall, home_of, least_of, distinct_of}
use Rattle.wall_policy.specs.Rivals.{AreRivals}
use Rattle.policy_meaning.specs.declared.fact.Fact.{Fact}
use Rattle.policy_meaning.specs.declared.fact.Fact.TheVariants.{HasClass, AtHome, NoHome}
use Rattle.policy_meaning.specs.declared.fact.Fact.TheVariants.{KeptApart, SanitisedFrom}

-- p and q are at home at two rivals
pub record AreKeptApart (wall : ChineseWall) (p q : ℕ) : Type 0 where
  pub left : ℕ
  pub right : ℕ
  pub left_home : home_of wall p ≡ Some left
  pub right_home : home_of wall q ≡ Some right
  pub rivals : AreRivals wall.classes left right

-- what the policy says
abbrev pub IsFact : ChineseWall → Fact → Type 0
IsFact wall (HasClass class) = class < length wall.class_names
IsFact wall (AtHome p d) = home_of wall p ≡ Some d
IsFact wall (NoHome p) = (p < length wall.process_names) × (home_of wall p ≡ None)
IsFact wall (KeptApart p q) = (p < q) × AreKeptApart wall p q
IsFact wall (SanitisedFrom op least distinct) =
    (least_of wall op ≡ Some least) × (distinct_of wall op ≡ Some distinct)

-- Where a fact stands among all facts: classes, then processes, then pairs, then operations, each
-- by number. There are no more than 1,024 classes and 256 processes.
abbrev pub fact_place : Fact → ℕ
fact_place (HasClass class) = class
fact_place (AtHome p d) = 1024 + p
fact_place (NoHome p) = 1024 + p
fact_place (KeptApart p q) = 1280 + (256 * p + q)
fact_place (SanitisedFrom op least distinct) = 66816 + op_number op
