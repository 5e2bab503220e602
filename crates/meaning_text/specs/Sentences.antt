-- The line of each fact and of each warning. (Own format.)
use Rattle.std.specs.Prelude.{◌≡◌, ℕ, ◌<◌, ◌↔◌, nat_eq, Bool, true, false, List, [], ◌++◌, codes}
use Rattle.std.specs.Prelude.{AllPairs, Contains, map, ◌∷◌}
use Rattle.std.specs.Prelude.{if◌then◌else◌}
use Rattle.std.specs.List.{flat_map}
use Rattle.std.specs.Fmt.{decimal}
use Rattle.wall_labels.specs.declared.op.Op.{Op}
use Rattle.wall_labels.specs.Ops.{op_name}
use Rattle.wall_policy.specs.Policy.{ChineseWall}
use Rattle.wall_policy.specs.Rivals.{datasets_in}
use Rattle.coll_text.specs.Words.{name_at}
use Rattle.policy_meaning.specs.declared.fact.Fact.{Fact}
use Rattle.policy_meaning.specs.declared.fact.Fact.TheVariants.{HasClass, AtHome, NoHome}
use Rattle.policy_meaning.specs.declared.fact.Fact.TheVariants.{KeptApart, SanitisedFrom}
use Rattle.policy_meaning.specs.declared.warning.Doubt.{Doubt}
use Rattle.policy_meaning.specs.declared.warning.Doubt.TheVariants.{TooFewProcesses}
use Rattle.policy_meaning.specs.declared.warning.Doubt.TheVariants.{TooFewDatasets, TellsOneFigure}
use Rattle.policy_meaning.specs.declared.warning.Doubt.TheVariants.{ShowsThrough, TwoContributors}
use Rattle.policy_meaning.specs.declared.warning.Doubt.TheVariants.{FewDatasets, BelowAsked}
use Rattle.policy_meaning.specs.declared.warning.Warning.{Warning}
use Rattle.policy_meaning.specs.declared.warning.Warning.TheVariants.{NothingSanitised}
use Rattle.policy_meaning.specs.declared.warning.Warning.TheVariants.{OfOperation, NoRival}
use Rattle.policy_meaning.specs.declared.warning.Warning.TheVariants.{NobodysHome, AnyLabel}
use Rattle.policy_meaning.specs.Facts.{IsFact, fact_place}
use Rattle.policy_meaning.specs.Warnings.{Warns, warning_place, asked}

abbrev pub dataset_name : ChineseWall → ℕ → List ℕ
dataset_name wall d = name_at wall.dataset_names d

abbrev pub process_name : ChineseWall → ℕ → List ℕ
process_name wall p = name_at wall.process_names p

-- the datasets of a class by name, with commas between them; `none`, as no dataset is called, where
-- it has none
abbrev pub joined : List (List ℕ) → List ℕ
joined [] = codes "none"
joined (name ∷ names) = name ++ flat_map (λ other. codes ", " ++ other) names

abbrev pub members_text : ChineseWall → (class : ℕ) → List ℕ
members_text wall class = joined (map (dataset_name wall) (datasets_in wall.classes class))

abbrev pub class_text : ChineseWall → (class : ℕ) → List ℕ
class_text wall class = name_at wall.class_names class ++ codes ": " ++ members_text wall class

abbrev pub home_text : (process dataset : List ℕ) → List ℕ
home_text process dataset = process ++ codes " is at home at " ++ dataset

abbrev pub pair_text : (left right : List ℕ) → List ℕ
pair_text left right = left ++ codes " and " ++ right ++ codes " never hold each other's data"

abbrev pub datasets_text : ℕ → List ℕ
datasets_text n = if nat_eq n 1 then codes "1 dataset" else decimal n ++ codes " datasets"

abbrev pub counts_text : (least distinct : ℕ) → List ℕ
counts_text least distinct = decimal least ++ codes " contributors and " ++ datasets_text distinct

abbrev pub numbers_text : Op → (least distinct : ℕ) → List ℕ
numbers_text op least distinct =
    op_name op ++ codes " is sanitised from " ++ counts_text least distinct ++ codes " on"

abbrev pub fact_text : ChineseWall → Fact → List ℕ
fact_text wall (HasClass class) = class_text wall class
fact_text wall (AtHome p d) = home_text (process_name wall p) (dataset_name wall d)
fact_text wall (NoHome p) = process_name wall p ++ codes " has no home"
fact_text wall (KeptApart p q) = pair_text (process_name wall p) (process_name wall q)
fact_text wall (SanitisedFrom op least distinct) = numbers_text op least distinct

-- the number that a sum should take, and where the page says why
abbrev pub number_text : (number : ℕ) → List ℕ
number_text number = decimal number ++ codes " datasets on: \"Which number\" in POLICY.md"

-- what is said of a sum that takes fewer different datasets than it should
abbrev pub asked_text : (number : ℕ) → List ℕ
asked_text number = codes " is sanitised from fewer than " ++ number_text number

-- what is said of an operation, behind its name
abbrev pub doubt_text : ChineseWall → Doubt → List ℕ
doubt_text wall TooFewProcesses =
    codes " is never sanitised: it takes more contributors than there are processes"
doubt_text wall TooFewDatasets =
    codes " is never sanitised: it takes more datasets than the processes can give data of"
doubt_text wall TellsOneFigure = codes " is sanitised, though its result is one member's figure"
doubt_text wall ShowsThrough = codes " is sanitised, though a single 0 or 1 shows in its result"
doubt_text wall TwoContributors =
    codes " is sanitised from 2 contributors on: each can learn the other's figure"
doubt_text wall FewDatasets =
    codes " is sanitised from 1 or 2 datasets on: a firm can learn its rival's figure"
doubt_text wall BelowAsked = asked_text (asked wall)

abbrev pub warning_text : ChineseWall → Warning → List ℕ
warning_text wall NothingSanitised = codes "no result is ever sanitised: there is no sanitise rule"
warning_text wall (OfOperation op doubt) = op_name op ++ doubt_text wall doubt
warning_text wall (NoRival d) =
    dataset_name wall d ++ codes " has no rival: its data may reach everybody"
warning_text wall (NobodysHome d) = codes "no process is at home at " ++ dataset_name wall d
warning_text wall (AnyLabel p) =
    process_name wall p ++ codes " has no home: it may write any label on a zero"

abbrev pub fact_line : ChineseWall → Fact → List ℕ
fact_line wall fact = fact_text wall fact ++ codes "\n"

abbrev pub is_pair : Fact → Bool
is_pair (KeptApart p q) = true
is_pair _ = false

-- the line of a fact that is no pair, and of one that is; nothing of another
abbrev pub plain_line : ChineseWall → Fact → List ℕ
plain_line wall fact = if is_pair fact then [] else fact_line wall fact

abbrev pub pair_line : ChineseWall → Fact → List ℕ
pair_line wall fact = if is_pair fact then fact_line wall fact else []

abbrev pub warning_line : ChineseWall → Warning → List ℕ
warning_line wall warning = codes "warning: " ++ warning_text wall warning ++ codes "\n"

-- The lines of all facts of the policy but the pairs, of all warnings that are due to it, and of the
-- pairs, each in their orders: the pairs come last, since they are many.
pub record IsMeaning (wall : ChineseWall) (text : List ℕ) : Type 0 where
  pub facts : List Fact
  pub warnings : List Warning
  pub all_facts : (fact : Fact) → Contains facts fact ↔ IsFact wall fact
  pub facts_in_order : AllPairs (λ a b. fact_place a < fact_place b) facts
  pub all_warnings : (warning : Warning) → Contains warnings warning ↔ Warns wall warning
  pub warnings_in_order : AllPairs (λ a b. warning_place a < warning_place b) warnings
  pub lines : text ≡ flat_map (plain_line wall) facts ++ flat_map (warning_line wall) warnings
      ++ flat_map (pair_line wall) facts
