-- What the facts and the warnings of a policy name is the policy's.
use Rattle.std.specs.Prelude.{◌↔◌, List, All, Contains}
use Rattle.std.proofs.lemmas.List.Elements.{All-weaker, All-contains_itself}
use Rattle.wall_policy.specs.Policy.{ChineseWall, IsPolicy}
use Rattle.policy_meaning.specs.declared.fact.Fact.{Fact}
use Rattle.policy_meaning.specs.declared.warning.Warning.{Warning}
use Rattle.policy_meaning.specs.Facts.{IsFact}
use Rattle.policy_meaning.specs.Warnings.{Warns}
use Rattle.policy_meaning.specs.Known.{IsKnownFact, IsKnownWarning}
use Rattle.policy_meaning.proofs.PolicyMeaningLemmas.{known, known_fact}

pub known_facts : (wall : ChineseWall) (list : List Fact) → IsPolicy wall
    → ((fact : Fact) → Contains list fact ↔ IsFact wall fact) → All (IsKnownFact wall) list
known_facts wall list policy all = All-weaker (Contains list) (IsKnownFact wall)
    (λ fact has. known_fact wall fact policy ((all fact).0 has)) list (All-contains_itself list)

pub known_warnings : (wall : ChineseWall) (list : List Warning)
    → ((warning : Warning) → Contains list warning ↔ Warns wall warning) →
    All (IsKnownWarning wall) list
known_warnings wall list all = All-weaker (Contains list) (IsKnownWarning wall)
    (λ warning has. known wall warning ((all warning).0 has)) list (All-contains_itself list)
