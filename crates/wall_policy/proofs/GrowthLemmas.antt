-- A policy that keeps all of an earlier one has grown from it, and one with a fault has not.
use Rattle.std.proofs.Common.{◌≡◌, ℕ, length, Some, None, slice_get, refl, sym, ap, ◌∙◌}
use Rattle.std.proofs.Common.{arith}
use Rattle.std.specs.Prelude.{Result, Ok, Err, IfOk, option_and_then}
use Rattle.std.proofs.lemmas.Bool.{false≢true}
use Rattle.std.proofs.lemmas.Option.{slice_get_within}
use Rattle.wall_policy.specs.declared.growth.GrowthFault.{GrowthFault}
use Rattle.wall_policy.specs.declared.growth.GrowthFault.TheVariants.{Process, Home, Class, Dataset}
use Rattle.wall_policy.specs.declared.growth.GrowthFault.TheVariants.{Moved, NoMemory}
use Rattle.wall_policy.specs.Names.{Name}
use Rattle.wall_policy.specs.Policy.{ChineseWall, IsPolicy}
use Rattle.wall_policy.specs.Growth.{HasGrown, class_name, class_name_of}
use Rattle.wall_policy.specs.GrowthFaults.{KeepsProcesses, KeepsClasses, KeepsDatasets}
use Rattle.wall_policy.specs.GrowthFaults.{IsGrowthFault}
use Rattle.wall_policy.proofs.PlaceLemmas.{place_of-name}
use Rattle.wall_policy.proofs.RenumberLemmas.{get_low}
use Rattle.wall_policy.proofs.NumberingLemmas.{not_there}

pub keeps_all : (old new : ChineseWall) → KeepsProcesses old new (length old.process_names) →
    KeepsClasses old new (length old.class_names) →
    KeepsDatasets old new (length old.dataset_names) → HasGrown old new
keeps_all old new processes classes datasets = record {
  processes = processes;
  classes = λ c name at. classes c name (slice_get_within old.class_names c name at) at;
  datasets = λ d name at. datasets d name (slice_get_within old.dataset_names d name at) at;
}

-- each dataset of a policy is in a class that has a name
class_named : (w : ChineseWall) → IsPolicy w → (d : ℕ) (name : Name) →
    slice_get w.dataset_names d ≡ Some name → (n : Name) × (class_name_of w name ≡ Some n)
class_named w is d name at =
    let of_each = is.class_for_each in
    let low = slice_get_within w.dataset_names d name at in
    let class = get_low w.classes d (omega (arith, of_each, low)) in
    let named = get_low w.class_names class.0 (is.known_classes d class.0 class.1) in (
      named.0,
      ap (λ p. option_and_then (class_name w) p)
          (place_of-name w.dataset_names d name is.distinct_datasets at)
          ∙ ap (λ c. option_and_then (λ k. slice_get w.class_names k) c) class.1
          ∙ named.1,
    )

pub not_grown : (old new : ChineseWall) (fault : GrowthFault) → IsPolicy old →
    IsGrowthFault old new fault → (fault ≡ NoMemory → ⊥) → HasGrown old new → ⊥
not_grown old new (Process p) policy is known grown = is.name (grown.processes p is.there).name
not_grown old new (Home p) policy is known grown = is.home (grown.processes p is.there).home
not_grown old new (Class c) policy is known grown =
    false≢true (sym is.gone ∙ grown.classes c is.name is.named)
not_grown old new (Dataset d) policy is known grown =
    let named = class_named old policy d is.name is.named in
    let none : None ≡ Some named.0 = sym (ap (λ p. option_and_then (class_name new) p)
    (not_there is.name 0 new.dataset_names is.gone))
    ∙ grown.datasets d is.name is.named ∙ named.1 in
    absurd cc
not_grown old new (Moved d) policy is known grown = is.moved (grown.datasets d is.name is.named)
not_grown old new NoMemory policy is known grown = known refl

-- what an answer says if it is one, said in other words
pub if_ok : {X E : Type 0} (P Q : X → Type 0) (r : Result X E) → ((x : X) → P x → Q x) →
    IfOk r P → IfOk r Q
if_ok P Q (Ok x) says h = says x h
if_ok P Q (Err e) says h = h
