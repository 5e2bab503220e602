-- A run that does not stand can be told; what is past keeps the wall.
use Rattle.std.proofs.Common.{◌≡◌, ℕ, List, Option, Some, None, IfSome, IfNone, refl, sym, subst}
use Rattle.std.proofs.lemmas.Option.{slice_get_within}
use Rattle.wall_policy.specs.Policy.{ChineseWall, IsPolicy}
use Rattle.wall_policy.specs.declared.growth.GrowthFault.{GrowthFault}
use Rattle.wall_policy.specs.declared.growth.GrowthFault.TheVariants as growths
use Rattle.wall_policy.specs.GrowthFaults.{IsGrowthFault}
use Rattle.run_model.specs.Chains.{Link, IsChain}
use Rattle.run_model.specs.Years.{OverYears}
use Rattle.run_model.proofs.RunModelLemmas.{book_is_sound, chains_keep_the_wall, legal_proper}
use Rattle.run_model.specs.Books.{book}
use Rattle.run_model.specs.Runs.{posts}
use Rattle.hall_script.specs.Devices.{Used}
use Rattle.chain_file.specs.declared.run.Begun.{Begun}
use Rattle.chain_file.specs.declared.run.Run.{Run}
use Rattle.chain_file.specs.Text.{Chain}
use Rattle.chain_file.specs.Reading.{no_runs}
use Rattle.chain_file.specs.Walks.{IsLastHead}
use Rattle.chain_runs.specs.declared.fault.RunFault.{RunFault}
use Rattle.chain_runs.specs.declared.fault.RunFault.TheVariants as runs
use Rattle.chain_runs.specs.declared.runs.Broken.{Broken}
use Rattle.chain_runs.specs.declared.runs.Past.{Past}
use Rattle.chain_runs.specs.Runs.{IsChainAfter}
use Rattle.chain_runs.specs.Faults.{HasNotGrown, IsNoNext, IsNotBegun}
use Rattle.chain_runs.specs.Chains.{IsBroken, IsNotRead}
use Rattle.program_commands.specs.Earlier.{YearsKeepTheWall, WasHadOnce}
use Rattle.program_commands.specs.ChainLines.{IsNamed, HasName, CanBeTold}
use Rattle.program_commands.specs.ChainWalls.{GoesOnAfter}

-- what has not grown is named in the policy before
named_there : (after file : ChineseWall) (fault : GrowthFault) → IsGrowthFault after file fault →
    IsNamed after fault
named_there after file (growths.Process p) h = h.there
named_there after file (growths.Home p) h = h.there
named_there after file (growths.Class c) h = slice_get_within after.class_names c h.name h.named
named_there after file (growths.Dataset d) h =
    slice_get_within after.dataset_names d h.name h.named
named_there after file (growths.Moved d) h = slice_get_within after.dataset_names d h.name h.named
named_there after file growths.NoMemory h = tt

named_if_any : (after : Option ChineseWall) (file : ChineseWall) (fault : GrowthFault) →
    HasNotGrown after file fault → (wall : ChineseWall) × (after ≡ Some wall) × IsNamed wall fault
named_if_any None file fault h = absurd h
named_if_any (Some after) file fault h = (after, refl, named_there after file fault h.0)

-- so of the policy of the next run, and of one that began
pub next_named : {P : Type 0} (after : Option ChineseWall) (policy : Used P) (fault : RunFault) →
    IsNoNext after policy fault → HasName after fault
next_named after policy runs.UnreadPolicy h = tt
next_named after policy runs.OtherPolicy h = tt
next_named after policy (runs.BadPolicy f) h = tt
next_named after policy (runs.NotGrown f) h = named_if_any after h.2.0 f h.2.2
next_named after policy (runs.BadBook f) h = tt
next_named after policy runs.OtherBook h = tt
next_named after policy runs.TooMany h = tt
next_named after policy runs.NoMemory h = tt

pub begun_named : {P : Type 0} (after : Option ChineseWall) (begun : Begun) (policy : Used P)
    (fault : RunFault) → IsNotBegun after begun policy fault → HasName after fault
begun_named after begun policy runs.UnreadPolicy h = tt
begun_named after begun policy runs.OtherPolicy h = tt
begun_named after begun policy (runs.BadPolicy f) h = tt
begun_named after begun policy (runs.NotGrown f) h = named_if_any after h.0 f h.2
begun_named after begun policy (runs.BadBook f) h = tt
begun_named after begun policy runs.OtherBook h = tt
begun_named after begun policy runs.TooMany h = tt
begun_named after begun policy runs.NoMemory h = tt

module _ {D : Type 0} (fails : D → ℕ) (left : D → Option (List ℕ))
    (is_at : D → List ℕ → Type 0) where
  pub has_name : (past : Past) (run : Run) (fault : RunFault) →
      IsNotRead fails left is_at past run fault → HasName past.policy fault
  has_name past run runs.UnreadPolicy h = tt
  has_name past run runs.OtherPolicy h = tt
  has_name past run (runs.BadPolicy f) h = tt
  has_name past run (runs.NotGrown f) h = named_if_any past.policy h.2.0.0 f h.2.0.2
  has_name past run (runs.BadBook f) h = tt
  has_name past run runs.OtherBook h = tt
  has_name past run runs.TooMany h = tt
  has_name past run runs.NoMemory h = tt

  pub can_be_told : (all : List Run) (broken : Broken) → IsBroken fails left is_at all broken →
      CanBeTold broken
  can_be_told all broken b = subst (λ o. HasName o broken.fault) (sym b.after)
      (has_name b.past b.one broken.fault b.fault)

-- what is past keeps the wall, over all its policies
pub years_kept : (policy : Option ChineseWall) (links : List Link) → IsChainAfter policy links →
    IfSome policy IsPolicy → OverYears → IfSome policy (YearsKeepTheWall links)
years_kept None links chain is over = tt
years_kept (Some wall) links chain is over = λ run p d e legal were held_d held_e.
    over.apart links wall run p d e is chain legal were held_d held_e

pub had_once : (policy : Option ChineseWall) (links : List Link) → IsChainAfter policy links →
    OverYears → IfSome policy (WasHadOnce links)
had_once None links chain over = tt
had_once (Some wall) links chain over =
    λ p d low nothing held. over.had links wall p d low nothing chain held

-- behind these books, under the policy after them, the wall is kept
pub goes_on : (links : List Link) (wall : ChineseWall) → IsChain links wall → IsPolicy wall →
    OverYears → GoesOnAfter links wall
goes_on links wall chain is over = record {
  chain = chain;
  runs_keep = λ run legal. chains_keep_the_wall links wall (book wall (posts run)) is chain
      (book_is_sound wall (posts run) (legal_proper wall run legal).posts);
  years_keep = λ run p d e legal were held_d held_e. over.apart links wall run p d e is chain legal
      were held_d held_e;
  had = λ p d low nothing held. over.had links wall p d low nothing chain held;
}

pub last_head : (file : Chain) (head : Option (List ℕ)) → IfNone head (file ≡ no_runs) →
    IfSome head (λ h. IsLastHead file (Some h)) → IsLastHead file head
last_head file None none some = none
last_head file (Some h) none some = some
