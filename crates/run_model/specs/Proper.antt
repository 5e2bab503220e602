-- What a legal run makes, in words that need no run. A list of posts has the newest first.
use Rattle.std.specs.Prelude.{◌≡◌, ◌<◌, ℕ, List, [], ◌∷◌, length, true, false, Some}
use Rattle.wall_policy.specs.Policy.{ChineseWall}
use Rattle.mpi_elems.specs.declared.elem_type.ElemType.{ElemType}
use Rattle.mpi_elems.specs.Contents.{Contents, elements}
use Rattle.coll_routes.specs.declared.statement.Stated.{Stated}
use Rattle.coll_routes.specs.Signatures.{elem_type}
use Rattle.run_model.specs.Books.{AreCounted}
use Rattle.run_model.specs.Contributions.{Contribution}
use Rattle.run_model.specs.Runs.{Effects, requests}
use Rattle.run_model.specs.Replies.{posts_made}

-- the part has as many elements as its post states, of the type that the signature has, if it has
-- one
pub record IsAsStated (stated : Stated) (part : Contents) : Type 0 where
  pub number : length (elements part) ≡ stated.given
  pub of_type : (ty : ElemType) → elem_type stated.sig ≡ Some ty → part.elem_type ≡ ty

-- each post that passed brought what it states
abbrev pub AreAsStated : List (Contribution Contents) → Type 0
AreAsStated [] = Unit {0}
AreAsStated (g ∷ past) =
    AreAsStated past × (g.post.stated.barred ≡ false → IsAsStated g.post.stated g.part)

-- What a legal run makes is proper: each post counts, and brought what it states if it passed; a
-- request that was taken had been given.
pub record IsProper (wall : ChineseWall) (effects : Effects) : Type 0 where
  pub posts : AreCounted wall (posts_made effects)
  pub parts : AreAsStated effects.contributions
  pub given : (p request : ℕ) → effects.taken p request ≡ true →
      request < length (requests p (posts_made effects))
