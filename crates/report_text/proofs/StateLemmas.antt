-- The communicators of a state.
use Rattle.std.proofs.Common.{◌≡◌, List, ap, ◌∙◌}
use Rattle.wall_policy.specs.Policy.{ChineseWall}
use Rattle.run_model.specs.Posts.{Post, comms}
use Rattle.run_state.specs.Views.{PostStateValue}
use Rattle.audit_book.specs.Checks.{Stands}
use Rattle.audit_book.proofs.AuditBookLemmas.{bare_posts}

-- the communicators of a state are those that its posts make
pub comms_are : (wall : ChineseWall) (post_state : PostStateValue (Unit {0})) (posts : List Post) →
    Stands wall post_state posts → post_state.comms ≡ comms wall posts
comms_are wall post_state posts stands = stands.comms ∙ ap (comms wall) (bare_posts posts)
