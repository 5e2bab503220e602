-- What is so of every hall.
use Rattle.std.specs.Prelude.{◌≡◌, []}
use Rattle.wall_policy.specs.Policy.{ChineseWall, IsPolicy}
use Rattle.run_model.specs.Runs.{Effects}
use Rattle.run_model.specs.Proper.{IsProper}
use Rattle.run_model.specs.Replies.{posts_made}
use Rattle.hall_core.specs.declared.records.Records.{Records}
use Rattle.hall_core.specs.Halls.{HallValue, HallView, StandsForEffects, view_of}
use Rattle.run_model.specs.Known.{PostsHaveKnownLabels}

-- what a hall may stand for: posts that count and bring what they state, whose labels the policy
-- has
pub record IsMade (wall : ChineseWall) (effects : Effects) : Type 0 where
  pub proper : IsProper wall effects
  pub labels : PostsHaveKnownLabels wall (posts_made effects)

-- the policy is one, and the hall stands for something
pub record IsHallView (hall : HallView) : Type 0 where
  pub policy : IsPolicy hall.policy
  pub effects : Effects
  pub stands : StandsForEffects hall effects
  pub is_made : IsMade hall.policy effects

-- the value of these records, with all entries of their book
abbrev pub value_in : Records → HallValue
value_in records = record {
  policy = records.policy;
  post_state = records.post_state;
  asked = records.requests.items;
  settled = records.settled;
  book = record { list = records.book.list; room = records.book.room };
}

abbrev pub view_in : Records → HallView
view_in records = view_of (value_in records)

-- what no call changes: the policy, and the entries of the book that are gone
pub record Keeps (old new : Records) : Type 0 where
  pub policy : new.policy ≡ old.policy
  pub gone : new.book.gone ≡ old.book.gone

-- they are those of a hall that keeps its whole book
pub record IsWhole (records : Records) : Type 0 where
  pub hall : IsHallView (view_in records)
  pub none : records.book.gone ≡ []
