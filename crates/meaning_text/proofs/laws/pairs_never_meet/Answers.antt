use Rattle.std.proofs.Common.{ℕ, sym}
use Rattle.wall_policy.specs.Policy.{ChineseWall}
use Rattle.policy_meaning.specs.Facts.{AreKeptApart}
use Rattle.meaning_text.proofs.laws.pairs_never_meet.Goals as goal

-- who is kept apart from whom does not depend on the order
turned : (wall : ChineseWall) (p q : ℕ) → AreKeptApart wall p q → AreKeptApart wall q p
turned wall p q apart = record {
  left = apart.right;
  right = apart.left;
  left_home = apart.right_home;
  right_home = apart.left_home;
  rivals = (
    λ same. apart.rivals.0 (sym same),
    (apart.rivals.1.0, apart.rivals.1.2, apart.rivals.1.1),
  );
}

pub returns : goal.returns
returns c = λ wall run p q policy legal fact. (
  λ d home. c.kept_apart_never_meet.ensures wall run p q d policy legal fact.1 home,
  λ d home. c.kept_apart_never_meet.ensures wall run q p d policy legal (turned wall p q fact.1)
      home,
)
