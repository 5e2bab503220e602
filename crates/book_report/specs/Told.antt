-- How far one walk has come by all that it tells: words of private contracts.
use Rattle.std.specs.Prelude.{ℕ, List}
use Rattle.wall_policy.specs.Policy.{ChineseWall}
use Rattle.run_model.specs.declared.entry.Entry.{Entry}
use Rattle.book_report.specs.declared.told.Told.{Told}
use Rattle.book_report.specs.Walk.{HasCome}
use Rattle.book_report.specs.Bars.{AreBarsTo}
use Rattle.book_report.specs.Clean.{AreSanitisedUpTo}
use Rattle.book_report.specs.Reasons.{AreDenialsTo}

-- after n entries the state stands for their posts, and all is told that these brought
pub record HasTold (wall : ChineseWall) (entries : List Entry) (n : ℕ) (told : Told) : Type 0 where
  pub come : HasCome wall entries n told.post_state told.known
  pub bars : AreBarsTo wall entries n told.bars.items
  pub sanitised : AreSanitisedUpTo wall entries n told.sanitised.items
  pub denials : AreDenialsTo wall entries n told.denials.items
