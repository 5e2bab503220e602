-- What crates above may cite of the lemmas of this crate. Everything else in proofs/ is its own.
pub use Rattle.wall_rules.proofs.HeldLemmas.{first_is_known, opening_can_be_held}
pub use Rattle.wall_rules.proofs.HistoryLemmas.{opening-Decides, opening-apart}
pub use Rattle.wall_rules.proofs.LeastLemmas.{least-none, none-least}
pub use Rattle.wall_rules.proofs.RuleLemmas.{first_other-none, first_other-some, first_rival-alike}
pub use Rattle.wall_rules.proofs.RuleLemmas.{first_rival-none, first_rival-some, no_rivals-empty}
pub use Rattle.wall_rules.proofs.RuleLemmas.{no_rivals-grows, no_rivals-insert, no_rivals-part}
pub use Rattle.wall_rules.proofs.RuleLemmas.{no_rivals-star, none-first_rival, second_class}
