-- What crates above may cite of the lemmas of this crate. Everything else in proofs/ is its own.
pub use Rattle.wall_verdict.proofs.LawLemmas.{granted_apart, grants_are_joint, member_at}
pub use Rattle.wall_verdict.proofs.LawLemmas.{verdicts_name_the_least}
pub use Rattle.wall_verdict.proofs.MeaningLemmas.{charges_are_labels, label_is, one_that}
pub use Rattle.wall_verdict.proofs.PairLemmas.{none_at}
