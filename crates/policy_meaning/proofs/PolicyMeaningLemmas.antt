-- What crates above may cite of the lemmas of this crate. Everything else in proofs/ is its own.
pub use Rattle.policy_meaning.proofs.FactLemmas.{known_fact}
pub use Rattle.policy_meaning.proofs.WarningLemmas.{known}
