-- What crates above may cite of the lemmas of this crate. Everything else in proofs/ is its own.
pub use Rattle.report_text.proofs.StateLemmas.{comms_are}
pub use Rattle.report_text.proofs.WordLemmas.{ok_then, one_at, writes_more}
