-- What crates above may cite of the lemmas of this crate. Everything else in proofs/ is its own.
pub use Rattle.audit_book.proofs.AgainLemmas.{entry_line_again, entry_line_whole}
pub use Rattle.audit_book.proofs.AgainLemmas.{line_lacks, header_whole}
pub use Rattle.audit_book.proofs.AuditLemmas.{none_missing, one_missing, stops_behind, within_more}
pub use Rattle.audit_book.proofs.BookLemmas.{all_lines, book_found, done, end_step, ended_found}
pub use Rattle.audit_book.proofs.BookLemmas.{ended_lines, header_step, line_text, lines_are}
pub use Rattle.audit_book.proofs.BookLemmas.{lines_more, more_found, said_lines, same_done}
pub use Rattle.audit_book.proofs.BookLemmas.{text_in_lines}
pub use Rattle.audit_book.proofs.CheckLemmas.{accepted_is, bare_posts, few_is, word_is}
pub use Rattle.audit_book.proofs.FaultLemmas.{cut_found, no_bad_cut, parts_lines, parts_more}
pub use Rattle.audit_book.proofs.FaultLemmas.{some_parts}
pub use Rattle.audit_book.proofs.ReadLemmas.{with_none}
pub use Rattle.audit_book.proofs.StepLemmas.{bad_end, length_prefix, ok_more, post_counts}
pub use Rattle.audit_book.proofs.StepLemmas.{err_more, posts_few, take_more}
pub use Rattle.audit_book.proofs.TextAgainLemmas.{book_again, book_cut, entries_again}
pub use Rattle.audit_book.proofs.TextAgainLemmas.{header_again}
pub use Rattle.audit_book.proofs.TextAgainLemmas.{lines_whole, parts_ended, step_again}
