-- What crates above may cite of the lemmas of this crate. Everything else in proofs/ is its own.
pub use Rattle.coll_routes.proofs.AnyLemmas.{any_at, any_found, any_none}
pub use Rattle.coll_routes.proofs.BlockLemmas.{empty_block, even_whole, size_inside, size_more}
pub use Rattle.coll_routes.proofs.BlockLemmas.{sum_prefix}
pub use Rattle.coll_routes.proofs.LaneLemmas.{count_is_good, met}
pub use Rattle.coll_routes.proofs.FitLemmas.{fit_decides, is_there, no_fault, sends_is}
pub use Rattle.coll_routes.proofs.LawLemmas.{empty_ranks_reach_nobody, it_is}
pub use Rattle.coll_routes.proofs.RouteLemmas.{by_place}
pub use Rattle.coll_routes.proofs.SenderLemmas.{stated_there}
pub use Rattle.coll_routes.proofs.SignatureLemmas.{same_signatures_are_equal, signature_is, type_is}
