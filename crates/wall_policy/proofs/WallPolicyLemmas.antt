-- What crates above may cite of the lemmas of this crate. Everything else in proofs/ is its own.
pub use Rattle.wall_policy.proofs.PlaceLemmas.{list_all-place, place_of-name}
pub use Rattle.wall_policy.proofs.RivalLemmas.{are_rivals-Decides, are_rivals-symmetric}
pub use Rattle.wall_policy.proofs.RivalLemmas.{rivals_in_prefix, rivals_turned}
pub use Rattle.wall_policy.proofs.PrefixLemmas.{has_pair-prefix, has_at_first-prefix}
pub use Rattle.wall_policy.proofs.PrefixLemmas.{first_processes-IsPolicy}
pub use Rattle.wall_policy.proofs.RenumberLemmas.{grown_files_grow}
pub use Rattle.wall_policy.proofs.NumberingLemmas.{grown_files_are_policies}
