-- What crates above may cite of the lemmas of this crate. Everything else in proofs/ is its own.
pub use Rattle.coll_values.proofs.FormLemmas.{forms_are_of_forms, map_cons_option}
pub use Rattle.coll_values.proofs.LawLemmas.{values_are_of_routed_elements}
pub use Rattle.coll_values.proofs.RoomLemmas.{map_map}
pub use Rattle.coll_values.proofs.WholeLemmas.{one_form}
