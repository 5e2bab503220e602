-- The worked runs of TypeRows, by computation.
use Rattle.std.proofs.Common.{[], ◌∷◌, pos, refl, ⊎_elim}
use Rattle.coll_values.specs.declared.delivery.Block.TheVariants.{Numbers}
use Rattle.run_model.specs.declared.reply.Reply.TheVariants.{Delivered}
use Rattle.run_model.specs.RunRows.{LegalList, two_of_alpha}
use Rattle.run_model.specs.TypeRows.{both_ends_of_each_type, orders_sums_and_truth, bits_and_places}
use Rattle.run_model.proofs.RunRowProofs.{opened, due_is_legal}

pub both_ends_of_each_type_is_legal : LegalList two_of_alpha both_ends_of_each_type
unfolding opened
both_ends_of_each_type_is_legal = due_is_legal two_of_alpha both_ends_of_each_type refl

pub orders_sums_and_truth_is_legal :
    LegalList two_of_alpha (orders_sums_and_truth (Delivered (Numbers (pos 0 ∷ []) ∷ [])))
unfolding opened
orders_sums_and_truth_is_legal =
    due_is_legal two_of_alpha (orders_sums_and_truth (Delivered (Numbers (pos 0 ∷ []) ∷ []))) refl

pub orders_sums_and_truth_is_wrong_1 :
    LegalList two_of_alpha (orders_sums_and_truth (Delivered (Numbers (pos 1 ∷ []) ∷ []))) → ⊥
unfolding opened
orders_sums_and_truth_is_wrong_1 h =
    ⊎_elim (λ e. absurd (cc e)) (λ e. absurd (let no = e.1 in cc)) h.1

pub orders_sums_and_truth_is_wrong_2 :
    LegalList two_of_alpha (orders_sums_and_truth (Delivered (Numbers (pos 5 ∷ []) ∷ []))) → ⊥
unfolding opened
orders_sums_and_truth_is_wrong_2 h =
    ⊎_elim (λ e. absurd (cc e)) (λ e. absurd (let no = e.1 in cc)) h.1

pub orders_sums_and_truth_is_wrong_3 :
    LegalList two_of_alpha (orders_sums_and_truth (Delivered (Numbers (pos 7 ∷ []) ∷ []))) → ⊥
unfolding opened
orders_sums_and_truth_is_wrong_3 h =
    ⊎_elim (λ e. absurd (cc e)) (λ e. absurd (let no = e.1 in cc)) h.1

pub bits_and_places_is_legal :
    LegalList two_of_alpha (bits_and_places (Delivered (Numbers (pos 3 ∷ pos 2 ∷ []) ∷ [])))
unfolding opened
bits_and_places_is_legal =
    due_is_legal two_of_alpha (bits_and_places (Delivered (Numbers (pos 3 ∷ pos 2 ∷ []) ∷ []))) refl

pub bits_and_places_is_wrong_1 :
    LegalList two_of_alpha (bits_and_places (Delivered (Numbers (pos 3 ∷ pos 4 ∷ []) ∷ []))) → ⊥
unfolding opened
bits_and_places_is_wrong_1 h = ⊎_elim (λ e. absurd (cc e)) (λ e. absurd (let no = e.1 in cc)) h.1

pub bits_and_places_is_wrong_2 :
    LegalList two_of_alpha (bits_and_places (Delivered (Numbers (pos 2 ∷ pos 3 ∷ []) ∷ []))) → ⊥
unfolding opened
bits_and_places_is_wrong_2 h = ⊎_elim (λ e. absurd (cc e)) (λ e. absurd (let no = e.1 in cc)) h.1
