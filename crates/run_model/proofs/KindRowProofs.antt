-- The worked runs of KindRows, by computation.
use Rattle.std.proofs.Common.{[], ◌∷◌, pos, refl, ⊎_elim, None}
use Rattle.coll_values.specs.declared.delivery.Block.TheVariants.{Missing, Numbers}
use Rattle.run_model.specs.declared.refusal.Refusal.TheVariants.{NoSuchComm, NotMember}
use Rattle.run_model.specs.declared.reply.Reply.TheVariants.{Delivered}
use Rattle.run_model.specs.declared.reply.Reply.TheVariants.{Info, Refused}
use Rattle.run_model.specs.RunRows.{LegalList, four_of_alpha}
use Rattle.run_model.specs.KindRows.{gathers, scatters, exchanges, reductions_by_root_and_block}
use Rattle.run_model.specs.KindRows.{all_gather_and_wait, neighbours_of_a_line, empty_and_reordered}
use Rattle.run_model.proofs.RunRowProofs.{opened, due_is_legal}

pub gathers_is_legal : LegalList four_of_alpha (gathers (Delivered []))
unfolding opened
gathers_is_legal = due_is_legal four_of_alpha (gathers (Delivered [])) refl

pub gathers_is_wrong_1 :
    LegalList four_of_alpha (gathers (Delivered (Numbers (pos 1 ∷ pos 2 ∷ []) ∷ Numbers []
    ∷ Numbers (pos 3 ∷ []) ∷ Numbers (pos 4 ∷ pos 5 ∷ pos 6 ∷ []) ∷ []))) → ⊥
unfolding opened
gathers_is_wrong_1 h = ⊎_elim (λ e. absurd (cc e)) (λ e. absurd (let no = e.1 in cc)) h.1

pub gathers_is_wrong_2 : LegalList four_of_alpha (gathers (Delivered (Numbers [] ∷ []))) → ⊥
unfolding opened
gathers_is_wrong_2 h = ⊎_elim (λ e. absurd (cc e)) (λ e. absurd (let no = e.1 in cc)) h.1

pub scatters_is_legal :
    LegalList four_of_alpha (scatters (Delivered (Numbers (pos 65535 ∷ []) ∷ [])))
unfolding opened
scatters_is_legal =
    due_is_legal four_of_alpha (scatters (Delivered (Numbers (pos 65535 ∷ []) ∷ []))) refl

pub scatters_is_wrong_1 :
    LegalList four_of_alpha (scatters (Delivered (Numbers (pos 3 ∷ []) ∷ []))) → ⊥
unfolding opened
scatters_is_wrong_1 h = ⊎_elim (λ e. absurd (cc e)) (λ e. absurd (let no = e.1 in cc)) h.1

pub scatters_is_wrong_2 : LegalList four_of_alpha (scatters (Delivered [])) → ⊥
unfolding opened
scatters_is_wrong_2 h = ⊎_elim (λ e. absurd (cc e)) (λ e. absurd (let no = e.1 in cc)) h.1

pub exchanges_is_legal : LegalList four_of_alpha (exchanges (Delivered
    (Numbers (pos 6 ∷ pos 7 ∷ []) ∷ Numbers [] ∷ Numbers (pos 4 ∷ []) ∷ Numbers (pos 9 ∷ [])
    ∷ [])))
unfolding opened
exchanges_is_legal = due_is_legal four_of_alpha (exchanges (Delivered
    (Numbers (pos 6 ∷ pos 7 ∷ []) ∷ Numbers [] ∷ Numbers (pos 4 ∷ []) ∷ Numbers (pos 9 ∷ [])
    ∷ []))) refl

pub exchanges_is_wrong_1 :
    LegalList four_of_alpha (exchanges (Delivered
    (Numbers [] ∷ Numbers [] ∷ Numbers (pos 4 ∷ []) ∷ Numbers (pos 9 ∷ []) ∷ []))) →
    ⊥
unfolding opened
exchanges_is_wrong_1 h = ⊎_elim (λ e. absurd (cc e)) (λ e. absurd (let no = e.1 in cc)) h.1

pub exchanges_is_wrong_2 :
    LegalList four_of_alpha (exchanges (Delivered (Numbers (pos 6 ∷ pos 7 ∷ [])
    ∷ Numbers (pos 4 ∷ []) ∷ Numbers (pos 9 ∷ []) ∷ []))) → ⊥
unfolding opened
exchanges_is_wrong_2 h = ⊎_elim (λ e. absurd (cc e)) (λ e. absurd (let no = e.1 in cc)) h.1

pub reductions_by_root_and_block_is_legal :
    LegalList four_of_alpha (reductions_by_root_and_block (Delivered (Numbers (pos 9 ∷ []) ∷ [])))
unfolding opened
reductions_by_root_and_block_is_legal = due_is_legal four_of_alpha
    (reductions_by_root_and_block (Delivered (Numbers (pos 9 ∷ []) ∷ []))) refl

pub reductions_by_root_and_block_is_wrong_1 :
    LegalList four_of_alpha
    (reductions_by_root_and_block (Delivered (Numbers (pos 4 ∷ []) ∷ []))) → ⊥
unfolding opened
reductions_by_root_and_block_is_wrong_1 h =
    ⊎_elim (λ e. absurd (cc e)) (λ e. absurd (let no = e.1 in cc)) h.1

pub reductions_by_root_and_block_is_wrong_2 :
    LegalList four_of_alpha
    (reductions_by_root_and_block (Delivered (Numbers (pos 9 ∷ pos 9 ∷ []) ∷ []))) → ⊥
unfolding opened
reductions_by_root_and_block_is_wrong_2 h =
    ⊎_elim (λ e. absurd (cc e)) (λ e. absurd (let no = e.1 in cc)) h.1

pub all_gather_and_wait_is_legal : LegalList four_of_alpha (all_gather_and_wait (Delivered []))
unfolding opened
all_gather_and_wait_is_legal = due_is_legal four_of_alpha (all_gather_and_wait (Delivered [])) refl

pub all_gather_and_wait_is_wrong_1 :
    LegalList four_of_alpha (all_gather_and_wait (Delivered (Numbers [] ∷ []))) → ⊥
unfolding opened
all_gather_and_wait_is_wrong_1 h =
    ⊎_elim (λ e. absurd (cc e)) (λ e. absurd (let no = e.1 in cc)) h.1

pub neighbours_of_a_line_is_legal : LegalList four_of_alpha
    (neighbours_of_a_line (Delivered (Numbers (pos 21 ∷ []) ∷ Missing ∷ [])))
unfolding opened
neighbours_of_a_line_is_legal = due_is_legal four_of_alpha
    (neighbours_of_a_line (Delivered (Numbers (pos 21 ∷ []) ∷ Missing ∷ []))) refl

pub neighbours_of_a_line_is_wrong_1 :
    LegalList four_of_alpha
    (neighbours_of_a_line (Delivered (Numbers (pos 2 ∷ []) ∷ Missing ∷ []))) → ⊥
unfolding opened
neighbours_of_a_line_is_wrong_1 h =
    ⊎_elim (λ e. absurd (cc e)) (λ e. absurd (let no = e.1 in cc)) h.1

pub neighbours_of_a_line_is_wrong_2 :
    LegalList four_of_alpha
    (neighbours_of_a_line (Delivered (Missing ∷ Numbers (pos 21 ∷ []) ∷ []))) → ⊥
unfolding opened
neighbours_of_a_line_is_wrong_2 h =
    ⊎_elim (λ e. absurd (cc e)) (λ e. absurd (let no = e.1 in cc)) h.1

pub neighbours_of_a_line_is_wrong_3 :
    LegalList four_of_alpha
    (neighbours_of_a_line (Delivered (Numbers (pos 21 ∷ []) ∷ Numbers [] ∷ []))) → ⊥
unfolding opened
neighbours_of_a_line_is_wrong_3 h =
    ⊎_elim (λ e. absurd (cc e)) (λ e. absurd (let no = e.1 in cc)) h.1

pub empty_and_reordered_is_legal : LegalList four_of_alpha (empty_and_reordered (Refused NotMember))
unfolding opened
empty_and_reordered_is_legal =
    due_is_legal four_of_alpha (empty_and_reordered (Refused NotMember)) refl

pub empty_and_reordered_is_wrong_1 :
    LegalList four_of_alpha (empty_and_reordered (Refused NoSuchComm)) → ⊥
unfolding opened
empty_and_reordered_is_wrong_1 h =
    ⊎_elim (λ e. absurd (cc e)) (λ e. absurd (let no = e.1 in cc)) h.1

pub empty_and_reordered_is_wrong_2 : LegalList four_of_alpha (empty_and_reordered (Info 1 0 None)) →
    ⊥
unfolding opened
empty_and_reordered_is_wrong_2 h =
    ⊎_elim (λ e. absurd (cc e)) (λ e. absurd (let no = e.1 in cc)) h.1
