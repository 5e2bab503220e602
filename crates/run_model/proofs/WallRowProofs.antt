-- The worked runs of WallRows, by computation.
use Rattle.std.proofs.Common.{[], ◌∷◌, pos, refl, ⊎_elim}
use Rattle.wall_labels.specs.declared.label.Label.TheVariants.{Public}
use Rattle.coll_values.specs.declared.delivery.Block.TheVariants.{Numbers}
use Rattle.wall_rules.specs.declared.rule.Rule.TheVariants.{Star, Simple}
use Rattle.run_model.specs.declared.refusal.Refusal.TheVariants.{NoSuchRequest}
use Rattle.run_model.specs.declared.reply.Reply.TheVariants.{Posted, Barred, Pending, Delivered}
use Rattle.run_model.specs.declared.reply.Reply.TheVariants.{Denied, Refused}
use Rattle.run_model.specs.RunRows.{LegalList, banks_and_oil, banks_and_oil_in_version_2}
use Rattle.run_model.specs.RunRows.{banks_and_oil_after, four_of_alpha, alpha, beta, crude}
use Rattle.run_model.specs.WallRows.{charged_before_it_is_taken, charged_in_the_other_order}
use Rattle.run_model.specs.WallRows.{star_rule_at_the_post, label_enters_at_the_post}
use Rattle.run_model.specs.WallRows.{sum_of_too_few, sum_of_two_datasets, written_after_a_sum}
use Rattle.run_model.specs.WallRows.{prefix_of_too_few, lowest_barred_is_named}
use Rattle.run_model.specs.WallRows.{barred_before_offences, several_outstanding, beta_for_n0}
use Rattle.run_model.proofs.RunRowProofs.{opened, due_is_legal}

pub charged_before_it_is_taken_is_legal :
    LegalList banks_and_oil (charged_before_it_is_taken (Denied Simple 3 beta))
unfolding opened
charged_before_it_is_taken_is_legal =
    due_is_legal banks_and_oil (charged_before_it_is_taken (Denied Simple 3 beta)) refl

pub charged_before_it_is_taken_is_wrong_1 :
    LegalList banks_and_oil
    (charged_before_it_is_taken (Delivered (Numbers (pos 20 ∷ []) ∷ []))) → ⊥
unfolding opened
charged_before_it_is_taken_is_wrong_1 h =
    ⊎_elim (λ e. absurd (cc e)) (λ e. absurd (let no = e.1 in cc)) h.1

pub charged_before_it_is_taken_is_wrong_2 :
    LegalList banks_and_oil (charged_before_it_is_taken (Denied Simple 3 alpha)) → ⊥
unfolding opened
charged_before_it_is_taken_is_wrong_2 h =
    ⊎_elim (λ e. absurd (cc e)) (λ e. absurd (let no = e.1 in cc)) h.1

pub charged_before_it_is_taken_is_wrong_3 :
    LegalList banks_and_oil (charged_before_it_is_taken (Denied Star 3 beta)) → ⊥
unfolding opened
charged_before_it_is_taken_is_wrong_3 h =
    ⊎_elim (λ e. absurd (cc e)) (λ e. absurd (let no = e.1 in cc)) h.1

pub charged_before_it_is_taken_is_wrong_4 :
    LegalList banks_and_oil (charged_before_it_is_taken (Denied Simple 1 beta)) → ⊥
unfolding opened
charged_before_it_is_taken_is_wrong_4 h =
    ⊎_elim (λ e. absurd (cc e)) (λ e. absurd (let no = e.1 in cc)) h.1

pub charged_before_it_is_taken_is_wrong_5 :
    LegalList banks_and_oil (charged_before_it_is_taken Pending) → ⊥
unfolding opened
charged_before_it_is_taken_is_wrong_5 h =
    ⊎_elim (λ e. absurd (cc e)) (λ e. absurd (let no = e.1 in cc)) h.1

pub charged_before_it_is_taken_is_wrong_6 :
    LegalList banks_and_oil (charged_before_it_is_taken (Refused NoSuchRequest)) → ⊥
unfolding opened
charged_before_it_is_taken_is_wrong_6 h =
    ⊎_elim (λ e. absurd (cc e)) (λ e. absurd (let no = e.1 in cc)) h.1

pub charged_in_the_other_order_is_legal :
    LegalList banks_and_oil (charged_in_the_other_order (Denied Simple 3 alpha))
unfolding opened
charged_in_the_other_order_is_legal =
    due_is_legal banks_and_oil (charged_in_the_other_order (Denied Simple 3 alpha)) refl

pub charged_in_the_other_order_is_wrong_1 :
    LegalList banks_and_oil
    (charged_in_the_other_order (Delivered (Numbers (pos 10 ∷ []) ∷ []))) → ⊥
unfolding opened
charged_in_the_other_order_is_wrong_1 h =
    ⊎_elim (λ e. absurd (cc e)) (λ e. absurd (let no = e.1 in cc)) h.1

pub star_rule_at_the_post_is_legal : LegalList banks_and_oil
    (star_rule_at_the_post (Delivered (Numbers (pos 8 ∷ []) ∷ Numbers (pos 7 ∷ []) ∷ [])))
unfolding opened
star_rule_at_the_post_is_legal = due_is_legal banks_and_oil
    (star_rule_at_the_post (Delivered (Numbers (pos 8 ∷ []) ∷ Numbers (pos 7 ∷ []) ∷ []))) refl

pub star_rule_at_the_post_is_wrong_1 :
    LegalList banks_and_oil (star_rule_at_the_post (Denied Star 3 alpha)) → ⊥
unfolding opened
star_rule_at_the_post_is_wrong_1 h =
    ⊎_elim (λ e. absurd (cc e)) (λ e. absurd (let no = e.1 in cc)) h.1

pub star_rule_at_the_post_is_wrong_2 :
    LegalList banks_and_oil
    (star_rule_at_the_post (Delivered (Numbers (pos 7 ∷ []) ∷ Numbers (pos 8 ∷ []) ∷ []))) →
    ⊥
unfolding opened
star_rule_at_the_post_is_wrong_2 h =
    ⊎_elim (λ e. absurd (cc e)) (λ e. absurd (let no = e.1 in cc)) h.1

pub star_rule_at_the_post_is_wrong_3 :
    LegalList banks_and_oil (star_rule_at_the_post (Delivered (Numbers (pos 15 ∷ []) ∷ []))) → ⊥
unfolding opened
star_rule_at_the_post_is_wrong_3 h =
    ⊎_elim (λ e. absurd (cc e)) (λ e. absurd (let no = e.1 in cc)) h.1

pub star_rule_at_the_post_is_wrong_4 :
    LegalList banks_and_oil (star_rule_at_the_post (Delivered [])) → ⊥
unfolding opened
star_rule_at_the_post_is_wrong_4 h =
    ⊎_elim (λ e. absurd (cc e)) (λ e. absurd (let no = e.1 in cc)) h.1

pub label_enters_at_the_post_is_legal :
    LegalList banks_and_oil (label_enters_at_the_post (Denied Simple 3 beta))
unfolding opened
label_enters_at_the_post_is_legal =
    due_is_legal banks_and_oil (label_enters_at_the_post (Denied Simple 3 beta)) refl

pub label_enters_at_the_post_is_wrong_1 :
    LegalList banks_and_oil (label_enters_at_the_post (Delivered (Numbers (pos 20 ∷ []) ∷ [])))
    → ⊥
unfolding opened
label_enters_at_the_post_is_wrong_1 h =
    ⊎_elim (λ e. absurd (cc e)) (λ e. absurd (let no = e.1 in cc)) h.1

pub sum_of_too_few_is_legal : LegalList banks_and_oil (sum_of_too_few (Denied Simple 0 beta))
unfolding opened
sum_of_too_few_is_legal = due_is_legal banks_and_oil (sum_of_too_few (Denied Simple 0 beta)) refl

pub sum_of_too_few_is_wrong_1 :
    LegalList banks_and_oil (sum_of_too_few (Delivered (Numbers (pos 7 ∷ []) ∷ []))) → ⊥
unfolding opened
sum_of_too_few_is_wrong_1 h = ⊎_elim (λ e. absurd (cc e)) (λ e. absurd (let no = e.1 in cc)) h.1

pub sum_of_too_few_is_wrong_2 : LegalList banks_and_oil (sum_of_too_few (Denied Simple 1 alpha)) → ⊥
unfolding opened
sum_of_too_few_is_wrong_2 h = ⊎_elim (λ e. absurd (cc e)) (λ e. absurd (let no = e.1 in cc)) h.1

pub sum_of_too_few_is_wrong_3 : LegalList banks_and_oil (sum_of_too_few (Denied Simple 2 alpha)) → ⊥
unfolding opened
sum_of_too_few_is_wrong_3 h = ⊎_elim (λ e. absurd (cc e)) (λ e. absurd (let no = e.1 in cc)) h.1

pub prefix_of_too_few_is_legal : LegalList banks_and_oil (prefix_of_too_few (Denied Simple 1 alpha))
unfolding opened
prefix_of_too_few_is_legal =
    due_is_legal banks_and_oil (prefix_of_too_few (Denied Simple 1 alpha)) refl

pub prefix_of_too_few_is_wrong_1 :
    LegalList banks_and_oil (prefix_of_too_few (Delivered (Numbers (pos 10 ∷ []) ∷ []))) → ⊥
unfolding opened
prefix_of_too_few_is_wrong_1 h = ⊎_elim (λ e. absurd (cc e)) (λ e. absurd (let no = e.1 in cc)) h.1

pub prefix_of_too_few_is_wrong_2 :
    LegalList banks_and_oil (prefix_of_too_few (Denied Simple 0 alpha)) → ⊥
unfolding opened
prefix_of_too_few_is_wrong_2 h = ⊎_elim (λ e. absurd (cc e)) (λ e. absurd (let no = e.1 in cc)) h.1

pub lowest_barred_is_named_is_legal :
    LegalList banks_and_oil (lowest_barred_is_named (Denied Star 1 crude))
unfolding opened
lowest_barred_is_named_is_legal =
    due_is_legal banks_and_oil (lowest_barred_is_named (Denied Star 1 crude)) refl

pub lowest_barred_is_named_is_wrong_1 :
    LegalList banks_and_oil (lowest_barred_is_named (Denied Star 2 alpha)) → ⊥
unfolding opened
lowest_barred_is_named_is_wrong_1 h =
    ⊎_elim (λ e. absurd (cc e)) (λ e. absurd (let no = e.1 in cc)) h.1

pub lowest_barred_is_named_is_wrong_2 :
    LegalList banks_and_oil (lowest_barred_is_named (Denied Star 1 alpha)) → ⊥
unfolding opened
lowest_barred_is_named_is_wrong_2 h =
    ⊎_elim (λ e. absurd (cc e)) (λ e. absurd (let no = e.1 in cc)) h.1

pub lowest_barred_is_named_is_wrong_3 :
    LegalList banks_and_oil (lowest_barred_is_named (Denied Simple 0 alpha)) → ⊥
unfolding opened
lowest_barred_is_named_is_wrong_3 h =
    ⊎_elim (λ e. absurd (cc e)) (λ e. absurd (let no = e.1 in cc)) h.1

pub lowest_barred_is_named_is_wrong_4 :
    LegalList banks_and_oil (lowest_barred_is_named (Delivered
    (Numbers (pos 1 ∷ []) ∷ Numbers [] ∷ Numbers [] ∷ Numbers (pos 4 ∷ []) ∷ []))) →
    ⊥
unfolding opened
lowest_barred_is_named_is_wrong_4 h =
    ⊎_elim (λ e. absurd (cc e)) (λ e. absurd (let no = e.1 in cc)) h.1

pub barred_before_offences_is_legal :
    LegalList banks_and_oil (barred_before_offences (Denied Star 2 Public))
unfolding opened
barred_before_offences_is_legal =
    due_is_legal banks_and_oil (barred_before_offences (Denied Star 2 Public)) refl

pub barred_before_offences_is_wrong_1 :
    LegalList banks_and_oil (barred_before_offences (Denied Simple 0 beta)) → ⊥
unfolding opened
barred_before_offences_is_wrong_1 h =
    ⊎_elim (λ e. absurd (cc e)) (λ e. absurd (let no = e.1 in cc)) h.1

pub barred_before_offences_is_wrong_2 :
    LegalList banks_and_oil (barred_before_offences (Denied Star 2 crude)) → ⊥
unfolding opened
barred_before_offences_is_wrong_2 h =
    ⊎_elim (λ e. absurd (cc e)) (λ e. absurd (let no = e.1 in cc)) h.1

pub several_outstanding_is_legal : LegalList four_of_alpha (several_outstanding
    (Delivered (Numbers (pos 1 ∷ []) ∷ Numbers (pos 2 ∷ pos 3 ∷ []) ∷ Numbers []
    ∷ Numbers (pos 4 ∷ []) ∷ [])))
unfolding opened
several_outstanding_is_legal = due_is_legal four_of_alpha (several_outstanding
    (Delivered (Numbers (pos 1 ∷ []) ∷ Numbers (pos 2 ∷ pos 3 ∷ []) ∷ Numbers []
    ∷ Numbers (pos 4 ∷ []) ∷ []))) refl

pub several_outstanding_is_wrong_1 : LegalList four_of_alpha (several_outstanding Pending) → ⊥
unfolding opened
several_outstanding_is_wrong_1 h =
    ⊎_elim (λ e. absurd (cc e)) (λ e. absurd (let no = e.1 in cc)) h.1

pub several_outstanding_is_wrong_2 : LegalList four_of_alpha (several_outstanding (Delivered [])) →
    ⊥
unfolding opened
several_outstanding_is_wrong_2 h =
    ⊎_elim (λ e. absurd (cc e)) (λ e. absurd (let no = e.1 in cc)) h.1

pub several_outstanding_is_wrong_3 :
    LegalList four_of_alpha (several_outstanding (Delivered (Numbers (pos 1 ∷ [])
    ∷ Numbers (pos 2 ∷ pos 3 ∷ []) ∷ Numbers (pos 4 ∷ []) ∷ []))) → ⊥
unfolding opened
several_outstanding_is_wrong_3 h =
    ⊎_elim (λ e. absurd (cc e)) (λ e. absurd (let no = e.1 in cc)) h.1

pub sum_of_two_datasets_is_legal :
    LegalList banks_and_oil (sum_of_two_datasets (Delivered (Numbers (pos 6 ∷ []) ∷ [])))
unfolding opened
sum_of_two_datasets_is_legal =
    due_is_legal banks_and_oil (sum_of_two_datasets (Delivered (Numbers (pos 6 ∷ []) ∷ []))) refl

pub sum_of_two_datasets_is_legal_in_version_2 :
    LegalList banks_and_oil_in_version_2 (sum_of_two_datasets (Denied Simple 0 beta))
unfolding opened
sum_of_two_datasets_is_legal_in_version_2 =
    due_is_legal banks_and_oil_in_version_2 (sum_of_two_datasets (Denied Simple 0 beta)) refl

pub sum_of_two_datasets_is_wrong_1 :
    LegalList banks_and_oil (sum_of_two_datasets (Denied Simple 0 beta)) → ⊥
unfolding opened
sum_of_two_datasets_is_wrong_1 h =
    ⊎_elim (λ e. absurd (cc e)) (λ e. absurd (let no = e.1 in cc)) h.1

pub sum_of_two_datasets_is_wrong_2 :
    LegalList banks_and_oil_in_version_2
    (sum_of_two_datasets (Delivered (Numbers (pos 6 ∷ []) ∷ []))) → ⊥
unfolding opened
sum_of_two_datasets_is_wrong_2 h =
    ⊎_elim (λ e. absurd (cc e)) (λ e. absurd (let no = e.1 in cc)) h.1

pub written_after_a_sum_is_legal : LegalList banks_and_oil (written_after_a_sum (Posted 2))
unfolding opened
written_after_a_sum_is_legal = due_is_legal banks_and_oil (written_after_a_sum (Posted 2)) refl

pub written_after_a_sum_is_legal_in_version_2 :
    LegalList banks_and_oil_in_version_2 (written_after_a_sum (Barred 2 alpha))
unfolding opened
written_after_a_sum_is_legal_in_version_2 =
    due_is_legal banks_and_oil_in_version_2 (written_after_a_sum (Barred 2 alpha)) refl

pub written_after_a_sum_is_wrong_1 :
    LegalList banks_and_oil (written_after_a_sum (Barred 2 alpha)) → ⊥
unfolding opened
written_after_a_sum_is_wrong_1 h =
    ⊎_elim (λ e. absurd (cc e)) (λ e. absurd (let no = e.1 in cc)) h.1

pub written_after_a_sum_is_wrong_2 :
    LegalList banks_and_oil_in_version_2 (written_after_a_sum (Posted 2)) → ⊥
unfolding opened
written_after_a_sum_is_wrong_2 h =
    ⊎_elim (λ e. absurd (cc e)) (λ e. absurd (let no = e.1 in cc)) h.1

pub held_before_is_denied : LegalList banks_and_oil_after (beta_for_n0 (Denied Simple 3 beta))
unfolding opened
held_before_is_denied =
    due_is_legal banks_and_oil_after (beta_for_n0 (Denied Simple 3 beta)) refl

pub held_before_is_wrong_1 :
    LegalList banks_and_oil_after (beta_for_n0 (Delivered (Numbers (pos 20 ∷ []) ∷ []))) → ⊥
unfolding opened
held_before_is_wrong_1 h = ⊎_elim (λ e. absurd (cc e)) (λ e. absurd (let no = e.1 in cc)) h.1

pub held_before_is_delivered :
    LegalList banks_and_oil (beta_for_n0 (Delivered (Numbers (pos 20 ∷ []) ∷ [])))
unfolding opened
held_before_is_delivered =
    due_is_legal banks_and_oil (beta_for_n0 (Delivered (Numbers (pos 20 ∷ []) ∷ []))) refl

pub held_before_is_wrong_2 : LegalList banks_and_oil (beta_for_n0 (Denied Simple 3 beta)) → ⊥
unfolding opened
held_before_is_wrong_2 h = ⊎_elim (λ e. absurd (cc e)) (λ e. absurd (let no = e.1 in cc)) h.1
