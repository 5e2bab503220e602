use Rattle.std.proofs.Common.{◌∙◌, ◌*◌, ◌%◌, ◌^◌, ◌<◌, get_or, ap, subst, sym, ℕ}
use Rattle.std.specs.Int.Digits.{AllBelowBase, number_from_digits}
use Rattle.std.specs.Simd.Lanes.{digits_l}
use Rattle.coll_text.proofs.StepLemmas.{few_low, few_value, few_small, ups}
use Rattle.coll_text.proofs.eights.value_of_few.Goals as goal

pub value_of-requires : goal.value_of-requires
value_of-requires c =
    subst (λ (n : ℕ). AllBelowBase 10 (digits_l 256 8 (n * get_or ups c.args.count 0 % 2 ^ 64)))
    (sym c.word_of.ensures)
    (few_low c.args.text.now c.args.count c.requires.within c.requires.few c.requires.digits)

pub returns-clause-value : goal.returns-clause-value
returns-clause-value c =
    c.value_of.ensures
    ∙ ap (λ n. number_from_digits 10 (digits_l 256 8 (n * get_or ups c.args.count 0 % 2 ^ 64)))
    c.word_of.ensures
    ∙ few_value c.args.text.now c.args.count c.requires.within c.requires.few c.requires.digits

pub returns-clause-small : goal.returns-clause-small
returns-clause-small c =
    let e = c.value_of.ensures
    ∙ ap (λ n. number_from_digits 10 (digits_l 256 8 (n * get_or ups c.args.count 0 % 2 ^ 64)))
    c.word_of.ensures in
    subst (λ (n : ℕ). n < 10 ^ c.args.count) (sym e)
    (few_small c.args.text.now c.args.count c.requires.within c.requires.few c.requires.digits)
