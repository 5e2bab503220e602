use Rattle.std.proofs.Common.{Ok, Err}
use Rattle.program_words.proofs.NumberLemmas.{read_value, too_large}
use Rattle.program_words.proofs.number.value_of_digits.Goals as goal

pub returns-in-Ok-clause-value : goal.returns-in-Ok-clause-value
returns-in-Ok-clause-value c =
    read_value {E = Unit {0}} c.args.text.now (Ok c.in-Ok.value) c.in-Ok.ensures.value.0 c.requires.digits

pub returns-in-Err-clause-large : goal.returns-in-Err-clause-large
returns-in-Err-clause-large c =
    too_large c.args.text.now (Err c.in-Err.field-0) c.in-Err.ensures.value.0 c.requires.digits
    c.requires.some
