use Rattle.std.proofs.lemmas.Fmt.{decimal_digit}
use Rattle.coll_text.proofs.append.push_digit.Goals as goal

pub returns-clause-added : goal.returns-clause-added
returns-clause-added c =
    rw (decimal_digit c.args.digit c.requires.small) c.push_reserved.ensures.items
