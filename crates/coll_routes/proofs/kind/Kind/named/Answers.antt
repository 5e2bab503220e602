use Rattle.std.proofs.Common.{◌∙◌, arith}
use Rattle.coll_routes.proofs.KindLemmas.{found_between, found_longest}
use Rattle.coll_routes.proofs.kind.Kind.named.Goals as goal

pub returns-in-0-to-6 : goal.returns-in-0-to-6
returns-in-0-to-6 c =
    c.short_named.ensures ∙ found_between 0 6 c.args.name.now (omega arith) (omega arith)

pub returns-in-7-to-9 : goal.returns-in-7-to-9
returns-in-7-to-9 c =
    c.middle_named.ensures ∙ found_between 7 9 c.args.name.now (omega arith) (omega arith)

pub returns-in-10-to-16 : goal.returns-in-10-to-16
returns-in-10-to-16 c =
    c.long_named.ensures ∙ found_between 10 16 c.args.name.now (omega arith) (omega arith)

pub returns-in-17-to-19 : goal.returns-in-17-to-19
returns-in-17-to-19 c =
    c.neighbour_named.ensures ∙ found_between 17 19 c.args.name.now (omega arith) (omega arith)

pub returns-in_default : goal.returns-in_default
returns-in_default c = c.longest_named.ensures ∙ found_longest c.args.name.now (omega arith)
