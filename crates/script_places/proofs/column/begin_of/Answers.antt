use Rattle.std.proofs.Common.{◌-◌, arith}
use Rattle.script_places.proofs.AnswerLemmas.{cut_at, begins_at}
use Rattle.script_places.proofs.column.begin_of.Goals as goal

pub overflow_add-result : goal.overflow_add-result
overflow_add-result c =
    let cut = cut_at c.args.line.now c.args.ends.now (c.args.words - 2) c.requires.ends
    (let most = c.requires.within in omega arith) in
    let within = cut.0 in
    grind arith

pub returns : goal.returns
returns c = λ i is. begins_at c.args.line.now c.args.ends.now c.args.words i c.requires.ends
    (omega arith) c.requires.within is
