use Rattle.std.proofs.Common.{◌<◌, length, arith}
use Rattle.coll_text.proofs.CutLemmas.{whole_part, prefix_part}
use Rattle.coll_text.proofs.parts.cut_at.Goals as goal

pub returns-then-len-text-clause-whole : goal.returns-then-len-text-clause-whole
returns-then-len-text-clause-whole c = whole_part c.args.separator c.args.len c.args.text.now
    c.requires.below c.requires.solid c.if-len-text.true

pub returns-clause-whole : goal.returns-clause-whole
returns-clause-whole c =
    let lt : c.args.len < length c.args.text.now = omega
    (arith, c.requires.within, c.if-len-text.false) in
    rw (c.split_at.ensures.front, c.split_at-2.ensures.back)
    (prefix_part c.args.separator c.args.len c.args.text.now c.requires.below c.requires.solid lt
    c.if-text-len.false)
