use Rattle.wall_verdict.proofs.grant.settle.Goals as goal

pub judge-verdict-requires : goal.judge-verdict-requires
judge-verdict-requires c =
    c.nothing-collected.ensures c.args.histories.now.classes c.args.roll.now
