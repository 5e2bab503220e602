use Rattle.program_commands.proofs.ChainLemmas.{can_be_told}
use Rattle.program_commands.proofs.chain_wall.past_of.Goals as goal

pub end_broken-status-requires : goal.end_broken-status-requires
end_broken-status-requires g c =
    can_be_told g.F.Reader.Source.failures g.F.Reader.Source.remaining g.F.FileSystem.is_at
    c.args.file.now.ended c.in-Err.broken (rw c.ended.ensures at c.in-Err.ensures.broken)
