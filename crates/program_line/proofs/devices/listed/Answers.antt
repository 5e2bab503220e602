use Rattle.std.proofs.Common.{ap}
use Rattle.program_files.specs.Files.{failed_once}
use Rattle.program_line.specs.Kinds.{listed_kind}
use Rattle.program_line.proofs.PerformLemmas.{at_path, read_listed, all_listed}
use Rattle.program_line.proofs.devices.listed.Goals as goal

pub loop-path-preserved : goal.loop-path-preserved
loop-path-preserved g c =
    rw c.in_ok-push.ensures.items
    (read_listed listed_kind
    c.args.paths.now c.loop-path.path-index _
    c.loop-path.books.items c.earlier_at.result c.loop-path-test.true
    c.loop-path.invariant c.earlier_at.ensures.name
    (at_path c.earlier_at.ensures.unopened c.earlier_at.ensures.path)
    (ap failed_once c.earlier_at.ensures.count))

pub returns : goal.returns
returns g c =
    all_listed listed_kind
    c.args.paths.now c.loop-path.path-index c.loop-path.books.items
    c.loop-path-test.false c.loop-path.invariant
