use Rattle.std.proofs.Common.{◌≡◌, sym, ◌∙◌}
use Rattle.wall_labels.specs.declared.label.Label.TheVariants.{Of, Public}
use Rattle.book_report.proofs.reason.dataset_of.Goals as goal

pub unreachable-requires : goal.unreachable-requires
unreachable-requires c =
    let both : Public ≡ Of c.requires.0 = sym c.in-Public.is ∙ c.requires.1 in cc
