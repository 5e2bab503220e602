use Rattle.std.proofs.Common.{subst}
use Rattle.book_report.specs.Reasons.{WasDenied}
use Rattle.book_report.proofs.reason.Judged.reason.Goals as goal

pub star_reason-requires : goal.star_reason-requires
star_reason-requires c = subst
    (λ r. WasDenied c.args.self.now r c.args.process c.args.label.now) c.in-Star.is c.requires

pub simple_reason-requires : goal.simple_reason-requires
simple_reason-requires c = subst
    (λ r. WasDenied c.args.self.now r c.args.process c.args.label.now) c.in-Simple.is c.requires
