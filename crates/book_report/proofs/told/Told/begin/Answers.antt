use Rattle.book_report.proofs.BarLemmas.{bars_none}
use Rattle.book_report.proofs.SanitisedLemmas.{those_none}
use Rattle.book_report.proofs.DenialLemmas.{denials_none}
use Rattle.book_report.proofs.told.Told.begin.Goals as goal

pub returns : goal.returns
returns c = λ entries.
    let wall = c.args.policy.now in
    record {
      come = c.in-Ok-known_at_first.ensures entries;
      bars = bars_none wall entries _ c.new-2.ensures.items;
      sanitised = those_none wall entries _ c.new.ensures.items;
      denials = denials_none wall entries _ c.new-3.ensures.items;
    }
