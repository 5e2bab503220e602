use Rattle.std.proofs.Common.{sym, ◌∙◌}
use Rattle.toml.specs.View.{table_view}
use Rattle.policy_places.proofs.PlaceLemmas.{shown_by_all}
use Rattle.policy_places.proofs.place.found_in.Goals as goal

pub line_of-requires : goal.line_of-requires
line_of-requires c =
    shown_by_all c.args.lines.now (table_view c.args.whole.now) c.args.fault c.in_ok-known.known
    c.in-Some.sign c.requires c.in_ok-known.ensures
    (sym c.in_ok-sign.ensures ∙ c.in-Some.is)
