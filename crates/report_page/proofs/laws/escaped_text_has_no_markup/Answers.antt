use Rattle.report_page.proofs.EscapeLemmas.{all_plain}
use Rattle.report_page.proofs.laws.escaped_text_has_no_markup.Goals as goal

pub returns : goal.returns
returns c = all_plain
