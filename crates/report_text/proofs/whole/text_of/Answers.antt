use Rattle.std.proofs.Common.{ℕ, List, ◌++◌, ap, ◌∙◌, length}
use Rattle.run_model.specs.Comms.{Comm}
use Rattle.run_model.specs.Posts.{comms}
use Rattle.book_report.specs.Held.{posts_to}
use Rattle.report_text.specs.Rows.{rows_text}
use Rattle.report_text.specs.Members.{comms_text}
use Rattle.report_text.specs.Instances.{instances_text}
use Rattle.report_text.specs.Sanitised.{sanitised_text}
use Rattle.report_text.specs.Waits.{waits_text}
use Rattle.report_text.specs.Reasons.{bars_text, denials_text}
use Rattle.report_text.proofs.StateLemmas.{comms_are}
use Rattle.report_text.proofs.whole.text_of.Goals as goal

pub returns : goal.returns
returns c =
    let wall = c.args.policy.now in
    let entries = c.args.book.now.list in
    let found = c.args.found.now in
    let there = comms_are wall found.at_end (posts_to entries (length entries)) c.requires.at_end in
    c.in_ok-put_denials.ensures
    ∙ ap (λ (t : List ℕ). t ++ denials_text wall c.deref-5.result.now)
    (c.in_ok-put_bars.ensures
    ∙ ap (λ (t : List ℕ). t ++ bars_text wall c.deref-4.result.now)
    (c.in_ok-put_waits.ensures
    ∙ ap (λ (t : List ℕ). t ++ waits_text wall entries c.deref-3.result.now)
    (c.in_ok-put_sanitised.ensures
    ∙ ap (λ (t : List ℕ). t ++ sanitised_text wall entries c.deref-2.result.now)
    (c.in_ok-put_instances.ensures
    ∙ ap (λ (t : List ℕ). t ++ instances_text wall entries)
    (c.in_ok-put_comms_of.ensures
    ∙ ap (λ (cs : List Comm). c.put_rows.new.text.items ++ comms_text wall cs) there
    ∙ ap (λ (t : List ℕ). t ++ comms_text wall (comms wall (posts_to entries (length entries))))
    (c.in_ok-put_rows.ensures
    ∙ ap (λ (t : List ℕ). t ++ rows_text wall entries c.deref.result.now)
    c.new-text.ensures.items))))))
    ∙ (λ i. rows_text wall entries (c.deref.ensures.value i)
    ++ comms_text wall (comms wall (posts_to entries (length entries)))
    ++ instances_text wall entries ++ sanitised_text wall entries (c.deref-2.ensures.value i)
    ++ waits_text wall entries (c.deref-3.ensures.value i)
    ++ bars_text wall (c.deref-4.ensures.value i)
    ++ denials_text wall (c.deref-5.ensures.value i))
