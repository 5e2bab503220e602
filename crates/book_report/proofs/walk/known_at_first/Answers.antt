use Rattle.std.proofs.Common.{◌≡◌, [], sym, ap, ◌∙◌, subst}
use Rattle.wall_rules.specs.Histories.{has, opening}
use Rattle.run_model.specs.Posts.{histories}
use Rattle.audit_book.specs.Checks.{Stands}
use Rattle.book_report.proofs.HistoryLemmas.{no_posts}
use Rattle.book_report.proofs.walk.known_at_first.Goals as goal

pub returns : goal.returns
returns c = λ entries.
    let wall = c.args.policy.now in
    let same : has c.histories.result.now ≡ opening wall =
    c.histories.ensures.posts wall [] c.requires in
    record {
      stands = subst (Stands wall c.args.post_state.now) (sym (no_posts entries)) c.requires;
      room = c.in_ok-add_firsts.ensures.room;
      rows = c.in_ok-add_firsts.ensures.known entries same
          (c.in_ok-known.ensures.known wall entries);
      whole = λ p d held. c.in_ok-add_firsts.ensures.there same p d
          (ap (λ past. histories wall past p d) (sym (no_posts entries)) ∙ held);
    }
