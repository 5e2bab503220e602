-- A post of a sound book counts after the posts before it.
use Rattle.std.proofs.Common.{◌≡◌, ℕ, ◌+◌, List, [], ◌∷◌, ◌++◌, take, drop, Some, sym, ap, ◌∙◌}
use Rattle.std.proofs.Common.{subst}
use Rattle.std.proofs.Common.{slice_get}
use Rattle.wall_policy.specs.Policy.{ChineseWall}
use Rattle.run_model.specs.declared.entry.Entry.{Entry}
use Rattle.run_model.specs.Posts.{Post}
use Rattle.run_model.specs.Books.{posted, IsSound, IsCounted}
use Rattle.audit_book.proofs.AuditBookLemmas.{take_more, post_counts}
use Rattle.book_report.specs.Held.{posts_to}
use Rattle.book_report.proofs.HistoryLemmas.{take_drop}

pub counts_at : (wall : ChineseWall) (entries : List Entry) (n : ℕ) (x : Post) →
    IsSound wall entries → slice_get entries n ≡ Some (posted x) →
    IsCounted wall x (posts_to entries n)
counts_at wall entries n x sound at =
    let whole : (take n entries ++ posted x ∷ []) ++ drop (n + 1) entries ≡ entries =
    ap (λ es. es ++ drop (n + 1) entries) (sym (take_more entries n (posted x) at))
    ∙ sym (take_drop (n + 1) entries) in
    post_counts wall (take n entries) x.process x.comm x.stated
    (drop (n + 1) entries, subst (IsSound wall) (sym whole) sound)
