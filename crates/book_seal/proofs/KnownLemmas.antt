-- What is due behind entries that name what the policy has names only that too.
use Rattle.std.proofs.Common.{◌≡◌, List, [], ◌∷◌, ◌++◌, refl}
use Rattle.std.proofs.Common.{sym, ap, ◌∙◌, subst, Option, Some}
use Rattle.std.specs.Prelude.{All}
use Rattle.std.specs.Option.{option_to_list}
use Rattle.std.proofs.lemmas.List.Elements.{All-pop}
use Rattle.wall_policy.specs.Policy.{ChineseWall, IsPolicy}
use Rattle.run_model.specs.declared.entry.Entry.{Entry}
use Rattle.run_model.specs.Books.{posts_in}
use Rattle.run_model.specs.Known.{IsKnownEntry}
use Rattle.run_model.specs.Known.{PostsHaveKnownLabels}
use Rattle.run_model.proofs.RunModelLemmas.{labels_of_entries, posts_in-append, book_named}
use Rattle.audit_book.specs.Dues.{IsDueBehind}

pub all_known : (wall : ChineseWall) (es : List Entry) (due : Option Entry) → IsPolicy wall →
    All (IsKnownEntry wall) es → IsDueBehind wall es due →
    All (IsKnownEntry wall) (es ++ option_to_list due)
all_known wall es due policy known h =
    let same : posts_in (es ++ option_to_list due) ≡ posts_in es =
    posts_in-append es (option_to_list due) ∙ ap (λ ps. ps ++ posts_in es) h.no_post in
    let counts = h.sound.posts in
    subst (All (IsKnownEntry wall)) (sym h.sound.given)
    (book_named wall (posts_in (es ++ option_to_list due)) policy counts
    (subst (PostsHaveKnownLabels wall) (sym same) (labels_of_entries wall es known)))

pub due_known : (wall : ChineseWall) (es : List Entry) (e : Entry) → IsPolicy wall →
    All (IsKnownEntry wall) es → IsDueBehind wall es (Some e) → IsKnownEntry wall e
due_known wall es e policy known h =
    (All-pop (IsKnownEntry wall) (es ++ e ∷ []) es (Some e) refl
    (all_known wall es (Some e) policy known h)).1
