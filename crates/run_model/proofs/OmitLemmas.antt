-- What an entry moves, and what can be left out of a run.
use Rattle.std.proofs.Common.{◌≡◌, List, [], ◌∷◌, ◌++◌, sym, ap, ◌∙◌, subst}
use Rattle.std.specs.List.{cons_option}
use Rattle.wall_policy.specs.Policy.{ChineseWall}
use Rattle.run_model.specs.Posts.{comms, histories, outcome_at}
use Rattle.run_model.specs.Books.{book, posts_in}
use Rattle.run_model.proofs.BookLemmas.{posts_in-book}
use Rattle.run_model.specs.Contributions.{posts_of}
use Rattle.run_model.specs.Runs.{Entry, Effects, effects, posts, contributions, contribution_by}
use Rattle.run_model.specs.Runs.{MakesNothing, after_entry}
use Rattle.run_model.specs.Replies.{reply, reply_by, IsAnswer}
use Rattle.run_model.specs.RunLaws as laws
use Rattle.run_model.proofs.EffectLemmas.{after_nothing}

-- ## equal posts

alike : (wall : ChineseWall) (run other : List Entry) → posts run ≡ posts other →
    laws.MadeAlike wall run other
alike wall run other same = record {
  same_posts = same;
  same_histories = λ p d. ap (λ ps. histories wall ps p d) same;
  same_comms = ap (λ ps. comms wall ps) same;
  same_outcomes = λ c k. ap (λ ps. outcome_at wall c k ps) same;
}

pub books_decide : laws.BooksDecide
books_decide wall run other same =
    alike wall run other
    (sym (posts_in-book wall (posts run))
    ∙ (ap posts_in same ∙ posts_in-book wall (posts other)))

-- ## an entry that counts no post

pub only_posts_move : laws.OnlyPostsMove
only_posts_move wall run e none =
    let still : contributions (e ∷ run) ≡ contributions run = ap
    (λ o. cons_option (contribution_by e.call.process o) (contributions run)) none in
    record {
      givens_are = still;
      alike = alike wall (e ∷ run) run (ap posts_of still);
      book_is = ap (λ gs. book wall (posts_of gs)) still;
    }

-- ## an entry that makes nothing

-- what is made goes by the entries that make something
made_without : (later run : List Entry) (e : Entry) → MakesNothing e.reply →
    effects (later ++ e ∷ run) ≡ effects (later ++ run)
made_without [] run e quiet = after_nothing (effects run) e.call.process e.call.act e.reply quiet
made_without (f ∷ later) run e quiet = ap (λ m. after_entry m f) (made_without later run e quiet)

pub quiet_entries_can_be_left_out : laws.QuietEntriesCanBeLeftOut
unfolding reply
quiet_entries_can_be_left_out wall [] run e quiet legal = legal.0
quiet_entries_can_be_left_out wall (f ∷ later) run e quiet legal = (
  quiet_entries_can_be_left_out wall later run e quiet legal.0,
  subst (λ (m : Effects). IsAnswer (reply_by wall m f.call.process f.call.act) f.reply)
      (made_without later run e quiet) legal.1,
)
