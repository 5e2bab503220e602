-- From the book of a hall to the run that it stands for.
use Rattle.std.proofs.Common.{◌≡◌, ◌∙◌, ℕ, List, length, Result, Ok, Err, IfOk, OnOk, subst, ap}
use Rattle.std.specs.List.{All}
use Rattle.std.specs.Global.{Vec}
use Rattle.anyhow.specs.declared.error.Error.{Error}
use Rattle.wall_policy.specs.Policy.{ChineseWall}
use Rattle.run_model.specs.declared.entry.Entry.{Entry as BookEntry}
use Rattle.run_model.specs.Books.{book, IsSound}
use Rattle.run_model.specs.Replies.{Legal}
use Rattle.run_model.specs.Runs.{Entry, posts}
use Rattle.hall_turn.specs.Known.{Known}
use Rattle.hall_turn.specs.Ending.{HasMade}
use Rattle.joint_sum.specs.Reports.{IsReport, IsReportOfRun, IsSomeReport}

-- a report of a sound book, which is that of a legal run, is a report of the run
pub report_of_run : (wall kept given : ChineseWall) (passes : List Known)
    (told said : List (Result (Vec ℕ) Error)) (entries : List BookEntry) (run : List Entry)
    (got : Result (Vec ℕ) Error)
    → kept ≡ wall → given ≡ wall → said ≡ told
    → Legal wall run → All (HasMade run) passes → entries ≡ book kept (posts run)
    → OnOk got (IsSound given entries)
    → IfOk got (λ text. IsReport given said (length entries) text.items)
    → IfOk got (λ text. IsReportOfRun wall passes told text.items)
report_of_run wall kept given passes told said entries run (Err fault) same of all legal each is
    sound tells = tt
report_of_run wall kept given passes told said entries run (Ok text) same of all legal each is
    sound tells =
    let its = is ∙ ap (λ (w : ChineseWall). book w (posts run)) same in
    let number = length (book wall (posts run)) in
    let of_book = subst (λ (es : List BookEntry). IsReport given said (length es) text.items) its
    tells in (
      run,
      legal,
      each,
      subst (λ (w : ChineseWall). IsSound w (book wall (posts run))) of
          (subst (IsSound given) its sound),
      subst (λ (ls : List (Result (Vec ℕ) Error)). IsReport wall ls number text.items) all
          (subst (λ (w : ChineseWall). IsReport w said number text.items) of of_book),
    )

pub some_report : (wall given : ChineseWall) (passes : List Known)
    (told : List (Result (Vec ℕ) Error)) (got : Result (Vec ℕ) Error) → wall ≡ given
    → IfOk got (λ text. IsReportOfRun wall passes told text.items)
    → IfOk got (λ text. IsSomeReport given text.items)
some_report wall given passes told (Err fault) same is = tt
some_report wall given passes told (Ok text) same is =
    subst (λ (w : ChineseWall). IsSomeReport w text.items) same (passes, told, is)
