use Rattle.std.proofs.Common.{rules, ◌≡◌, IfOk, IsOkAnd, false, true, Result, Ok, Err, ap, ◌∙◌, codes}
use Rattle.clap.specs.Words.{App, app_of, new_app, with_subcommand}
use Rattle.clap.specs.declared.builder.Command.{Command}
use Rattle.clap.specs.declared.builder.Command.TheViews.{out-Command as fields_of}
use Rattle.program_words.specs.Grammar.{bare_app, chained_app, book_app, serve_app, seal_app}
use Rattle.program_words.specs.Grammar.{check_app, report_app, usage_app, program_app}
use Rattle.program_words.proofs.grammar.program_command.Goals as goal

-- where the command that was made is b, the command line a has b more
joined : {E : Type 0} (program : Command) (made new : Result Command E) (a b : App) →
    app_of program ≡ a →
    IfOk made (λ c. app_of c ≡ b) → IfOk made (λ c. (fields_of c).has_globals ≡ false) →
    IfOk new (λ n. IsOkAnd made (λ c. (fields_of c).has_globals ≡ false →
    app_of n ≡ with_subcommand (app_of program) (app_of c).top)) →
    IfOk new (λ n. app_of n ≡ with_subcommand a b.top)
joined program (Ok c) (Ok n) a b old app globals added =
    added globals ∙ ap (λ x. with_subcommand x (app_of c).top) old
    ∙ ap (λ x. with_subcommand a x.top) app
joined program (Err e) (Ok n) a b old app globals added = absurd added
joined program made (Err e) a b old app globals added = tt

bare : (new named asked : Command) → app_of new ≡ new_app (codes "consortium") →
    fields_of named ≡ record (fields_of new) { no_binary_name = true } →
    fields_of asked ≡ record (fields_of named) { subcommand_required = true } →
    app_of asked ≡ bare_app
bare new named asked h names asks = search rules

pub returns : goal.returns
unfolding program_app
returns c =
    let bare = bare c.new.result c.no_binary_name.result c.subcommand_required-program.result
    c.new.ensures.app c.no_binary_name.ensures c.subcommand_required-program.ensures in
    let replay = joined c.subcommand_required-program.result c.chained_command.result
    (Ok c.in_ok-program.program)
    bare_app (chained_app (codes "replay") (codes "script")) bare c.chained_command.ensures.app
    c.chained_command.ensures.globals c.in_ok-program.ensures in
    let run = joined c.in_ok-program.program c.chained_command-2.result
    (Ok c.in_ok-program-2.program)
    _ (chained_app (codes "run") (codes "script")) replay c.chained_command-2.ensures.app
    c.chained_command-2.ensures.globals c.in_ok-program-2.ensures in
    let audit = joined c.in_ok-program-2.program c.book_command.result
    (Ok c.in_ok-program-3.program)
    _ (book_app (codes "audit")) run c.book_command.ensures.app c.book_command.ensures.globals
    c.in_ok-program-3.ensures in
    let serve = joined c.in_ok-program-3.program c.serve_command.result
    (Ok c.in_ok-program-4.program)
    _ serve_app audit c.serve_command.ensures.app c.serve_command.ensures.globals
    c.in_ok-program-4.ensures in
    let seal = joined c.in_ok-program-4.program c.seal_command.result
    (Ok c.in_ok-program-5.program)
    _ seal_app serve c.seal_command.ensures.app c.seal_command.ensures.globals
    c.in_ok-program-5.ensures in
    let check = joined c.in_ok-program-5.program c.check_command.result
    (Ok c.in_ok-program-6.program)
    _ check_app seal c.check_command.ensures.app c.check_command.ensures.globals
    c.in_ok-program-6.ensures in
    let report = joined c.in_ok-program-6.program c.report_command.result
    (Ok c.in_ok-program-7.program)
    _ report_app check c.report_command.ensures.app c.report_command.ensures.globals
    c.in_ok-program-7.ensures in
    let usage = joined c.in_ok-program-7.program c.usage_command.result
    (Ok c.in_ok-program-8.program)
    _ usage_app report c.usage_command.ensures.app c.usage_command.ensures.globals
    c.in_ok-program-8.ensures in
    joined c.in_ok-program-8.program (Ok c.version_command.result) c.with_command-9.result
    _ (new_app (codes "version")) usage c.version_command.ensures.app
    c.version_command.ensures.globals c.with_command-9.ensures
